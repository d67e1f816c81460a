-- The indexed monitor crosses threads: each part of it, down to the formulas of its policy, says the same to every thread. The compiler makes
-- these facts for a type that doesn't reach itself; formulas do, so it makes none for a policy, nor for what holds one.
use denote.Enum.Declared as enums
use denote.Struct.Declared as structs
use denote.Param.Send.{IsSend, enum_send, recorded_send, sendable, struct_send}
use Rattle.std.proofs.Crossing.{Box-send, crosses}
use Rattle.ucon_base.proofs.int.Int.TheSendSync as int
use Rattle.ucon_base.proofs.value.Value.TheSendSync as value
use Rattle.ucon_model.proofs.formula.Op.TheSendSync as op
use Rattle.ucon_model.proofs.formula.Ref.TheSendSync as ref
use Rattle.ucon_model.specs.contracts.formula.Expr as Expr
use Rattle.ucon_model.specs.contracts.formula.Formula as Formula
use Rattle.std.below.std_heap.proofs.GlobalAllocator.TheSendSync.{the_frees}
use Rattle.std.proofs.alloc.Global.TheSendSync as global
use Rattle.std.proofs.vec.Vec.TheSendSync as vec
use Rattle.std.specs.contracts.alloc.Global as Global
use Rattle.std.specs.contracts.impls.GlobalAllocator.TheImpl.{ghosts}
use Rattle.ucon_base.proofs.name.Name.TheSendSync as name
use Rattle.ucon_base.proofs.rows.Rows.TheSendSync as rows
use Rattle.ucon_base.proofs.value.Side.TheSendSync as side
use Rattle.ucon_base.specs.contracts.name.Name as Name
use Rattle.ucon_readers.proofs.readers.Readers.TheSendSync as readers
use Rattle.ucon_readers.proofs.timers.Timers.TheSendSync as timers
use Rattle.ucon_cascade.specs.contracts.monitor.Monitor as Monitor
use Rattle.ucon_model.proofs.formula.Expr.TheLaws.TheKnot as expr
use Rattle.ucon_model.proofs.formula.Formula.TheLaws.TheKnot as formula
use Rattle.ucon_model.proofs.formula.Obligation.TheSendSync as obligation
use Rattle.ucon_model.proofs.policy.AttrDecl.TheSendSync as attr_decl
use Rattle.ucon_model.proofs.policy.EnvDecl.TheSendSync as env_decl
use Rattle.ucon_model.proofs.policy.Phase.TheSendSync as phase
use Rattle.ucon_model.proofs.policy.When.TheSendSync as when
use Rattle.ucon_model.specs.contracts.checked.Checked as Checked
use Rattle.ucon_model.specs.contracts.policy.AttrDecl as AttrDecl
use Rattle.ucon_model.specs.contracts.policy.EnvDecl as EnvDecl
use Rattle.ucon_model.specs.contracts.policy.Policy as Policy
use Rattle.ucon_model.specs.contracts.policy.Predicate as Predicate
use Rattle.ucon_model.specs.contracts.policy.Right as Right
use Rattle.ucon_model.specs.contracts.policy.Test as Test
use Rattle.ucon_model.specs.contracts.policy.Update as Update
use Rattle.ucon_state.proofs.change.Change.TheSendSync as change
use Rattle.ucon_state.proofs.layout.Layout.TheSendSync as layout
use Rattle.ucon_state.proofs.planned.Plans.TheSendSync as plans
use Rattle.ucon_state.proofs.tables.Tables.TheSendSync as tables
use Rattle.ucon_state.specs.contracts.change.Before as Before
use Rattle.ucon_state.specs.contracts.change.Undo as Undo
use Rattle.ucon_state.specs.contracts.planned.Planned as Planned
use Rattle.ucon_state.specs.contracts.state.State as State

expr_field_send : IsSend (Expr.the_field).row
expr_field_send = search (expr.hole_send-Expr, value.the_field_send, ref.the_field_send, crosses, sendable) depth 30 fits 4000

formula_field_send : IsSend (Formula.the_field).row
formula_field_send = search (formula.hole_send-Formula, op.the_field_send, int.the_send, expr_field_send, crosses, sendable) depth 30 fits 4000

test_field_send : IsSend (Test.the_field).row
test_field_send = enum_send (enums.shape Test.the_type) ((formula_field_send, tt), ((obligation.the_field_send, tt), ((formula_field_send, tt), tt)))

predicate_field_send : IsSend (Predicate.the_field).row
predicate_field_send = struct_send (structs.shape Predicate.the_type) (phase.the_field_send, (name.the_send, (test_field_send, tt)))

predicate_send : IsSend Predicate.the_row
predicate_send = recorded_send (Predicate.the_field).row _ _ (Predicate.the_type).to_one predicate_field_send

update_field_send : IsSend (Update.the_field).row
update_field_send = struct_send (structs.shape Update.the_type) (when.the_field_send, (side.the_field_send, (name.the_send, (expr_field_send, tt))))

update_send : IsSend Update.the_row
update_send = recorded_send (Update.the_field).row _ _ (Update.the_type).to_one update_field_send

right_field_send : IsSend (Right.the_field).row
right_field_send = struct_send (structs.shape Right.the_type) (name.the_send, (rows.the_send Predicate.the_row predicate_send, (rows.the_send Update.the_row update_send, tt)))

right_send : IsSend Right.the_row
right_send = recorded_send (Right.the_field).row _ _ (Right.the_type).to_one right_field_send

policy_field_send : IsSend (Policy.the_field).row
policy_field_send = struct_send (structs.shape Policy.the_type) (rows.the_send AttrDecl.the_row attr_decl.the_send, (rows.the_send EnvDecl.the_row env_decl.the_send, (rows.the_send Right.the_row right_send, tt)))

checked_field_send : IsSend (Checked.the_field).row
checked_field_send = struct_send (structs.shape Checked.the_type) (policy_field_send, tt)

planned_field_send : IsSend (Planned.the_field).row
planned_field_send = struct_send (structs.shape Planned.the_type) (checked_field_send, (plans.the_field_send, tt))

before_field_send : IsSend (Before.the_field).row
before_field_send = struct_send (structs.shape Before.the_type) (planned_field_send, (layout.the_field_send, tt))

before_send : IsSend Before.the_row
before_send = recorded_send (Before.the_field).row _ _ (Before.the_type).to_one before_field_send

undo_field_send : IsSend (Undo.the_field).row
undo_field_send = enum_send (enums.shape Undo.the_type) ((change.the_field_send, tt), ((Box-send Before.the_row before_send, tt), tt))

undo_send : IsSend Undo.the_row
undo_send = recorded_send (Undo.the_field).row _ _ (Undo.the_type).to_one undo_field_send

state_field_send : IsSend (State.the_field).row
state_field_send = struct_send (structs.shape State.the_type) (global.the_field_send, (planned_field_send, (tables.the_field_send, (vec.the_send Name.the_row Global.the_row ghosts name.the_send global.the_send the_frees, (search (crosses, sendable) depth 30 fits 4000, (vec.the_send Undo.the_row Global.the_row ghosts undo_send global.the_send the_frees, tt))))))

monitor_field_send : IsSend (Monitor.the_field).row
monitor_field_send = struct_send (structs.shape Monitor.the_type) (global.the_field_send, (state_field_send, (readers.the_field_send, (timers.the_field_send, (search (crosses, sendable) depth 30 fits 4000, tt)))))

pub monitor_send : IsSend Monitor.the_row
monitor_send = recorded_send (Monitor.the_field).row _ _ (Monitor.the_type).to_one monitor_field_send
