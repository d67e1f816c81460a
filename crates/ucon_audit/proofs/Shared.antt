-- A state may be read by several threads, as each of its parts may, down to the formulas of its policy. The compiler makes these facts for a
-- type that doesn't reach itself; formulas do, so it makes none for a policy, nor for what holds one.
use denote.Enum.Declared as enums
use denote.Struct.Declared as structs
use denote.Param.Send.{IsSync, enum_sync, recorded_sync, sendable, struct_sync}
use Rattle.std.proofs.Crossing.{Box-sync, crosses}
use Rattle.ucon_base.proofs.int.Int.TheSendSync as int
use Rattle.ucon_base.proofs.value.Value.TheSendSync as value
use Rattle.ucon_model.proofs.formula.Op.TheSendSync as op
use Rattle.ucon_model.proofs.formula.Ref.TheSendSync as ref
use Rattle.ucon_model.specs.contracts.formula.Expr as Expr
use Rattle.ucon_model.specs.contracts.formula.Formula as Formula
use Rattle.std.proofs.alloc.Global.TheSendSync as global
use Rattle.std.proofs.vec.Vec.TheSendSync as vec
use Rattle.std.specs.contracts.alloc.Global as Global
use Rattle.std.specs.contracts.impls.GlobalAllocator.TheImpl.{ghosts}
use Rattle.ucon_base.proofs.name.Name.TheSendSync as name
use Rattle.ucon_base.proofs.rows.Rows.TheSendSync as rows
use Rattle.ucon_base.proofs.value.Side.TheSendSync as side
use Rattle.ucon_base.specs.contracts.name.Name as Name
use Rattle.ucon_model.proofs.formula.Expr.TheLaws.TheKnot as expr
use Rattle.ucon_model.proofs.formula.Formula.TheLaws.TheKnot as formula
use Rattle.ucon_model.proofs.formula.Obligation.TheSendSync as obligation
use Rattle.ucon_model.proofs.policy.AttrDecl.TheSendSync as attr_decl
use Rattle.ucon_model.proofs.policy.EnvDecl.TheSendSync as env_decl
use Rattle.ucon_model.proofs.policy.Phase.TheSendSync as phase
use Rattle.ucon_model.proofs.policy.When.TheSendSync as when
use Rattle.ucon_model.specs.contracts.checked.Checked as Checked
use Rattle.ucon_model.specs.contracts.policy.AttrDecl as AttrDecl
use Rattle.ucon_model.specs.contracts.policy.EnvDecl as EnvDecl
use Rattle.ucon_model.specs.contracts.policy.Policy as Policy
use Rattle.ucon_model.specs.contracts.policy.Predicate as Predicate
use Rattle.ucon_model.specs.contracts.policy.Right as Right
use Rattle.ucon_model.specs.contracts.policy.Test as Test
use Rattle.ucon_model.specs.contracts.policy.Update as Update
use Rattle.ucon_state.proofs.change.Change.TheSendSync as change
use Rattle.ucon_state.proofs.layout.Layout.TheSendSync as layout
use Rattle.ucon_state.proofs.planned.Plans.TheSendSync as plans
use Rattle.ucon_state.proofs.tables.Tables.TheSendSync as tables
use Rattle.ucon_state.specs.contracts.change.Before as Before
use Rattle.ucon_state.specs.contracts.change.Undo as Undo
use Rattle.ucon_state.specs.contracts.planned.Planned as Planned
use Rattle.ucon_state.specs.contracts.state.State as State

expr_field_sync : IsSync (Expr.the_field).row
expr_field_sync = search (expr.hole_sync-Expr, value.the_field_sync, ref.the_field_sync, crosses, sendable) depth 30 fits 4000

formula_field_sync : IsSync (Formula.the_field).row
formula_field_sync = search (formula.hole_sync-Formula, op.the_field_sync, int.the_sync, expr_field_sync, crosses, sendable) depth 30 fits 4000

test_field_sync : IsSync (Test.the_field).row
test_field_sync = enum_sync (enums.shape Test.the_type) ((formula_field_sync, tt), ((obligation.the_field_sync, tt), ((formula_field_sync, tt), tt)))

predicate_field_sync : IsSync (Predicate.the_field).row
predicate_field_sync = struct_sync (structs.shape Predicate.the_type) (phase.the_field_sync, (name.the_sync, (test_field_sync, tt)))

predicate_sync : IsSync Predicate.the_row
predicate_sync = recorded_sync (Predicate.the_field).row _ _ (Predicate.the_type).to_one predicate_field_sync

update_field_sync : IsSync (Update.the_field).row
update_field_sync = struct_sync (structs.shape Update.the_type) (when.the_field_sync, (side.the_field_sync, (name.the_sync, (expr_field_sync, tt))))

update_sync : IsSync Update.the_row
update_sync = recorded_sync (Update.the_field).row _ _ (Update.the_type).to_one update_field_sync

right_field_sync : IsSync (Right.the_field).row
right_field_sync = struct_sync (structs.shape Right.the_type) (name.the_sync, (rows.the_sync Predicate.the_row predicate_sync, (rows.the_sync Update.the_row update_sync, tt)))

right_sync : IsSync Right.the_row
right_sync = recorded_sync (Right.the_field).row _ _ (Right.the_type).to_one right_field_sync

policy_field_sync : IsSync (Policy.the_field).row
policy_field_sync = struct_sync (structs.shape Policy.the_type) (rows.the_sync AttrDecl.the_row attr_decl.the_sync, (rows.the_sync EnvDecl.the_row env_decl.the_sync, (rows.the_sync Right.the_row right_sync, tt)))

checked_field_sync : IsSync (Checked.the_field).row
checked_field_sync = struct_sync (structs.shape Checked.the_type) (policy_field_sync, tt)

planned_field_sync : IsSync (Planned.the_field).row
planned_field_sync = struct_sync (structs.shape Planned.the_type) (checked_field_sync, (plans.the_field_sync, tt))

before_field_sync : IsSync (Before.the_field).row
before_field_sync = struct_sync (structs.shape Before.the_type) (planned_field_sync, (layout.the_field_sync, tt))

before_sync : IsSync Before.the_row
before_sync = recorded_sync (Before.the_field).row _ _ (Before.the_type).to_one before_field_sync

undo_field_sync : IsSync (Undo.the_field).row
undo_field_sync = enum_sync (enums.shape Undo.the_type) ((change.the_field_sync, tt), ((Box-sync Before.the_row before_sync, tt), tt))

undo_sync : IsSync Undo.the_row
undo_sync = recorded_sync (Undo.the_field).row _ _ (Undo.the_type).to_one undo_field_sync

state_field_sync : IsSync (State.the_field).row
state_field_sync = struct_sync (structs.shape State.the_type) (global.the_field_sync, (planned_field_sync, (tables.the_field_sync, (vec.the_sync Name.the_row Global.the_row ghosts name.the_sync global.the_sync, (search (crosses, sendable) depth 30 fits 4000, (vec.the_sync Undo.the_row Global.the_row ghosts undo_sync global.the_sync, tt))))))

pub state_sync : IsSync State.the_row
state_sync = recorded_sync (State.the_field).row _ _ (State.the_type).to_one state_field_sync
