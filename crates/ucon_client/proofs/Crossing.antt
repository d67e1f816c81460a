-- A client crosses threads: its lines and its store say the same to every thread, down to the formulas of a policy that a line or an entry
-- amends. The compiler makes these facts for a type that doesn't reach itself; formulas do, so it makes none for what holds a command.
use mathlib.Core.List.{[], ◌∷◌}
use mir.Syntax.{Sym, w8, w32}
use denote.Enum.Declared as enums
use denote.Plain.{UInt}
use denote.RattleType.{RattleType}
use denote.Struct.Declared as structs
use denote.Struct.Tuple.{TupleAt, type_at}
use denote.Param.Send.{AllSend, IsSend, IsSync, enum_send, recorded_send, recorded_sync, sendable, struct_send, struct_sync, view_send}
use Rattle.std.proofs.Crossing.{crosses}
use Rattle.ucon_base.proofs.int.Int.TheSendSync as int
use Rattle.ucon_base.proofs.name.Name.TheSendSync as name
use Rattle.ucon_base.proofs.rows.Rows.TheSendSync as rows
use Rattle.ucon_base.proofs.value.Side.TheSendSync as side
use Rattle.ucon_base.proofs.value.Value.TheSendSync as value
use Rattle.ucon_base.specs.contracts.name.Name as Name
use Rattle.ucon_board.proofs.writer.BoardWriter.TheSendSync as writer
use Rattle.ucon_disk.specs.declared.disk.Disk as disk
use Rattle.ucon_journal.proofs.journal.Journal.TheSendSync as journal
use Rattle.ucon_model.proofs.command.Caller.TheSendSync as caller
use Rattle.ucon_model.proofs.formula.Expr.TheLaws.TheKnot as expr
use Rattle.ucon_model.proofs.formula.Formula.TheLaws.TheKnot as formula
use Rattle.ucon_model.proofs.formula.Obligation.TheSendSync as obligation
use Rattle.ucon_model.proofs.formula.Op.TheSendSync as op
use Rattle.ucon_model.proofs.formula.Ref.TheSendSync as ref
use Rattle.ucon_model.proofs.policy.AttrDecl.TheSendSync as attr_decl
use Rattle.ucon_model.proofs.policy.EnvDecl.TheSendSync as env_decl
use Rattle.ucon_model.proofs.policy.Phase.TheSendSync as phase
use Rattle.ucon_model.proofs.policy.When.TheSendSync as when
use Rattle.ucon_model.specs.contracts.amend.Amend as Amend
use Rattle.ucon_model.specs.contracts.amend.Amend.TheInside as amend_inside
use Rattle.ucon_model.specs.contracts.checked.Checked as Checked
use Rattle.ucon_model.specs.contracts.command.Command as Command
use Rattle.ucon_model.specs.contracts.formula.Expr as Expr
use Rattle.ucon_model.specs.contracts.formula.Formula as Formula
use Rattle.ucon_model.specs.contracts.policy.AttrDecl as AttrDecl
use Rattle.ucon_model.specs.contracts.policy.EnvDecl as EnvDecl
use Rattle.ucon_model.specs.contracts.policy.Policy as Policy
use Rattle.ucon_model.specs.contracts.policy.Predicate as Predicate
use Rattle.ucon_model.specs.contracts.policy.Right as Right
use Rattle.ucon_model.specs.contracts.policy.Test as Test
use Rattle.ucon_model.specs.contracts.policy.Update as Update
use Rattle.ucon_script.specs.contracts.document.Line as Line
use Rattle.ucon_engine.specs.declared.engine.Engine as engine
use Rattle.ucon_store.proofs.beginning.Beginning.TheSendSync as beginning
use Rattle.ucon_store.proofs.entries.Entries.TheSendSync as entries
use Rattle.ucon_store.proofs.in_force.InForce.TheSendSync as in_force
use Rattle.ucon_store.specs.contracts.event.Event as Event
use Rattle.ucon_store.specs.contracts.store.Store as Store
use Rattle.ucon_store.specs.contracts.store.Store.TheInside as store_inside
use Rattle.ucon_turn.proofs.seat.SeatToken.TheSendSync as seat
use Rattle.ucon_turn.proofs.turn.Turn.TheSendSync as turn
use Rattle.ucon_turn.specs.contracts.turn.Turn as Turn
use Rattle.ucon_turn.specs.declared.value.Turned as Turned
use Rattle.ucon_client.proofs.answer.Answer.TheSendSync as answer
use Rattle.ucon_client.specs.contracts.answer.Answer as Answer
use Rattle.ucon_client.proofs.ends.Taker.TheSendSync as taker
use Rattle.ucon_client.specs.contracts.client.Client as Client
use Rattle.ucon_client.specs.contracts.live_client.LiveClient as LiveClient
use Rattle.ucon_client.specs.contracts.part.Part as Part
use Rattle.ucon_client.proofs.looks.Looks.TheSendSync as looks
use Rattle.ucon_client.specs.contracts.boarded.Boarded as Boarded
use Rattle.ucon_client.specs.contracts.boarded.Boarded.TheInside as boarded_inside
use Rattle.ucon_client.specs.contracts.boarded.BoardedTurned.TheImpl as turned
use Rattle.ucon_client.specs.contracts.boarded.SharedBase as SharedBase

expr_field_send : IsSend (Expr.the_field).row
expr_field_send = search (expr.hole_send-Expr, value.the_field_send, ref.the_field_send, crosses, sendable) depth 30 fits 4000

formula_field_send : IsSend (Formula.the_field).row
formula_field_send = search (formula.hole_send-Formula, op.the_field_send, int.the_send, expr_field_send, crosses, sendable) depth 30 fits 4000

test_field_send : IsSend (Test.the_field).row
test_field_send = enum_send (enums.shape Test.the_type) ((formula_field_send, tt), ((obligation.the_field_send, tt), ((formula_field_send, tt), tt)))

predicate_field_send : IsSend (Predicate.the_field).row
predicate_field_send = struct_send (structs.shape Predicate.the_type) (phase.the_field_send, (name.the_send, (test_field_send, tt)))

predicate_send : IsSend Predicate.the_row
predicate_send = recorded_send (Predicate.the_field).row _ _ (Predicate.the_type).to_one predicate_field_send

update_field_send : IsSend (Update.the_field).row
update_field_send = struct_send (structs.shape Update.the_type) (when.the_field_send, (side.the_field_send, (name.the_send, (expr_field_send, tt))))

update_send : IsSend Update.the_row
update_send = recorded_send (Update.the_field).row _ _ (Update.the_type).to_one update_field_send

right_field_send : IsSend (Right.the_field).row
right_field_send = struct_send (structs.shape Right.the_type) (name.the_send, (rows.the_send Predicate.the_row predicate_send, (rows.the_send Update.the_row update_send, tt)))

right_send : IsSend Right.the_row
right_send = recorded_send (Right.the_field).row _ _ (Right.the_type).to_one right_field_send

policy_field_send : IsSend (Policy.the_field).row
policy_field_send = struct_send (structs.shape Policy.the_type) (rows.the_send AttrDecl.the_row attr_decl.the_send, (rows.the_send EnvDecl.the_row env_decl.the_send, (rows.the_send Right.the_row right_send, tt)))

checked_field_send : IsSend (Checked.the_field).row
checked_field_send = struct_send (structs.shape Checked.the_type) (policy_field_send, tt)

u8_send : IsSend (UInt w8)
u8_send = search sendable

amend_inside_send : IsSend amend_inside.the_row
amend_inside_send =
    recorded_send (amend_inside.the_field).row _ _ (amend_inside.the_type).to_one
    (struct_send (structs.shape amend_inside.the_type) (rows.the_send (UInt w8) u8_send, (checked_field_send, tt)))

amend_send : IsSend Amend.the_row
amend_send = view_send amend_inside.the_row _ _ _ _ amend_inside_send

u32_send : IsSend (UInt w32)
u32_send = search sendable

command_field_send : IsSend (Command.the_field).row
command_field_send =
    let three : AllSend (Name.the_row ∷ Name.the_row ∷ Name.the_row ∷ []) = (name.the_send, (name.the_send, (name.the_send, tt))) in
    let number : AllSend (UInt w32 ∷ []) = (u32_send, tt) in
    enum_send (enums.shape Command.the_type) (
      (name.the_send, tt),
      (
        (name.the_send, tt),
        (
          (side.the_field_send, (name.the_send, (name.the_send, (value.the_field_send, tt)))),
          (
            (name.the_send, (value.the_field_send, tt)),
            (
              (int.the_send, tt),
              (three, (three, (number, (number, (number, (number, ((side.the_field_send, (name.the_send, (name.the_send, tt))), ((amend_send, tt), tt)))))))),
            ),
          ),
        ),
      ),
    )

line_send : IsSend Line.the_row
line_send =
    recorded_send (Line.the_field).row _ _ (Line.the_type).to_one
    (struct_send (structs.shape Line.the_type) (u32_send, (caller.the_field_send, (command_field_send, tt))))

part_field_send : IsSend (Part.the_field).row
part_field_send =
    struct_send (structs.shape Part.the_type) (u8_send, (rows.the_send Line.the_row line_send, (rows.the_send Answer.the_row answer.the_send, tt)))

-- so do four references that a closure captures
pub captures_sync : (name : Sym) (A B C D : RattleType) → IsSync A → IsSync B → IsSync C → IsSync D → IsSync (TupleAt name (A ∷ B ∷ C ∷ D ∷ []))
captures_sync name A B C D a b c d =
    let T = type_at name (A ∷ B ∷ C ∷ D ∷ []) in
    recorded_sync (structs.field T).row _ _ T.to_one (struct_sync (structs.shape T) (a, (b, (c, (d, tt)))))

-- and five, of which one may be written to
pub captures_send : (name : Sym) (A B C D E : RattleType) → IsSend A → IsSend B → IsSend C → IsSend D → IsSend E
    → IsSend (TupleAt name (A ∷ B ∷ C ∷ D ∷ E ∷ []))
captures_send name A B C D E a b c d e =
    let T = type_at name (A ∷ B ∷ C ∷ D ∷ E ∷ []) in
    recorded_send (structs.field T).row _ _ T.to_one (struct_send (structs.shape T) (a, (b, (c, (d, (e, tt))))))

module _ (E D : RattleType) (g : engine.Ghosts E.Denot) (d : disk.Ghosts D.Denot) (engine_send : IsSend E) (disk_send : IsSend D) where
  store_inside_send : IsSend (store_inside.the_row E D g d)
  store_inside_send =
      recorded_send (store_inside.the_field E D g d).row _ _ (store_inside.the_type E D g d).to_one (struct_send (structs.shape (store_inside.the_type E D g d)) (
        engine_send,
        (
          journal.the_field_send D disk_send,
          (
            search (crosses, sendable) depth 20,
            (
              search (beginning.the_send, crosses, sendable) depth 20,
              (
                search sendable,
                (
                  search sendable,
                  (entries.the_send, (in_force.the_field_send, (search (entries.the_send, crosses, sendable) depth 20, (search (crosses, sendable) depth 20, tt)))),
                ),
              ),
            ),
          ),
        ),
      ))

  store_send : IsSend (Store.the_row E D g d)
  store_send = view_send (store_inside.the_row E D g d) _ _ _ _ store_inside_send

  boarded_inside_send : IsSend (boarded_inside.the_row E D g d)
  boarded_inside_send =
      recorded_send (boarded_inside.the_field E D g d).row _ _ (boarded_inside.the_type E D g d).to_one
      (struct_send (structs.shape (boarded_inside.the_type E D g d)) (search (store_send, crosses, sendable) depth 20, (search (writer.the_send, crosses, sendable) depth 20, tt)))

  boarded_send : IsSend (Boarded.the_row E D g d)
  boarded_send = view_send (boarded_inside.the_row E D g d) _ _ _ _ boarded_inside_send

  client_field_send : IsSend (Client.the_field E D g d).row
  client_field_send =
      struct_send (structs.shape (Client.the_type E D g d)) (
        part_field_send,
        (seat.the_send (Boarded.the_row E D g d) Event.the_row boarded_send, (search (looks.the_send, crosses, sendable) depth 20, tt)),
      )

  pub client_send : IsSend (Client.the_row E D g d)
  client_send = recorded_send (Client.the_field E D g d).row _ _ (Client.the_type E D g d).to_one client_field_send

  pub live_client_send : IsSend (LiveClient.the_row E D g d)
  live_client_send =
      recorded_send (LiveClient.the_field E D g d).row _ _ (LiveClient.the_type E D g d).to_one
      (struct_send (structs.shape (LiveClient.the_type E D g d)) (client_field_send, (search (taker.the_send, line_send, crosses, sendable) depth 30, (search (crosses, sendable) depth 20, tt))))

  abbrev turned_ghosts : Turned.Ghosts (Boarded.the_row E D g d).Denot (SharedBase.the_row).Denot (Event.the_row).Denot
  turned_ghosts = turned.ghosts E D g turned.no_dict d turned.no_dict turned.no_dict

  -- threads may share the turn, too
  pub turn_sync : IsSync (Turn.the_row (Boarded.the_row E D g d) SharedBase.the_row Event.the_row turned_ghosts)
  turn_sync = turn.the_sync (Boarded.the_row E D g d) SharedBase.the_row Event.the_row turned_ghosts boarded_send
