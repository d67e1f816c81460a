-- Own actions, and then the settling after them.
use Rattle.std.proofs.Common.{◌≡◌, ◌∙◌, sym, ap, refl, ℕ, false, List, [], ◌++◌}
use Rattle.std.specs.Prelude.{Option, option_map}
use Rattle.ucon_model.specs.declared.command.Caller.{Caller}
use Rattle.ucon_model.specs.declared.command.Command.{Command}
use Rattle.ucon_model.specs.declared.reply.Head.{Head}
use Rattle.ucon_model.specs.declared.reply.Revoked.{Revoked}
use Rattle.ucon_model.specs.declared.session.SessionRow.{SessionRow}
use Rattle.ucon_model.specs.Plain.{PlainPolicy, made}
use Rattle.ucon_model.specs.Action.{Action, Trace, extended}
use Rattle.ucon_model.specs.OwnActions.{Own, refuse, tell, make, own}
use Rattle.ucon_model.specs.Settle.{settle, revoked_in}
use Rattle.ucon_model.specs.Block.{own_block, own_reply, after, reply}
use Rattle.ucon_model.specs.History.{changes}
use Rattle.ucon_engine.specs.Engine.{state_of}
use Rattle.ucon_state.specs.Following.{Follows}
use Rattle.ucon_state.specs.Shown.{Shown}
use Rattle.ucon_state.specs.Tables.{session_in}
use Rattle.ucon_actions.specs.Gives.{Makes}

-- the actions that were made
pub made_actions : (head : Head) (s : Shown) (P : PlainPolicy) (T : Trace) (d : Own) → Makes head s P T d
    → (actions : List Action) × (d ≡ make head actions) × Follows s P (extended T actions)
made_actions head s P T (make h actions) m = (actions, ap (λ (h : Head). make h actions) m.0, m.1)
made_actions head s P T (refuse r) m = absurd m
made_actions head s P T (tell r) m = absurd m

pub made_reply : (P : PlainPolicy) (T : Trace) (caller : Caller) (c : Command) (head : Head) (actions : List Action) (revoked : List Revoked) → own P T caller c ≡ make head actions
    → revoked ≡ revoked_in (settle P (extended T actions)) → made head revoked ≡ reply P T caller c
made_reply P T caller c head actions revoked is told = ap (λ (rs : List Revoked). made head rs) told ∙ sym (ap (own_reply P T) is)

-- actions are done in their order
abbrev DoneInOrder : Type 0
DoneInOrder = (T : Trace) (first later : List Action) → extended T (first ++ later) ≡ extended (extended T first) later

pub made_after : DoneInOrder → (P : PlainPolicy) (T : Trace) (caller : Caller) (c : Command) (head : Head) (actions : List Action)
    → own P T caller c ≡ make head actions → extended (extended T actions) (settle P (extended T actions)) ≡ after P T caller c
made_after in_order P T caller c head actions is =
    sym (in_order T actions (settle P (extended T actions))) ∙ sym (ap (λ (o : Own). extended T (own_block P T o)) is)

-- where the reply changes nothing, the trace stays
no_action : (P : PlainPolicy) (T : Trace) (o : Own) → changes (own_reply P T o) ≡ false → own_block P T o ≡ []
no_action P T (refuse r) none = refl
no_action P T (tell reply) none = refl
no_action P T (make head actions) none = absurd cc

pub trace_stays : (P : PlainPolicy) (T : Trace) (caller : Caller) (c : Command) → changes (reply P T caller c) ≡ false → after P T caller c ≡ T
trace_stays P T caller c none = ap (extended T) (no_action P T (own P T caller c) none)

-- ---- the state of a session

pub status_is : (s : Shown) (P : PlainPolicy) (T : Trace) → Follows s P T → (n : ℕ) (o : Option SessionRow) → session_in s.tables n ≡ o
    → option_map (λ (row : SessionRow). row.state) o ≡ state_of T n
status_is s P T h n o is = ap (option_map (λ (row : SessionRow). row.state)) (sym is ∙ h.tables.sessions.rows n)
