-- The state of a session after a trace, what replies tell of it, and what a board shows of the entries behind a trace.
use Rattle.std.specs.Prelude.{◌≡◌, ℕ, ◌≤◌, Bool, true, false, List, [], ◌∷◌, length, take, Option, Some, None, option_map}
use Rattle.ucon_model.specs.declared.reply.Refusal.TheVariants.{NoSession}
use Rattle.ucon_model.specs.declared.session.SessionState.{SessionState}
use Rattle.ucon_model.specs.Action.{Trace}
use Rattle.ucon_model.specs.Block.{after, reply}
use Rattle.ucon_model.specs.History.{History, trace_from}
use Rattle.ucon_model.specs.Plain.{PlainPolicy, PlainReply, refused, status}
use Rattle.ucon_model.specs.Readings.{session}
use Rattle.ucon_board.specs.Board.{Board, opening_state, posted, state_in}

-- the state of session n after a trace; none where there is no such session
abbrev pub state_after : Trace → ℕ → Option SessionState
state_after T n = option_map (λ row. row.state) (session T n)

-- the replies to entries behind a trace, each after those before it
abbrev pub replies_behind : PlainPolicy → Trace → History → List PlainReply
replies_behind P T [] = []
replies_behind P T (e ∷ H) = reply P T e.caller e.command ∷ replies_behind P (after P T e.caller e.command) H

-- what a look at session n is answered, by its state
abbrev pub look_reply : ℕ → Option SessionState → PlainReply
look_reply n None = refused NoSession
look_reply n (Some state) = status n state

-- the board was opened with the states after the trace, and shows the first of these entries behind it; where it isn't behind, all
pub record ShowsFirst (P : PlainPolicy) (T : Trace) (H : History) (b : Board) (behind : Bool) : Type 0 where
  pub states : (n : ℕ) → opening_state b.sessions n ≡ state_after T n
  pub within : length b.replies ≤ length H
  pub replies : b.replies ≡ replies_behind P T (take (length b.replies) H)
  pub in_step : behind ≡ false → length b.replies ≡ length H

-- each state that it shows is the one after as many of these entries as it has replies
pub record IsTrueOf (P : PlainPolicy) (T : Trace) (H : History) (b : Board) : Type 0 where
  pub within : length b.replies ≤ length H
  pub states : (n : ℕ) → state_in b n ≡ state_after (trace_from P T (take (length b.replies) H)) n

-- the reply was published, or nothing was
abbrev pub IsPosted : Bool → PlainReply → (old new : Board) → Type 0
IsPosted true r old new = new ≡ posted old r
IsPosted false r old new = new ≡ old
