-- What a cascade may cost: each judgement is paid for by a touch.
use Rattle.std.specs.Prelude.{ℕ, ◌+◌, ◌≤◌, List, ◌∷◌, ◌++◌}
use Rattle.ucon_model.specs.declared.command.Caller.{Caller}
use Rattle.ucon_model.specs.declared.command.Command.{Command}
use Rattle.ucon_model.specs.Block.{after, block}
use Rattle.ucon_model.specs.Plain.{Bytes, PlainPolicy}
use Rattle.ucon_model.specs.Action.{Action, Trace, extended}
use Rattle.ucon_model.specs.Readings.{sessions}
use Rattle.ucon_model.specs.Settle.{revocation, settle}
use Rattle.ucon_model.specs.Touches.{IsPaid, sum_to, touches_by}
use Rattle.ucon_state.specs.Following.{Follows}
use Rattle.ucon_state.specs.Shown.{Shown}
use Rattle.ucon_cascade.specs.Cascading.{work_of}
use Rattle.ucon_cascade.specs.Putting.{GoesOn}

-- how often the actions of a command's block touch sessions
abbrev pub touched : PlainPolicy → Trace → Caller → Command → ℕ
touched P T caller c = sum_to (touches_by P T (block P T caller c)) (sessions (after P T caller c))

-- So many judgements are paid for. They are at most the touches of the actions so far, with one more for some sessions: those whose usage goes on
-- and whose list's first is in the work. So a list in the work owes its length.
abbrev pub ArePaid : PlainPolicy → Trace → List Action → (ℕ → ℕ) → List ℕ → ℕ → ℕ → Type 0
ArePaid P T actions first members judged k = IsPaid P T actions first (work_of members) judged k

-- each usage that goes on is of one of the sessions 1 to k
abbrev pub GoOnUpTo : Shown → ℕ → Type 0
GoOnUpTo s k = (n : ℕ) → GoesOn s n → n ≤ k

-- Judgements that are paid for stay so, with those by which a counter rose while the work became less.
abbrev pub StayPaid : Shown → (ℕ → ℕ) → (old new : List ℕ) → (before after : ℕ) → Type 0
StayPaid s first old new before after =
    (P : PlainPolicy) (T : Trace) (actions : List Action) (k judged : ℕ) → Follows s P (extended T actions) → GoOnUpTo s k
    → ArePaid P T actions first old judged k → (more : ℕ) × (after ≤ before + more) × ArePaid P T actions first new (judged + more) k

-- Judgements stay paid for, with the one by which a session was found to fail. That session is then revoked and has left its list, and the firsts
-- of those whom that concerns are in the work.
abbrev pub StayPaidRevoking : Shown → ℕ × Bytes → (first : ℕ → ℕ) (old : List ℕ) (new_first : ℕ → ℕ) (new : List ℕ) → Type 0
StayPaidRevoking s f first old new_first new =
    (P : PlainPolicy) (T : Trace) (actions : List Action) (k judged : ℕ) → Follows s P (extended T actions) → GoOnUpTo s k
    → ArePaid P T actions first (f.0 ∷ old) judged k → ArePaid P T (actions ++ revocation P (extended T actions) f) new_first new (judged + 1) k

-- Working off the work after a draft's own actions costs at most its touches. If that work is paid for, the counter rises by at most the touches
-- of those actions and of the settling.
abbrev pub CostsItsTouches : Shown → (ℕ → ℕ) → List ℕ → (before after : ℕ) → Type 0
CostsItsTouches s first work before after =
    (P : PlainPolicy) (T : Trace) (actions : List Action) (k : ℕ) → Follows s P (extended T actions) → GoOnUpTo s k
    → ArePaid P T actions first work 0 k → after ≤ before + sum_to (touches_by P T (actions ++ settle P (extended T actions))) k
