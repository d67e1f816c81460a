-- What an engine follows, what is pending in it, and what taking up a state promises.
use Rattle.std.specs.Prelude.{◌≡◌, ℕ, Option, Some, option_map, Result, Ok, Err}
use Rattle.ucon_model.specs.declared.command.Entry.{Entry}
use Rattle.ucon_model.specs.declared.session.SessionState.{SessionState}
use Rattle.ucon_model.specs.Plain.{PlainPolicy}
use Rattle.ucon_model.specs.Action.{Trace}
use Rattle.ucon_model.specs.Readings.{session}
use Rattle.ucon_model.specs.History.{History, trace}
use Rattle.ucon_model.specs.Settle.{least_failing}
use Rattle.ucon_model.specs.Work.{NobodyFails}
use Rattle.ucon_engine.specs.declared.restore_fault.RestoreFault.{RestoreFault}
use Rattle.ucon_engine.specs.declared.restore_fault.RestoreFault.TheVariants.{Unsettled, NoMemory}
use Rattle.ucon_state.specs.Following.{AfterEach}
use Rattle.ucon_state.specs.Shown.{Shown}

-- the engine follows some trace under some policy: nothing is pending
pub record IsIdle {E : Type 0} (follows : E → PlainPolicy → Trace → Type 0) (engine : E) : Type 0 where
  pub policy : PlainPolicy
  pub trace : Trace
  pub holds : follows engine policy trace

-- an entry after some trace is pending
pub record IsPending {E : Type 0} (has_pending : E → PlainPolicy → Trace → Entry → Type 0) (engine : E) : Type 0 where
  pub policy : PlainPolicy
  pub trace : Trace
  pub entry : Entry
  pub pends : has_pending engine policy trace entry

-- one engine follows all that the other follows
abbrev pub FollowsLike : {E : Type 0} → (E → PlainPolicy → Trace → Type 0) → E → E → Type 0
FollowsLike follows old new = (P : PlainPolicy) (T : Trace) → follows old P T → follows new P T

-- an engine stands for a history: it follows the history's trace
abbrev pub StandsFor : {E : Type 0} → (E → PlainPolicy → Trace → Type 0) → E → PlainPolicy → History → Type 0
StandsFor follows engine P H = follows engine P (trace P H)

-- the state of session n after a trace; none if there is no such session
abbrev pub state_of : Trace → ℕ → Option SessionState
state_of T n = option_map (λ row. row.state) (session T n)

-- ---- taking up a state

-- Why a state isn't taken up: after each trace that it follows this is the least accessing session that fails, with its label; or memory is
-- wanting. There nobody fails, so that the first is told exactly if somebody does.
abbrev pub IsCause : Shown → RestoreFault → Type 0
IsCause s (Unsettled n label) = AfterEach s (λ P T. least_failing P T ≡ Some (n, label))
IsCause s (NoMemory e) = AfterEach s NobodyFails

-- What taking up a state answers: an engine that follows each trace that the state follows, if nobody fails after any; or a fault, with
-- its cause.
abbrev pub TakesUp : {E : Type 0} → (E → PlainPolicy → Trace → Type 0) → Shown → Result E RestoreFault → Type 0
TakesUp follows s (Ok engine) = AfterEach s (λ P T. follows engine P T × NobodyFails P T)
TakesUp follows s (Err fault) = IsCause s fault
