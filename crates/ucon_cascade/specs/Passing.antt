-- A tick passes deadlines.
use Rattle.std.specs.Prelude.{◌≡◌, ◌⊎◌, ℕ, ℤ, ◌≤◌, ◌≤ℤ◌, Bool, true, false, List, ◌∷◌, Option}
use Rattle.std.specs.List.{Contains}
use Rattle.ucon_model.specs.declared.command.Caller.{Caller}
use Rattle.ucon_model.specs.declared.command.Command.{Command}
use Rattle.ucon_model.specs.declared.command.Command.TheVariants.{Tick}
use Rattle.ucon_model.specs.declared.reply.Head.{Head}
use Rattle.ucon_model.specs.OwnActions.{make, own}
use Rattle.ucon_model.specs.Action.{Action, Trace, extended, tick}
use Rattle.ucon_model.specs.Deadlines.{is_due, is_between}
use Rattle.ucon_model.specs.Plain.{PlainPolicy}
use Rattle.ucon_model.specs.Readings.{is_accessing, session, tick_of}
use Rattle.ucon_model.specs.Sound.{IsSound}
use Rattle.ucon_model.specs.Touches.{touches}
use Rattle.ucon_model.specs.Work.{NobodyFails}
use Rattle.ucon_state.specs.Following.{Follows}
use Rattle.ucon_state.specs.Shown.{Shown}
use Rattle.ucon_cascade.specs.Timely.{AreAhead, AreTimed, AreTimely, HasDeadline}

-- session n has a deadline that the tick passes on its way
pub record HasPassed (ds : List (Option ℤ)) (now next : ℤ) (n : ℕ) : Type 0 where
  pub deadline : ℤ
  pub there : HasDeadline ds n deadline
  pub passed : is_between now next deadline ≡ true

-- The tick was made after the trace, not below the one before, and passes deadlines: all is timed after it, and none is below the tick
-- before. Of whom it passed a limit is in the work, or has a deadline that is still to be passed; and whoever is in the work was touched.
pub record IsPassing (ds : List (Option ℤ)) (members : List ℕ) (P : PlainPolicy) (T : Trace) (t : ℤ) : Type 0 where
  pub forward : tick_of T ≤ℤ t
  pub timed : AreTimed ds P (tick t ∷ T)
  pub ahead : AreAhead ds (tick_of T)
  pub due : (n : ℕ) → is_accessing (session T n) ≡ true → is_due P T t n ≡ true → Contains members n ⊎ HasPassed ds (tick_of T) t n
  pub touched : (n : ℕ) → Contains members n → 1 ≤ touches P T (tick t) n

-- the state follows a trace that ends with a tick that passes deadlines
pub record MayPass (s : Shown) (ds : List (Option ℤ)) (members : List ℕ) : Type 0 where
  pub policy : PlainPolicy
  pub trace : Trace
  pub next : ℤ
  pub follows : Follows s policy (tick next ∷ trace)
  pub passing : IsPassing ds members policy trace next

-- what passes deadlines has passed all: none is below the tick any more
abbrev pub PassesAll : Shown → (old new : List (Option ℤ)) → (work next : List ℕ) → Type 0
PassesAll s old new work next =
    (P : PlainPolicy) (T : Trace) (t : ℤ) → Follows s P (tick t ∷ T) → IsPassing old work P T t → IsPassing new next P T t × AreAhead new t

-- whether a command moves the tick
abbrev pub is_tick : Command → Bool
is_tick (Tick t) = true
is_tick c = false

-- A command's own actions were made after a sound trace, where nobody failed and the deadlines were timely. The head tells them, and the state
-- follows them.
pub record WereMade (now : Shown) (ds : List (Option ℤ)) (P : PlainPolicy) (T : Trace) (caller : Caller) (c : Command) (head : Head)
    (actions : List Action) : Type 0 where
  pub sound : IsSound P T
  pub nobody : NobodyFails P T
  pub made : own P T caller c ≡ make head actions
  pub follows : Follows now P (extended T actions)
  pub timely : AreTimely ds P T

-- some were made so
pub record AreTimedBefore (now : Shown) (ds : List (Option ℤ)) (c : Command) (head : Head) : Type 0 where
  pub policy : PlainPolicy
  pub trace : Trace
  pub caller : Caller
  pub actions : List Action
  pub were : WereMade now ds policy trace caller c head actions
