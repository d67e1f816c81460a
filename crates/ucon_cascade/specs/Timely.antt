-- Which deadlines usages have after a trace.
use Rattle.std.specs.Prelude.{◌≡◌, ℕ, ℤ, ◌<◌, ◌≤ℤ◌, List, Option, Some, None}
use Rattle.std.specs.List.{Contains}
use Rattle.ucon_model.specs.declared.session.SessionRow.{SessionRow}
use Rattle.ucon_model.specs.Action.{Trace}
use Rattle.ucon_model.specs.Deadlines.{deadlines, limit_of}
use Rattle.ucon_model.specs.Plain.{PlainPolicy}
use Rattle.ucon_model.specs.Reach.{Timed, timed_of}
use Rattle.ucon_model.specs.Readings.{in_force, session, tick_of}
use Rattle.ucon_model.specs.Truth.{readings}
use Rattle.ucon_model.specs.Usages.{going_on}
use Rattle.ucon_readers.specs.Limits.{IsFirstLimit}
use Rattle.ucon_state.specs.Shown.{Shown}
use Rattle.ucon_state.specs.Tables.{readings_in, session_in}
use Rattle.ucon_collections.specs.Deadlines.{Gives, deadline_of}

-- session n has this deadline
abbrev pub HasDeadline : List (Option ℤ) → ℕ → ℤ → Type 0
HasDeadline ds n deadline = deadline_of ds n ≡ Some deadline

-- Session n's usage goes on, and this is a deadline of a timed part of its right.
pub record IsDeadlineOf (P : PlainPolicy) (T : Trace) (n : ℕ) (deadline : ℤ) : Type 0 where
  pub row : SessionRow
  pub part : Timed
  pub is : going_on (session T n) ≡ Some row
  pub of_right : Contains (timed_of (in_force P T) row) part
  pub among : Contains (deadlines T row part) deadline

-- session n has a deadline that isn't above this tick
pub record HasDeadlineUpTo (ds : List (Option ℤ)) (n : ℕ) (limit : ℤ) : Type 0 where
  pub deadline : ℤ
  pub there : HasDeadline ds n deadline
  pub up_to : deadline ≤ℤ limit

-- For each timed part that holds, of a usage that goes on, its session has a deadline that isn't above the last tick of the part; and each
-- deadline is one of a timed part of a usage that goes on.
pub record AreTimed (ds : List (Option ℤ)) (P : PlainPolicy) (T : Trace) : Type 0 where
  pub held : (n : ℕ) (row : SessionRow) (part : Timed) (limit : ℤ) → going_on (session T n) ≡ Some row → Contains (timed_of (in_force P T) row) part
      → limit_of (readings P T) row part ≡ Some limit → tick_of T ≤ℤ limit → HasDeadlineUpTo ds n limit
  pub theirs : (n : ℕ) (deadline : ℤ) → HasDeadline ds n deadline → IsDeadlineOf P T n deadline

-- no deadline is below the tick
abbrev pub AreAhead : List (Option ℤ) → ℤ → Type 0
AreAhead ds tick = (n : ℕ) (deadline : ℤ) → HasDeadline ds n deadline → tick ≤ℤ deadline

-- What the deadlines follow between two steps of a cascade.
pub record AreTimely (ds : List (Option ℤ)) (P : PlainPolicy) (T : Trace) : Type 0 where
  pub timed : AreTimed ds P T
  pub ahead : AreAhead ds (tick_of T)

-- so far as the sessions below a number go, and they alone have deadlines
pub record AreTimedBelow (limit : ℕ) (ds : List (Option ℤ)) (P : PlainPolicy) (T : Trace) : Type 0 where
  pub held : (n : ℕ) (row : SessionRow) (part : Timed) (last : ℤ) → n < limit → going_on (session T n) ≡ Some row
      → Contains (timed_of (in_force P T) row) part → limit_of (readings P T) row part ≡ Some last → tick_of T ≤ℤ last
      → HasDeadlineUpTo ds n last
  pub theirs : (n : ℕ) (deadline : ℤ) → HasDeadline ds n deadline → (n < limit) × IsDeadlineOf P T n deadline × (tick_of T ≤ℤ deadline)

-- ---- one session's

-- the first limit of the timed parts of session n's right; none if there is no such session
pub record IsFirstLimitOf (s : Shown) (n : ℕ) (first : Option ℤ) : Type 0 where
  pub there : (row : SessionRow) → session_in s.tables n ≡ Some row
      → IsFirstLimit (readings_in s.policy s.tables) row (timed_of s.policy row) first
  pub nowhere : session_in s.tables n ≡ None → first ≡ None

-- that is session n's deadline from here on, and all others keep theirs
pub record GivesFirst (s : Shown) (old new : List (Option ℤ)) (n : ℕ) : Type 0 where
  pub first : Option ℤ
  pub is : IsFirstLimitOf s n first
  pub gives : Gives old new n first
