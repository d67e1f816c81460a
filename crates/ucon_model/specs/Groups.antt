-- Sessions that are judged alike at all times, so that one judgement serves them all, and the cascade by the first of each list of such.
use Rattle.std.specs.Prelude.{◌≡◌, ◌≢◌, ◌⊎◌, ℕ, ◌≤◌, Bool, true, false, List, [], ◌++◌, Some}
use Rattle.std.specs.List.{list_any}
use Rattle.ucon_base.specs.declared.value.Side.{Side}
use Rattle.ucon_base.specs.declared.value.Side.TheVariants as sides
use Rattle.ucon_model.specs.declared.formula.Ref.{Ref}
use Rattle.ucon_model.specs.declared.formula.Ref.TheVariants.{Subject, Object}
use Rattle.ucon_model.specs.declared.policy.When.TheVariants.{AfterRevoke}
use Rattle.ucon_model.specs.declared.session.SessionRow.{SessionRow}
use Rattle.ucon_model.specs.Plain.{Bytes, PlainPolicy}
use Rattle.ucon_model.specs.Action.{Action, Trace, extended}
use Rattle.ucon_model.specs.Readings.{in_force, session, is_accessing}
use Rattle.ucon_model.specs.Updates.{entity_of}
use Rattle.ucon_model.specs.Settle.{fails_at, revocation, settle}
use Rattle.ucon_model.specs.Sound.{IsNumbered}
use Rattle.ucon_model.specs.Reach.{places_of, timed_of, Location, reads_at, readers, session_targets}
use Rattle.ucon_model.specs.Work.{Work}

-- ---- one judgement

-- whether a place is of a side's entity
abbrev pub is_of_side : Side → Ref → Bool
is_of_side sides.Subject (Subject attr) = true
is_of_side sides.Object (Object attr) = true
is_of_side side place = false

-- under this policy two sessions are judged alike at all times: one right, without timed parts, and one entity on each side of which it reads
pub record JudgedAlike (Q : PlainPolicy) (row other : SessionRow) : Type 0 where
  pub right : row.right ≡ other.right
  pub untimed : timed_of Q row ≡ []
  pub entities : (side : Side) → list_any (is_of_side side) (places_of Q row) ≡ true → entity_of side row ≡ entity_of side other

-- sessions m and n are there and judged alike as long as the policy in force stays
pub record AreLike (P : PlainPolicy) (T : Trace) (m n : ℕ) : Type 0 where
  pub row : SessionRow
  pub other : SessionRow
  pub is : session T m ≡ Some row
  pub other_is : session T n ≡ Some other
  pub alike : JudgedAlike (in_force P T) row other

-- ---- lists with a first

-- `first n` is the first of the list in which n is: accessing, not above n, and n itself or judged like it. A list of one is always right.
pub record IsLed (P : PlainPolicy) (T : Trace) (first : ℕ → ℕ) : Type 0 where
  pub on : (n : ℕ) → is_accessing (session T n) ≡ true → is_accessing (session T (first n)) ≡ true
  pub low : (n : ℕ) → is_accessing (session T n) ≡ true → first n ≤ n
  pub like : (n : ℕ) → is_accessing (session T n) ≡ true → (first n ≡ n) ⊎ AreLike P T (first n) n

-- The index is exact: an accessing session reads what is kept at a location exactly if the leader of its list stands there.
abbrev pub IsExact : PlainPolicy → Trace → (ℕ → ℕ) → (ℕ → Location → Bool) → Type 0
IsExact P T leader stands =
    (n : ℕ) (row : SessionRow) (location : Location) → session T n ≡ Some row → is_accessing (Some row) ≡ true
    → reads_at (in_force P T) row location ≡ stands (leader n) location

-- each its own first
abbrev pub itself : ℕ → ℕ
itself n = n

-- of each accessing session that fails, the first of its list is in the work
abbrev pub FirstsCover : PlainPolicy → Trace → (ℕ → ℕ) → Work → Type 0
FirstsCover P T first work = (n : ℕ) (label : Bytes) → fails_at P T n ≡ Some label → work (first n) ≡ true

-- What has to hold once the session of f, a first, is revoked: the lists have their firsts again, the others the same; the work keeps its
-- other members, and the new first of the list comes in, and the first of each that reads what the updates wrote.
pub record IsNextWork
    (P : PlainPolicy) (T : Trace) (f : ℕ × Bytes) (first : ℕ → ℕ) (work : Work) (new_first : ℕ → ℕ) (next : Work)
    : Type 0 where
  pub led : IsLed P (extended T (revocation P T f)) new_first
  pub same : (n : ℕ) → is_accessing (session (extended T (revocation P T f)) n) ≡ true → first n ≢ f.0 → new_first n ≡ first n
  pub kept : (m : ℕ) → m ≢ f.0 → work m ≡ true → next m ≡ true
  pub listed : (n : ℕ) → is_accessing (session (extended T (revocation P T f)) n) ≡ true → first n ≡ f.0 → next (new_first n) ≡ true
  pub readers : (n : ℕ) → is_accessing (session (extended T (revocation P T f)) n) ≡ true
      → readers P T (session_targets P T f.0 AfterRevoke) n ≡ true → next (new_first n) ≡ true

-- ---- the loop

-- the settling after T is under way: these actions of it are made, they led to U, and what is left is the settling after U
pub record IsUnderway (P : PlainPolicy) (T : Trace) (made : List Action) (U : Trace) (first : ℕ → ℕ) (work : Work) : Type 0 where
  pub led_to : extended T made ≡ U
  pub left : settle P T ≡ made ++ settle P U
  pub numbered : IsNumbered U
  pub led : IsLed P U first
  pub covers : FirstsCover P U first work
