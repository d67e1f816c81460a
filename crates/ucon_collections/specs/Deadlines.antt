-- At most one deadline a session, now and at the last keep.
use Rattle.std.specs.Prelude.{◌≡◌, ◌<ℤ◌, ℕ, ℤ, Bool, false, int_lt, nat_eq, List, filter, length, slice_get, Option, None, Some, if◌then◌else◌}

-- the deadline of each session, at the place that is its number, in ticks, now and where undoing leads to
pub record Deadlines : Type 0 where
  pub now : List (Option ℤ)
  pub opening : List (Option ℤ)

abbrev pub or_none : Option (Option ℤ) → Option ℤ
or_none None = None
or_none (Some deadline) = deadline

-- the deadline of a session; none behind the last
abbrev pub deadline_of : List (Option ℤ) → ℕ → Option ℤ
deadline_of ds n = or_none (slice_get ds n)

-- each session has the same deadline, if it has one
abbrev pub AreAlike : (ds es : List (Option ℤ)) → Type 0
AreAlike ds es = (n : ℕ) → deadline_of es n ≡ deadline_of ds n

-- session n gets this deadline, or none, and all others keep theirs
abbrev pub Gives : (old new : List (Option ℤ)) → ℕ → Option ℤ → Type 0
Gives old new n deadline = (m : ℕ) → deadline_of new m ≡ (if nat_eq m n then deadline else deadline_of old m)

-- whether it is a deadline below the tick
abbrev pub is_passed : ℤ → Option ℤ → Bool
is_passed tick None = false
is_passed tick (Some deadline) = int_lt deadline tick

-- 1 for a deadline below the tick
abbrev pub passed : ℤ → Option ℤ → ℕ
passed tick deadline = if is_passed tick deadline then 1 else 0

-- how many sessions have a deadline below the tick
abbrev pub count_below : List (Option ℤ) → ℤ → ℕ
count_below ds tick = length (filter (is_passed tick) ds)

-- it is a deadline below the tick
pub record IsPassed (tick : ℤ) (own : Option ℤ) : Type 0 where
  pub deadline : ℤ
  pub is : own ≡ Some deadline
  pub below : deadline <ℤ tick
