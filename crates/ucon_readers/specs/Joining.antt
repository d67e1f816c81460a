-- A session comes into a list of sessions with a first.
use Rattle.std.specs.Prelude.{◌≡◌, ◌≢◌, ℕ}

-- session n comes into the list of which m is the first, and all others keep theirs
pub record Joins (old new : ℕ → ℕ) (n m : ℕ) : Type 0 where
  pub first : new n ≡ m
  pub others : (k : ℕ) → k ≢ n → new k ≡ old k

-- session n is its own first, and all others keep theirs
abbrev pub StandsAlone : (old new : ℕ → ℕ) → ℕ → Type 0
StandsAlone old new n = Joins old new n n
