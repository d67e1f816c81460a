-- What a clause sees of a set of numbers below a limit.
use Rattle.std.specs.Prelude.{ℕ, ◌<◌, List, [], ◌∷◌, nat_lt, ◌==◌, All, if◌then◌else◌}
use Rattle.std.specs.List.Sorted.{IsStrictlyIncreasing}

-- the members in order, each below the limit
pub record NumberSet : Type 0 where
  pub limit : ℕ
  pub members : List ℕ

-- the members rise strictly and stay below the limit
pub record IsRising (s : NumberSet) : Type 0 where
  pub rising : IsStrictlyIncreasing s.members
  pub below : All (λ n. n < s.limit) s.members

-- a rising list with n in its place, or as it is if it has n
abbrev pub with_member : List ℕ → ℕ → List ℕ
with_member [] n = n ∷ []
with_member (m ∷ ms) n = if nat_lt n m then n ∷ m ∷ ms else if n == m then m ∷ ms else m ∷ with_member ms n
