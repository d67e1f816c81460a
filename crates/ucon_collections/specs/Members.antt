-- What the fields of a set of numbers mean. No public clause cites this module.
use Rattle.std.specs.Prelude.{◌≡◌, ℕ, zero, suc, ◌+◌, ◌*◌, ◌≤◌, List, [], ◌∷◌, length, ◌==◌, if◌then◌else◌}
use Rattle.ucon_collections.specs.Bits.{bit}
use Rattle.ucon_collections.specs.NumberSet.{NumberSet}
use Rattle.ucon_collections.specs.declared.number_set.NumberSet.TheInside.{Inside}

-- the numbers whose bit is 1, of a first number and those after it, `count` in all
abbrev pub members_from : (ℕ → ℕ) → ℕ → ℕ → List ℕ
members_from bits first zero = []
members_from bits first (suc count) = if bits first == 1 then first ∷ members_from bits (first + 1) count else members_from bits (first + 1) count

-- the set that a row of bits stands for
abbrev pub set_of : List ℕ → ℕ → NumberSet
set_of row limit = record { limit = limit; members = members_from (bit row) 0 limit }

-- each number below the limit has a bit, and no other bit is set
pub record IsSound (s : Inside) : Type 0 where
  pub room : s.limit ≤ 64 * length s.levels
  pub below : (n : ℕ) → s.limit ≤ n → bit s.levels n ≡ 0
