-- Deadlines with their sessions, as a queue has them. No public clause of the heap cites this module.
use Rattle.std.specs.Prelude.{ℕ, ℤ, List}
use Rattle.std.specs.declared.cmp.Ordering.{Ordering}
use Rattle.std.specs.declared.cmp.Reverse.{Reverse}
use Rattle.std.specs.Ordering.{int_cmp, nat_cmp, ordering_then}

-- a deadline and whose it is
abbrev pub Entry : Type 0
Entry = Reverse (ℤ × ℕ)

abbrev pub entry : ℤ → ℕ → Entry
entry deadline n = record { 0 = (deadline, n) }

-- the earlier deadline is the greater
abbrev pub entry_cmp : Entry → Entry → Ordering
entry_cmp x y = ordering_then (int_cmp y.0.0 x.0.0) (nat_cmp y.0.1 x.0.1)

-- what is in a queue, what was taken off it since the last keep, and how many more can be taken without memory
pub record Queued : Type 0 where
  pub waiting : List Entry
  pub taken : List Entry
  pub room : ℕ
