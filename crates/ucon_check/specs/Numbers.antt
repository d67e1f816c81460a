-- How numbers of items are told.
use Rattle.std.specs.Prelude.{ℕ, ◌-◌, ◌^◌, min}

-- a number that no u32 holds is told as the greatest
abbrev pub told_number : ℕ → ℕ
told_number n = min n (2 ^ 32 - 1)
