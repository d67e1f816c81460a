-- Counts of calls and faults.
use Rattle.std.specs.Prelude.{◌≡◌, ℕ, ◌+◌, ◌-◌, ◌^◌, ◌≤◌, min, Result, MatchResult}

-- a count after one more, in 64 bits: at the last value it stands still
abbrev pub raised : ℕ → ℕ
raised n = min (n + 1) (2 ^ 64 - 1)

-- the count is above the earlier one, or stands at the last value
abbrev pub Rose : ℕ → ℕ → Type 0
Rose before now = raised before ≤ now

-- the count is one more if the call failed, and as it was if it did not
abbrev pub HasCause : {T E : Type 0} → ℕ → ℕ → Result T E → Type 0
HasCause before now result = MatchResult result (λ _. now ≡ before) (λ _. now ≡ raised before)
