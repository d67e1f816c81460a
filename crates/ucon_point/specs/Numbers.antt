-- Numbers below 2^64, as words.
use Rattle.std.specs.Prelude.{ℕ, ◌^◌, nat_lt, Option, Some, None, option_and_then, if◌then◌else◌}
use Rattle.ucon_model.specs.Output.{number_read}
use Rattle.ucon_model.specs.Plain.{Bytes}

-- a number below 2^64
abbrev pub below_2_64 : ℕ → Option ℕ
below_2_64 n = if nat_lt n (2 ^ 64) then Some n else None

-- the number below 2^64 of which this is the decimal spelling
abbrev pub count_read : Bytes → Option ℕ
count_read bytes = option_and_then below_2_64 (number_read bytes)
