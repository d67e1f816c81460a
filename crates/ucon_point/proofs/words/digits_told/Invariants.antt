use Rattle.std.proofs.Common.{◌≡◌, ◌<◌, ◌^◌, drop}
use Rattle.ucon_base.specs.Reading.{number_from, number_of}
use Rattle.ucon_point.proofs.words.digits_told.Given as goal

-- the digits so far, and the rest behind them
abbrev pub invariant-loop-b : goal.invariant-loop-b
invariant-loop-b l = (number_from l.told (drop l.b-index l.bytes) ≡ number_of l.fn.bytes) × (l.told < 2 ^ 64)
