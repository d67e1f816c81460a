use Rattle.std.proofs.Common.{◌≡◌, drop}
use Rattle.ucon_accept.specs.Told.{tick_told}
use Rattle.ucon_accept.proofs.told.tick_told.Given as goal

-- the facts so far tell nothing of it
abbrev pub invariant-loop-fact : goal.invariant-loop-fact
invariant-loop-fact l = tick_told (drop l.fact-index l.facts) ≡ tick_told l.facts
