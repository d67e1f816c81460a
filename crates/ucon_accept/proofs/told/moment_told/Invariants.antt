use Rattle.std.proofs.Common.{◌≡◌, drop}
use Rattle.ucon_accept.specs.Told.{moment_told}
use Rattle.ucon_accept.proofs.told.moment_told.Given as goal

-- the facts so far tell nothing of it
abbrev pub invariant-loop-fact : goal.invariant-loop-fact
invariant-loop-fact l = moment_told (drop l.fact-index l.facts) ≡ moment_told l.facts
