use Rattle.std.proofs.Common.{◌≡◌, drop}
use Rattle.ucon_accept.specs.Told.{value_told}
use Rattle.ucon_accept.proofs.told.value_told.Given as goal

-- the facts so far tell nothing of the place
abbrev pub invariant-loop-fact : goal.invariant-loop-fact
invariant-loop-fact l = value_told (drop l.fact-index l.facts) l.place ≡ value_told l.facts l.place
