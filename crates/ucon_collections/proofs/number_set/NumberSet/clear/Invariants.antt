use Rattle.std.proofs.Common.{◌≡◌, length}
use Rattle.ucon_collections.proofs.number_set.NumberSet.clear.Given as goal

abbrev pub invariant-loop : goal.invariant-loop
invariant-loop l = l.self.limit ≡ l.initial.self.limit

abbrev pub decreases-loop : goal.decreases-loop
decreases-loop l = length l.self.members
