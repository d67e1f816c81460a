use Rattle.ucon_store.proofs.Differences.{AreSameTo}
use Rattle.ucon_store.proofs.accepting.first_difference.Given as goal

abbrev pub invariant-places : goal.invariant-places
invariant-places l = AreSameTo l.one l.other l.i
