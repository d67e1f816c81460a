use Rattle.ucon_audit.proofs.Differences.{AreSameTo}
use Rattle.ucon_audit.proofs.difference.first_difference.Given as goal

abbrev pub invariant-places : goal.invariant-places
invariant-places l = AreSameTo l.one l.other l.i
