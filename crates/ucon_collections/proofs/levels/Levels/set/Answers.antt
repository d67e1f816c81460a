use Rattle.std.proofs.Common.{rules}
use Rattle.ucon_collections.proofs.SummaryLemmas.{Summarizes-set}
use Rattle.ucon_collections.proofs.levels.Levels.set.Goals as goal

pub invariant_of-self : goal.invariant_of-self
invariant_of-self c = search (rules, Summarizes-set)
