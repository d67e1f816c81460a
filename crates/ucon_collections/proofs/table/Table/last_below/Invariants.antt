use Rattle.ucon_collections.specs.Table.{seen}
use Rattle.ucon_collections.proofs.Searching.{IsSought, left_below}
use Rattle.ucon_collections.proofs.table.Table.last_below.Given as goal

abbrev pub invariant-loop-at : goal.invariant-loop-at
invariant-loop-at l = IsSought (seen l.self) l.leader l.session l.at

abbrev pub decreases-loop-at : goal.decreases-loop-at
decreases-loop-at l = left_below l.at
