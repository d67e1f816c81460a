use Rattle.std.proofs.Common.{length}
use Rattle.ucon_links.specs.Dependents.{Dependents, UnhideGives}
use Rattle.ucon_links.proofs.index.Index.unhide_everybody.Given as goal

abbrev pub invariant-loop-self : goal.invariant-loop-self
invariant-loop-self l = record {
  can : (before : Dependents) × UnhideGives (length l.self.hidden) l.self before;
  same : (before : Dependents) → UnhideGives (length l.initial.self.hidden) l.initial.self before → UnhideGives (length l.self.hidden) l.self before;
}

abbrev pub decreases-loop-self : goal.decreases-loop-self
decreases-loop-self l = length l.self.hidden
