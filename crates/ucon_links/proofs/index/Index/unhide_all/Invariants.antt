use Rattle.std.proofs.Common.{◌-◌}
use Rattle.ucon_links.specs.Dependents.{Dependents, UnhideGives}
use Rattle.ucon_links.proofs.index.Index.unhide_all.Given as goal

abbrev pub invariant-loop : goal.invariant-loop
invariant-loop l = record {
  can : (before : Dependents) × UnhideGives (l.count - l.counter) l.self before;
  same : (before : Dependents) → UnhideGives l.count l.initial.self before → UnhideGives (l.count - l.counter) l.self before;
}
