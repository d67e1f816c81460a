use Rattle.std.proofs.Common.{◌≡◌, ◌++◌, map, drop}
use Rattle.ucon_model.specs.Views.{predicate_of}
use Rattle.ucon_model.proofs.copy.predicates.Given as goal

abbrev pub invariant-loop-p : goal.invariant-loop-p
invariant-loop-p l = map predicate_of l.rows.items ++ map predicate_of (drop l.p-index l.preds) ≡ map predicate_of l.preds
