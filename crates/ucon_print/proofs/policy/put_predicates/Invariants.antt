use Rattle.std.proofs.Common.{◌≡◌, ◌++◌, map, take}
use Rattle.std.specs.List.{flat_map}
use Rattle.ucon_model.specs.Printing.{predicate_printing}
use Rattle.ucon_model.specs.Views.{predicate_of}
use Rattle.ucon_print.proofs.policy.put_predicates.Given as goal

abbrev pub invariant-loop-pred : goal.invariant-loop-pred
invariant-loop-pred l = l.out.items ≡ l.initial.out.items ++ flat_map predicate_printing (map predicate_of (take l.pred-index l.preds))
