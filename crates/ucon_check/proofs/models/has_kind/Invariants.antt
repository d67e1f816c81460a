use Rattle.std.proofs.Common.{◌≡◌, drop, map}
use Rattle.std.specs.List.{list_any}
use Rattle.ucon_model.specs.Cores.{is_of_kind}
use Rattle.ucon_model.specs.Views.{predicate_of}
use Rattle.ucon_check.proofs.models.has_kind.Given as goal

abbrev pub invariant-loop-p : goal.invariant-loop-p
invariant-loop-p l = list_any (is_of_kind l.kind) (map predicate_of (drop l.p-index l.preds)) ≡ list_any (is_of_kind l.kind) (map predicate_of l.preds)
