use Rattle.std.proofs.Common.{◌≡◌, drop, map}
use Rattle.std.specs.List.{list_any}
use Rattle.std.specs.Str.{bytes_eq}
use Rattle.ucon_model.specs.Views.{predicate_of}
use Rattle.ucon_check.proofs.items.is_label.Given as goal

abbrev pub invariant-loop-p : goal.invariant-loop-p
invariant-loop-p l =
    list_any (λ q. bytes_eq l.label q.label) (map predicate_of (drop l.p-index l.preds)) ≡ list_any (λ q. bytes_eq l.label q.label) (map predicate_of l.preds)
