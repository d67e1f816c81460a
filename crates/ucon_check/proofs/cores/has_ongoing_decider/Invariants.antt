use Rattle.std.proofs.Common.{◌≡◌, drop, map}
use Rattle.std.specs.List.{list_any}
use Rattle.std.specs.Prelude.{◌&&◌}
use Rattle.ucon_model.specs.Decision.{ongoing}
use Rattle.ucon_model.specs.Cores.{is_decider}
use Rattle.ucon_model.specs.Views.{predicate_of}
use Rattle.ucon_check.proofs.cores.has_ongoing_decider.Given as goal

abbrev pub invariant-loop-p : goal.invariant-loop-p
invariant-loop-p l = list_any (λ p. ongoing p && is_decider p) (map predicate_of (drop l.p-index l.preds)) ≡ list_any (λ p. ongoing p && is_decider p) (map predicate_of l.preds)
