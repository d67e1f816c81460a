use Rattle.std.proofs.Common.{◌≡◌, drop, map}
use Rattle.std.specs.Prelude.{filter}
use Rattle.std.specs.List.{list_any, flat_map}
use Rattle.ucon_model.specs.Decision.{ongoing}
use Rattle.ucon_model.specs.Places.{test_places, same_place}
use Rattle.ucon_model.specs.Views.{predicate_of, right_of}
use Rattle.ucon_check.specs.Sought.{is_read}
use Rattle.ucon_check.proofs.sought.is_read.Given as goal

-- the rest of the ongoing predicates reads it, if any does
abbrev pub invariant-loop-p : goal.invariant-loop-p
invariant-loop-p l =
    list_any (same_place l.place) (flat_map (λ p. test_places p.test) (filter ongoing (map predicate_of (drop l.p-index l.right.preds.items)))) ≡ is_read (right_of l.right) l.place
