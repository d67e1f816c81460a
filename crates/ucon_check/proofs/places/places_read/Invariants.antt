use Rattle.std.proofs.Common.{◌≡◌, drop, map}
use Rattle.std.specs.Prelude.{fold, filter}
use Rattle.std.specs.List.{flat_map}
use Rattle.ucon_model.specs.Decision.{ongoing}
use Rattle.ucon_model.specs.Views.{predicate_of, right_of}
use Rattle.ucon_model.specs.Places.{test_places, with_place, places_read}
use Rattle.ucon_check.proofs.places.places_read.Given as goal

-- what is there so far, with what the rest of the ongoing predicates read, is all that is read
abbrev pub invariant-loop-p : goal.invariant-loop-p
invariant-loop-p l =
    fold with_place l.places.items (flat_map (λ p. test_places p.test) (filter ongoing (map predicate_of (drop l.p-index l.right.preds.items))))
    ≡ places_read (right_of l.right)
