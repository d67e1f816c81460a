use Rattle.ucon_model.proofs.NoSets.{tests_make_none, test_makes_none}
use Rattle.ucon_model.proofs.asked_laws.typed_tests_make_no_set.Goals as goal

pub returns : goal.returns
returns c = record {
  all = tests_make_none c.places_hold_their_sorts.ensures c.tests_are_typed.ensures;
  one = test_makes_none c.places_hold_their_sorts.ensures c.tests_are_typed.ensures;
}
