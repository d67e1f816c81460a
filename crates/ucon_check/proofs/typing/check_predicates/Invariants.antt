use Rattle.std.proofs.Common.{◌≡◌, take, drop, map}
use Rattle.std.specs.Prelude.{[], option_map}
use Rattle.ucon_model.specs.Views.{policy_of, predicate_of}
use Rattle.ucon_model.specs.Typing.{first_fault_of, one_item, predicate_fault}
use Rattle.ucon_check.specs.Told.{told}
use Rattle.ucon_check.proofs.typing.check_predicates.Given as goal

-- the rest tells what all tell
abbrev pub invariant-loop-i : goal.invariant-loop-i
invariant-loop-i l =
    option_map told (first_fault_of one_item (predicate_fault (policy_of l.policy)) (map predicate_of (take l.i l.preds)) l.item (map predicate_of (drop l.i l.preds)))
    ≡ option_map told (first_fault_of one_item (predicate_fault (policy_of l.policy)) [] l.fn.first (map predicate_of l.preds))
