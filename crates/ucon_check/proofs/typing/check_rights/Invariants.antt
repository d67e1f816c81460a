use Rattle.std.proofs.Common.{◌≡◌, take, drop, map}
use Rattle.std.specs.Prelude.{[], option_map}
use Rattle.ucon_model.specs.Views.{policy_of, right_of}
use Rattle.ucon_model.specs.Typing.{first_fault_of, items_of, right_fault}
use Rattle.ucon_check.specs.Told.{told}
use Rattle.ucon_check.proofs.typing.check_rights.Given as goal

-- the rest tells what all tell
abbrev pub invariant-loop-i : goal.invariant-loop-i
invariant-loop-i l =
    option_map told (first_fault_of items_of (right_fault (policy_of l.policy)) (map right_of (take l.i l.rights)) l.item (map right_of (drop l.i l.rights)))
    ≡ option_map told (first_fault_of items_of (right_fault (policy_of l.policy)) [] l.fn.first (map right_of l.rights))
