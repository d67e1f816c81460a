use Rattle.std.proofs.Common.{◌≡◌, take, drop, map}
use Rattle.std.specs.Prelude.{[], option_map}
use Rattle.ucon_model.specs.Views.{policy_of, update_of}
use Rattle.ucon_model.specs.Typing.{first_fault_of, one_item, update_fault}
use Rattle.ucon_check.specs.Told.{told}
use Rattle.ucon_check.proofs.typing.check_updates.Given as goal

-- the rest tells what all tell
abbrev pub invariant-loop-u : goal.invariant-loop-u
invariant-loop-u l =
    option_map told (first_fault_of one_item (update_fault (policy_of l.policy)) (map update_of (take l.u-index l.updates)) l.item (map update_of (drop l.u-index l.updates)))
    ≡ option_map told (first_fault_of one_item (update_fault (policy_of l.policy)) [] l.fn.first (map update_of l.updates))
