use Rattle.std.proofs.Common.{◌≡◌, take, drop}
use Rattle.std.specs.Prelude.{[], option_map}
use Rattle.ucon_model.specs.Typing.{first_fault_of, one_item, env_fault}
use Rattle.ucon_check.specs.Told.{told}
use Rattle.ucon_check.proofs.typing.check_envs.Given as goal

-- the rest tells what all tell
abbrev pub invariant-loop-i : goal.invariant-loop-i
invariant-loop-i l =
    option_map told (first_fault_of one_item env_fault (take l.i l.envs) l.item (drop l.i l.envs))
    ≡ option_map told (first_fault_of one_item env_fault [] l.fn.first l.envs)
