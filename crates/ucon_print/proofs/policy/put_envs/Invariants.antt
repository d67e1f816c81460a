use Rattle.std.proofs.Common.{◌≡◌, ◌++◌, take}
use Rattle.std.specs.List.{flat_map}
use Rattle.ucon_model.specs.Printing.{env_printing}
use Rattle.ucon_print.proofs.policy.put_envs.Given as goal

abbrev pub invariant-loop-env : goal.invariant-loop-env
invariant-loop-env l = l.out.items ≡ l.initial.out.items ++ flat_map env_printing (take l.env-index l.envs)
