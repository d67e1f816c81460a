use Rattle.std.proofs.Common.{◌≡◌, ◌++◌, drop}
use Rattle.ucon_model.proofs.copy.envs.Given as goal

abbrev pub invariant-loop-d : goal.invariant-loop-d
invariant-loop-d l = l.rows.items ++ drop l.d-index l.envs ≡ l.envs
