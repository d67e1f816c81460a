use Rattle.std.proofs.Common.{◌≡◌, ◌++◌, drop}
use Rattle.ucon_trial.specs.Models.{models_spelling}
use Rattle.ucon_trial.proofs.models.put_cores.Given as goal

abbrev pub invariant-loop-core : goal.invariant-loop-core
invariant-loop-core l = l.out.items ++ models_spelling (drop l.core-index l.cores) ≡ l.fn.out.items ++ models_spelling l.cores
