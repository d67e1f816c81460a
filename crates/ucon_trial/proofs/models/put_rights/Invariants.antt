use Rattle.std.proofs.Common.{◌≡◌, ◌++◌, drop, map}
use Rattle.ucon_model.specs.Views.{right_of}
use Rattle.ucon_trial.specs.Models.{rights_output}
use Rattle.ucon_trial.proofs.models.put_rights.Given as goal

abbrev pub invariant-loop-right : goal.invariant-loop-right
invariant-loop-right l = l.out.items ++ rights_output (map right_of (drop l.right-index l.rights)) ≡ l.fn.out.items ++ rights_output (map right_of l.rights)
