use Rattle.ucon_model.proofs.LeastFailing.{nobody_fails, chosen_is_legal}
use Rattle.ucon_model.proofs.laws.the_least_failing_is_found.Goals as goal

pub returns-clause-nobody : goal.returns-clause-nobody
returns-clause-nobody c = nobody_fails

pub returns-clause-somebody : goal.returns-clause-somebody
returns-clause-somebody c = λ P T n label numbered. chosen_is_legal P T (n, label) numbered
