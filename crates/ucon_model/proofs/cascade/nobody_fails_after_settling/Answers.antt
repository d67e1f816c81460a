use Rattle.ucon_model.specs.Readings.{accessing}
use Rattle.ucon_model.proofs.Drafts.{nobody_fails-settle}
use Rattle.ucon_model.proofs.FewRevocations.{one_a_turn}
use Rattle.ucon_model.proofs.cascade.nobody_fails_after_settling.Goals as goal

pub returns-clause-nobody : goal.returns-clause-nobody
returns-clause-nobody c = nobody_fails-settle

pub returns-clause-revoked : goal.returns-clause-revoked
returns-clause-revoked c = λ P T. one_a_turn (accessing T) P T
