use Rattle.ucon_model.proofs.WorkEnds.{works_off-ends}
use Rattle.ucon_model.proofs.Working.{works_off-settle}
use Rattle.ucon_model.proofs.cascade.working_off_is_settling.Goals as goal

pub returns-clause-settles : goal.returns-clause-settles
returns-clause-settles c = works_off-settle

pub returns-clause-ends : goal.returns-clause-ends
returns-clause-ends c = works_off-ends
