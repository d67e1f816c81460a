use Rattle.ucon_model.proofs.Working.{least-work, least-empty}
use Rattle.ucon_model.proofs.cascade.covering_work_has_the_least.Goals as goal

pub returns-clause-least : goal.returns-clause-least
returns-clause-least c = least-work

pub returns-clause-empty : goal.returns-clause-empty
returns-clause-empty c = least-empty
