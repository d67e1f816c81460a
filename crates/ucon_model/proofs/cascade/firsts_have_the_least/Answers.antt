use Rattle.ucon_model.proofs.Firsts.{firsts-least, firsts-empty}
use Rattle.ucon_model.proofs.cascade.firsts_have_the_least.Goals as goal

pub returns-clause-least : goal.returns-clause-least
returns-clause-least c = firsts-least

pub returns-clause-empty : goal.returns-clause-empty
returns-clause-empty c = firsts-empty
