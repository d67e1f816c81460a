use Rattle.ucon_model.proofs.Firsts.{firsts-from, firsts-holds, firsts-fails}
use Rattle.ucon_model.proofs.cascade.firsts_go_on_covering.Goals as goal

pub returns-clause-begins : goal.returns-clause-begins
returns-clause-begins c = firsts-from

pub returns-clause-holds : goal.returns-clause-holds
returns-clause-holds c = firsts-holds

pub returns-clause-fails : goal.returns-clause-fails
returns-clause-fails c = firsts-fails
