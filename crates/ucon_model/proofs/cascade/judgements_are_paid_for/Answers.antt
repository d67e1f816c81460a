use Rattle.ucon_model.proofs.OwnTouches.{touched-own}
use Rattle.ucon_model.proofs.Touches.{paid-begins, paid-holds, paid-fails}
use Rattle.ucon_model.proofs.cascade.judgements_are_paid_for.Goals as goal

pub returns-clause-own : goal.returns-clause-own
returns-clause-own c = λ P T caller c head actions n e. touched-own P T caller c head actions e n

pub returns-clause-begins : goal.returns-clause-begins
returns-clause-begins c = paid-begins

pub returns-clause-holds : goal.returns-clause-holds
returns-clause-holds c = paid-holds

pub returns-clause-fails : goal.returns-clause-fails
returns-clause-fails c = paid-fails
