use Rattle.ucon_model.proofs.Firsts.{underway-begins, underway-holds, underway-fails, underway-ends}
use Rattle.ucon_model.proofs.Revoking.{one_more_revoked}
use Rattle.ucon_model.proofs.cascade.working_off_firsts_is_settling.Goals as goal

pub returns-clause-begins : goal.returns-clause-begins
returns-clause-begins c = underway-begins

pub returns-clause-holds : goal.returns-clause-holds
returns-clause-holds c = underway-holds

pub returns-clause-fails : goal.returns-clause-fails
returns-clause-fails c = underway-fails

pub returns-clause-revokes : goal.returns-clause-revokes
returns-clause-revokes c = one_more_revoked

pub returns-clause-ends : goal.returns-clause-ends
returns-clause-ends c = underway-ends
