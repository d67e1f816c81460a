use Rattle.ucon_model.proofs.Afterwards.{covers-afterwards, covers-revocation}
use Rattle.ucon_model.proofs.usages.work_is_read_off_afterwards.Goals as goal

pub returns-clause-own : goal.returns-clause-own
returns-clause-own c = covers-afterwards

pub returns-clause-revocation : goal.returns-clause-revocation
returns-clause-revocation c = covers-revocation
