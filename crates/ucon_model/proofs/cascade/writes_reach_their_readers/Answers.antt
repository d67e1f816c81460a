use Rattle.ucon_model.proofs.Readers.{reaches-session_writes, concerned-revocation}
use Rattle.ucon_model.proofs.cascade.writes_reach_their_readers.Goals as goal

pub returns-clause-writes : goal.returns-clause-writes
returns-clause-writes c = reaches-session_writes

pub returns-clause-revocation : goal.returns-clause-revocation
returns-clause-revocation c = concerned-revocation
