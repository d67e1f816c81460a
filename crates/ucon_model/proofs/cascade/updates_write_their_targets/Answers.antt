use Rattle.ucon_model.proofs.Extending.{session-session_writes}
use Rattle.ucon_model.proofs.TargetWrites.{kept-session_writes, in_force-session_writes}
use Rattle.ucon_model.proofs.cascade.updates_write_their_targets.Goals as goal

pub returns-clause-values : goal.returns-clause-values
returns-clause-values c = kept-session_writes

pub returns-clause-policy : goal.returns-clause-policy
returns-clause-policy c = in_force-session_writes

pub returns-clause-sessions : goal.returns-clause-sessions
returns-clause-sessions c = session-session_writes
