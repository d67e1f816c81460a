use Rattle.ucon_model.proofs.Frames.{fails_as_before, failed_before}
use Rattle.ucon_model.proofs.cascade.unreached_sessions_fail_as_before.Goals as goal

pub returns-clause-same : goal.returns-clause-same
returns-clause-same c = fails_as_before

pub returns-clause-failed : goal.returns-clause-failed
returns-clause-failed c = failed_before
