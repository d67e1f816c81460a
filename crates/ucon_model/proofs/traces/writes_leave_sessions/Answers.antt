use Rattle.ucon_model.proofs.Extending.{session-writes, accessing-session_writes}
use Rattle.ucon_model.proofs.traces.writes_leave_sessions.Goals as goal

pub returns-clause-sessions : goal.returns-clause-sessions
returns-clause-sessions c = session-writes

pub returns-clause-accessing : goal.returns-clause-accessing
returns-clause-accessing c = accessing-session_writes
