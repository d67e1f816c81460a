use Rattle.ucon_state.proofs.Following.Putting.{act_put, session_put}
use Rattle.ucon_state.proofs.laws.what_is_put_is_followed.Goals as goal

pub returns-clause-acts : goal.returns-clause-acts
returns-clause-acts c = act_put

pub returns-clause-sessions : goal.returns-clause-sessions
returns-clause-sessions c = session_put
