use Rattle.ucon_model.proofs.Frames.{in_force-step, kept-step, timed-step, session-step}
use Rattle.ucon_model.proofs.cascade.actions_leave_the_rest.Goals as goal

pub returns-clause-policy : goal.returns-clause-policy
returns-clause-policy c = in_force-step

pub returns-clause-values : goal.returns-clause-values
returns-clause-values c = kept-step

pub returns-clause-timed : goal.returns-clause-timed
returns-clause-timed c = timed-step

pub returns-clause-sessions : goal.returns-clause-sessions
returns-clause-sessions c = session-step
