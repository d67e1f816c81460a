use Rattle.ucon_model.proofs.Deadlines.{limit-step, tick_fails_as_before}
use Rattle.ucon_model.proofs.cascade.ticks_change_at_limits.Goals as goal

pub returns-clause-parts : goal.returns-clause-parts
returns-clause-parts c = limit-step

pub returns-clause-sessions : goal.returns-clause-sessions
returns-clause-sessions c = tick_fails_as_before
