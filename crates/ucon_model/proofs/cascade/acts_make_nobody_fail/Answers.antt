use Rattle.ucon_model.proofs.Acts.{timely_after, act_fails_none}
use Rattle.ucon_model.proofs.cascade.acts_make_nobody_fail.Goals as goal

pub returns-clause-timely : goal.returns-clause-timely
returns-clause-timely c = timely_after

pub returns-clause-none : goal.returns-clause-none
returns-clause-none c = act_fails_none
