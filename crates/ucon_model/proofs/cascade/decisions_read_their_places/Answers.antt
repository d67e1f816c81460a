use Rattle.ucon_model.proofs.Alike.{alike_fails, untimed_fails, alike_failing}
use Rattle.ucon_model.proofs.cascade.decisions_read_their_places.Goals as goal

pub returns-clause-rows : goal.returns-clause-rows
returns-clause-rows c = alike_fails

pub returns-clause-untimed : goal.returns-clause-untimed
returns-clause-untimed c = untimed_fails

pub returns-clause-numbers : goal.returns-clause-numbers
returns-clause-numbers c = alike_failing
