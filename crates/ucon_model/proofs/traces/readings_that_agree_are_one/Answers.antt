use Rattle.ucon_model.proofs.Agreeing.{agree_is_one}
use Rattle.ucon_model.proofs.traces.readings_that_agree_are_one.Goals as goal

pub returns : goal.returns
returns c = agree_is_one
