use Rattle.ucon_model.proofs.GrownHistories.{trace-grown}
use Rattle.ucon_model.proofs.laws.grown_histories_go_on.Goals as goal

pub returns : goal.returns
returns c = trace-grown
