use Rattle.ucon_model.proofs.Working.{covers-nobody}
use Rattle.ucon_model.proofs.cascade.work_begins_with_the_concerned.Goals as goal

pub returns : goal.returns
returns c = covers-nobody
