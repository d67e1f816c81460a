use Rattle.ucon_model.proofs.OwnCovers.{covers-own}
use Rattle.ucon_model.proofs.cascade.own_work_is_read_off.Goals as goal

pub returns : goal.returns
returns c = covers-own
