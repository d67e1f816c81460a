use Rattle.ucon_model.proofs.SortsOfValues.{typed_updates_fit}
use Rattle.ucon_model.proofs.laws.updates_fit.Goals as goal

pub returns : goal.returns
returns c = typed_updates_fit
