use Rattle.ucon_model.proofs.Histories.{values_fit_after}
use Rattle.ucon_model.proofs.laws.values_fit.Goals as goal

pub returns : goal.returns
returns c = values_fit_after
