use Rattle.ucon_model.proofs.Histories.{nobody_fails_after}
use Rattle.ucon_model.proofs.laws.no_usage_goes_on_failing.Goals as goal

pub returns : goal.returns
returns c = nobody_fails_after
