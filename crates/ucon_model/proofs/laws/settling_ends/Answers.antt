use Rattle.ucon_model.proofs.Settling.{least_failing-settle}
use Rattle.ucon_model.proofs.laws.settling_ends.Goals as goal

pub returns : goal.returns
returns c = least_failing-settle
