use Rattle.ucon_model.proofs.Cascades.{only_cascade_after}
use Rattle.ucon_model.proofs.laws.settling_is_the_only_cascade.Goals as goal

pub returns : goal.returns
returns c = only_cascade_after
