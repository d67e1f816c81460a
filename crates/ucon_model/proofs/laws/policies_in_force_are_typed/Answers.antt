use Rattle.ucon_model.proofs.Histories.{typed_after}
use Rattle.ucon_model.proofs.laws.policies_in_force_are_typed.Goals as goal

pub returns : goal.returns
returns c = typed_after
