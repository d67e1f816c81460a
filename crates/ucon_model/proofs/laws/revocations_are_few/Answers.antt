use Rattle.ucon_model.proofs.FewRevocations.{few_revocations}
use Rattle.ucon_model.proofs.laws.revocations_are_few.Goals as goal

pub returns : goal.returns
returns c = few_revocations
