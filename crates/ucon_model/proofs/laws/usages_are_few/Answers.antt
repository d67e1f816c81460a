use Rattle.ucon_model.proofs.FewRevocations.{few_accessing}
use Rattle.ucon_model.proofs.laws.usages_are_few.Goals as goal

pub returns : goal.returns
returns c = few_accessing
