use Rattle.ucon_model.proofs.FewRevocations.{few_accessing_behind, few_revocations_behind}
use Rattle.ucon_model.proofs.laws.usages_stay_few.Goals as goal

pub returns-clause-usages : goal.returns-clause-usages
returns-clause-usages c = few_accessing_behind

pub returns-clause-revocations : goal.returns-clause-revocations
returns-clause-revocations c = few_revocations_behind
