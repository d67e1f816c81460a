use Rattle.std.proofs.Common.{ap}
use Rattle.ucon_model.specs.Decision.{failing, verdict}
use Rattle.ucon_model.specs.Asked.{truth_at, result_at}
use Rattle.ucon_model.proofs.AgreeingViews.{agree_is_one}
use Rattle.ucon_model.proofs.asked_laws.views_that_agree_decide_alike.Goals as goal

pub returns-clause-truth : goal.returns-clause-truth
returns-clause-truth c = λ P R S n i h. ap (λ Q. truth_at P Q n i) (agree_is_one R S h)

pub returns-clause-verdict : goal.returns-clause-verdict
returns-clause-verdict c = λ P R S n h. ap (λ Q. verdict P Q n) (agree_is_one R S h)

pub returns-clause-failing : goal.returns-clause-failing
returns-clause-failing c = λ P R S n h. ap (λ Q. failing P Q n) (agree_is_one R S h)

pub returns-clause-result : goal.returns-clause-result
returns-clause-result c = λ P R S n i h. ap (λ Q. result_at P Q n i) (agree_is_one R S h)
