use Rattle.ucon_model.proofs.Histories.{legal_revocations_after}
use Rattle.ucon_model.proofs.laws.revocations_are_legal.Goals as goal

pub returns : goal.returns
returns c = legal_revocations_after
