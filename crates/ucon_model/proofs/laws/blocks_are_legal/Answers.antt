use Rattle.ucon_model.proofs.Histories.{legal_actions_after}
use Rattle.ucon_model.proofs.laws.blocks_are_legal.Goals as goal

pub returns : goal.returns
returns c = legal_actions_after
