use Rattle.ucon_syntax.proofs.TextsRead.{one_policy}
use Rattle.ucon_syntax.proofs.laws.texts_spell_one_policy.Goals as goal

pub returns : goal.returns
returns c = one_policy
