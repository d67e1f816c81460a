use Rattle.ucon_syntax.proofs.TextsRead.{one_fault}
use Rattle.ucon_syntax.proofs.laws.texts_have_one_fault.Goals as goal

pub returns : goal.returns
returns c = one_fault
