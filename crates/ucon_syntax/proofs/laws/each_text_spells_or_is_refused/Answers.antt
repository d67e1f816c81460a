use Rattle.ucon_syntax.proofs.TextsRead.{each_text}
use Rattle.ucon_syntax.proofs.laws.each_text_spells_or_is_refused.Goals as goal

pub returns : goal.returns
returns c = each_text
