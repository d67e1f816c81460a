use Rattle.ucon_syntax.proofs.TextsRead.{refused_spells_nothing}
use Rattle.ucon_syntax.proofs.laws.refused_texts_spell_nothing.Goals as goal

pub returns : goal.returns
returns c = refused_spells_nothing
