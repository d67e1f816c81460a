use Rattle.ucon_syntax.proofs.TextsRead.{reading_spells, spells_reading, reading_fault, syntax_reads}
use Rattle.ucon_syntax.proofs.laws.readings_are_what_texts_spell.Goals as goal

pub returns-clause-policy : goal.returns-clause-policy
returns-clause-policy c = λ text p. (reading_spells text p, spells_reading text p)

pub returns-clause-fault : goal.returns-clause-fault
returns-clause-fault c = λ text f. (reading_fault text f, syntax_reads text f)
