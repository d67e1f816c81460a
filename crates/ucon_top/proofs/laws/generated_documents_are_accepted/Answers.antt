use Rattle.ucon_top.proofs.GeneratedPolicy.{is_accepted}
use Rattle.ucon_top.proofs.laws.generated_documents_are_accepted.Goals as goal

pub returns : goal.returns
returns c = λ seed size few.
    let read = c.generated_documents_are_read.ensures in
    is_accepted (λ text P. (c.readings_are_what_texts_spell.ensures.policy text P).0) seed size (read.policy seed size few) (read.says seed size few) (read.short seed size few)
