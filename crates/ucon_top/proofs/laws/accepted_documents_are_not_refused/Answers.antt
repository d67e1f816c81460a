use Rattle.ucon_top.proofs.Refusing.{never_refused}
use Rattle.ucon_top.proofs.laws.accepted_documents_are_not_refused.Goals as goal

pub returns : goal.returns
returns c = never_refused (record { one = c.texts_spell_one_policy.ensures; refused = c.refused_texts_spell_nothing.ensures })
