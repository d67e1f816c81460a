use Rattle.ucon_syntax.proofs.Accepted.{accepted_spells, spells_accepted}
use Rattle.ucon_syntax.proofs.laws.accepted_texts_spell_typed_policies.Goals as goal

pub returns : goal.returns
returns c = λ text p. (accepted_spells text p, spells_accepted text p)
