-- Readings of policies' texts.
use Rattle.std.specs.Prelude.{◌≡◌, Some}
use Rattle.ucon_model.specs.Plain.{Bytes, PlainPolicy}
use Rattle.ucon_model.specs.Spells.{Spells}
use Rattle.ucon_model.specs.Typing.{IsTyped}
use Rattle.ucon_store.specs.Points.{PolicyReading}

-- Of each text it gives the policy that the text spells, if that is well typed, and nothing else. So two exact readings give the same.
pub record IsExact (reads : PolicyReading) : Type 0 where
  pub sound : (text : Bytes) (P : PlainPolicy) → reads text ≡ Some P → Spells text P × IsTyped P
  pub whole : (text : Bytes) (P : PlainPolicy) → Spells text P → IsTyped P → reads text ≡ Some P

-- by an exact reading this is so
pub record ByReading (so : PolicyReading → Type 0) : Type 0 where
  pub reads : PolicyReading
  pub exact : IsExact reads
  pub is_so : so reads
