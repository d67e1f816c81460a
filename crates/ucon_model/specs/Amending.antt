-- Which texts an amendment may have.
use Rattle.std.specs.Prelude.{◌==◌, Bool, IsFalse}
use Rattle.std.specs.List.{list_any}
use Rattle.ucon_model.specs.Plain.{Bytes, Amendment}
use Rattle.ucon_model.specs.Spells.{Spells}
use Rattle.ucon_model.specs.Typing.{IsTyped}

abbrev pub has_newline : Bytes → Bool
has_newline text = list_any (λ b. b == 10) text

-- a text on one line that spells a well typed policy
pub record IsAmendment (a : Amendment) : Type 0 where
  pub spells : Spells a.text a.policy
  pub typed : IsTyped a.policy
  pub one_line : IsFalse (has_newline a.text)
