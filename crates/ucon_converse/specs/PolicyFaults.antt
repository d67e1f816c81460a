-- Why a text is no policy.
use Rattle.std.specs.Prelude.{◌≡◌, ⊤, Some, option_map}
use Rattle.ucon_check.specs.declared.fault.CheckFault.{CheckFault}
use Rattle.ucon_check.specs.Told.{told}
use Rattle.ucon_model.specs.Plain.{Bytes, PlainPolicy}
use Rattle.ucon_model.specs.Spells.{Spells}
use Rattle.ucon_model.specs.Typing.{type_fault}
use Rattle.ucon_outcome.specs.declared.outcome.PolicyFault.{PolicyFault}
use Rattle.ucon_outcome.specs.declared.outcome.PolicyFault.TheVariants.{Syntax, Typing}
use Rattle.ucon_outcome.specs.declared.outcome.Refused.{Refused}
use Rattle.ucon_outcome.specs.declared.outcome.Refused.TheVariants as refusals
use Rattle.ucon_syntax.specs.Refusals.{IsSyntaxFault}

-- it spells a policy that has this typing fault first
pub record HasTypeFaultOf (text : Bytes) (fault : CheckFault) : Type 0 where
  pub policy : PlainPolicy
  pub spelled : Spells text policy
  pub first : option_map told (type_fault policy) ≡ Some fault

-- it is refused so
abbrev pub IsPolicyFaultOf : PolicyFault → Bytes → Type 0
IsPolicyFaultOf (Syntax f) text = IsSyntaxFault text f
IsPolicyFaultOf (Typing f) text = HasTypeFaultOf text f

-- it is refused so, or there was no memory
abbrev pub IsRefusedText : Refused → Bytes → Type 0
IsRefusedText (refusals.Policy f) text = IsPolicyFaultOf f text
IsRefusedText (refusals.Script f) text = ⊥
IsRefusedText (refusals.NoMemory e) text = ⊤
