-- What a text's reader returns, in terms of what the text spells.
use Rattle.std.specs.Prelude.{◌≡◌, Result, Ok, Err}
use Rattle.std.proofs.Common.{◌⊎◌}
use Rattle.ucon_base.specs.Memory.{out_of_memory}
use Rattle.ucon_model.specs.declared.policy.Policy.{Policy}
use Rattle.ucon_model.specs.Plain.{Bytes, PlainPolicy}
use Rattle.ucon_model.specs.Spells.{unknown_byte, overlong, too_many, too_deep, unexpected, IsTextFault}
use Rattle.ucon_model.specs.Views.{policy_of}
use Rattle.ucon_syntax.specs.declared.read.SyntaxFault.{SyntaxFault}
use Rattle.ucon_syntax.specs.declared.read.SyntaxFault.TheVariants as faults

-- it is the first fault of the text
abbrev pub IsSyntaxFault : Bytes → SyntaxFault → Type 0
IsSyntaxFault text (faults.UnknownByte place) = IsTextFault text unknown_byte place
IsSyntaxFault text (faults.TooLong place) = IsTextFault text overlong place
IsSyntaxFault text (faults.TooMany place) = IsTextFault text too_many place
IsSyntaxFault text (faults.TooDeep place) = IsTextFault text too_deep place
IsSyntaxFault text (faults.Unexpected place) = IsTextFault text unexpected place
IsSyntaxFault text (faults.NoMemory e) = ⊥

-- the policy, unless memory ran out
abbrev pub ReadsAs : Result Policy SyntaxFault → PlainPolicy → Type 0
ReadsAs (Ok p) q = policy_of p ≡ q
ReadsAs (Err f) q = f ≡ faults.NoMemory out_of_memory

-- refused for this fault, unless memory ran out
abbrev pub RefusedFor : Result Policy SyntaxFault → SyntaxFault → Type 0
RefusedFor (Ok p) f = ⊥
RefusedFor (Err e) f = (e ≡ f) ⊎ (e ≡ faults.NoMemory out_of_memory)

-- memory ran out, or the first fault of the text
abbrev pub IsReason : Bytes → SyntaxFault → Type 0
IsReason text f = (f ≡ faults.NoMemory out_of_memory) ⊎ IsSyntaxFault text f
