-- An accepted document is never refused.
use Rattle.std.proofs.Common.{◌≡◌, ℕ, true, refl, subst}
use Rattle.std.specs.Prelude.{Option, Some, None, option_map, is_none, Result, Ok, List}
use Rattle.ucon_model.specs.Plain.{Bytes, PlainPolicy}
use Rattle.ucon_model.specs.Document.{ScriptLine, DocumentRefusal, document_read, policy_part}
use Rattle.ucon_model.specs.Spells.{Spells, TextFault, IsTextFault}
use Rattle.ucon_model.specs.Typing.{TypeFault, type_fault}
use Rattle.ucon_syntax.specs.Policies.{accepted}
use Rattle.ucon_syntax.specs.Refusals.{IsSyntaxFault}
use Rattle.ucon_syntax.specs.declared.read.SyntaxFault.{SyntaxFault}
use Rattle.ucon_syntax.specs.declared.read.SyntaxFault.TheVariants as syntax
use Rattle.ucon_check.specs.Told.{told}
use Rattle.ucon_check.specs.declared.fault.CheckFault.{CheckFault}
use Rattle.ucon_command.specs.declared.line_fault.LineFault.{LineFault}
use Rattle.ucon_command.specs.declared.line_fault.LineFault.TheVariants as lines
use Rattle.ucon_script.specs.Document.{IsLineCause}
use Rattle.ucon_script.specs.declared.doc_fault.DocFault.{DocFault}
use Rattle.ucon_script.specs.declared.doc_fault.DocFault.TheVariants as faults
use Rattle.ucon_top.specs.Accepted.{HasTypeFault, IsPolicyFault}
use Rattle.ucon_outcome.specs.declared.outcome.PolicyFault.{PolicyFault}
use Rattle.ucon_outcome.specs.declared.outcome.PolicyFault.TheVariants.{Syntax, Typing}
use Rattle.ucon_outcome.specs.declared.outcome.Outcome.{Outcome}
use Rattle.ucon_outcome.specs.declared.outcome.Outcome.TheVariants as outcomes
use Rattle.ucon_top.specs.Ending.{IsUnrefused}
use Rattle.ucon_top.specs.OwnReading.{IsAccepted, IsRefusedBy, IsScriptFault}

-- what the grammar's laws say
pub record HaveOneReading : Type 0 where
  pub one : (text : Bytes) (P Q : PlainPolicy) → Spells text P → Spells text Q → P ≡ Q
  pub refused : (text : Bytes) (f : TextFault) (n : ℕ) (P : PlainPolicy) → IsTextFault text f n → Spells text P → ⊥

syntax_refused : HaveOneReading → (text : Bytes) (P : PlainPolicy) → Spells text P → (f : SyntaxFault) → IsSyntaxFault text f → ⊥
syntax_refused laws text P spelled (syntax.UnknownByte place) h = laws.refused text _ place P h spelled
syntax_refused laws text P spelled (syntax.TooLong place) h = laws.refused text _ place P h spelled
syntax_refused laws text P spelled (syntax.TooMany place) h = laws.refused text _ place P h spelled
syntax_refused laws text P spelled (syntax.TooDeep place) h = laws.refused text _ place P h spelled
syntax_refused laws text P spelled (syntax.Unexpected place) h = laws.refused text _ place P h spelled
syntax_refused laws text P spelled (syntax.NoMemory e) h = h

no_fault : (found : Option TypeFault) (f : CheckFault) → is_none found ≡ true → option_map told found ≡ Some f → ⊥
no_fault None f typed h = cc
no_fault (Some fault) f typed h = cc

type_refused : HaveOneReading → (bytes : Bytes) (f : CheckFault) → IsAccepted bytes → HasTypeFault bytes f → ⊥
type_refused laws bytes f is fault =
    let same : is.policy ≡ fault.policy = laws.one (policy_part bytes) is.policy fault.policy is.has_policy.spelled fault.spelled in
    no_fault (type_fault fault.policy) f (subst (λ (P : PlainPolicy). is_none (type_fault P) ≡ true) same is.has_policy.typed) fault.first

policy_refused : HaveOneReading → (bytes : Bytes) (f : PolicyFault) → IsAccepted bytes → IsPolicyFault f bytes → ⊥
policy_refused laws bytes (Syntax f) is h = syntax_refused laws (policy_part bytes) is.policy is.has_policy.spelled f h
policy_refused laws bytes (Typing f) is h = type_refused laws bytes f is h

line_refused : (read : Result (List ScriptLine) DocumentRefusal) (lines : List ScriptLine) (n : ℕ) (f : LineFault) → read ≡ Ok lines → IsLineCause n read f → ⊥
line_refused read ls n (lines.TooLong k) e h = cc
line_refused read ls n lines.NoWord e h = cc
line_refused read ls n lines.UnknownWord e h = cc
line_refused read ls n (lines.WrongCount k) e h = cc
line_refused read ls n (lines.BadWord p) e h = cc
line_refused read ls n (lines.NoMemory want) e h = h

script_refused : (bytes : Bytes) (f : DocFault) → IsAccepted bytes → IsScriptFault f bytes → ⊥
script_refused bytes (faults.BadHeading n) is h = (let says = is.says in let cause = h.cause in cc)
script_refused bytes (faults.BadLine n f) is h = line_refused (document_read accepted bytes) is.lines n f is.says h.cause
script_refused bytes (faults.TooManyClients n) is h = (let says = is.says in let cause = h.cause in cc)
script_refused bytes (faults.TooManyLines n) is h = (let says = is.says in let cause = h.cause in cc)
script_refused bytes (faults.NoMemory e) is h = h

pub never_refused : HaveOneReading → (bytes : Bytes) (outcome : Outcome) → IsAccepted bytes → IsRefusedBy outcome bytes → IsUnrefused outcome
never_refused laws bytes (outcomes.Policy f) is h = absurd (policy_refused laws bytes f is h.1)
never_refused laws bytes (outcomes.Script f) is h = absurd (script_refused bytes f is h.1)
never_refused laws bytes outcome is h = refl
