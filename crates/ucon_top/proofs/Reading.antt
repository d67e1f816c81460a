-- The program's own reading of policies' texts is an exact one.
use Rattle.std.proofs.Common.{◌≡◌, ◌↔◌, Option, Some, sym, subst}
use Rattle.ucon_model.specs.Plain.{Bytes, PlainPolicy}
use Rattle.ucon_model.specs.Spells.{Spells}
use Rattle.ucon_model.specs.Typing.{IsTyped}
use Rattle.ucon_syntax.specs.Policies.{accepted}
use Rattle.ucon_outcome.specs.declared.outcome.Outcome.{Outcome}
use Rattle.ucon_top.specs.declared.form.Form.{Form}
use Rattle.ucon_top.specs.Ran.{Causes, Completes, HasCauses, HasLeft, HasMade, IsWhole, Leaves, Makes}
use Rattle.ucon_top.specs.Reading.{ByReading, IsExact}
use Rattle.ucon_top.specs.Seen.{Seen}

pub own_reading : ((text : Bytes) (P : PlainPolicy) → (accepted text ≡ Some P) ↔ (Spells text P × IsTyped P)) → IsExact accepted
own_reading law = record { sound = λ text P read. (law text P).0 read; whole = λ text P spells typed. (law text P).1 (spells, typed) }

pub by_own_reading : ((text : Bytes) (P : PlainPolicy) → (accepted text ≡ Some P) ↔ (Spells text P × IsTyped P))
    → (so : (Bytes → Option PlainPolicy) → Type 0) → so accepted → ByReading so
by_own_reading law so is_so = record { reads = accepted; exact = own_reading law; is_so = is_so }

-- what a form did by the program's own reading, said of the words that ask for it
module _ (form : Form) (ended : Outcome) (before after : Seen) {words : Option Form} (law : (text : Bytes) (P : PlainPolicy) → (accepted text ≡ Some P) ↔ (Spells text P × IsTyped P)) (is : words ≡ Some form) where
  pub words_cause : HasCauses accepted form ended before after → Causes words ended before after
  words_cause so = subst (λ (w : Option Form). Causes w ended before after) (sym is) (by_own_reading law (λ reads. HasCauses reads form ended before after) so)

  pub words_make : HasMade accepted form ended before after → Makes words ended before after
  words_make so = subst (λ (w : Option Form). Makes w ended before after) (sym is) (by_own_reading law (λ reads. HasMade reads form ended before after) so)

  pub words_leave : HasLeft accepted form ended before after → Leaves words ended before after
  words_leave so = subst (λ (w : Option Form). Leaves w ended before after) (sym is) (by_own_reading law (λ reads. HasLeft reads form ended before after) so)

  pub words_complete : IsWhole accepted form ended before after → Completes words ended before after
  words_complete so = subst (λ (w : Option Form). Completes w ended before after) (sym is) (by_own_reading law (λ reads. IsWhole reads form ended before after) so)
