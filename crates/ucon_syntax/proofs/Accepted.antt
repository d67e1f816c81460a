-- A text is accepted as a policy exactly where it spells the policy and the policy is well typed.
use Rattle.std.proofs.Common.{◌≡◌, Bool, true, false, cond, Some, None, Ok, Err, is_some, subst, refl, ap, ◌∙◌}
use Rattle.std.specs.Prelude.{Result, option_and_then, unwrap_or}
use Rattle.std.specs.Result.{result_ok}
use Rattle.std.proofs.lemmas.Bool.{false≢true}
use Rattle.ucon_model.specs.Plain.{Bytes, PlainPolicy}
use Rattle.ucon_model.specs.Spells.{Spells}
use Rattle.ucon_model.specs.Typing.{is_typed, IsTyped}
use Rattle.ucon_syntax.specs.Policies.{reading_of, if_typed, accepted}
use Rattle.ucon_syntax.specs.declared.read.SyntaxFault.{SyntaxFault}
use Rattle.ucon_syntax.proofs.TextsRead.{reading_spells, spells_reading}

nothing : {A : Type 0} {x : A} → None ≡ Some x → ⊥
nothing h = false≢true (ap is_some h)

typed_from : (q p : PlainPolicy) (typed : Bool) → is_typed q ≡ typed → cond typed (Some q) None ≡ Some p → (q ≡ p) × IsTyped q
typed_from q p true is h = (ap (λ o. unwrap_or o q) h, is)
typed_from q p false is h = absurd (nothing h)

accepted_from : (text : Bytes) (p : PlainPolicy) (r : Result PlainPolicy SyntaxFault) → reading_of text ≡ r → option_and_then if_typed (result_ok r) ≡ Some p → Spells text p × IsTyped p
accepted_from text p (Ok q) read h =
    let typed = typed_from q p (is_typed q) refl h in
    (reading_spells text p (read ∙ ap (λ (x : PlainPolicy). Ok x) typed.0), subst IsTyped typed.0 typed.1)
accepted_from text p (Err f) read h = absurd (nothing h)

pub accepted_spells : (text : Bytes) (p : PlainPolicy) → accepted text ≡ Some p → Spells text p × IsTyped p
accepted_spells text p h = accepted_from text p (reading_of text) refl h

pub spells_accepted : (text : Bytes) (p : PlainPolicy) → Spells text p × IsTyped p → accepted text ≡ Some p
spells_accepted text p h =
    ap (λ r. option_and_then if_typed (result_ok r)) (spells_reading text p h.0) ∙ ap (λ b. cond b (Some p) None) h.1
