-- What is so of each form that has its document whole, and runs its clients in threads of their own.
use Rattle.std.proofs.Common.{◌≡◌, false, true, refl, subst}
use Rattle.std.specs.Prelude.{Option, Some}
use Rattle.ucon_model.specs.Plain.{Bytes}
use Rattle.ucon_outcome.specs.declared.outcome.Outcome.{Outcome}
use Rattle.ucon_top.specs.declared.form.Form.{Form}
use Rattle.ucon_top.specs.declared.form.Form.TheVariants as forms
use Rattle.ucon_top.specs.Ending.{MayEnd}
use Rattle.ucon_top.specs.Form.{IsAlone, ReadsWhole, TellsText, asks_for_threads}
use Rattle.ucon_top.specs.Printed.{ReadsInput, document_of}
use Rattle.ucon_top.specs.Traits.{traits}

-- it makes calls of the disk, tells nothing of a journal and makes no checkpoint; its document is its input, and it ends as `serve` may
pub record IsThreaded (form : Form) : Type 0 where
  pub disk : (traits form).disk ≡ true
  pub alone : IsAlone form → ⊥
  pub tells : TellsText form → ⊥
  pub points : form ≡ forms.Point → ⊥
  pub live : form ≡ forms.Live → ⊥
  pub input : ReadsInput form
  pub reads : (left : Option Bytes) → document_of form left ≡ left
  pub ends : (outcome : Outcome) → MayEnd forms.Serve outcome → MayEnd form outcome

pub threaded : (form : Form) → asks_for_threads (Some form) ≡ true → ReadsWhole form → IsThreaded form
threaded forms.Serve e whole = record {
  disk = refl;
  alone = λ (h : true ≡ false). cc h;
  tells = λ (h : false ≡ true). cc h;
  points = λ (h : forms.Serve ≡ forms.Point). cc h;
  live = λ (h : forms.Serve ≡ forms.Live). cc h;
  input = refl;
  reads = λ left. refl;
  ends = λ outcome may. may;
}
threaded forms.Board e whole = record {
  disk = refl;
  alone = λ (h : true ≡ false). cc h;
  tells = λ (h : false ≡ true). cc h;
  points = λ (h : forms.Board ≡ forms.Point). cc h;
  live = λ (h : forms.Board ≡ forms.Live). cc h;
  input = refl;
  reads = λ left. refl;
  ends = λ outcome may. may;
}
threaded forms.Live e whole = absurd (let none : false ≡ true = whole in cc none)
threaded form e whole = absurd (cc e)

-- a form without threads isn't `live`
pub not_live : (form : Form) → asks_for_threads (Some form) ≡ false → form ≡ forms.Live → ⊥
not_live form none is = let some : true ≡ false = subst (λ (f : Form). asks_for_threads (Some f) ≡ false) is none in cc some
