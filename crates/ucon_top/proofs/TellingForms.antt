-- What is so of each form that tells of a journal.
use Rattle.std.proofs.Common.{◌≡◌, false, true, refl}
use Rattle.std.specs.Prelude.{Option}
use Rattle.ucon_model.specs.Plain.{Bytes}
use Rattle.ucon_top.specs.declared.form.Form.{Form}
use Rattle.ucon_top.specs.declared.form.Form.TheVariants as forms
use Rattle.ucon_top.specs.Form.{HasJournal, IsAlone, TellsText}
use Rattle.ucon_top.specs.Printed.{document_of}

-- it makes calls of the disk, runs no line and makes no checkpoint, and its document is its input
pub record IsTelling (form : Form) : Type 0 where
  pub alone : IsAlone form → ⊥
  pub runs : HasJournal form → ⊥
  pub points : form ≡ forms.Point → ⊥
  pub live : form ≡ forms.Live → ⊥
  pub reads : (left : Option Bytes) → document_of form left ≡ left

pub telling : (form : Form) → TellsText form → IsTelling form
telling (forms.Audit kept) tells = record {
  alone = λ (h : true ≡ false). cc h;
  runs = λ (h : false ≡ true). cc h;
  points = λ (h : forms.Audit kept ≡ forms.Point). cc h;
  live = λ (h : forms.Audit kept ≡ forms.Live). cc h;
  reads = λ left. refl;
}
telling forms.Report tells = record {
  alone = λ (h : true ≡ false). cc h;
  runs = λ (h : false ≡ true). cc h;
  points = λ (h : forms.Report ≡ forms.Point). cc h;
  live = λ (h : forms.Report ≡ forms.Live). cc h;
  reads = λ left. refl;
}
telling (forms.Explain s r o) tells = record {
  alone = λ (h : true ≡ false). cc h;
  runs = λ (h : false ≡ true). cc h;
  points = λ (h : forms.Explain s r o ≡ forms.Point). cc h;
  live = λ (h : forms.Explain s r o ≡ forms.Live). cc h;
  reads = λ left. refl;
}
telling forms.Trial tells = absurd (let none : false ≡ true = tells in cc none)
telling forms.Check tells = absurd (let none : false ≡ true = tells in cc none)
telling (forms.Gen seed size) tells = absurd (let none : false ≡ true = tells in cc none)
telling forms.Play tells = absurd (let none : false ≡ true = tells in cc none)
telling forms.Serve tells = absurd (let none : false ≡ true = tells in cc none)
telling forms.Live tells = absurd (let none : false ≡ true = tells in cc none)
telling forms.Board tells = absurd (let none : false ≡ true = tells in cc none)
telling forms.Point tells = absurd (let none : false ≡ true = tells in cc none)
