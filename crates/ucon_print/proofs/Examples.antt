-- A policy of every kind of item is printable, and a negative count is not.
use Rattle.std.proofs.Common.{◌≤◌, pos, negsuc, [], ◌∷◌, Some, None, refl, arith}
use Rattle.std.specs.Prelude.{codes, count_by}
use Rattle.std.specs.Fmt.{digits}
use Rattle.ucon_base.specs.declared.value.Side.{Side}
use Rattle.ucon_base.specs.declared.value.Side.TheVariants as sides
use Rattle.ucon_base.specs.declared.value.Kind.TheVariants as kinds
use Rattle.ucon_base.specs.declared.value.Value.TheVariants as values
use Rattle.ucon_model.specs.declared.formula.Op.TheVariants as ops
use Rattle.ucon_model.specs.declared.formula.Ref.TheVariants as refs
use Rattle.ucon_model.specs.declared.formula.Form.TheVariants as forms
use Rattle.ucon_model.specs.declared.policy.Phase.{Phase}
use Rattle.ucon_model.specs.declared.policy.Phase.TheVariants as phases
use Rattle.ucon_model.specs.declared.policy.When.{When}
use Rattle.ucon_model.specs.declared.policy.When.TheVariants as whens
use Rattle.ucon_model.specs.Plain.{PlainExpr, read, minus, times, size, either, negation, compare, lasts, authorisation, duty, PlainPredicate, PlainUpdate, PlainRight, PlainPolicy}
use Rattle.ucon_model.specs.Limits.{same_phase}
use Rattle.ucon_model.specs.Readings.{same_side}
use Rattle.ucon_model.specs.Updates.{same_when}
use Rattle.ucon_model.specs.declared.policy.AttrDecl.{AttrDecl}
use Rattle.ucon_model.specs.Printing.{policy_printing}
use Rattle.ucon_model.specs.Spells.{Spells}
use Rattle.ucon_print.specs.Printable.{IsFormula, IsPrintable}
use Rattle.ucon_print.proofs.Policies.{printed_spells}

abbrev credit : PlainExpr
credit = read (refs.Subject (codes "credit"))

abbrev play : PlainRight
play = record {
  name = codes "play";
  preds =
      record { phase = phases.Pre; label = codes "funds"; test = authorisation (negation (either (compare ops.Ge credit (size (minus credit (minus credit credit)))) (lasts (pos 10)))) }
      ∷ record { phase = phases.Ongoing; label = codes "ads"; test = duty (record { form = forms.Every (pos 30); action = codes "click"; by_subject = Some (codes "ann"); on_object = None }) } ∷ [];
  updates = record { when = whens.Before; side = sides.Subject; attr = codes "credit"; value = times credit (times credit credit) } ∷ [];
}

abbrev usual : PlainPolicy
usual = record {
  attrs = record { side = sides.Object; name = codes "tags"; kind = kinds.Set; start = values.Set (codes "a" ∷ codes "b" ∷ []) } ∷ [];
  envs = record { name = codes "mode"; kind = kinds.Text; start = values.Text (codes "on") } ∷ [];
  rights = play ∷ [];
}

usual_printable : IsPrintable usual
unfolding digits
usual_printable = record {
  within = record {
    attrs = few_attrs;
    envs = omega arith;
    rights = omega arith;
    each = (record { preds = few_preds; updates = few_updates }, tt);
  };
  attrs = (record { name = refl; kind = tt; start = (refl, refl) }, tt);
  envs = (record { name = refl; kind = tt; start = refl }, tt);
  rights = (
    record {
      name = refl;
      preds = (
        record { label = refl; test = ((omega arith, (refl, (omega arith, refl, (omega arith, refl, refl))), omega arith), omega arith) },
        (record { label = refl; test = record { form = omega arith; action = refl; by_subject = refl; on_object = tt } }, tt),
      );
      updates = (record { attr = refl; value = (omega arith, refl, (omega arith, refl, refl)); levels = omega arith }, tt);
    },
    tt,
  );
  short = omega arith;
}
  where
    few_attrs : (side : Side) → count_by (λ (a : AttrDecl). same_side side a.side) usual.attrs ≤ 16
    few_attrs sides.Subject = omega arith
    few_attrs sides.Object = omega arith

    few_preds : (phase : Phase) → count_by (λ (p : PlainPredicate). same_phase phase p.phase) play.preds ≤ 16
    few_preds phases.Pre = omega arith
    few_preds phases.Ongoing = omega arith

    few_updates : (when : When) → count_by (λ (u : PlainUpdate). same_when when u.when) play.updates ≤ 16
    few_updates whens.Before = omega arith
    few_updates whens.During = omega arith
    few_updates whens.AfterEnd = omega arith
    few_updates whens.AfterRevoke = omega arith

usual_spelled : Spells (policy_printing usual) usual
usual_spelled = printed_spells usual usual_printable

-- a negative number of ticks has no spelling
no_negative_count : IsFormula (lasts (negsuc 0)) → ⊥
no_negative_count is = is
