use Rattle.std.proofs.Common.{◌∙◌, Some, ap, subst, sym}
use Rattle.ucon_base.specs.declared.value.Value.{Value}
use Rattle.ucon_model.specs.Checked.{checked_policy}
use Rattle.ucon_state.specs.Planned.{IsMet}
use Rattle.ucon_state.specs.Shown.{right_names}
use Rattle.ucon_state.specs.Stored.{named, row_of}
use Rattle.ucon_state.specs.Tables.{readings_in}
use Rattle.ucon_state.specs.Views.{lists_of}
use Rattle.ucon_state.proofs.state.State.is_met.Goals as goal

pub returns-in-Some-Int : goal.returns-in-Some-Int
returns-in-Some-Int c = λ yes.
    let s = c.args.self.now in
    let P = checked_policy s.planned.checked in
    let t = lists_of s.tables in
    let row = row_of (right_names s) t.subjects t.objects c.args.session.now in
    subst (IsMet P (readings_in P (named (right_names s) t)) row) (sym c.in-Between.is)
    (λ place stands. record {
      number = c.in-Some-Int.n;
      is = c.in-Some-Int.ensures place stands ∙ ap (λ (v : Value). Some v) c.in-Some-Int.field-0-is;
      from = c.is_between.ensures.from yes;
      to = c.is_between.ensures.to yes;
    })
