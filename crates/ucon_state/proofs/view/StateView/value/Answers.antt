use Rattle.std.proofs.Common.{◌∙◌, sym, ap, option_and_then}
use Rattle.ucon_model.specs.Checked.{checked_policy}
use Rattle.ucon_model.specs.Lookup.{value_read}
use Rattle.ucon_model.specs.declared.formula.Ref.TheVariants as refs
use Rattle.ucon_state.specs.Shown.{right_names}
use Rattle.ucon_state.specs.Stored.{named}
use Rattle.ucon_state.specs.Tables.{place_in, readings_in}
use Rattle.ucon_state.specs.Views.{lists_of}
use Rattle.ucon_state.proofs.Numbered.{object_value, row_is, subject_value}
use Rattle.ucon_state.proofs.Stages.{numbered_now}
use Rattle.ucon_state.proofs.view.StateView.value.Goals as goal

pub returns-in-Subject : goal.returns-in-Subject
returns-in-Subject c =
    let P = checked_policy c.args.self.now.planned.checked in
    let R = right_names c.args.self.now in
    let t = lists_of c.args.self.now.tables in
    let numbered = numbered_now P R c.args.self.now.changes.items t c.args.self.now.sound in
    c.attribute_at.ensures
    ∙ subject_value R t c.args.session c.in_ok-session.session.now (sym c.in_ok-session.ensures) P numbered c.in-Subject.attr
    ∙ ap (value_read (readings_in P (named R t)) c.args.session) (sym c.in-Subject.is)

pub returns-in-Object : goal.returns-in-Object
returns-in-Object c =
    let P = checked_policy c.args.self.now.planned.checked in
    let R = right_names c.args.self.now in
    let t = lists_of c.args.self.now.tables in
    let numbered = numbered_now P R c.args.self.now.changes.items t c.args.self.now.sound in
    c.attribute_at-in-Object.ensures
    ∙ object_value R t c.args.session c.in_ok-session.session.now (sym c.in_ok-session.ensures) P numbered c.in-Object.attr
    ∙ ap (value_read (readings_in P (named R t)) c.args.session) (sym c.in-Object.is)

pub returns-in-Env : goal.returns-in-Env
returns-in-Env c =
    let P = checked_policy c.args.self.now.planned.checked in
    let R = right_names c.args.self.now in
    let t = lists_of c.args.self.now.tables in
    c.variable.ensures
    ∙ sym (ap (option_and_then (λ row. place_in P (named R t) row (refs.Env c.in-Env.name))) (row_is R t c.args.session c.in_ok-session.session.now (sym c.in_ok-session.ensures)))
    ∙ ap (value_read (readings_in P (named R t)) c.args.session) (sym c.in-Env.is)
