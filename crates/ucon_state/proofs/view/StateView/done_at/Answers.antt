use Rattle.std.proofs.Common.{◌∙◌, sym, ap, option_and_then, unwrap_or}
use Rattle.ucon_model.specs.Checked.{checked_policy}
use Rattle.ucon_model.specs.Plain.{Bytes}
use Rattle.ucon_state.specs.Shown.{right_names}
use Rattle.ucon_state.specs.Tables.{moment_in}
use Rattle.ucon_state.specs.Views.{lists_of}
use Rattle.ucon_state.proofs.Numbered.{numbers_are, row_is}
use Rattle.ucon_state.proofs.Stages.{numbered_now}
use Rattle.ucon_state.proofs.view.StateView.done_at.Goals as goal

pub name-own_subject-requires : goal.name-own_subject-requires
name-own_subject-requires c =
    let P = checked_policy c.args.self.now.planned.checked in
    let R = right_names c.args.self.now in
    let t = lists_of c.args.self.now.tables in
    let numbered = numbered_now P R c.args.self.now.changes.items t c.args.self.now.sound in
    (numbers_are R t c.args.session c.in_ok-session.session.now (sym c.in_ok-session.ensures) numbered).subject

pub name-own_object-requires : goal.name-own_object-requires
name-own_object-requires c =
    let P = checked_policy c.args.self.now.planned.checked in
    let R = right_names c.args.self.now in
    let t = lists_of c.args.self.now.tables in
    let numbered = numbered_now P R c.args.self.now.changes.items t c.args.self.now.sound in
    (numbers_are R t c.args.session c.in_ok-session.session.now (sym c.in_ok-session.ensures) numbered).object

pub returns : goal.returns
returns c =
    let R = right_names c.args.self.now in
    let t = lists_of c.args.self.now.tables in
    let o = c.args.duty.now in
    let subject = c.name_or-subject.ensures ∙ ap (λ (own : Bytes). unwrap_or o.by_subject own) c.name-own_subject.ensures in
    let object = c.name_or-object.ensures ∙ ap (λ (own : Bytes). unwrap_or o.on_object own) c.name-own_object.ensures in
    c.moment.ensures
    ∙ (λ j. moment_in t (subject j) o.action (object j))
    ∙ sym (ap (option_and_then (λ row. moment_in t (unwrap_or o.by_subject row.subject) o.action (unwrap_or o.on_object row.object))) (row_is R t c.args.session c.in_ok-session.session.now (sym c.in_ok-session.ensures)))
