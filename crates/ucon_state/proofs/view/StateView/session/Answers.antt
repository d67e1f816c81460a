use Rattle.std.proofs.Common.{◌∙◌, sym, ap, Some}
use Rattle.ucon_model.specs.Checked.{checked_policy}
use Rattle.ucon_state.specs.Shown.{right_names}
use Rattle.ucon_state.specs.Views.{lists_of}
use Rattle.ucon_state.proofs.Numbered.{numbers_are, row_is}
use Rattle.ucon_state.proofs.Stages.{numbered_now}
use Rattle.ucon_state.proofs.view.StateView.session.Goals as goal

pub row-requires : goal.row-requires
row-requires c =
    let P = checked_policy c.args.self.now.planned.checked in
    let R = right_names c.args.self.now in
    let t = lists_of c.args.self.now.tables in
    let numbered = numbered_now P R c.args.self.now.changes.items t c.args.self.now.sound in
    numbers_are R t c.args.session c.in_ok-session.session.now (sym c.in_ok-session.ensures) numbered

pub returns : goal.returns
returns c =
    let R = right_names c.args.self.now in
    let t = lists_of c.args.self.now.tables in
    ap Some c.row.ensures ∙ sym (row_is R t c.args.session c.in_ok-session.session.now (sym c.in_ok-session.ensures))
