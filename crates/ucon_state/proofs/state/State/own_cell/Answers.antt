use Rattle.std.proofs.Common.{◌∙◌, sym, ap, option_and_then}
use Rattle.ucon_model.specs.Checked.{checked_policy}
use Rattle.ucon_model.specs.Updates.{entity_of}
use Rattle.ucon_state.specs.Shown.{right_names}
use Rattle.ucon_state.specs.Stored.{named}
use Rattle.ucon_state.specs.Tables.{cell_of, session_in}
use Rattle.ucon_state.specs.Views.{lists_of}
use Rattle.ucon_state.proofs.Numbered.{numbers_are, object_cell, subject_cell}
use Rattle.ucon_state.proofs.Stages.{numbered_now}
use Rattle.ucon_state.proofs.state.State.own_cell.Goals as goal

pub cell-requires : goal.cell-requires
cell-requires c =
    let P = checked_policy c.args.self.now.planned.checked in
    let R = right_names c.args.self.now in
    let t = lists_of c.args.self.now.tables in
    let numbered = numbered_now P R c.args.self.now.changes.items t c.args.self.now.sound in
    (numbers_are R t c.args.session c.in_ok-session.session.now (sym c.in_ok-session.ensures) numbered).subject

pub cell-requires-in-Object : goal.cell-requires-in-Object
cell-requires-in-Object c =
    let P = checked_policy c.args.self.now.planned.checked in
    let R = right_names c.args.self.now in
    let t = lists_of c.args.self.now.tables in
    let numbered = numbered_now P R c.args.self.now.changes.items t c.args.self.now.sound in
    (numbers_are R t c.args.session c.in_ok-session.session.now (sym c.in_ok-session.ensures) numbered).object

pub returns-in-Subject-clause-cell : goal.returns-in-Subject-clause-cell
returns-in-Subject-clause-cell c =
    let P = checked_policy c.args.self.now.planned.checked in
    let R = right_names c.args.self.now in
    let t = lists_of c.args.self.now.tables in
    let numbered = numbered_now P R c.args.self.now.changes.items t c.args.self.now.sound in
    c.cell.ensures.cell
    ∙ subject_cell R t c.args.session c.in_ok-session.session.now (sym c.in_ok-session.ensures) P numbered c.args.attr.now
    ∙ ap (λ side. option_and_then (λ row. cell_of P (named R t) side (entity_of side row) c.args.attr.now) (session_in (named R t) c.args.session)) (sym c.in-Subject.is)

pub returns-in-Object-clause-cell : goal.returns-in-Object-clause-cell
returns-in-Object-clause-cell c =
    let P = checked_policy c.args.self.now.planned.checked in
    let R = right_names c.args.self.now in
    let t = lists_of c.args.self.now.tables in
    let numbered = numbered_now P R c.args.self.now.changes.items t c.args.self.now.sound in
    c.cell-in-Object.ensures.cell
    ∙ object_cell R t c.args.session c.in_ok-session.session.now (sym c.in_ok-session.ensures) P numbered c.args.attr.now
    ∙ ap (λ side. option_and_then (λ row. cell_of P (named R t) side (entity_of side row) c.args.attr.now) (session_in (named R t) c.args.session)) (sym c.in-Object.is)
