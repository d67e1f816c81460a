use Rattle.std.proofs.Common.{◌∙◌, ap, is_some, arith}
use Rattle.ucon_model.specs.Checked.{checked_policy}
use Rattle.ucon_state.specs.Shown.{right_names}
use Rattle.ucon_state.specs.Views.{lists_of}
use Rattle.ucon_state.proofs.Places.{cell_where_declared}
use Rattle.ucon_state.proofs.Stages.{sound_now}
use Rattle.ucon_state.proofs.state.State.cell.Goals as goal

pub cell_number-requires : goal.cell_number-requires
cell_number-requires c = sound_now (checked_policy c.args.self.now.planned.checked) (right_names c.args.self.now) c.args.self.now.changes.items (lists_of c.args.self.now.tables) c.args.self.now.sound

pub returns-in_err-cell-clause-declared : goal.returns-in_err-cell-clause-declared
returns-in_err-cell-clause-declared c =
    let P = checked_policy c.args.self.now.planned.checked in
    let R = right_names c.args.self.now in
    let t = lists_of c.args.self.now.tables in
    ap is_some (c.from_residual.ensures ∙ c.in_err-cell.ensures.cell) ∙ cell_where_declared P t c.args.side c.args.entity c.args.attr.now c.requires

pub overflow_cast-result : goal.overflow_cast-result
overflow_cast-result c =
    let P = checked_policy c.args.self.now.planned.checked in
    let R = right_names c.args.self.now in
    let t = lists_of c.args.self.now.tables in
    let now = sound_now P R c.args.self.now.changes.items t c.args.self.now.sound in
    omega (arith, now.subjects, now.objects, now.cells, c.in_ok-cell.ensures.there)

pub returns-clause-declared : goal.returns-clause-declared
returns-clause-declared c =
    let P = checked_policy c.args.self.now.planned.checked in
    let R = right_names c.args.self.now in
    let t = lists_of c.args.self.now.tables in
    ap is_some c.in_ok-cell.ensures.cell ∙ cell_where_declared P t c.args.side c.args.entity c.args.attr.now c.requires
