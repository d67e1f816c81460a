use Rattle.std.proofs.Common.{◌∙◌, Some, None}
use Rattle.ucon_state.specs.Shown.{shown}
use Rattle.ucon_cascade.proofs.Numbers.{own_place}
use Rattle.ucon_cascade.proofs.places.place_of_session.Goals as goal

pub returns-in_err-cell : goal.returns-in_err-cell
returns-in_err-cell c = λ row is. c.from_residual.ensures ∙ own_place (shown c.args.state.now) c.args.n c.args.side c.args.attr.now row None is c.in_err-cell.ensures.cell

pub returns : goal.returns
returns c = λ row is.
    c.place_of_cell.ensures ∙ own_place (shown c.args.state.now) c.args.n c.args.side c.args.attr.now row (Some c.in_ok-cell.cell) is c.in_ok-cell.ensures.cell
