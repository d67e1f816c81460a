use Rattle.std.proofs.Common.{◌≡◌, refl, arith, map, Some}
use Rattle.ucon_board.proofs.RowsKept.{all_through, filled_up}
use Rattle.ucon_board.proofs.shown.Shown.open.Goals as goal

pub returns : goal.returns
returns c =
    let rows = c.loop-state.rows.items in
    let all : rows ≡ map Some c.args.sessions.now = all_through _ c.args.sessions.now rows c.loop-state.invariant (omega (arith, c.loop-state-test.false)) in
    (refl, filled_up 1048576 _ c.args.sessions.now rows c.resize.new.self.items all c.requires (omega (arith, c.loop-state.rows.ok.0)) c.in_ok-resize.ensures.items, refl)
