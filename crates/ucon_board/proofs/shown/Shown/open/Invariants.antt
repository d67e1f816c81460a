use Rattle.std.proofs.Common.{◌≡◌, ◌++◌, map, drop, Some}
use Rattle.ucon_board.proofs.shown.Shown.open.Given as goal

abbrev pub invariant-loop-state : goal.invariant-loop-state
invariant-loop-state l = l.rows.items ++ map Some (drop l.state-index l.sessions) ≡ map Some l.fn.sessions
