use Rattle.std.proofs.Common.{◌≡◌, ◌≤◌, length}
use Rattle.ucon_state.specs.Shown.{shown}
use Rattle.ucon_point.specs.Order.{beginning}
use Rattle.ucon_point.specs.PointRead.{rows_from}
use Rattle.ucon_point.specs.Standing.{HasLast, standing}
use Rattle.ucon_point.proofs.PutSoFar.{ArePutSoFar}
use Rattle.ucon_point.proofs.reading.put_rows.Given as goal

abbrev pub invariant-loop-line : goal.invariant-loop-line
invariant-loop-line l =
    let Q = (shown l.fn.state).policy in
    let s = standing beginning l.fn.state in
    ((shown l.state).policy ≡ Q) × HasLast l.reached.stage (shown l.state).tables
    × ArePutSoFar l.total Q s (rows_from l.total Q s l.fn.bytes) (standing l.reached l.state) l.rest × (length l.rest ≤ l.total)

abbrev pub decreases-loop-line : goal.decreases-loop-line
decreases-loop-line l = length l.rest
