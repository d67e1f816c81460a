use Rattle.std.proofs.Common.{◌≡◌, ◌++◌}
use Rattle.ucon_state.specs.Held.{held}
use Rattle.ucon_point.specs.PointText.{sessions_to}
use Rattle.ucon_point.proofs.writing.put_sessions.Given as goal

-- those of the sessions so far
abbrev pub invariant-loop-before : goal.invariant-loop-before
invariant-loop-before l = l.out.items ≡ l.fn.out.items ++ sessions_to (held l.state).session l.before
