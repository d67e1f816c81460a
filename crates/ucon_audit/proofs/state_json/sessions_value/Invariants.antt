use Rattle.std.proofs.Common.{◌≡◌, map}
use Rattle.serde_json.specs.View.{view}
use Rattle.ucon_state.specs.Held.{held}
use Rattle.ucon_audit.specs.Report.{sessions_to}
use Rattle.ucon_audit.proofs.state_json.sessions_value.Given as goal

-- those of the sessions so far
abbrev pub invariant-loop-before : goal.invariant-loop-before
invariant-loop-before l = map view l.sessions.items ≡ sessions_to (held l.state).session l.before
