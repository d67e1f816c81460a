use Rattle.std.proofs.Common.{◌≡◌}
use Rattle.ucon_state.specs.Shown.{shown}
use Rattle.ucon_state.specs.Tables.{session_in}
use Rattle.ucon_audit.specs.Usages.{usages_to}
use Rattle.ucon_audit.proofs.accessing.usages.Given as goal

-- those of the sessions so far
abbrev pub invariant-loop-before : goal.invariant-loop-before
invariant-loop-before l = l.found.items ≡ usages_to (session_in (shown l.state).tables) l.before
