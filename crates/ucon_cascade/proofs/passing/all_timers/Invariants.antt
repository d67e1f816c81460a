use Rattle.std.proofs.Common.{◌+◌}
use Rattle.ucon_actions.specs.Leads.{AfterEach}
use Rattle.ucon_readers.specs.Timers.{deadlines_in}
use Rattle.ucon_state.specs.Shown.{shown}
use Rattle.ucon_cascade.specs.Timely.{AreTimedBelow}
use Rattle.ucon_cascade.proofs.passing.all_timers.Given as goal

-- so many sessions have their deadlines
abbrev pub invariant-loop-before : goal.invariant-loop-before
invariant-loop-before l = AfterEach (shown l.state) (AreTimedBelow (l.before + 1) (deadlines_in l.timers))
