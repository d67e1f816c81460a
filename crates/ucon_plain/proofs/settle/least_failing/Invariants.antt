use Rattle.std.proofs.Common.{◌≡◌, ◌≤◌, ◌+◌, ◌-◌}
use Rattle.ucon_model.specs.Action.{Trace}
use Rattle.ucon_model.specs.Plain.{PlainPolicy}
use Rattle.ucon_model.specs.Settle.{least_from, least_failing}
use Rattle.ucon_state.specs.Following.{Follows}
use Rattle.ucon_state.specs.Shown.{shown}
use Rattle.ucon_plain.proofs.settle.least_failing.Given as goal

-- the sessions so far hold
abbrev pub invariant-loop-before : goal.invariant-loop-before
invariant-loop-before l = record {
  least : (P : PlainPolicy) (T : Trace) → Follows (shown l.state) P T → least_from P T (l.before + 1) (l.count - l.before) ≡ least_failing P T;
  later : l.initial.steps ≤ l.steps;
}
