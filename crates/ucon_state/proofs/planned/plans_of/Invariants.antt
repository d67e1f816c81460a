use Rattle.std.proofs.Common.{◌≡◌, length}
use Rattle.ucon_model.specs.Views.{policy_of}
use Rattle.ucon_state.specs.Planned.{ArePlans}
use Rattle.ucon_state.proofs.planned.plans_of.Given as goal

-- so many plans as there were rights, each at the position of its right
abbrev pub invariant-loop-right : goal.invariant-loop-right
invariant-loop-right l = record {
  plans : ArePlans (policy_of l.policy) l.plans.items;
  count : length l.plans.items ≡ l.right-index;
}
