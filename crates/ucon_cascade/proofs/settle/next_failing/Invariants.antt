use Rattle.std.proofs.Common.{◌≡◌, ◌≤◌, ℕ, length}
use Rattle.ucon_state.specs.Shown.{shown}
use Rattle.ucon_cascade.specs.Cascading.{IsWork}
use Rattle.ucon_cascade.specs.Paid.{StayPaid}
use Rattle.ucon_cascade.proofs.settle.next_failing.Given as goal

abbrev pub invariant-loop-n : goal.invariant-loop-n
invariant-loop-n l = record {
  work : (first : ℕ → ℕ) → IsWork (shown l.state) first l.initial.work.members → IsWork (shown l.state) first l.work.members;
  paid : (first : ℕ → ℕ) → IsWork (shown l.state) first l.initial.work.members → StayPaid (shown l.state) first l.initial.work.members l.work.members l.initial.steps l.steps;
  limit : l.work.limit ≡ l.initial.work.limit;
  later : l.initial.steps ≤ l.steps;
}

abbrev pub decreases-loop-n : goal.decreases-loop-n
decreases-loop-n l = length l.work.members
