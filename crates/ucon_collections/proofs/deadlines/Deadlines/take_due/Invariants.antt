use Rattle.std.proofs.Common.{◌≡◌, length}
use Rattle.ucon_collections.specs.Sound.{IsSound}
use Rattle.ucon_collections.proofs.deadlines.Deadlines.take_due.Given as goal

abbrev pub invariant-loop-deadline : goal.invariant-loop-deadline
invariant-loop-deadline l = record {
  same : l.self-inside.owned ≡ l.fn.self;
  sound : IsSound l.self-inside.owned l.self-inside.queue;
}

abbrev pub decreases-loop-deadline : goal.decreases-loop-deadline
decreases-loop-deadline l = length l.self-inside.queue.waiting
