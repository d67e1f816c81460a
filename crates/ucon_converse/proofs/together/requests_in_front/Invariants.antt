use Rattle.std.proofs.Common.{◌≤◌, ◌<◌, ◌-◌, length, drop}
use Rattle.std.specs.List.{All}
use Rattle.ucon_converse.specs.Together.{AreInFront}
use Rattle.ucon_converse.proofs.together.requests_in_front.Given as goal

-- these stand in front, and so many bytes are theirs
abbrev pub invariant-loop-alloc : goal.invariant-loop-alloc
invariant-loop-alloc l = record {
  front : AreInFront l.limit l.lines.items l.came (drop l.at l.came);
  clients : All (λ e. e.caller.0 < 64) l.lines.items;
  few : length l.lines.items ≤ l.most;
  within : l.at ≤ length l.came;
}

abbrev pub decreases-loop-alloc : goal.decreases-loop-alloc
decreases-loop-alloc l = l.most - length l.lines.items
