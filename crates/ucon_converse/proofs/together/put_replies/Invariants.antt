use Rattle.std.proofs.Common.{◌≤◌, length}
use Rattle.ucon_model.specs.Plain.{Bytes}
use Rattle.ucon_converse.specs.Together.{ArePut, replied}
use Rattle.ucon_converse.proofs.together.put_replies.Given as goal

-- what puts the others puts all
abbrev pub invariant-loop-one : goal.invariant-loop-one
invariant-loop-one l = record {
  few : length l.replies ≤ length l.left;
  puts : (new : Bytes) → ArePut (replied l.left l.replies) l.out.items new → ArePut (replied l.initial.left l.initial.replies) l.initial.out.items new;
}

abbrev pub decreases-loop-one : goal.decreases-loop-one
decreases-loop-one l = length l.replies
