use Rattle.std.proofs.Common.{length}
use Rattle.ucon_model.specs.Plain.{Bytes}
use Rattle.ucon_converse.specs.Together.{ArePut, all_stopped}
use Rattle.ucon_converse.proofs.together.put_stopped.Given as goal

-- what puts the others puts all
abbrev pub invariant-loop-asked : goal.invariant-loop-asked
invariant-loop-asked l = (new : Bytes) → ArePut (all_stopped l.lines) l.out.items new → ArePut (all_stopped l.initial.lines) l.initial.out.items new

abbrev pub decreases-loop-asked : goal.decreases-loop-asked
decreases-loop-asked l = length l.lines
