use Rattle.std.proofs.Common.{length}
use Rattle.ucon_collections.specs.Undoing.{UndoGives, Who}
use Rattle.ucon_collections.proofs.lists.Lists.undo.Given as goal

-- what undoing gave, it gives still
abbrev pub invariant-loop-change : goal.invariant-loop-change
invariant-loop-change l = record {
  gives : (before : Who) → UndoGives l.initial.self before → UndoGives l.self before;
  some : (before : Who) × UndoGives l.initial.self before;
}

abbrev pub decreases-loop-change : goal.decreases-loop-change
decreases-loop-change l = length l.self.changes
