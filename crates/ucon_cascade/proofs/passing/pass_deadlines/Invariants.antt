use Rattle.std.proofs.Common.{◌≡◌, ◌∷◌, ℤ, List}
use Rattle.std.specs.Prelude.{Option}
use Rattle.ucon_model.specs.Action.{Trace, tick}
use Rattle.ucon_model.specs.Plain.{PlainPolicy}
use Rattle.ucon_state.specs.Following.{Follows}
use Rattle.ucon_state.specs.Shown.{shown}
use Rattle.ucon_collections.specs.Deadlines.{count_below}
use Rattle.ucon_readers.specs.Timers.{UndoGives, deadlines_in}
use Rattle.ucon_cascade.specs.Passing.{IsPassing}
use Rattle.ucon_cascade.proofs.passing.pass_deadlines.Given as goal

-- the tick is passing deadlines
abbrev pub invariant-loop-n : goal.invariant-loop-n
invariant-loop-n l = record {
  passing : (P : PlainPolicy) (T : Trace) (t : ℤ) → Follows (shown l.state) P (tick t ∷ T) → IsPassing (deadlines_in l.initial.timers) l.initial.work.members P T t
      → IsPassing (deadlines_in l.timers) l.work.members P T t;
  limit : l.work.limit ≡ l.initial.work.limit;
  undo : (before : List (Option ℤ)) → UndoGives l.initial.timers before → UndoGives l.timers before;
}

abbrev pub decreases-loop-n : goal.decreases-loop-n
decreases-loop-n l = count_below (deadlines_in l.timers) (shown l.state).tables.tick
