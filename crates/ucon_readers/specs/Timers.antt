-- Which deadlines there are, and what undoing gives.
use Rattle.std.specs.Prelude.{◌≡◌, ℤ, List, Option, Some, None}
use Rattle.ucon_collections.specs.Deadlines.{AreAlike, Deadlines}
use Rattle.ucon_readers.specs.declared.timers.Timers.{Timers}

-- the deadline of each session, at the place that is its number
abbrev pub deadlines_in : Timers → List (Option ℤ)
deadlines_in t = t.deadlines.now

-- undoing gives deadlines alike these: those at the last keep, of what was replaced, if something was, else of what is there
pub data UndoGives (t : Timers) (before : List (Option ℤ)) : Type 0 where
  by_changes : t.replaced ≡ None → AreAlike before t.deadlines.opening → UndoGives t before
  by_replaced : (was : Deadlines) → t.replaced ≡ Some was → AreAlike before was.opening → UndoGives t before

-- there is nothing to undo
pub record IsKept (t : Timers) : Type 0 where
  pub none_changed : t.deadlines.opening ≡ t.deadlines.now
  pub none_replaced : t.replaced ≡ None
