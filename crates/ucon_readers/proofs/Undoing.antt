-- What undoing gives, after one change more and where nothing was changed.
use Rattle.std.proofs.Common.{◌≡◌, ◌∙◌, ℤ, List, ap}
use Rattle.std.specs.Prelude.{Option}
use Rattle.ucon_collections.specs.Deadlines.{AreAlike, deadline_of}
use Rattle.ucon_readers.specs.Timers.{IsKept, UndoGives, by_changes, by_replaced, deadlines_in}
use Rattle.ucon_readers.specs.declared.timers.Timers.{Timers}

-- a change of the deadlines changes nothing of where undoing leads to
pub gives_still : (t t' : Timers) (before : List (Option ℤ)) → t'.replaced ≡ t.replaced → AreAlike t.deadlines.opening t'.deadlines.opening → UndoGives t before → UndoGives t' before
gives_still t t' before replaced alike (by_changes none back) = by_changes (replaced ∙ none) (λ n. alike n ∙ back n)
gives_still t t' before replaced alike (by_replaced was is back) = by_replaced was (replaced ∙ is) back

-- where there is nothing to undo, undoing gives what is there
pub kept_gives_deadlines : (t : Timers) → IsKept t → UndoGives t (deadlines_in t)
kept_gives_deadlines t kept = by_changes kept.none_replaced (λ n. ap (λ (ds : List (Option ℤ)). deadline_of ds n) kept.none_changed)
