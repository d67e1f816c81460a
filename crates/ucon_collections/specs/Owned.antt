-- Which deadlines there were before what was changed. No public clause of the heap cites this module.
use Rattle.std.specs.Prelude.{◌<◌, ℤ, List, [], ◌∷◌, Option, length, slice_set}
use Rattle.std.specs.List.{All}
use Rattle.ucon_collections.specs.Deadlines.{Deadlines}
use Rattle.ucon_collections.specs.declared.owned.DeadlineChange.{DeadlineChange}
use Rattle.ucon_collections.specs.declared.owned.Owned.TheInside.{Inside}

-- each change's session gets what it had before, the newest change first
abbrev pub undone : List DeadlineChange → List (Option ℤ) → List (Option ℤ)
undone [] deadlines = deadlines
undone (change ∷ later) deadlines = slice_set (undone later deadlines) change.session change.before

abbrev pub deadlines_in : Inside → Deadlines
deadlines_in o = record { now = o.deadlines.items; opening = undone o.changes.items o.deadlines.items }

-- each changed session has a place
abbrev pub AreInPlace : Inside → Type 0
AreInPlace o = All (λ change. change.session < length o.deadlines.items) o.changes.items
