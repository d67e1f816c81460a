-- The list of a store behind a turn, part by part: the entries of its history and, after a disk fault, one mark with the entry that failed.
use Rattle.std.specs.Prelude.{◌≡◌, List, [], ◌∷◌, if◌then◌else◌, ⊤}
use Rattle.ucon_model.specs.declared.command.Entry.{Entry}
use Rattle.ucon_model.specs.History.{History, changes}
use Rattle.ucon_model.specs.LegalRun.{Answer, no_memory, disk_fault, stopped, placed}
use Rattle.ucon_store.specs.declared.event.Event.{Event}
use Rattle.ucon_store.specs.declared.event.Event.TheVariants.{Done, Failed}

-- the entries of the history
abbrev pub entries_in : List Event → History
entries_in [] = []
entries_in (Done e ∷ log) = e ∷ entries_in log
entries_in (Failed e ∷ log) = entries_in log

-- the entries that failed
abbrev pub marks_in : List Event → List Entry
marks_in [] = []
marks_in (Done e ∷ log) = marks_in log
marks_in (Failed e ∷ log) = e ∷ marks_in log

-- nothing follows a mark
abbrev pub EndsAtMark : List Event → Type 0
EndsAtMark [] = ⊤
EndsAtMark (Done e ∷ log) = EndsAtMark log
EndsAtMark (Failed e ∷ log) = log ≡ []

-- what a line's step appends, by its answer
abbrev pub appended : Entry → Answer → List Event
appended line (placed place reply) = if changes reply then Done line ∷ [] else []
appended line no_memory = []
appended line disk_fault = Failed line ∷ []
appended line stopped = []
