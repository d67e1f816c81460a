-- A run in text order over a store, whose disk may fail once.
use Rattle.std.specs.Prelude.{◌≡◌, ◌⊎◌, IsTrue, List, [], ◌∷◌, Option, Some, None, if◌then◌else◌}
use Rattle.ucon_base.specs.Elements.{Each}
use Rattle.ucon_model.specs.declared.command.Entry.{Entry}
use Rattle.ucon_model.specs.Plain.{PlainPolicy}
use Rattle.ucon_model.specs.History.{History, said, changes}
use Rattle.ucon_model.specs.LegalRun.{Answered, disk_fault, stopped, is_disk_fault, history_after, IsNext}

-- the line that met a disk fault, if one did
abbrev pub failed_line : List Answered → Option Entry
failed_line [] = None
failed_line (t ∷ told) = if is_disk_fault t.answer then Some t.line else failed_line told

-- a line met a disk fault, whose reply would have changed something, and the lines behind it are stopped
pub record BreaksOff (P : PlainPolicy) (H : History) (t : Answered) (behind : List Answered) : Type 0 where
  pub failed : t.answer ≡ disk_fault
  pub would_change : IsTrue (changes (said P H t.line.caller t.line.command))
  pub stops : Each (λ later. later.answer ≡ stopped) behind

-- Answers in text order lead from a history to a history. Each is the next after those before it, up to the line that met a disk fault, if one
-- did.
abbrev pub LeadsTo : PlainPolicy → History → List Answered → History → Option Entry → Type 0
LeadsTo P G [] H failed = (H ≡ G) × (failed ≡ None)
LeadsTo P G (t ∷ told) H failed =
    (IsNext P G t.line t.answer × LeadsTo P (history_after G t.line t.answer) told H failed)
    ⊎ (BreaksOff P G t told × (H ≡ G) × (failed ≡ Some t.line))
