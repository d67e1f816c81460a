-- Legal runs after a trace: also where no history is known that leads to it.
use Rattle.std.specs.Prelude.{◌≡◌, ℕ, ◌+◌, ◌-◌, ◌≤◌, Bool, IsTrue, List, [], length, take, count_by, ⊤}
use Rattle.std.specs.List.{list_any}
use Rattle.ucon_base.specs.Elements.{Each}
use Rattle.ucon_model.specs.Action.{Trace}
use Rattle.ucon_model.specs.Block.{reply}
use Rattle.ucon_model.specs.declared.command.Caller.{Caller}
use Rattle.ucon_model.specs.declared.command.Entry.{Entry}
use Rattle.ucon_model.specs.History.{History, changes, trace_from}
use Rattle.ucon_model.specs.LegalRun.{Answer, Answered, AreInOrder, AreNumberedFrom, by_place, disk_fault, history_made, is_disk_fault, is_stopped, no_memory, placed, recorded, stands_on, stopped}
use Rattle.ucon_model.specs.Plain.{PlainPolicy}

-- a placed reply is the serial run's, after a trace of so many entries and the entries behind it that the reply stands on
abbrev pub IsSaidAfter : PlainPolicy → Trace → ℕ → History → Entry → Answer → Type 0
IsSaidAfter P T entries behind line (placed place r) =
    (entries ≤ stands_on place r) × (stands_on place r ≤ entries + length behind)
    × (r ≡ reply P (trace_from P T (take (stands_on place r - entries) behind)) line.caller line.command)
IsSaidAfter P T entries behind line no_memory = ⊤
IsSaidAfter P T entries behind line disk_fault = ⊤
IsSaidAfter P T entries behind line stopped = ⊤

-- at most one line met a disk fault, and its reply after all would have changed something; lines are stopped by nothing else
pub record HaveCausesAfter (P : PlainPolicy) (T : Trace) (told : List Answered) : Type 0 where
  pub once : count_by (λ t. is_disk_fault t.answer) told ≤ 1
  pub would_change : Each (λ t. IsTrue (is_disk_fault t.answer) → IsTrue (changes (reply P T t.line.caller t.line.command))) told
  pub by_fault : IsTrue (list_any (λ t. is_stopped t.answer) told) → IsTrue (list_any (λ t. is_disk_fault t.answer) told)

-- The answers are a legal run after a trace of so many entries, as one after an opening history is. The entries that they make, by their places, are
-- the history that they make behind none.
pub record IsLegalRunAfter (P : PlainPolicy) (sees : Caller → Caller → Bool) (T : Trace) (entries : ℕ) (told : List Answered) : Type 0 where
  pub places : AreNumberedFrom entries (by_place (recorded told))
  pub replies : Each (λ t. IsSaidAfter P T entries (history_made [] told) t.line t.answer) told
  pub order : AreInOrder sees told
  pub causes : HaveCausesAfter P (trace_from P T (history_made [] told)) told
