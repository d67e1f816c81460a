-- Answers in the order of the text, after a trace: also where no history is known that leads to it.
use Rattle.std.specs.Prelude.{◌≡◌, ◌⊎◌, ℕ, ◌+◌, IsTrue, List, [], ◌∷◌, if◌then◌else◌, ⊤}
use Rattle.ucon_base.specs.Elements.{Each}
use Rattle.ucon_model.specs.Action.{Trace}
use Rattle.ucon_model.specs.Block.{after, reply}
use Rattle.ucon_model.specs.History.{changes}
use Rattle.ucon_model.specs.LegalRun.{Answer, Answered, disk_fault, no_memory, placed, stopped}
use Rattle.ucon_model.specs.Plain.{PlainPolicy}
use Rattle.ucon_model.specs.declared.command.Entry.{Entry}

-- how many entries there are after an answer, if there were so many before
abbrev pub count_after : ℕ → Answer → ℕ
count_after n (placed place r) = if changes r then n + 1 else n
count_after n no_memory = n
count_after n disk_fault = n
count_after n stopped = n

-- the trace after the answer to a line
abbrev pub trace_after : PlainPolicy → Trace → Entry → Answer → Trace
trace_after P T line (placed place r) = if changes r then after P T line.caller line.command else T
trace_after P T line no_memory = T
trace_after P T line disk_fault = T
trace_after P T line stopped = T

-- out of memory, or the reply after the trace, at its place behind so many entries
abbrev pub IsNextAfter : PlainPolicy → Trace → ℕ → Entry → Answer → Type 0
IsNextAfter P T n line no_memory = ⊤
IsNextAfter P T n line (placed place r) = (r ≡ reply P T line.caller line.command) × (place ≡ count_after n (placed place r))
IsNextAfter P T n line disk_fault = ⊥
IsNextAfter P T n line stopped = ⊥

-- a line met a disk fault, whose reply after the trace would have changed something, and the lines behind it are stopped
pub record BreaksOffAfter (P : PlainPolicy) (T : Trace) (t : Answered) (behind : List Answered) : Type 0 where
  pub failed : t.answer ≡ disk_fault
  pub would_change : IsTrue (changes (reply P T t.line.caller t.line.command))
  pub stops : Each (λ later. later.answer ≡ stopped) behind

-- Each answer is the next one after the trace, of so many entries, and the answers before it, up to the line that met a disk fault, if one did.
abbrev pub AreSerialAfter : PlainPolicy → Trace → ℕ → List Answered → Type 0
AreSerialAfter P T n [] = ⊤
AreSerialAfter P T n (t ∷ told) =
    (IsNextAfter P T n t.line t.answer × AreSerialAfter P (trace_after P T t.line t.answer) (count_after n t.answer) told)
    ⊎ BreaksOffAfter P T t told

-- ---- after several answers

abbrev pub count_behind : ℕ → List Answered → ℕ
count_behind n [] = n
count_behind n (t ∷ told) = count_behind (count_after n t.answer) told

abbrev pub trace_beyond : PlainPolicy → Trace → List Answered → Trace
trace_beyond P T [] = T
trace_beyond P T (t ∷ told) = trace_beyond P (trace_after P T t.line t.answer) told
