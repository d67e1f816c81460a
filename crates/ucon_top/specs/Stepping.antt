-- What lines are answered over a store.
use Rattle.std.specs.Prelude.{◌≡◌, ◌⊎◌, ℕ, ◌+◌, Bool, IsTrue, IsSome, List, [], ◌∷◌, length, map, Option, Some, None, true, false}
use Rattle.ucon_model.specs.declared.command.Caller.{Caller}
use Rattle.ucon_model.specs.declared.command.Entry.{Entry}
use Rattle.ucon_model.specs.Action.{Trace}
use Rattle.ucon_model.specs.Block.{reply}
use Rattle.ucon_model.specs.Plain.{Bytes, PlainPolicy}
use Rattle.ucon_model.specs.History.{History, said, changes}
use Rattle.ucon_client.specs.LegalAfter.{IsLegalRunAfter}
use Rattle.ucon_model.specs.LegalRun.{Answer, Answered, disk_fault, stopped, IsLegalRun, IsNext, history_after, history_made}
use Rattle.ucon_model.specs.Output.{output, answers_read}
use Rattle.ucon_model.specs.StoredRun.{LeadsTo, failed_line}
use Rattle.ucon_store.specs.Kept.{Kept}
use Rattle.ucon_store.specs.Marks.{marked}
use Rattle.ucon_store.specs.Starts.{IsStart}
use Rattle.ucon_store.specs.Whole.{IsFront, trace_behind, whole}
use Rattle.ucon_top.specs.declared.line_answer.AnsweredLine.{AnsweredLine}
use Rattle.ucon_top.specs.Serial.{AreSerialAfter, IsNextAfter, count_after, count_behind, trace_after, trace_beyond}
use Rattle.ucon_client.specs.Answers.{answer_of}
use Rattle.ucon_trial.specs.OneAnswer.{entry_of}

-- a line with its answer, as the definitions have them
abbrev pub told_line : AnsweredLine → Answered
told_line a = record { line = entry_of a.line; answer = answer_of a.answer }

-- no step has failed, and the answer is the next one
pub record IsAnswered {D : Type 0} (P : PlainPolicy) (old new : Kept D) (e : Entry) (a : Answer) : Type 0 where
  pub unmarked : old.mark ≡ None
  pub next : IsNext P old.entries e a
  pub entries : new.entries ≡ history_after old.entries e a
  pub mark : new.mark ≡ None

-- the step would have changed something, and met a disk fault
pub record Fails {D : Type 0} (P : PlainPolicy) (old new : Kept D) (e : Entry) (a : Answer) : Type 0 where
  pub unmarked : old.mark ≡ None
  pub answer : a ≡ disk_fault
  pub would_change : IsTrue (changes (said P old.entries e.caller e.command))
  pub entries : new.entries ≡ old.entries
  pub mark : new.mark ≡ Some (e ∷ [])

-- an earlier step has failed
pub record IsStopped {D : Type 0} (old new : Kept D) (a : Answer) : Type 0 where
  pub failed : IsSome old.mark
  pub answer : a ≡ stopped
  pub entries : new.entries ≡ old.entries
  pub mark : new.mark ≡ old.mark

-- a line was answered so
abbrev pub Steps : {D : Type 0} → PlainPolicy → Kept D → Kept D → Entry → Answer → Type 0
Steps P old new e a = IsAnswered P old new e a ⊎ Fails P old new e a ⊎ IsStopped old new a

-- these lines were answered so, from a store to a store, whose mark is that of the step that failed, if one did
pub record HaveSteps {D : Type 0} (P : PlainPolicy) (old new : Kept D) (lines : List Entry) (told : List Answered) : Type 0 where
  pub lines_are : map (λ t. t.line) told ≡ lines
  pub failed : Option Entry
  pub mark : new.mark ≡ marked failed
  pub leads : LeadsTo P old.entries told new.entries failed

-- ---- behind a trace that leads to where the store begins

-- how many entries there are, those before the store's own among them
abbrev pub entries_of_all : {D : Type 0} → Kept D → ℕ
entries_of_all s = s.before + length s.entries

-- no step has failed, and the answer is the next one after the trace and the store's entries
pub record IsAnsweredAfter {D : Type 0} (P : PlainPolicy) (T : Trace) (old new : Kept D) (e : Entry) (a : Answer) : Type 0 where
  pub unmarked : old.mark ≡ None
  pub next : IsNextAfter P (trace_behind P T old) (entries_of_all old) e a
  pub trace_is : trace_behind P T new ≡ trace_after P (trace_behind P T old) e a
  pub count : entries_of_all new ≡ count_after (entries_of_all old) a
  pub mark : new.mark ≡ None

-- the step would have changed something there, and met a disk fault
pub record FailsAfter {D : Type 0} (P : PlainPolicy) (T : Trace) (old new : Kept D) (e : Entry) (a : Answer) : Type 0 where
  pub unmarked : old.mark ≡ None
  pub answer : a ≡ disk_fault
  pub would_change : IsTrue (changes (reply P (trace_behind P T old) e.caller e.command))
  pub mark : new.mark ≡ Some (e ∷ [])

-- a line was answered so
abbrev pub StepsAfter : {D : Type 0} → PlainPolicy → Trace → Kept D → Kept D → Entry → Answer → Type 0
StepsAfter P T old new e a = IsAnsweredAfter P T old new e a ⊎ FailsAfter P T old new e a ⊎ IsStopped old new a

-- lines were answered so, from a store to a store, whose mark is that of the line that met a disk fault, if one did
pub record AreAnsweredAfter {D : Type 0} (P : PlainPolicy) (T : Trace) (old new : Kept D) (told : List Answered) : Type 0 where
  pub serial : AreSerialAfter P (trace_behind P T old) (entries_of_all old) told
  pub mark : new.mark ≡ marked (failed_line told)

-- and a store without a mark is where the answers lead
pub record HaveStepsAfter {D : Type 0} (P : PlainPolicy) (T : Trace) (old new : Kept D) (told : List Answered) : Type 0 where
  pub answers : AreAnsweredAfter P T old new told
  pub trace_is : new.mark ≡ None → trace_behind P T new ≡ trace_beyond P (trace_behind P T old) told
  pub count : new.mark ≡ None → entries_of_all new ≡ count_behind (entries_of_all old) told

-- ---- a run over a store

-- The answers are a legal run behind a store's history, where `sees` tells whose earlier answers a caller saw, and they make another store's
-- history and mark.
pub record IsRunBetween {D : Type 0} (sees : Caller → Caller → Bool) (P : PlainPolicy) (old new : Kept D) (told : List Answered) : Type 0 where
  pub legal : IsLegalRun P sees old.entries told
  pub made : history_made old.entries told ≡ new.entries
  pub failed : new.mark ≡ marked (failed_line told)

-- The answers are a run after a trace of so many entries. If threads gave them it is a legal one, where `sees` tells whose earlier answers a caller
-- saw. Otherwise it is the serial one, in the order of the text.
abbrev pub AreRunAfter : (sees : Caller → Caller → Bool) (threads : Bool) → PlainPolicy → Trace → ℕ → List Answered → Type 0
AreRunAfter sees true P T n told = IsLegalRunAfter P sees T n told
AreRunAfter sees false P T n told = AreSerialAfter P T n told

-- So they are after a trace and a store's entries behind it, and they make another store's mark.
pub record IsRunAfter {D : Type 0} (sees : Caller → Caller → Bool) (threads : Bool) (P : PlainPolicy) (T : Trace) (old new : Kept D)
    (told : List Answered) : Type 0 where
  pub answers : AreRunAfter sees threads P (trace_behind P T old) (entries_of_all old) told
  pub failed : new.mark ≡ marked (failed_line told)

-- These lines were answered, and of their answers this is so. After each trace that leads to where the store begins they are such a run, and behind
-- each history that leads there.
pub record AreAnswered {D : Type 0} (sees : Caller → Caller → Bool) (threads : Bool) (P : PlainPolicy) (old new : Kept D) (lines : List Entry)
    (so : List Answered → Type 0) : Type 0 where
  pub told : List Answered
  pub lines_are : map (λ t. t.line) told ≡ lines
  pub after : (T : Trace) → IsStart P old.point old.before T → IsRunAfter sees threads P T old new told
  pub run : (G : History) → IsFront P old G → IsRunBetween sees P (whole G old) (whole G new) told
  pub is_so : so told

-- the answers of these lines are read back from their output, of which this is so
abbrev pub HaveOutput : (Bytes → Type 0) → List Entry → List Answered → Type 0
HaveOutput so lines told = (answers_read lines (output told) ≡ Some told) × so (output told)
