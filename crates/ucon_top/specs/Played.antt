-- What running a document over the disk of a journal leaves, and how it ends: in the order of the text, or each client in a thread of its own.
use Rattle.std.specs.Prelude.{◌≡◌, ◌≢◌, ◌⊎◌, ℕ, Bool, List, [], ◌∷◌, ◌++◌, length, map, Option, Some, None, Ok, IsSome, IfSome, ⊤}
use Rattle.std.specs.Io.KnownBytes.{Appends}
use Rattle.ucon_flow.specs.Writing.{AppendsPrefix}
use Rattle.ucon_disk.specs.Causes.{raised}
use Rattle.ucon_disk.specs.Run.{LeavesFrom, LeavesOnly}
use Rattle.ucon_journal.specs.Opened.{opened}
use Rattle.ucon_turn.specs.Lists.{Begins}
use Rattle.ucon_model.specs.declared.command.Caller.{Caller}
use Rattle.ucon_model.specs.declared.command.Entry.{Entry}
use Rattle.ucon_model.specs.Document.{ScriptLine, document_read, entries_of, policy_part}
use Rattle.ucon_model.specs.Action.{Trace}
use Rattle.ucon_model.specs.Plain.{Bytes, PlainPolicy}
use Rattle.ucon_model.specs.History.{History}
use Rattle.ucon_model.specs.LegalRun.{Answered, IsLegalRun, history_made}
use Rattle.ucon_model.specs.StoredRun.{failed_line}
use Rattle.ucon_store.specs.declared.fault.StoreFault.{StoreFault}
use Rattle.ucon_store.specs.declared.fault.StoreFault.TheVariants as stores
use Rattle.ucon_store.specs.Found.{IsFoundBy, IsFoundWithBy}
use Rattle.ucon_store.specs.Opening.{HasReasonBy, OpensBy}
use Rattle.ucon_top.specs.declared.form.Form.{Form}
use Rattle.ucon_outcome.specs.declared.outcome.Outcome.{Outcome}
use Rattle.ucon_outcome.specs.declared.outcome.Outcome.TheVariants.{Done, SinkFault, DiskFault, Damaged, NotJournal, NoMemory, OtherPolicy}
use Rattle.ucon_top.specs.Accepted.{HasPolicy}
use Rattle.ucon_top.specs.Form.{output_order, sees_by}
use Rattle.ucon_top.specs.Keeping.{KeepsFile}
use Rattle.ucon_top.specs.Own.{IsOwnStateBy}
use Rattle.ucon_top.specs.Traits.{traits}
use Rattle.ucon_trial.specs.Runs.{IsUnfaulted}
use Rattle.ucon_top.specs.Stepping.{AreRunAfter, HaveOutput}
use Rattle.ucon_disk.specs.Seen.{DiskSeen}
use Rattle.ucon_top.specs.Seen.{IsAsBefore}
use Rattle.ucon_flow.specs.Seen.{SinkSeen}
use Rattle.ucon_store.specs.Points.{PolicyReading}

-- a file is found as a history that has the opening one and begins this one, or as this one with the line that met a disk fault
pub record IsFoundSinceBy (reads : PolicyReading) (text : Bytes) (opening H : History) (failed : Option Entry) (file : Bytes) : Type 0 where
  pub history : History
  pub found : IsFoundBy reads text file history
  pub begun : Begins opening history
  pub within : Begins history H ⊎ ((e : Entry) × (failed ≡ Some e) × (history ≡ H ++ e ∷ []))

-- The answers are a legal run behind the history as which the file was found. If a line met a disk fault the disk's count rose by one, and
-- otherwise it didn't. A crash at any moment since leaves what a crash could leave before, or a file that is found as a beginning of the history
-- that is made. That beginning has the opening history. Or the file is found as the whole history with the line that met a disk fault. A crash now
-- leaves one that is found as the whole, or as it with that line.
pub record IsPlayedBy (reads : PolicyReading) (sees : Caller → Caller → Bool) (text : Bytes) (P : PlainPolicy) (file : Bytes) (opening : History)
    (old new : DiskSeen) (told : List Answered) : Type 0 where
  pub legal : IsLegalRun P sees opening told
  pub unfailed : failed_line told ≡ None → new.faults ≡ old.faults
  pub failed : (e : Entry) → failed_line told ≡ Some e → new.faults ≡ raised old.faults
  pub since : LeavesOnly old new (λ c. old.images c ⊎ IsFoundSinceBy reads text opening (history_made opening told) (failed_line told) c)
  pub now : (c : Bytes) → new.images c → IsFoundWithBy reads text (history_made opening told) (failed_line told) c

-- The answers are a run after a trace of so many entries: a legal one where each client has a thread, and otherwise the serial one. If a line met a
-- disk fault the disk's count rose by one, and otherwise it didn't.
pub record IsAnsweredFrom (form : Form) (P : PlainPolicy) (T : Trace) (entries : ℕ) (old new : DiskSeen) (told : List Answered) : Type 0 where
  pub answers : AreRunAfter (sees_by form) (traits form).threads P T entries told
  pub unfailed : failed_line told ≡ None → new.faults ≡ old.faults
  pub failed : (e : Entry) → failed_line told ≡ Some e → new.faults ≡ raised old.faults

-- The policy part of the bytes is accepted, and lines that are so were answered. Of the lines and their answers this is so, and the answers have
-- these causes, whatever the disk tells. If the disk told its file, opening saw a fresh one, or a journal under the document's policy. In it were so
-- many entries, and what is there after these actions. The answers are a run after those. That holds also of a file that opening alone accepts, and
-- after some actions of a disk that tells nothing. The records of the file are kept. If it is found as a history, the lines were played behind that.
pub record IsRunOverBy (reads : PolicyReading) (form : Form) (bytes : Bytes) (are : List ScriptLine → Type 0) (old new : DiskSeen)
    (causes : List Answered → Type 0) (so : List Entry → List Answered → Type 0) : Type 0 where
  pub policy : PlainPolicy
  pub lines : List ScriptLine
  pub has_policy : HasPolicy bytes policy
  pub says : are lines
  pub entries : ℕ
  pub actions : Trace
  pub own : IfSome old.contents (IsOwnStateBy reads (policy_part bytes) policy entries actions)
  pub keeps : KeepsFile old new
  pub told : List Answered
  pub lines_are : map (λ t. t.line) told ≡ output_order form (entries_of lines)
  pub is_so : so (output_order form (entries_of lines)) told
  pub caused : causes told
  pub after : IsAnsweredFrom form policy actions entries old new told
  pub run : (file : Bytes) (opening : History) → old.contents ≡ Some file → IsFoundBy reads (policy_part bytes) file opening
      → (length opening ≡ entries) × IsPlayedBy reads (sees_by form) (policy_part bytes) policy file opening old new told

-- the lines are those of a document that is accepted
abbrev pub AreOf : PolicyReading → Bytes → List ScriptLine → Type 0
AreOf reads bytes lines = document_read reads bytes ≡ Ok lines

-- The journal wasn't opened for this reason. But for a disk fault the file is as it was; one of at most nine bytes is a journal without a record. A
-- crash leaves what it could leave before, or a file in which what was found is still found, and which is as it was if it is foreign.
pub record IsUnopenedBy (reads : PolicyReading) (fault : StoreFault) (text : Bytes) (old new : DiskSeen) : Type 0 where
  pub reason : HasReasonBy reads fault text old.contents old.faults new.faults
  pub as_it_was : fault ≢ stores.DiskFault → IfSome old.contents (λ file. new.contents ≡ Some (opened file))
  pub images_kept : LeavesFrom old new (OpensBy reads text)

-- What holds of the disk, and of the sink, by how playing ended. Otherwise than by the causes named here it made no call of the disk.
abbrev pub HasPlayedBy : PolicyReading → Form → Outcome → Bytes → DiskSeen → DiskSeen → SinkSeen → SinkSeen → Type 0
HasPlayedBy reads form Done bytes old new before now =
    IsRunOverBy reads form bytes (AreOf reads bytes) old new (λ told. (failed_line told ≡ None) × IsUnfaulted told)
    (HaveOutput (Appends before.contents now.contents))
    × (new.faults ≡ old.faults)
HasPlayedBy reads form SinkFault bytes old new before now =
    IsRunOverBy reads form bytes (AreOf reads bytes) old new (λ told. ⊤) (HaveOutput (AppendsPrefix before.contents now.contents))
HasPlayedBy reads form DiskFault bytes old new before now =
    IsRunOverBy reads form bytes (AreOf reads bytes) old new (λ told. IsSome (failed_line told)) (HaveOutput (Appends before.contents now.contents))
    ⊎ (IsUnopenedBy reads stores.DiskFault (policy_part bytes) old new × (now ≡ before))
HasPlayedBy reads form NotJournal bytes old new before now = IsUnopenedBy reads stores.NotJournal (policy_part bytes) old new
HasPlayedBy reads form (Damaged number place) bytes old new before now = IsUnopenedBy reads (stores.Damaged number place) (policy_part bytes) old new
HasPlayedBy reads form (OtherPolicy place) bytes old new before now = IsUnopenedBy reads (stores.OtherPolicy place) (policy_part bytes) old new
HasPlayedBy reads form (NoMemory e) bytes old new before now =
    IsAsBefore old new ⊎ IsUnopenedBy reads (stores.NoMemory e) (policy_part bytes) old new
    ⊎ IsRunOverBy reads form bytes (AreOf reads bytes) old new (λ told. ⊤) (λ lines told. ⊤)
HasPlayedBy reads form outcome bytes old new before now = IsAsBefore old new

-- so it was played over some bytes, which are those of the input if the source tells them
pub record HasPlayedInputBy (reads : PolicyReading) (form : Form) (outcome : Outcome) (input : Option Bytes) (old new : DiskSeen)
    (before now : SinkSeen) : Type 0 where
  pub bytes : Bytes
  pub are : IfSome input (λ known. known ≡ bytes)
  pub played : HasPlayedBy reads form outcome bytes old new before now
