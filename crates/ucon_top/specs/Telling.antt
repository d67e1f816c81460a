-- What a form that runs no line tells of a journal, and what it leaves on the disk.
use Rattle.std.specs.Prelude.{◌≡◌, ◌≢◌, ◌⊎◌, ℕ, length, Option, Some, IfSome, option_map, ⊤}
use Rattle.std.specs.Io.KnownBytes.{Appends}
use Rattle.ucon_audit.specs.Audited.{IsPrintedBy, audit_spelling}
use Rattle.ucon_audit.specs.Refusing.{IsRefusedBy}
use Rattle.ucon_audit.specs.Report.{line_of, tree}
use Rattle.ucon_disk.specs.Disk.{Only}
use Rattle.ucon_disk.specs.Run.{LeavesFrom}
use Rattle.ucon_disk.specs.Seen.{DiskSeen}
use Rattle.ucon_explain.specs.Text.{try_spelling}
use Rattle.ucon_flow.specs.Seen.{SinkSeen}
use Rattle.ucon_flow.specs.Writing.{AppendsPrefix}
use Rattle.ucon_journal.specs.Opened.{Untouched, opened}
use Rattle.ucon_model.specs.Action.{Trace}
use Rattle.ucon_model.specs.Document.{policy_part}
use Rattle.ucon_model.specs.History.{History, trace}
use Rattle.ucon_model.specs.Plain.{Bytes, PlainPolicy}
use Rattle.ucon_store.specs.declared.fault.StoreFault.{StoreFault}
use Rattle.ucon_store.specs.declared.fault.StoreFault.TheVariants as stores
use Rattle.ucon_store.specs.Found.{IsFoundBy}
use Rattle.ucon_store.specs.Points.{PolicyReading}
use Rattle.ucon_outcome.specs.declared.outcome.Outcome.{Outcome}
use Rattle.ucon_outcome.specs.declared.outcome.Outcome.TheVariants.{Done, SinkFault, DiskFault, Damaged, NotJournal, NoMemory, OtherPolicy}
use Rattle.ucon_top.specs.declared.form.Form.{Form}
use Rattle.ucon_top.specs.declared.form.Form.TheVariants.{Audit, Report, Explain}
use Rattle.ucon_top.specs.Accepted.{HasPolicy}
use Rattle.ucon_top.specs.Keeping.{KeepsFile}
use Rattle.ucon_top.specs.Own.{IsOwnStateBy}
use Rattle.ucon_top.specs.Played.{IsUnopenedBy}
use Rattle.ucon_top.specs.Pointed.{HasItsPoints, IsStillFoundBy}
use Rattle.ucon_top.specs.Seen.{IsAsBefore}

-- The bytes are those of a document whose policy is accepted. If the disk told its file, opening saw in it, under that policy, so many entries and
-- what is there after a trace, and of the trace this is so. Its records are kept. If it is found as a history, that has as many entries. It is still found
-- as it, with its checkpoints where they were, and the same is so of the history's trace. A file that opening alone accepts has none.
pub record IsOpenedStateBy (reads : PolicyReading) (bytes : Bytes) (old new : DiskSeen) (so : PlainPolicy → Trace → Type 0) : Type 0 where
  pub policy : PlainPolicy
  pub has_policy : HasPolicy bytes policy
  pub entries : ℕ
  pub actions : Trace
  pub own : IfSome old.contents (IsOwnStateBy reads (policy_part bytes) policy entries actions)
  pub is_so : so policy actions
  pub keeps : KeepsFile old new
  pub still : (file : Bytes) (opening : History) → old.contents ≡ Some file → IsFoundBy reads (policy_part bytes) file opening
      → (length opening ≡ entries) × IsStillFoundBy reads (policy_part bytes) file opening old new HasItsPoints HasItsPoints × so policy (trace policy opening)

-- The bytes are those of a document whose policy is accepted. Where the disk told its file, that is found as a history under that policy, and of both
-- this is so. The file is as it was, and a crash leaves nothing else; one of at most nine bytes is a journal without a record. So the file is still
-- found as the history, with its checkpoints where they were.
pub record IsCheckedStateBy (reads : PolicyReading) (bytes : Bytes) (old new : DiskSeen) (so : PlainPolicy → History → Bytes → Type 0) : Type 0 where
  pub policy : PlainPolicy
  pub has_policy : HasPolicy bytes policy
  pub found : IfSome old.contents (IsPrintedBy reads (policy_part bytes) so)
  pub as_it_was : new.contents ≡ option_map opened old.contents
  pub at_rest : Only new.contents new.images
  pub images_kept : LeavesFrom old new Untouched
  pub still : (file : Bytes) (opening : History) → old.contents ≡ Some file → IsFoundBy reads (policy_part bytes) file opening
      → IsStillFoundBy reads (policy_part bytes) file opening old new HasItsPoints HasItsPoints

-- What a full check under the policy of this text may make of a file: what was found is still found. Where nothing was, the file is as it was.
pub record ChecksBy (reads : PolicyReading) (text file c : Bytes) : Type 0 where
  pub same : (H : History) → IsFoundBy reads text file H → IsFoundBy reads text c H
  pub untouched : ((H : History) → IsFoundBy reads text file H → ⊥) → c ≡ file

-- A full check refuses the journal for this reason. But for a disk fault the file is as it was, where the disk told it; and a crash leaves what it
-- could leave before, or the file, in which the same is found.
pub record IsUncheckedBy (reads : PolicyReading) (fault : StoreFault) (text : Bytes) (old new : DiskSeen) : Type 0 where
  pub reason : IsRefusedBy reads fault text old.contents old.faults new.faults
  pub as_it_was : fault ≢ stores.DiskFault → IfSome old.contents (λ file. new.contents ≡ Some (opened file))
  pub images_kept : LeavesFrom old new Untouched
  pub still : LeavesFrom old new (ChecksBy reads text)

-- ---- by the form

-- the text that it tells, of which this is so, and what it leaves
abbrev pub TellsBy : PolicyReading → Form → Bytes → DiskSeen → DiskSeen → (so : Bytes → Type 0) → Type 0
TellsBy reads (Explain subject right object) bytes old new so =
    IsOpenedStateBy reads bytes old new (λ P T. so (try_spelling P T subject right object))
TellsBy reads (Audit kept) bytes old new so = IsCheckedStateBy reads bytes old new (λ P H file. so (audit_spelling kept (opened file) P H))
TellsBy reads Report bytes old new so = IsCheckedStateBy reads bytes old new (λ P H file. so (line_of (tree P H)))
TellsBy reads form bytes old new so = ⊥

-- why it tells nothing, and what it leaves then
abbrev pub TellsNothingBy : PolicyReading → Form → StoreFault → Bytes → DiskSeen → DiskSeen → Type 0
TellsNothingBy reads (Explain subject right object) fault bytes old new = IsUnopenedBy reads fault (policy_part bytes) old new
TellsNothingBy reads (Audit kept) fault bytes old new = IsUncheckedBy reads fault (policy_part bytes) old new
TellsNothingBy reads Report fault bytes old new = IsUncheckedBy reads fault (policy_part bytes) old new
TellsNothingBy reads form fault bytes old new = ⊥

-- ---- by how it ended

-- What holds of the disk, and of the sink, by how the telling ended: the text is whole, or the sink took a front of it; and otherwise nothing is
-- written. Otherwise than by the causes named here it made no call of the disk.
abbrev pub HasToldBy : PolicyReading → Form → Outcome → Bytes → DiskSeen → DiskSeen → SinkSeen → SinkSeen → Type 0
HasToldBy reads form Done bytes old new before now =
    TellsBy reads form bytes old new (Appends before.contents now.contents) × (new.faults ≡ old.faults)
HasToldBy reads form SinkFault bytes old new before now =
    TellsBy reads form bytes old new (AppendsPrefix before.contents now.contents) × (new.faults ≡ old.faults)
HasToldBy reads form DiskFault bytes old new before now = TellsNothingBy reads form stores.DiskFault bytes old new × (now ≡ before)
HasToldBy reads form NotJournal bytes old new before now = TellsNothingBy reads form stores.NotJournal bytes old new
HasToldBy reads form (Damaged number place) bytes old new before now = TellsNothingBy reads form (stores.Damaged number place) bytes old new
HasToldBy reads form (OtherPolicy place) bytes old new before now = TellsNothingBy reads form (stores.OtherPolicy place) bytes old new
HasToldBy reads form (NoMemory e) bytes old new before now =
    IsAsBefore old new ⊎ TellsNothingBy reads form (stores.NoMemory e) bytes old new
    ⊎ (TellsBy reads form bytes old new (λ text. ⊤) × (new.faults ≡ old.faults))
HasToldBy reads form outcome bytes old new before now = IsAsBefore old new

-- so it was told of some bytes, which are those of the input where the source tells them
pub record HasToldInputBy (reads : PolicyReading) (form : Form) (outcome : Outcome) (input : Option Bytes) (old new : DiskSeen)
    (before now : SinkSeen) : Type 0 where
  pub bytes : Bytes
  pub are : IfSome input (λ known. known ≡ bytes)
  pub told : HasToldBy reads form outcome bytes old new before now
