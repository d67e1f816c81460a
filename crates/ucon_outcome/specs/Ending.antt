-- How a run ends.
use Rattle.std.specs.Prelude.{◌≡◌, ◌≢◌, ℕ, Bool, true, false, IsTrue, IsFalse}
use Rattle.ucon_flow.specs.Causes.{raised}
use Rattle.ucon_outcome.specs.declared.outcome.Outcome.{Outcome}
use Rattle.ucon_outcome.specs.declared.outcome.Outcome.TheVariants.{Done, Usage, Policy, Script, SourceFault, SinkFault, DiskFault, Damaged}
use Rattle.ucon_outcome.specs.declared.outcome.Outcome.TheVariants.{NotJournal, NoMemory, OtherPolicy, TooLong, FullPoint, OldJournal}
use Rattle.ucon_flow.specs.declared.source.ReadFault.{ReadFault}
use Rattle.ucon_flow.specs.declared.source.ReadFault.TheVariants as reads
use Rattle.ucon_syntax.specs.declared.read.SyntaxFault.{SyntaxFault}
use Rattle.ucon_syntax.specs.declared.read.SyntaxFault.TheVariants as syntax
use Rattle.ucon_check.specs.declared.fault.CheckFault.{CheckFault}
use Rattle.ucon_script.specs.declared.doc_fault.DocFault.{DocFault}
use Rattle.ucon_script.specs.declared.doc_fault.DocFault.TheVariants as scripts
use Rattle.ucon_store.specs.declared.fault.PointFault.{PointFault}
use Rattle.ucon_store.specs.declared.fault.PointFault.TheVariants as points
use Rattle.ucon_store.specs.declared.fault.StoreFault.{StoreFault}
use Rattle.ucon_store.specs.declared.fault.StoreFault.TheVariants as stores
use Rattle.ucon_outcome.specs.declared.outcome.PolicyFault.TheVariants.{Syntax, Typing}
use Rattle.ucon_outcome.specs.declared.outcome.Refused.{Refused}
use Rattle.ucon_outcome.specs.declared.outcome.Refused.TheVariants as refusals

-- What is so of each run that ended in one way.
pub record Row : Type 0 where
  -- it may have had its document; that was refused; it was accepted
  pub had : Bool
  pub refused : Bool
  pub accepted : Bool
  -- it may have made a call of the disk; its journal may have been open; it may have written something
  pub touched : Bool
  pub opened : Bool
  pub wrote : Bool
  -- the disk or the journal on it ended it; a checkpoint did; it may end so if nothing hinders it
  pub by_disk : Bool
  pub by_point : Bool
  pub complete : Bool
  -- its number, with which the program ends
  pub status : ℕ

abbrev row : Bool → Bool → Bool → Bool → Bool → Bool → Bool → Bool → Bool → ℕ → Row
row had refused accepted touched opened wrote by_disk by_point complete status = record {
  had = had;
  refused = refused;
  accepted = accepted;
  touched = touched;
  opened = opened;
  wrote = wrote;
  by_disk = by_disk;
  by_point = by_point;
  complete = complete;
  status = status;
}

abbrev pub y : Bool
y = true

abbrev pub n : Bool
n = false

-- Each way to end with its row, from which the words of an ending are read.
--      had
--      | refused
--      | | accepted
--      | | | touched
--      | | | | opened
--      | | | | | wrote
--      | | | | | | by_disk
--      | | | | | | | by_point
--      | | | | | | | | complete
--      | | | | | | | | | status
abbrev pub ending : Outcome → Row
ending Done =
    row y n y y y y n n y 0
ending Usage =
    row n n n n n n n n n 1
ending (Policy f) =
    row y y n n n n n n n 2
ending (Script f) =
    row y y n n n n n n n 3
ending SourceFault =
    row n n n n n n n n n 4
ending SinkFault =
    row y n y y y y n n n 5
ending DiskFault =
    row y n y y y y y n n 6
ending (Damaged number place) =
    row y n y y n n y n n 7
ending NotJournal =
    row y n y y n n y n n 8
ending (NoMemory e) =
    row y n n y y n n n y 9
ending (OtherPolicy place) =
    row y n y y n n y n n 10
ending TooLong =
    row n n n n n n n n n 11
ending (FullPoint size) =
    row y n y y y n y y y 13
ending OldJournal =
    row y n y y y n y y y 14

-- the outcome's number
abbrev pub status_of : Outcome → ℕ
status_of outcome = (ending outcome).status

-- a count of faults, before and after: one more if the run ended by this fault, and otherwise as it was
abbrev pub IsCounted : (outcome fault : Outcome) → (before now : ℕ) → Type 0
IsCounted outcome fault before now = (outcome ≡ fault → now ≡ raised before) × (outcome ≢ fault → now ≡ before)

-- what refuses a document whose policy part has this fault, whose policy has this one, or whose script has this one
abbrev pub by_syntax : SyntaxFault → Refused
by_syntax (syntax.NoMemory e) = refusals.NoMemory e
by_syntax f = refusals.Policy (Syntax f)

abbrev pub by_typing : CheckFault → Refused
by_typing f = refusals.Policy (Typing f)

abbrev pub by_script : DocFault → Refused
by_script (scripts.NoMemory e) = refusals.NoMemory e
by_script f = refusals.Script f

-- how a run ends whose document is refused
abbrev pub outcome_of : Refused → Outcome
outcome_of (refusals.Policy f) = Policy f
outcome_of (refusals.Script f) = Script f
outcome_of (refusals.NoMemory e) = NoMemory e

-- how a run ends whose input could not be read
abbrev pub by_reading : ReadFault → Outcome
by_reading reads.SourceFault = SourceFault
by_reading reads.TooLong = TooLong
by_reading (reads.NoMemory e) = NoMemory e

-- how a run ends whose journal could not be opened
abbrev pub by_opening : StoreFault → Outcome
by_opening stores.NotJournal = NotJournal
by_opening (stores.Damaged number place) = Damaged number place
by_opening (stores.OtherPolicy place) = OtherPolicy place
by_opening stores.DiskFault = DiskFault
by_opening (stores.NoMemory e) = NoMemory e

-- how a run ends whose checkpoint wasn't written; a store that was just opened isn't stopped, and what stops one is its disk
abbrev pub by_point : PointFault → Outcome
by_point points.DiskFault = DiskFault
by_point points.Stopped = DiskFault
by_point points.OldJournal = OldJournal
by_point (points.TooLarge size) = FullPoint size
by_point (points.NoMemory e) = NoMemory e

-- how a run ends that had its document
abbrev pub IsOfDocument : Outcome → Type 0
IsOfDocument outcome = IsTrue (ending outcome).had

-- how a run without a journal ends that had its document
abbrev pub IsOfPrinting : Outcome → Type 0
IsOfPrinting outcome = IsTrue (ending outcome).had × IsFalse (ending outcome).by_disk

-- how a run ends whose document was accepted
abbrev pub IsOfAccepted : Outcome → Type 0
IsOfAccepted outcome = IsTrue (ending outcome).accepted

-- how a run ends that wrote nothing
abbrev pub IsUnwritten : Outcome → Type 0
IsUnwritten outcome = IsFalse (ending outcome).wrote

-- how a run ends that made no call of the disk: its words or its document were refused, or the document wasn't read
abbrev pub IsUntouched : Outcome → Type 0
IsUntouched outcome = IsFalse (ending outcome).touched

-- how a run ends whose document was not refused
abbrev pub IsUnrefused : Outcome → Type 0
IsUnrefused outcome = IsFalse (ending outcome).refused

-- how a run ends that no checkpoint ended
abbrev pub IsOffPoint : Outcome → Type 0
IsOffPoint outcome = IsFalse (ending outcome).by_point

-- how a run ends that nothing of a disk ended
abbrev pub IsOffDisk : Outcome → Type 0
IsOffDisk outcome = IsFalse (ending outcome).by_disk
