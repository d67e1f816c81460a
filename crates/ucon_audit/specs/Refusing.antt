-- Why a journal isn't right, by what is found in its file.
use Rattle.std.specs.Prelude.{◌≡◌, ℕ, Option, Some, IfSome}
use Rattle.ucon_disk.specs.Causes.{raised}
use Rattle.ucon_model.specs.Found.{not_journal, damaged, holds}
use Rattle.ucon_model.specs.History.{History}
use Rattle.ucon_model.specs.Plain.{Bytes, PlainPolicy}
use Rattle.ucon_store.specs.declared.fault.StoreFault.{StoreFault}
use Rattle.ucon_store.specs.declared.fault.StoreFault.TheVariants.{NotJournal, Damaged, OtherPolicy, DiskFault, NoMemory}
use Rattle.ucon_store.specs.Found.{found_by}
use Rattle.ucon_store.specs.Opening.{first_difference}
use Rattle.ucon_store.specs.Points.{PolicyReading}
use Rattle.ucon_syntax.specs.Policies.{accepted}

-- all records are right, and the file's policy has another text, which differs first at this place
pub record HoldsOtherBy (reads : PolicyReading) (text : Bytes) (place : ℕ) (file : Bytes) : Type 0 where
  pub other : Bytes
  pub P : PlainPolicy
  pub H : History
  pub gate : ℕ
  pub is : found_by reads file ≡ holds other P H gate
  pub differs : first_difference other text ≡ Some place

-- Why a full check under the policy of this text refuses. If the disk tells its bytes, the reason is what is found in them. At a disk fault the
-- disk's count of faults is one more; otherwise it is as it was. Want of memory may come at any moment.
abbrev pub IsRefusedBy : PolicyReading → StoreFault → Bytes → Option Bytes → (before now : ℕ) → Type 0
IsRefusedBy reads NotJournal text file before now = IfSome file (λ bytes. found_by reads bytes ≡ not_journal) × (now ≡ before)
IsRefusedBy reads (Damaged number place) text file before now = IfSome file (λ bytes. found_by reads bytes ≡ damaged number place) × (now ≡ before)
IsRefusedBy reads (OtherPolicy place) text file before now = IfSome file (HoldsOtherBy reads text place) × (now ≡ before)
IsRefusedBy reads DiskFault text file before now = now ≡ raised before
IsRefusedBy reads (NoMemory e) text file before now = now ≡ before

-- ---- by the program's own reading

abbrev pub HoldsOther : Bytes → ℕ → Bytes → Type 0
HoldsOther = HoldsOtherBy accepted

abbrev pub IsRefused : StoreFault → Bytes → Option Bytes → (before now : ℕ) → Type 0
IsRefused = IsRefusedBy accepted
