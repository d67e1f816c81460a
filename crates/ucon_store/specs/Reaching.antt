-- Up to the last checkpoint: the records before it are passed, and it is taken.
use Rattle.std.specs.Prelude.{◌≡◌, ◌≢◌, ℕ, ◌+◌, List, [], ◌∷◌, ◌++◌, length, Option, None}
use Rattle.ucon_disk.specs.Causes.{raised}
use Rattle.ucon_journal.specs.Found.{payloads_from}
use Rattle.ucon_model.specs.Found.{gate_behind, next_gate}
use Rattle.ucon_model.specs.Plain.{Bytes}
use Rattle.ucon_store.specs.declared.record_fault.RecordFault.{RecordFault}
use Rattle.ucon_store.specs.declared.record_fault.RecordFault.TheVariants.{Damaged, DiskFault, NoMemory}
use Rattle.ucon_store.specs.declared.walking.LastPoint.{LastPoint}
use Rattle.ucon_store.specs.Parted.{Parted, first_long}

-- The records from a gate on, of which the first has this number: some of which none is too long up to the last checkpoint, it, and those behind it.
pub record IsUpTo (last : LastPoint) (p : Parted) (number gate : ℕ) (file : Bytes) : Type 0 where
  pub rest : List Bytes
  pub are : payloads_from file gate ≡ rest ++ p.point ∷ p.behind
  pub count : number + length rest ≡ last.number
  pub place : gate_behind gate rest ≡ last.place
  pub short : first_long number gate (payloads_from file gate) ≡ None

-- the checkpoint was taken
pub record IsTaken (last : LastPoint) (p : Parted) (payload : Bytes) (next : ℕ) (file : Bytes) : Type 0 where
  pub is : payload ≡ p.point
  pub behind : payloads_from file next ≡ p.behind
  pub place : next ≡ next_gate last.place p.point

-- from a gate on, whose record has this number, there is a record, and none is too long
abbrev pub CanBePassed : (number gate : ℕ) → Bytes → Type 0
CanBePassed number gate file = (payloads_from file gate ≢ []) × (first_long number gate (payloads_from file gate) ≡ None)

-- why a record that can be passed isn't: a fault of the disk, or out of memory; if the disk doesn't tell, the record may be damaged, too
abbrev pub IsUnpassed : RecordFault → Option Bytes → (before now : ℕ) → Type 0
IsUnpassed (Damaged number place) file before now = (file ≡ None) × (now ≡ before)
IsUnpassed DiskFault file before now = now ≡ raised before
IsUnpassed (NoMemory e) file before now = now ≡ before
