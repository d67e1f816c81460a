-- What a walk over a journal's records finds: the last one that begins as a checkpoint, or the first that is too long.
use Rattle.std.specs.Prelude.{◌≡◌, ℕ, ◌+◌, ◌*◌, ◌<◌, ◌≤◌, Bool, ◌&&◌, List, [], ◌∷◌, length, Option, Some, None, IfSome, if◌then◌else◌}
use Rattle.ucon_disk.specs.Causes.{raised}
use Rattle.ucon_journal.specs.Found.{payloads_from}
use Rattle.ucon_model.specs.Found.{first_gate, gate_behind, next_gate}
use Rattle.ucon_model.specs.Plain.{Bytes}
use Rattle.ucon_store.specs.declared.record_fault.RecordFault.{RecordFault}
use Rattle.ucon_store.specs.declared.record_fault.RecordFault.TheVariants.{Damaged, DiskFault, NoMemory}
use Rattle.ucon_store.specs.declared.walking.LastPoint.{LastPoint}
use Rattle.ucon_store.specs.declared.walking.Walk.{Walk}
use Rattle.ucon_store.specs.Parted.{Parted, first_long, parted_with, steps_among}
use Rattle.ucon_store.specs.PointRecords.{is_point}

-- ---- a whole journal

-- the record between these payloads, behind record 0's: its number, its gate's place, and how many steps stand before it
abbrev pub IsAtParted : Bytes → Option Parted → Option LastPoint → Type 0
IsAtParted text None last = last ≡ None
IsAtParted text (Some p) None = ⊥
IsAtParted text (Some p) (Some last) =
    (last.number ≡ length p.before + 1) × (last.place ≡ gate_behind (next_gate first_gate text) p.before) × (last.entries ≡ steps_among p.before)

-- the last checkpoint among a journal's payloads, of which none is too long
abbrev pub IsWalked : Bool → List Bytes → Option LastPoint → Type 0
IsWalked points [] last = last ≡ None
IsWalked points (text ∷ payloads) last = (first_long 0 first_gate (text ∷ payloads) ≡ None) × IsAtParted text (parted_with points payloads) last

-- fewer steps than records stand before it, five bytes at least each, and its gate's place is below so many bytes
abbrev pub IsPlacedBelow : ℕ → LastPoint → Type 0
IsPlacedBelow bytes last = (last.entries < last.number) × (5 * last.number ≤ last.place) × (last.place < bytes)

-- ---- record by record

-- the last checkpoint where these payloads stand behind so many records, of which so many are steps, with the next gate here, and this was the last
-- checkpoint before
abbrev pub walked : Bool → (number entries gate : ℕ) → Option LastPoint → List Bytes → Option LastPoint
walked points number entries gate last [] = last
walked points number entries gate last (payload ∷ payloads) =
    if points && is_point payload
    then walked points (number + 1) entries (next_gate gate payload) (Some (record { number = number; place = gate; entries = entries })) payloads
    else walked points (number + 1) (entries + 1) (next_gate gate payload) last payloads

-- what a walk will find in the records from a gate on: the last checkpoint; and the first record that is too long, by its number and its gate's
-- place
abbrev pub finds : Bool → Walk → ℕ → Bytes → Option LastPoint × Option (ℕ × ℕ)
finds points w gate file =
    (walked points w.number w.entries gate w.last (payloads_from file gate), first_long w.number gate (payloads_from file gate))

-- a walk stands behind the records up to this gate
pub record IsWalking (w : Walk) (gate : ℕ) : Type 0 where
  pub few : w.entries < w.number
  pub small : 5 * w.number ≤ gate
  pub last : IfSome w.last (IsPlacedBelow gate)

-- why a walk didn't come to the end: the first record that is too long, a fault of the disk, or out of memory
abbrev pub HasLong : RecordFault → Option Bytes → (number gate before now : ℕ) → Type 0
HasLong (Damaged long place) file number gate before now =
    IfSome file (λ bytes. first_long number gate (payloads_from bytes gate) ≡ Some (long, place)) × (now ≡ before)
HasLong DiskFault file number gate before now = now ≡ raised before
HasLong (NoMemory e) file number gate before now = now ≡ before
