-- A journal over a disk.
use Rattle.std.specs.Prelude.{◌≡◌, ◌⊎◌, ℕ, ◌+◌, ◌≤◌, List, [], ◌∷◌, length, drop, Option, None, Some, IfSome, vec_capacity}
use Rattle.ucon_disk.specs.Seen.{DiskSeen}
use Rattle.ucon_journal.specs.declared.journal.Journal.{Journal}
use Rattle.ucon_journal.specs.declared.phase.Phase.{Phase}
use Rattle.ucon_journal.specs.declared.phase.Phase.TheVariants.{Reading, Ended, Closed, Broken}
use Rattle.ucon_journal.specs.Ahead.{IsPartOf, bytes_at}
use Rattle.ucon_journal.specs.Found.{counted, payloads_after, payloads_from, StandsAt}
use Rattle.ucon_journal.specs.JournalBytes.{AreShort, batch_bytes}

abbrev pub disk_of : {D : Type 0} → Journal D → D
disk_of j = j.disk

-- the version of its file
abbrev pub version_of : {D : Type 0} → Journal D → ℕ
version_of j = j.version

-- the place of the gate that comes next
abbrev pub gate_of : {D : Type 0} → Journal D → ℕ
gate_of j = j.gate

-- the payload that was taken last, as it was read ahead
abbrev pub payload_of : {D : Type 0} → Journal D → List ℕ
payload_of j = bytes_at j.ahead j.payload_place j.payload_len

-- there is room for a payload of n bytes
abbrev pub HasRoomFor : {D : Type 0} → Journal D → ℕ → Type 0
HasRoomFor j n = n + 5 ≤ vec_capacity j.buffer

-- the payloads of the batch, which wait in memory to be added together: what counts in the bytes that wait, behind an open gate
abbrev pub batch_of : {D : Type 0} → Journal D → List (List ℕ)
batch_of j = payloads_after 0 (1 ∷ j.buffer.items)

-- the bytes that wait are those of the batch, and nothing else
pub record IsBatch {D : Type 0} (j : Journal D) : Type 0 where
  pub bytes : j.buffer.items ≡ batch_bytes (batch_of j)
  pub short : AreShort (batch_of j)

-- the payloads that count in the bytes as read, if the disk tells
abbrev pub told_payloads : Option (List ℕ) → List (List ℕ)
told_payloads None = []
told_payloads (Some file) = counted file

-- it is being read, or was read to the end
abbrev pub IsUnmended : Phase → Type 0
IsUnmended phase = (phase ≡ Reading) ⊎ (phase ≡ Ended)

-- it is being read, up to the gate, and the bytes that were read ahead are the file's
pub record IsReading {D : Type 0} (seen : D → DiskSeen) (j : Journal D) : Type 0 where
  pub phase : IsUnmended j.phase
  pub told : IfSome (seen j.disk).contents (λ file. (payloads : List (List ℕ)) × StandsAt file j.version j.gate payloads)
  pub len : IfSome (seen j.disk).contents (λ file. j.len ≡ length file)
  pub ahead : IfSome (seen j.disk).contents (IsPartOf j.ahead)

-- it was read to the first gate whose record doesn't count
pub record HasEnded {D : Type 0} (seen : D → DiskSeen) (j : Journal D) : Type 0 where
  pub phase : j.phase ≡ Ended
  pub told : IfSome (seen j.disk).contents (λ file. StandsAt file j.version j.gate (counted file) × (payloads_from file j.gate ≡ []))

-- its last byte is a closed gate, behind the records of all its payloads
pub record IsClosed {D : Type 0} (seen : D → DiskSeen) (j : Journal D) : Type 0 where
  pub phase : j.phase ≡ Closed
  pub told : IfSome (seen j.disk).contents (λ file. StandsAt file j.version j.gate (counted file) × (drop j.gate file ≡ 0 ∷ []))

-- a device call that changes the file failed, and the file has to be opened again
abbrev pub IsBroken : {D : Type 0} → Journal D → Type 0
IsBroken j = j.phase ≡ Broken
