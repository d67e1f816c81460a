-- What is found in bytes, whoever wrote them.
use Rattle.std.specs.Prelude.{◌≡◌, ℕ, zero, suc, ◌+◌, ◌<◌, nat_lt, nat_le, Bool, ◌==◌, ◌&&◌, if◌then◌else◌, bytes_eq, List, [], ◌∷◌, ◌++◌, length}
use Rattle.std.specs.Prelude.{take, drop, slice_index, Option, None, Some, is_some}
use Rattle.std.specs.Int.{w32, from_be_bytes}
use Rattle.ucon_journal.specs.JournalBytes.{IsVersion, magic, records}

-- the version that the first 8 bytes tell, if they are a magic
abbrev pub version_told : List ℕ → Option ℕ
version_told bytes = if bytes_eq (take 8 bytes) (magic 2) then Some 2 else if bytes_eq (take 8 bytes) (magic 1) then Some 1 else None

-- the length that the four bytes behind a gate tell
abbrev pub length_told : List ℕ → ℕ
length_told bytes = from_be_bytes w32 (take 4 (drop 1 bytes))

-- the record at the front counts: its gate is 1, and its length, its payload and the next gate lie within the bytes
abbrev pub counts : List ℕ → Bool
counts bytes = (slice_index bytes 0 == 1) && nat_lt (5 + length_told bytes) (length bytes)

abbrev pub payload_at : List ℕ → List ℕ
payload_at bytes = take (length_told bytes) (drop 5 bytes)

-- the payloads of the records that count, after some bytes are skipped
abbrev pub payloads_after : ℕ → List ℕ → List (List ℕ)
payloads_after skip [] = []
payloads_after (suc skip) (byte ∷ rest) = payloads_after skip rest
payloads_after zero (byte ∷ rest) =
    if counts (byte ∷ rest) then payload_at (byte ∷ rest) ∷ payloads_after (4 + length_told (byte ∷ rest)) rest else []

-- the payloads of the records from a gate on, up to the first that doesn't count
abbrev pub payloads_from : List ℕ → ℕ → List (List ℕ)
payloads_from file gate = payloads_after 0 (drop gate file)

-- the next payload from a gate on has more than so many bytes
abbrev pub NextIsLonger : ℕ → List ℕ → ℕ → Type 0
NextIsLonger most file gate = (p : List ℕ) × (ps : List (List ℕ)) × (payloads_from file gate ≡ p ∷ ps) × (most < length p)

-- From a gate on the first records are of these payloads, and lead to another gate; the others are of those.
pub record LeadTo (file : List ℕ) (from : ℕ) (ps : List (List ℕ)) (to : ℕ) (qs : List (List ℕ)) : Type 0 where
  pub are : payloads_from file from ≡ ps ++ qs
  pub place : to ≡ from + length (records ps)

pub data Found : Type 0 where
  Fresh : Found
  NotJournal : Found
  Holds : (payloads : List (List ℕ)) → (gate : ℕ) → Found

-- At most 9 bytes are a journal whose making was stopped. Otherwise the payloads that count, and the place of the first gate whose record doesn't
-- count.
abbrev pub found : List ℕ → Found
found file =
    if nat_le (length file) 9 then Fresh else
    if is_some (version_told file) then Holds (payloads_from file 8) (8 + length (records (payloads_from file 8))) else NotJournal

-- the payloads that were found
abbrev pub payloads_found : Found → List (List ℕ)
payloads_found Fresh = []
payloads_found NotJournal = []
payloads_found (Holds payloads gate) = payloads

abbrev pub counted : List ℕ → List (List ℕ)
counted file = payloads_found (found file)

-- behind any more bytes, these are the records of these payloads
abbrev pub ReadsAs : List ℕ → List (List ℕ) → Type 0
ReadsAs front payloads = (rest : List ℕ) → 0 < length rest → payloads_after 0 (front ++ rest) ≡ payloads ++ payloads_after 0 rest

-- the file is the magic of this version, the records of these payloads, and more bytes from the gate on
pub record StandsAt (file : List ℕ) (version gate : ℕ) (payloads : List (List ℕ)) : Type 0 where
  pub front : List ℕ
  pub rest : List ℕ
  pub known : IsVersion version
  pub is : file ≡ magic version ++ front ++ rest
  pub place : gate ≡ 8 + length front
  pub size : length front ≡ length (records payloads)
  pub some : 0 < length rest
  pub reads : ReadsAs front payloads
