-- What the calls of a journal do to the bytes, and to the payloads that are found in them.
use Rattle.std.specs.Prelude.{◌≡◌, ◌≢◌, ◌⊎◌, ◌≤◌, nat_le, if◌then◌else◌, ℕ, List, [], ◌∷◌, ◌++◌, length, take}
use Rattle.ucon_journal.specs.JournalBytes.{newest, record_bytes, records, journal_bytes}
use Rattle.ucon_journal.specs.Found.{NotJournal, found, counted}

-- what opening makes of the bytes: a new journal with no record, where its making was stopped
abbrev pub opened : List ℕ → List ℕ
opened file = if nat_le (length file) 9 then journal_bytes newest [] else file

-- what mending makes of them: a closed gate, and nothing behind it
abbrev pub shut_at : ℕ → List ℕ → List ℕ
shut_at gate file = take gate file ++ 0 ∷ []

-- what appending makes of them: the record, and a closed gate
abbrev pub with_payload : ℕ → List ℕ → List ℕ → List ℕ
with_payload gate payload file = take gate file ++ record_bytes payload ++ 0 ∷ []

-- and appending several together: their records, and a closed gate
abbrev pub with_payloads : ℕ → List (List ℕ) → List ℕ → List ℕ
with_payloads gate payloads file = take gate file ++ records payloads ++ 0 ∷ []

-- the file as it was, or a journal whose making was stopped, if the file was one
abbrev pub Untouched : List ℕ → List ℕ → Type 0
Untouched file c = (c ≡ file) ⊎ ((length file ≤ 9) × (length c ≤ 9))

-- it begins as the file does, is a journal, and these payloads are found in it
pub record StillHolds (file : List ℕ) (held : List (List ℕ)) (c : List ℕ) : Type 0 where
  pub magic : take 8 c ≡ take 8 file
  pub journal : found c ≢ NotJournal
  pub payloads : counted c ≡ held

-- the same payloads are found
abbrev pub SamePayloads : List ℕ → List ℕ → Type 0
SamePayloads file c = StillHolds file (counted file) c

-- the same payloads are found, or those with one more
abbrev pub PerhapsAdded : List ℕ → List ℕ → List ℕ → Type 0
PerhapsAdded payload file c = StillHolds file (counted file) c ⊎ StillHolds file (counted file ++ payload ∷ []) c

-- the same payloads are found, or those with all of these behind them
abbrev pub PerhapsAllAdded : List (List ℕ) → List ℕ → List ℕ → Type 0
PerhapsAllAdded payloads file c = StillHolds file (counted file) c ⊎ StillHolds file (counted file ++ payloads) c
