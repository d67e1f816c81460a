-- The bytes of a journal.
use Rattle.std.specs.Prelude.{ℕ, ◌+◌, ◌^◌, ◌<◌, ◌≤◌, List, [], ◌∷◌, ◌++◌, length}
use Rattle.std.specs.Int.{w32, to_be_bytes}
use Rattle.ucon_base.specs.Elements.{Each}

-- the versions that there are
abbrev pub IsVersion : ℕ → Type 0
IsVersion version = (1 ≤ version) × (version ≤ 2)

-- that of a new journal
abbrev pub newest : ℕ
newest = 2

-- `UCONJR01` or `UCONJR02`: what a journal of this version begins with
abbrev pub magic : ℕ → List ℕ
magic version = 85 ∷ 67 ∷ 79 ∷ 78 ∷ 74 ∷ 82 ∷ 48 ∷ (48 + version) ∷ []

-- an open gate, four bytes of length, and the payload
abbrev pub record_bytes : List ℕ → List ℕ
record_bytes payload = 1 ∷ to_be_bytes w32 (length payload) ++ payload

abbrev pub records : List (List ℕ) → List ℕ
records [] = []
records (payload ∷ payloads) = record_bytes payload ++ records payloads

-- what is written behind the gate of the first of these payloads: their records without that gate, and a closed gate; nothing if there are none
abbrev pub batch_bytes : List (List ℕ) → List ℕ
batch_bytes [] = []
batch_bytes (payload ∷ payloads) = to_be_bytes w32 (length payload) ++ payload ++ records payloads ++ 0 ∷ []

-- the magic, a record for each payload, and a closed gate
abbrev pub journal_bytes : ℕ → List (List ℕ) → List ℕ
journal_bytes version payloads = magic version ++ records payloads ++ 0 ∷ []

-- four bytes can tell each length
abbrev pub AreShort : List (List ℕ) → Type 0
AreShort payloads = Each (λ (payload : List ℕ). length payload < 2 ^ 32) payloads
