-- What a voice in memory has noted.
use Rattle.std.specs.Prelude.{◌≡◌, ◌⊎◌, ℕ, List, [], ◌∷◌, ◌++◌}
use Rattle.ucon_tell.specs.declared.memory.Note.{Note}

-- one of the notes is of these bytes, and of this moment
abbrev pub IsNoted : List Note → List ℕ → ℕ → Type 0
IsNoted [] bytes moment = ⊥
IsNoted (note ∷ notes) bytes moment = ((bytes ≡ note.bytes.items) × (moment ≡ note.moment)) ⊎ IsNoted notes bytes moment

-- one note came behind the others, of these bytes and this moment
abbrev pub HasNoted : List Note → List Note → List ℕ → ℕ → Type 0
HasNoted old new bytes moment = (note : Note) × (new ≡ old ++ note ∷ []) × (note.bytes.items ≡ bytes) × (note.moment ≡ moment)
