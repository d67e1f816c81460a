-- Bytes of a file that were read ahead.
use Rattle.std.specs.Prelude.{◌≡◌, ◌-◌, ℕ, List, length, take, drop}
use Rattle.ucon_journal.specs.declared.ahead.Ahead.{Ahead}

-- they are the file's from a place on
abbrev pub IsPart : ℕ → List ℕ → List ℕ → Type 0
IsPart place bytes file = bytes ≡ take (length bytes) (drop place file)

abbrev pub IsPartOf : Ahead → List ℕ → Type 0
IsPartOf ahead file = IsPart ahead.place ahead.bytes.items file

-- those of so many bytes of the file from a place on that were read ahead
abbrev pub bytes_at : Ahead → (at n : ℕ) → List ℕ
bytes_at ahead at n = take n (drop (at - ahead.place) ahead.bytes.items)
