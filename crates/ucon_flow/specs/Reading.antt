-- What a source gave in all.
use Rattle.std.specs.Prelude.{ℕ, ◌<◌, ◌≤◌, List, length, Option, None, Some, ⊤}
use Rattle.std.specs.Io.KnownBytes.{Consumes, IsAtEnd}

-- all the bytes that the source had, if it tells
pub record ReadsWhole (old new : Option (List ℕ)) (all : List ℕ) : Type 0 where
  pub bytes : Consumes old new all
  pub ended : IsAtEnd new

-- a front part of the bytes that the source had was read, if it tells
abbrev pub ReadsFront : Option (List ℕ) → Option (List ℕ) → Type 0
ReadsFront old new = (front : List ℕ) × Consumes old new front

-- the source has more bytes than this, if it tells
abbrev pub HasMoreThan : Option (List ℕ) → ℕ → Type 0
HasMoreThan None limit = ⊤
HasMoreThan (Some bytes) limit = limit < length bytes

-- the source has at most so many bytes, if it tells
abbrev pub HasAtMost : Option (List ℕ) → ℕ → Type 0
HasAtMost None limit = ⊤
HasAtMost (Some bytes) limit = length bytes ≤ limit
