-- Bytes.
use Rattle.std.specs.Prelude.{ℕ, List}

-- a name or a text, as its bytes
abbrev pub Bytes : Type 0
Bytes = List ℕ
