-- What a clause sees of a source or a sink over std's.
use Rattle.std.specs.Prelude.{ℕ}

-- the reader or writer, and how many calls were made and failed
pub record Counted (T : Type 0) : Type 0 where
  pub inner : T
  pub calls : ℕ
  pub faults : ℕ
