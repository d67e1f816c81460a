-- Lines in front of what came.
use Rattle.std.specs.Prelude.{◌≡◌, ℕ, ◌+◌, ◌<◌, ◌∷◌, ◌++◌, length, drop}
use Rattle.ucon_flow.specs.Lines.{IsBare}
use Rattle.ucon_model.specs.Plain.{Bytes}

-- a line, which stands here without its newline, stands in front of these bytes, and fits the limit
pub record StandsInFront (limit : ℕ) (line came : Bytes) : Type 0 where
  pub bare : IsBare line
  pub fits : length line < limit
  pub all : came ≡ line ++ 10 ∷ drop (length line + 1) came
