-- What went out of some words.
use Rattle.std.specs.Prelude.{◌≡◌, ℕ, Option, Result, MatchResult}
use Rattle.std.specs.Io.KnownBytes.{Appends}
use Rattle.ucon_flow.specs.Causes.{raised}
use Rattle.ucon_flow.specs.Writing.{AppendsPrefix}
use Rattle.ucon_model.specs.Plain.{Bytes}

-- all of them went out, and the sink's count of faults is as it was; or a front of them did, and the count is one more
pub record GoesOut {T E : Type 0} (before now : Option Bytes) (failed fails : ℕ) (result : Result T E) (words : Bytes) : Type 0 where
  pub went : MatchResult result (λ _. Appends before now words × (fails ≡ failed)) (λ _. AppendsPrefix before now words × (fails ≡ raised failed))
