-- What clauses see of a keeper and of a voice.
use Rattle.std.specs.Prelude.{ℕ, List, Option}

-- The moment of a keeper's disk; what a crash of that disk, at some moment from a given one on, may have left; which of these images hold all that
-- the keeper has answered so far.
pub record KeeperSeen : Type 1 where
  pub moment : ℕ
  pub images_since : ℕ → List ℕ → Type 0
  pub holds : List ℕ → Type 0

-- What was written to a voice so far, if it tells; how often it has failed; and that it held these bytes by this moment of the disk, so that its
-- reader may have read them then.
pub record VoiceSeen : Type 1 where
  pub contents : Option (List ℕ)
  pub faults : ℕ
  pub told : List ℕ → ℕ → Type 0
