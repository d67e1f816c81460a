-- What can be said of a disk at one moment.
use Rattle.std.specs.Prelude.{ℕ, List, Option}

-- what reads give, if the disk tells; what a crash now may leave; the moment, as a number that doesn't fall; what a crash at some moment
-- from that one on may have left; and how often the disk has failed
pub record DiskSeen : Type 1 where
  pub contents : Option (List ℕ)
  pub images : List ℕ → Type 0
  pub moment : ℕ
  pub images_since : ℕ → List ℕ → Type 0
  pub faults : ℕ
