-- What can be said of a source and of a sink at one moment.
use Rattle.std.specs.Prelude.{ℕ, List, Option}

-- the bytes that are left, if the source tells; how often it has failed; and how often it was read
pub record SourceSeen : Type 0 where
  pub left : Option (List ℕ)
  pub faults : ℕ
  pub reads : ℕ

-- the bytes that it holds, if the sink tells; how often it has failed; and how often it was written to
pub record SinkSeen : Type 0 where
  pub contents : Option (List ℕ)
  pub faults : ℕ
  pub writes : ℕ
