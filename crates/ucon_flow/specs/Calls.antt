-- Calls of which some fail.
use Rattle.std.specs.Prelude.{ℕ, Bool, nat_eq, List}
use Rattle.std.specs.List.{list_any}
use Rattle.ucon_flow.specs.Causes.{raised}

-- the numbers of the calls that fail, from 0, and how many were made and failed
pub record Calls : Type 0 where
  pub failing : List ℕ
  pub made : ℕ
  pub faults : ℕ

-- before the first call
abbrev pub no_calls : List ℕ → Calls
no_calls numbers = record { failing = numbers; made = 0; faults = 0 }

-- whether the next call is one of those that fail
abbrev pub fails_next : Calls → Bool
fails_next c = list_any (λ n. nat_eq n c.made) c.failing

-- after one more call, which did not fail
abbrev pub one_more : Calls → Calls
one_more c = record c { made = raised c.made }

-- after one more call, which failed
abbrev pub one_failed : Calls → Calls
one_failed c = record c { made = raised c.made; faults = raised c.faults }
