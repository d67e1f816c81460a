-- What a clause sees of a sink in memory.
use Rattle.std.specs.Prelude.{ℕ, List, ◌++◌, if◌then◌else◌}
use Rattle.ucon_flow.specs.Calls.{Calls, fails_next, one_more, one_failed}
use Rattle.ucon_flow.specs.Causes.{raised}

-- the bytes that it holds, how many a call takes at the most, its calls, and how many of them found no memory
pub record Stock : Type 0 where
  pub bytes : List ℕ
  pub piece : ℕ
  pub calls : Calls
  pub short : ℕ

-- after a call that took these bytes
abbrev pub taken : Stock → List ℕ → Stock
taken s more = record s { bytes = s.bytes ++ more; calls = one_more s.calls }

-- after a call that failed: it was one of those that fail, or found no memory
abbrev pub not_taken : Stock → Stock
not_taken s = record s { calls = one_failed s.calls; short = if fails_next s.calls then s.short else raised s.short }
