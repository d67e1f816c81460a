-- What a clause sees of a source in memory.
use Rattle.std.specs.Prelude.{ℕ, List, take, drop, min}
use Rattle.ucon_flow.specs.Calls.{Calls, one_more, one_failed}

-- the bytes that are left, how many a call gives at the most, and its calls
pub record Supply : Type 0 where
  pub left : List ℕ
  pub piece : ℕ
  pub calls : Calls

-- what a call gives into so much room
abbrev pub next_piece : Supply → ℕ → List ℕ
next_piece s room = take (min s.piece room) s.left

-- after a call that gave n bytes
abbrev pub given : Supply → ℕ → Supply
given s n = record s { left = drop n s.left; calls = one_more s.calls }

-- after a call that failed
abbrev pub not_given : Supply → Supply
not_given s = record s { calls = one_failed s.calls }
