-- What a disk in memory had at first.
use Rattle.std.specs.Prelude.{ℕ, List, Option, None, Some, Vec}
use Rattle.std.specs.declared.alloc.Global.{Global}

-- the bytes at first, which are those of now until a call changed them
abbrev pub start_of : Option (Vec ℕ Global) → List ℕ → List ℕ
start_of None now = now
start_of (Some first) now = first.items
