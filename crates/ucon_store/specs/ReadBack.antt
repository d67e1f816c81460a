-- A checkpoint of a trace, as it is read.
use Rattle.std.specs.Prelude.{◌≡◌, ℕ, Some, Ok}
use Rattle.ucon_model.specs.Action.{Trace}
use Rattle.ucon_model.specs.Plain.{Bytes, PlainPolicy}
use Rattle.ucon_model.specs.Work.{NobodyFails}
use Rattle.ucon_point.specs.PointRead.{Said, point_read}
use Rattle.ucon_point.specs.Standing.{Standing, put_all, start}
use Rattle.ucon_state.specs.Held.{ReadsAlike}
use Rattle.ucon_state.specs.Shown.{Shown}
use Rattle.ucon_state.specs.Tables.{Tables}

-- what a state shows that has these tables under this policy, and nothing to undo
abbrev pub showing_only : PlainPolicy → Tables → Shown
showing_only Q t = record { policy = Q; tables = t; opening_policy = Q; opening = t }

-- The payload is read as a checkpoint after so many entries, the trace gives to read what the checkpoint's rows make, and no accessing session
-- fails after it.
pub record IsReadPointOf (entries : ℕ) (P : PlainPolicy) (T : Trace) (payload : Bytes) : Type 0 where
  pub said : Said
  pub reads : point_read payload ≡ Ok said
  pub count : said.entries ≡ entries
  pub end : Standing
  pub made : put_all said.policy (start said.policy said.tick) said.rows ≡ Some end
  pub alike : ReadsAlike (showing_only said.policy end.tables) P T
  pub settled : NobodyFails P T
