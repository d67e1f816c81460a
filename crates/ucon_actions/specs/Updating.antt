-- Updates, one after the other.
use Rattle.std.specs.Prelude.{ℕ, List, [], slice_get, take}
use Rattle.std.specs.Option.{option_map_or, option_to_list}
use Rattle.ucon_model.specs.declared.policy.When.{When}
use Rattle.ucon_model.specs.declared.session.SessionRow.{SessionRow}
use Rattle.ucon_model.specs.Plain.{PlainPolicy, PlainUpdate}
use Rattle.ucon_model.specs.Action.{Trace, extended}
use Rattle.ucon_model.specs.Readings.{in_force, session}
use Rattle.ucon_model.specs.Lookup.{right_read}
use Rattle.ucon_model.specs.Updates.{writes, updates_of}
use Rattle.ucon_state.specs.Shown.{Shown}
use Rattle.ucon_state.specs.Tables.{readings_in}

-- the trace after the writes of these updates of a time
abbrev pub written_out : PlainPolicy → SessionRow → When → List PlainUpdate → Trace → Trace
written_out P row when us T = extended T (writes P row when us T)

-- the trace after the writes of the first updates, so many, of session n's right in force that are of this time
abbrev pub first_written_out : PlainPolicy → ℕ → When → ℕ → Trace → Trace
first_written_out P n when count T = option_map_or (λ row. written_out P row when (take count (updates_of (in_force P T) row)) T) (session T n) T

-- the updates of session n's right, as the tables tell them
abbrev pub updates_in : Shown → ℕ → List PlainUpdate
updates_in s n = option_map_or (λ right. right.updates) (right_read s.policy (readings_in s.policy s.tables) n) []

-- the update at a position, from 0, of a session's right, in a list of at most one
abbrev pub update_at : PlainPolicy → SessionRow → ℕ → List PlainUpdate
update_at P row at = option_to_list (slice_get (updates_of P row) at)

-- the trace after the write of the update at a position, from 0, of a session's right in force, if it is of this time
abbrev pub one_written_out : PlainPolicy → SessionRow → When → ℕ → Trace → Trace
one_written_out P row when at T = written_out P row when (update_at (in_force P T) row at) T
