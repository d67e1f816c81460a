-- The uses that go on.
use Rattle.std.specs.Prelude.{ℕ, zero, suc, List, [], ◌∷◌, ◌++◌, Option, if◌then◌else◌}
use Rattle.ucon_model.specs.Action.{Trace}
use Rattle.ucon_model.specs.declared.session.SessionRow.{SessionRow}
use Rattle.ucon_model.specs.Readings.{is_accessing, session, sessions}

-- of the sessions 1 to n those that are accessing, by rising number
abbrev pub usages_to : (ℕ → Option SessionRow) → ℕ → List ℕ
usages_to row zero = []
usages_to row (suc n) = if is_accessing (row (suc n)) then usages_to row n ++ suc n ∷ [] else usages_to row n

-- the same, of all sessions of a trace
abbrev pub usages : Trace → List ℕ
usages T = usages_to (session T) (sessions T)
