-- The rows of what is there.
use Rattle.std.specs.Prelude.{ℕ, zero, suc, pos, List, [], ◌∷◌, ◌++◌, map, Option, Some, None, unwrap_or, if◌then◌else◌}
use Rattle.std.specs.List.{flat_map}
use Rattle.ucon_base.specs.declared.value.Side.{Side}
use Rattle.ucon_base.specs.declared.value.Side.TheVariants as sides
use Rattle.ucon_base.specs.declared.value.Value.{Value}
use Rattle.ucon_model.specs.declared.policy.AttrDecl.{AttrDecl}
use Rattle.ucon_model.specs.declared.policy.EnvDecl.{EnvDecl}
use Rattle.ucon_model.specs.declared.session.SessionRow.{SessionRow}
use Rattle.ucon_model.specs.Plain.{Bytes}
use Rattle.ucon_model.specs.Readings.{same_side}
use Rattle.ucon_state.specs.Held.{Held}
use Rattle.ucon_point.specs.declared.row.Row.{Row}
use Rattle.ucon_point.specs.declared.row.Row.TheVariants.{Variable, Entity, Attribute, Act, Session}
use Rattle.ucon_point.specs.PointRead.{Said}

-- a row of a value that is there
abbrev pub given : (Value → Row) → Option Value → List Row
given row None = []
given row (Some v) = row v ∷ []

abbrev pub variable_rows : Held → EnvDecl → List Row
variable_rows h d = given (λ v. Variable d.name v) (h.variable d.name)

abbrev pub attribute_rows : Held → Side → Bytes → AttrDecl → List Row
attribute_rows h side name d = if same_side side d.side then given (λ v. Attribute d.name v) (h.attribute side name d.name) else []

-- an entity, and its attributes
abbrev pub entity_rows : Held → Side → Bytes → List Row
entity_rows h side name = Entity side name ∷ flat_map (attribute_rows h side name) h.policy.attrs

-- an act with its moment
abbrev pub act_row : Held → Bytes × Bytes × Bytes → Row
act_row h a = Act a.0 a.1 a.2 (unwrap_or (h.moment a.0 a.1 a.2) (pos 0))

abbrev pub session_rows : Option SessionRow → List Row
session_rows None = []
session_rows (Some row) = Session row ∷ []

-- the sessions 1 to n
abbrev pub session_rows_to : (ℕ → Option SessionRow) → ℕ → List Row
session_rows_to row zero = []
session_rows_to row (suc n) = session_rows_to row n ++ session_rows (row (suc n))

-- all of them
abbrev pub rows_held : Held → List Row
rows_held h =
    flat_map (variable_rows h) h.policy.envs
    ++ (flat_map (entity_rows h sides.Subject) (h.names sides.Subject) ++ (flat_map (entity_rows h sides.Object) (h.names sides.Object)
    ++ (map (act_row h) h.acts ++ session_rows_to h.session h.sessions)))

-- the checkpoint of what is there
abbrev pub point_held : ℕ → Bytes → Held → Said
point_held entries text h = record { entries = entries; text = text; policy = h.policy; tick = h.tick; rows = rows_held h }
