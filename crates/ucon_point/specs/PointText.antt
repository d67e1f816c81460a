-- The text of a checkpoint: what is there after so many entries, line by line.
use Rattle.std.specs.Prelude.{ℕ, zero, suc, ℤ, pos, [], ◌∷◌, ◌++◌, codes, decimal, length, Option, Some, None, unwrap_or, if◌then◌else◌}
use Rattle.std.specs.Fmt.{signed_decimal}
use Rattle.std.specs.List.{flat_map}
use Rattle.ucon_base.specs.declared.value.Side.{Side}
use Rattle.ucon_base.specs.declared.value.Side.TheVariants.{Subject, Object}
use Rattle.ucon_model.specs.declared.policy.AttrDecl.{AttrDecl}
use Rattle.ucon_model.specs.declared.policy.EnvDecl.{EnvDecl}
use Rattle.ucon_model.specs.declared.session.SessionRow.{SessionRow}
use Rattle.ucon_model.specs.Plain.{Bytes, PlainPolicy}
use Rattle.ucon_model.specs.Readings.{same_side}
use Rattle.ucon_model.specs.History.{History, trace}
use Rattle.ucon_point.specs.Lines.{line, value_line, entity_line, act_words, session_words}
use Rattle.ucon_state.specs.Held.{Held, held_after}

-- ---- the lines before the rows

-- how many entries there were
abbrev pub entries_line : ℕ → Bytes
entries_line entries = line (codes "point" ∷ decimal entries ∷ [])

-- how many bytes the text of the policy in force has, and that text
abbrev pub policy_lines : Bytes → Bytes
policy_lines text = line (codes "policy" ∷ decimal (length text) ∷ []) ++ (text ++ 10 ∷ [])

-- the tick
abbrev pub tick_line : ℤ → Bytes
tick_line now = line (codes "tick" ∷ signed_decimal now ∷ [])

-- ---- the lines of each sort of rows

-- a variable, as it is declared
abbrev pub variable_line : Held → EnvDecl → Bytes
variable_line h d = value_line (codes "env") d.name (h.variable d.name)

-- an attribute of an entity, if its side declares it
abbrev pub attribute_line : Held → Side → Bytes → AttrDecl → Bytes
attribute_line h side name d = if same_side side d.side then value_line (codes "value") d.name (h.attribute side name d.name) else []

-- an entity with its attributes, in the order in which they are declared
abbrev pub entity_lines : Held → Side → Bytes → Bytes
entity_lines h side name = entity_line side name ++ flat_map (attribute_line h side name) h.policy.attrs

-- an act with its moment, which each act has that was done
abbrev pub act_line : Held → Bytes × Bytes × Bytes → Bytes
act_line h a = line (act_words a (unwrap_or (h.moment a.0 a.1 a.2) (pos 0)))

-- the line of a session that is there
abbrev pub session_lines_of : Option SessionRow → Bytes
session_lines_of None = []
session_lines_of (Some row) = line (session_words row)

-- the sessions 1 to n
abbrev pub sessions_to : (ℕ → Option SessionRow) → ℕ → Bytes
sessions_to row zero = []
sessions_to row (suc n) = sessions_to row n ++ session_lines_of (row (suc n))

-- ---- all of it

-- the checkpoint after so many entries of what is there, this being the text of the policy in force
abbrev pub point_text : ℕ → Bytes → Held → Bytes
point_text entries policy h =
    entries_line entries ++ (policy_lines policy ++ (tick_line h.tick ++ (flat_map (variable_line h) h.policy.envs
    ++ (flat_map (entity_lines h Subject) (h.names Subject) ++ (flat_map (entity_lines h Object) (h.names Object)
    ++ (flat_map (act_line h) h.acts ++ sessions_to h.session h.sessions))))))

-- the checkpoint after a history that began under a policy, the text of the policy in force there being this
abbrev pub point_after : Bytes → PlainPolicy → History → Bytes
point_after text P H = point_text (length H) text (held_after P (trace P H))
