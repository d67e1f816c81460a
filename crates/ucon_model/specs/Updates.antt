-- What a right's updates write (Park and Sandhu, ACM TISSEC 7(1), 2004: attribute mutability, before, during and after a usage).
use Rattle.std.specs.Prelude.{ℕ, Bool, true, false, List, [], ◌∷◌, Option, Some, None, if◌then◌else◌}
use Rattle.std.specs.Option.{option_map_or}
use Rattle.ucon_base.specs.declared.value.Side.{Side}
use Rattle.ucon_base.specs.declared.value.Side.TheVariants.{Subject, Object}
use Rattle.ucon_base.specs.declared.value.Value.{Value}
use Rattle.ucon_model.specs.declared.policy.AttrDecl.{AttrDecl}
use Rattle.ucon_model.specs.declared.policy.When.{When}
use Rattle.ucon_model.specs.declared.policy.When.TheVariants.{Before, During, AfterEnd, AfterRevoke}
use Rattle.ucon_model.specs.declared.session.SessionRow.{SessionRow}
use Rattle.ucon_model.specs.Plain.{Bytes, PlainUpdate, PlainPolicy}
use Rattle.ucon_base.specs.Arithmetic.{fitted}
use Rattle.ucon_model.specs.Action.{Action, Trace, write, followed_by}
use Rattle.ucon_model.specs.Readings.{in_force, declared_attr, session}
use Rattle.ucon_model.specs.Truth.{readings, value_of}
use Rattle.ucon_model.specs.Decision.{right_named}

-- whether two times are the same
abbrev pub same_when : When → When → Bool
same_when Before Before = true
same_when During During = true
same_when AfterEnd AfterEnd = true
same_when AfterRevoke AfterRevoke = true
same_when w v = false

-- the session's entity of a side
abbrev pub entity_of : Side → SessionRow → Bytes
entity_of Subject row = row.subject
entity_of Object row = row.object

-- a value as a declared attribute keeps it
abbrev pub fitted_to : Option AttrDecl → Value → Value
fitted_to None v = v
fitted_to (Some d) v = fitted d.kind v

-- an update's result after a trace: its expression's value, clamped to the declared range if the attribute is an integer
abbrev pub result : PlainPolicy → Trace → SessionRow → PlainUpdate → Value
result P T row u = fitted_to (declared_attr (in_force P T).attrs u.side u.attr) (value_of ((readings P T).at row) u.value)

-- the write that an update makes
abbrev pub write_of : PlainPolicy → SessionRow → PlainUpdate → Trace → Action
write_of P row u T = write u.side (entity_of u.side row) u.attr (result P T row u)

-- the writes of the updates of a time, in written order, each with the result after those before it
abbrev pub writes : PlainPolicy → SessionRow → When → List PlainUpdate → Trace → List Action
writes P row when [] T = []
writes P row when (u ∷ us) T =
    if same_when when u.when then followed_by (write_of P row u T ∷ []) (writes P row when us) T else writes P row when us T

-- the updates of a session's right in a policy; none if it is not there
abbrev pub updates_of : PlainPolicy → SessionRow → List PlainUpdate
updates_of P row = option_map_or (λ right. right.updates) (right_named P.rights row.right) []

-- the writes of session n's right of a time
abbrev pub session_writes : PlainPolicy → ℕ → When → Trace → List Action
session_writes P n when T = option_map_or (λ row. writes P row when (updates_of (in_force P T) row) T) (session T n) []
