-- Which row of a checkpoint may come after which, under the policy in force: first a value of each variable; then each subject, and behind it a
-- value of each attribute of its side; then the objects likewise; then acts; then sessions. Values come in the order of the declarations.
use Rattle.std.specs.Prelude.{ℕ, ◌+◌, Bool, true, false, ◌&&◌, nat_le, List, [], map, slice_get, Option, Some, None, if◌then◌else◌}
use Rattle.std.specs.Str.{bytes_eq}
use Rattle.ucon_base.specs.declared.value.Kind.{Kind}
use Rattle.ucon_base.specs.declared.value.Side.{Side}
use Rattle.ucon_base.specs.declared.value.Side.TheVariants as sides
use Rattle.ucon_base.specs.declared.value.Value.{Value}
use Rattle.ucon_base.specs.Admits.{admits}
use Rattle.ucon_model.specs.declared.policy.AttrDecl.{AttrDecl}
use Rattle.ucon_model.specs.declared.policy.EnvDecl.{EnvDecl}
use Rattle.ucon_model.specs.Plain.{Bytes, PlainPolicy}
use Rattle.ucon_model.specs.Readings.{attrs_of}
use Rattle.ucon_point.specs.declared.order.Reached.{Reached}
use Rattle.ucon_point.specs.declared.order.Stage.{Stage}
use Rattle.ucon_point.specs.declared.order.Stage.TheVariants.{Variables, Subjects, Objects, Acts, Sessions}
use Rattle.ucon_point.specs.declared.row.Row.{Row}
use Rattle.ucon_point.specs.declared.row.Row.TheVariants.{Variable, Entity, Attribute, Act, Session}

-- which sort comes before which
abbrev pub rank : Stage → ℕ
rank Variables = 0
rank Subjects = 1
rank Objects = 2
rank Acts = 3
rank Sessions = 4

abbrev pub stage_of : Side → Stage
stage_of sides.Subject = Subjects
stage_of sides.Object = Objects

-- a name, and of which kind its values are
abbrev pub variable_place : EnvDecl → Bytes × Kind
variable_place d = (d.name, d.kind)

abbrev pub attribute_place : AttrDecl → Bytes × Kind
attribute_place d = (d.name, d.kind)

-- the names of which a value comes with the variables, or with each entity
abbrev pub declared_in : PlainPolicy → Stage → List (Bytes × Kind)
declared_in Q Variables = map variable_place Q.envs
declared_in Q Subjects = map attribute_place (attrs_of Q sides.Subject)
declared_in Q Objects = map attribute_place (attrs_of Q sides.Object)
declared_in Q stage = []

-- before the first row
abbrev pub beginning : Reached
beginning = record { stage = Variables; values = 0 }

-- the name of which a value has to come next, and its kind
abbrev pub awaited : PlainPolicy → Reached → Option (Bytes × Kind)
awaited Q r = slice_get (declared_in Q r.stage) r.values

-- a value may come only if one of its name and kind is awaited
abbrev pub with_value : Option (Bytes × Kind) → Reached → Bytes → Value → Option Reached
with_value None r name v = None
with_value (Some d) r name v = if bytes_eq name d.0 && admits d.1 v then Some (record { stage = r.stage; values = r.values + 1 }) else None

-- any other row only if no value is awaited, and none of a later sort came
abbrev pub with_row : Option (Bytes × Kind) → Reached → Stage → Option Reached
with_row None r stage = if nat_le (rank r.stage) (rank stage) then Some (record { stage = stage; values = 0 }) else None
with_row (Some d) r stage = None

abbrev pub is_variables : Stage → Bool
is_variables Variables = true
is_variables stage = false

-- how far the rows have come with one more; None if it may not come
abbrev pub after : PlainPolicy → Reached → Row → Option Reached
after Q r (Variable name v) = if is_variables r.stage then with_value (awaited Q r) r name v else None
after Q r (Attribute name v) = if is_variables r.stage then None else with_value (awaited Q r) r name v
after Q r (Entity side name) = with_row (awaited Q r) r (stage_of side)
after Q r (Act subject action object moment) = with_row (awaited Q r) r Acts
after Q r (Session s) = with_row (awaited Q r) r Sessions
