-- What a state keeps, as lists, and what can be read off it.
use Rattle.std.specs.Prelude.{◌≡◌, ℕ, suc, zero, ℤ, ◌+◌, Bool, ◌&&◌, IsTrue, List, length, map, position, count_by, Option, Some, None, IsSomeAnd}
use Rattle.std.specs.Prelude.{option_and_then, option_map, slice_get}
use Rattle.std.specs.Map.{lookup}
use Rattle.std.specs.Str.{bytes_eq}
use Rattle.ucon_base.specs.declared.value.Side.{Side}
use Rattle.ucon_base.specs.declared.value.Side.TheVariants as sides
use Rattle.ucon_base.specs.declared.value.Value.{Value}
use Rattle.ucon_base.specs.Admits.{admits}
use Rattle.ucon_model.specs.declared.formula.Ref.{Ref}
use Rattle.ucon_model.specs.declared.formula.Ref.TheVariants.{Subject, Object, Env}
use Rattle.ucon_model.specs.declared.session.SessionRow.{SessionRow}
use Rattle.ucon_model.specs.Plain.{Bytes, PlainPolicy}
use Rattle.ucon_model.specs.Readings.{declared_attr, attrs_of, attr_position, env_position, is_accessing_state}
use Rattle.ucon_model.specs.Truth.{Readings}
use Rattle.ucon_state.specs.declared.act.Act.{Act}
use Rattle.ucon_state.specs.declared.counts.Counts.{Counts}

-- Entities stand in the order in which they were made, each with the number of its first cell; its cells follow each other in the order
-- of the declarations of its side. Variables stand in the order of their declarations. Acts stand in the order in which they were first
-- done, each with its moment. Session n stands at position n - 1, as whatever says of it what it is.
pub record TablesOf (S : Type 0) : Type 0 where
  pub subjects : List (Bytes × ℕ)
  pub objects : List (Bytes × ℕ)
  pub cells : List Value
  pub variables : List Value
  pub tick : ℤ
  pub acts : List (Act × ℤ)
  pub sessions : List S

-- the tables whose sessions say their names
abbrev pub Tables : Type 0
Tables = TablesOf SessionRow

-- ---- entities and their attributes

-- what is of a side
abbrev pub of_side : {X : Type 0} → Side → X → X → X
of_side sides.Subject subject object = subject
of_side sides.Object subject object = object

-- the entities of a side
abbrev pub entities_of : {S : Type 0} → Side → TablesOf S → List (Bytes × ℕ)
entities_of side t = of_side side t.subjects t.objects

-- the number of an entity among those of its side, from 0
abbrev pub entity_number : {S : Type 0} → TablesOf S → Side → Bytes → Option ℕ
entity_number t side name = position (bytes_eq name) (map (λ e. e.0) (entities_of side t))

-- how many cells an entity of a side has
abbrev pub width : PlainPolicy → Side → ℕ
width P side = length (attrs_of P side)

-- the first cell of an entity
abbrev pub first_cell : {S : Type 0} → TablesOf S → Side → Bytes → Option ℕ
first_cell t side name = lookup (bytes_eq name) (entities_of side t)

-- the cell of an attribute of the entity with this number
abbrev pub cell_at : {S : Type 0} → PlainPolicy → TablesOf S → Side → ℕ → Bytes → Option ℕ
cell_at P t side entity attr =
    option_and_then (λ e. option_map (λ position. e.1 + position) (attr_position P side attr)) (slice_get (entities_of side t) entity)

-- the cell of an attribute of the entity with this name
abbrev pub cell_of : {S : Type 0} → PlainPolicy → TablesOf S → Side → Bytes → Bytes → Option ℕ
cell_of P t side name attr = option_and_then (λ entity. cell_at P t side entity attr) (entity_number t side name)

-- the cell is that of an attribute whose declaration admits the value
pub record CellAdmits (P : PlainPolicy) (t : Tables) (cell : ℕ) (v : Value) : Type 0 where
  pub side : Side
  pub entity : ℕ
  pub attr : Bytes
  pub its_cell : cell_at P t side entity attr ≡ Some cell
  pub fits : IsSomeAnd (declared_attr P.attrs side attr) (λ d. IsTrue (admits d.kind v))

-- the value of an attribute of an entity
abbrev pub attribute_in : {S : Type 0} → PlainPolicy → TablesOf S → Side → Bytes → Bytes → Option Value
attribute_in P t side name attr = option_and_then (slice_get t.cells) (cell_of P t side name attr)

-- ---- variables

-- the value of a variable
abbrev pub variable_in : {S : Type 0} → PlainPolicy → TablesOf S → Bytes → Option Value
variable_in P t name = option_and_then (slice_get t.variables) (env_position P name)

-- the value of a place for a session
abbrev pub place_in : PlainPolicy → Tables → SessionRow → Ref → Option Value
place_in P t row (Subject attr) = attribute_in P t sides.Subject row.subject attr
place_in P t row (Object attr) = attribute_in P t sides.Object row.object attr
place_in P t row (Env name) = variable_in P t name

-- ---- acts and sessions

-- whether two acts are the same
abbrev pub same_act : Act → Act → Bool
same_act a b = bytes_eq a.subject b.subject && bytes_eq a.action b.action && bytes_eq a.object b.object

-- the moment of an act
abbrev pub moment_in : {S : Type 0} → TablesOf S → Bytes → Bytes → Bytes → Option ℤ
moment_in t s a o = lookup (same_act (record { subject = s; action = a; object = o })) t.acts

-- session n
abbrev pub session_in : {S : Type 0} → TablesOf S → ℕ → Option S
session_in t zero = None
session_in t (suc n) = slice_get t.sessions n

-- how many of these sessions are accessing
abbrev pub accessing_among : List SessionRow → ℕ
accessing_among rows = count_by (λ row. is_accessing_state row.state) rows

-- ---- all of it

-- what the tables give to read
abbrev pub readings_in : PlainPolicy → Tables → Readings
readings_in P t = record { now = t.tick; row = session_in t; at = place_in P t; done_at = moment_in t }

-- how many there are of each sort
abbrev pub counts_in : Tables → Counts
counts_in t = record {
  subjects = length t.subjects;
  objects = length t.objects;
  acts = length t.acts;
  sessions = length t.sessions;
  accessing = accessing_among t.sessions;
}
