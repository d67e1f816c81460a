-- Traces that could have happened, and what tables keep of one.
use Rattle.std.specs.Prelude.{◌≡◌, ◌↔◌, ◌⊎◌, ℕ, ℤ, ◌+◌, ◌≤◌, ◌&&◌, List, [], ◌∷◌, length, map, position, Some, is_some, option_and_then, slice_get, ⊤}
use Rattle.std.specs.Map.{lookup}
use Rattle.std.specs.Str.{bytes_eq}
use Rattle.ucon_base.specs.declared.value.Side.{Side}
use Rattle.ucon_base.specs.declared.value.Side.TheVariants.{Subject, Object}
use Rattle.ucon_base.specs.declared.value.Value.{Value}
use Rattle.ucon_model.specs.Plain.{Bytes, PlainPolicy}
use Rattle.ucon_model.specs.Action.{Action, Trace}
use Rattle.ucon_model.specs.Readings.{in_force, tick_of, has_entity, entities, entity_names, declared_attr, attribute, env_position, variable, moment}
use Rattle.ucon_model.specs.Readings.{act_rows, acts, session, sessions, accessing}
use Rattle.ucon_model.specs.Truth.{readings}
use Rattle.ucon_model.specs.Legal.{IsLegal}
use Rattle.ucon_model.specs.History.{Agree}
use Rattle.ucon_model.specs.Sound.{IsSound}
use Rattle.ucon_model.specs.Typing.{IsTyped}
use Rattle.ucon_state.specs.declared.act.Act.{Act}
use Rattle.ucon_state.specs.declared.counts.Counts.{Counts}
use Rattle.ucon_state.specs.Tables.{Tables, entities_of, entity_number, width, first_cell, cell_of, attribute_in, variable_in, same_act, session_in}
use Rattle.ucon_state.specs.Tables.{readings_in, counts_in}
use Rattle.ucon_state.specs.Applied.{applied}
use Rattle.ucon_state.specs.Shown.{Shown}

-- each action of the trace is legal after those before it
abbrev pub IsLegalTrace : PlainPolicy → Trace → Type 0
IsLegalTrace P [] = ⊤
IsLegalTrace P (a ∷ T) = IsLegalTrace P T × IsLegal P T a

-- the tables after these actions behind a trace, the first one first
abbrev pub all_applied : PlainPolicy → Trace → List Action → Tables → Tables
all_applied P T [] t = t
all_applied P T (a ∷ actions) t = all_applied P (a ∷ T) actions (applied (in_force P T) a t)

-- how many there are of each sort after a trace
abbrev pub counts_of : Trace → Counts
counts_of T = record { subjects = entities Subject T; objects = entities Object T; acts = acts T; sessions = sessions T; accessing = accessing T }

-- ---- what the tables keep of a trace, part by part

-- entities with their first cells are those of a side after a trace
pub record KeepsNames (es : List (Bytes × ℕ)) (side : Side) (T : Trace) : Type 0 where
  pub names : map (λ e. e.0) es ≡ entity_names side T
  pub count : length es ≡ entities side T
  pub there : (e : Bytes) → is_some (lookup (bytes_eq e) es) ≡ has_entity side e T
  pub number : (e : Bytes) (i : ℕ) → slice_get (map (λ d. d.0) es) i ≡ Some e → position (bytes_eq e) (map (λ d. d.0) es) ≡ Some i

-- each entity's cells are there, and no two entities share one
pub record HaveOwnCells (P : PlainPolicy) (t : Tables) : Type 0 where
  pub within : (side : Side) (name : Bytes) (f : ℕ) → first_cell t side name ≡ Some f → f + width P side ≤ length t.cells
  pub apart : (side side' : Side) (name name' : Bytes) (f f' : ℕ) → first_cell t side name ≡ Some f → first_cell t side' name' ≡ Some f'
      → ((side ≡ side') × (name ≡ name')) ⊎ ((f + width P side ≤ f') ⊎ (f' + width P side' ≤ f))

-- the entities of both sides, with their attributes
pub record KeepsEntities (P : PlainPolicy) (t : Tables) (T : Trace) : Type 0 where
  pub names : (side : Side) → KeepsNames (entities_of side t) side T
  pub own_cells : HaveOwnCells (in_force P T) t
  pub values : (side : Side) (name attr : Bytes) → attribute_in (in_force P T) t side name attr ≡ attribute P T side name attr

-- the variables
pub record KeepsVariables (P : PlainPolicy) (variables : List Value) (T : Trace) : Type 0 where
  pub count : length variables ≡ length (in_force P T).envs
  pub values : (name : Bytes) → option_and_then (slice_get variables) (env_position (in_force P T) name) ≡ variable P T name

-- an act by its three names
abbrev pub act_of : Bytes → Bytes → Bytes → Act
act_of s a o = record { subject = s; action = a; object = o }

-- the three names of an act with its moment
abbrev pub row_of : Act × ℤ → Bytes × Bytes × Bytes
row_of e = (e.0.subject, e.0.action, e.0.object)

-- the acts
pub record KeepsActs (es : List (Act × ℤ)) (T : Trace) : Type 0 where
  pub moments : (s a o : Bytes) → lookup (same_act (act_of s a o)) es ≡ moment s a o T
  pub rows : map row_of es ≡ act_rows T
  pub count : length es ≡ acts T

-- the sessions
pub record KeepsSessions (t : Tables) (T : Trace) : Type 0 where
  pub rows : (n : ℕ) → session_in t n ≡ session T n
  pub count : length t.sessions ≡ sessions T

-- ---- all of it

-- the tables keep all of a trace that commands ask for
pub record TablesFollow (P : PlainPolicy) (t : Tables) (T : Trace) : Type 0 where
  pub entities : KeepsEntities P t T
  pub variables : KeepsVariables P t.variables T
  pub tick : t.tick ≡ tick_of T
  pub acts : KeepsActs t.acts T
  pub sessions : KeepsSessions t T

-- The state follows a trace that began under a policy: it shows the policy in force, which is well typed; its tables keep the trace; and
-- the trace is sound. It follows every trace that gives the same to read.
pub record Follows (s : Shown) (P : PlainPolicy) (T : Trace) : Type 0 where
  pub policy : s.policy ≡ in_force P T
  pub typed : IsTyped (in_force P T)
  pub tables : TablesFollow P s.tables T
  pub sound : IsSound P T

-- the state follows some trace that began under some policy
pub record IsFollowing (s : Shown) : Type 0 where
  pub policy : PlainPolicy
  pub trace : Trace
  pub follows : Follows s policy trace

-- it holds after each trace that the state follows
abbrev pub AfterEach : Shown → (PlainPolicy → Trace → Type 0) → Type 0
AfterEach s Q = (P : PlainPolicy) (T : Trace) → Follows s P T → Q P T

-- Tables under a policy give to read what a trace does, and count what it counts. The entities of a side stand in the order in which
-- they were first made, each under one number; an attribute has a cell if its entity is there and it is declared for the side.
pub record Keeps (Q : PlainPolicy) (t : Tables) (P : PlainPolicy) (T : Trace) : Type 0 where
  pub readings_agree : Agree (readings_in Q t) (readings P T)
  pub counts_agree : counts_in t ≡ counts_of T
  pub names : (side : Side) → map (λ e. e.0) (entities_of side t) ≡ entity_names side T
  pub entity_is_there : (side : Side) (name : Bytes) → is_some (entity_number t side name) ≡ has_entity side name T
  pub number_is_position : (side : Side) (name : Bytes) (i : ℕ) → (entity_number t side name ≡ Some i)
      ↔ (slice_get (entity_names side T) i ≡ Some name)
  pub cell_is_there : (side : Side) (name attr : Bytes)
      → is_some (cell_of Q t side name attr) ≡ (has_entity side name T && is_some (declared_attr (in_force P T).attrs side attr))
  pub attribute_agrees : (side : Side) (name attr : Bytes) → attribute_in Q t side name attr ≡ attribute P T side name attr
  pub variable_agrees : (name : Bytes) → variable_in Q t name ≡ variable P T name
  pub act_rows_agree : map row_of t.acts ≡ act_rows T
