-- What each action makes of the tables.
use Rattle.std.specs.Prelude.{Bool, true, false, ℕ, ℤ, pos, ◌+◌, ◌-◌, List, [], ◌∷◌, ◌++◌, length, map, slice_get, slice_set, option_and_then}
use Rattle.std.specs.Prelude.{unwrap_or}
use Rattle.std.specs.Option.{option_map_or}
use Rattle.indexmap.specs.IndexMap.{insert_entry}
use Rattle.ucon_base.specs.declared.value.Side.{Side}
use Rattle.ucon_base.specs.declared.value.Side.TheVariants as sides
use Rattle.ucon_base.specs.declared.value.Value.{Value}
use Rattle.ucon_model.specs.declared.command.Caller.{Caller}
use Rattle.ucon_model.specs.declared.policy.AttrDecl.{AttrDecl}
use Rattle.ucon_model.specs.declared.policy.EnvDecl.{EnvDecl}
use Rattle.ucon_model.specs.declared.session.SessionRow.{SessionRow}
use Rattle.ucon_model.specs.declared.session.SessionState.{SessionState}
use Rattle.ucon_model.specs.declared.session.SessionState.TheVariants.{Requesting, Denied, Accessing, Revoked, Ended}
use Rattle.ucon_model.specs.Plain.{Bytes, PlainPolicy}
use Rattle.ucon_model.specs.Action.{Action, Trace, subject, object, write, env, tick, act, tries, wait, permit, deny, ends, revoke, amend}
use Rattle.ucon_state.specs.declared.act.Act.{Act}
use Rattle.ucon_model.specs.Readings.{in_force, attrs_of, attr_position, env_position}
use Rattle.ucon_state.specs.Tables.{TablesOf, Tables, width, cell_of, variable_in, same_act, session_in}

-- the defaults of the attributes of a side
abbrev pub defaults_of : PlainPolicy → Side → List Value
defaults_of P side = map (λ d. d.start) (attrs_of P side)

-- with a new entity behind the others, which has this first cell
abbrev pub with_name : {S : Type 0} → TablesOf S → Side → Bytes → ℕ → TablesOf S
with_name t sides.Subject name first = record t { subjects = t.subjects ++ (name, first) ∷ [] }
with_name t sides.Object name first = record t { objects = t.objects ++ (name, first) ∷ [] }

-- with a new entity, whose cells come behind the others and hold these values
abbrev pub with_new_entity : {S : Type 0} → TablesOf S → Side → Bytes → List Value → TablesOf S
with_new_entity t side name values = record (with_name t side name (length t.cells)) { cells = t.cells ++ values }

-- with a new entity, whose attributes have their defaults
abbrev pub with_entity : {S : Type 0} → PlainPolicy → TablesOf S → Side → Bytes → TablesOf S
with_entity P t side name = with_new_entity t side name (defaults_of P side)

-- with this value in a cell
abbrev pub with_cell : {S : Type 0} → TablesOf S → ℕ → Value → TablesOf S
with_cell t cell v = record t { cells = slice_set t.cells cell v }

-- with this value as that of the variable at a position
abbrev pub with_variable : {S : Type 0} → TablesOf S → ℕ → Value → TablesOf S
with_variable t position v = record t { variables = slice_set t.variables position v }

-- with this tick
abbrev pub with_tick : {S : Type 0} → TablesOf S → ℤ → TablesOf S
with_tick t now = record t { tick = now }

-- with this act as done now: at its own position, or behind the others if it was never done
abbrev pub with_act : {S : Type 0} → TablesOf S → Act → TablesOf S
with_act t a = record t { acts = insert_entry same_act t.acts a t.tick }

-- with an act behind the others that was done at this moment
abbrev pub with_new_act : {S : Type 0} → TablesOf S → Act → ℤ → TablesOf S
with_new_act t a moment = record t { acts = t.acts ++ (a, moment) ∷ [] }

-- with a new session behind the others
abbrev pub with_new_session : {S : Type 0} → TablesOf S → S → TablesOf S
with_new_session t session = record t { sessions = t.sessions ++ session ∷ [] }

-- a session as it is tried
abbrev pub tried : Caller → Bytes → Bytes → Bytes → SessionRow
tried caller s r o = record { caller = caller; right = r; subject = s; object = o; state = Requesting; start = pos 0 }

-- with this row as that of the session at a position
abbrev pub with_row : Tables → ℕ → SessionRow → Tables
with_row t position row = record t { sessions = slice_set t.sessions position row }

-- whether a session in the one state may become the other
abbrev pub may_become : SessionState → SessionState → Bool
may_become Requesting Denied = true
may_become Requesting Accessing = true
may_become Accessing Ended = true
may_become Accessing Revoked = true
may_become before after = false

-- a session once it is in this state; if it becomes accessing, it starts now
abbrev pub moved_to : SessionState → ℤ → SessionRow → SessionRow
moved_to Accessing now row = record row { state = Accessing; start = now }
moved_to state now row = record row { state = state }

-- with session n in this state
abbrev pub with_state : Tables → ℕ → SessionState → Tables
with_state t n state = option_map_or (λ row. with_row t (n - 1) (moved_to state t.tick row)) (session_in t n) t

-- ---- a policy that replaces another

-- what an entity with this first one of the cells has of a declaration: what it had, if the policy before declares it, else the default
abbrev pub kept_value : PlainPolicy → List Value → Side → ℕ → AttrDecl → Value
kept_value P cells side first d =
    unwrap_or (option_and_then (λ position. slice_get cells (first + position)) (attr_position P side d.name)) d.start

-- the cells of an entity under the new policy
abbrev pub kept_cells : PlainPolicy → PlainPolicy → List Value → Side → ℕ → List Value
kept_cells P Q cells side first = map (kept_value P cells side first) (attrs_of Q side)

-- the cells of these entities, those of each behind those of the one before it
abbrev pub all_kept_cells : PlainPolicy → PlainPolicy → List Value → Side → List (Bytes × ℕ) → List Value
all_kept_cells P Q cells side [] = []
all_kept_cells P Q cells side (e ∷ es) = kept_cells P Q cells side e.1 ++ all_kept_cells P Q cells side es

-- these entities with so many cells each, one behind the other from this cell on
abbrev pub laid_from : ℕ → ℕ → List (Bytes × ℕ) → List (Bytes × ℕ)
laid_from first width [] = []
laid_from first width (e ∷ es) = (e.0, first) ∷ laid_from (first + width) width es

-- what a variable has of a declaration: what it had, if the policy before declares it, else the default
abbrev pub kept_variable : {S : Type 0} → PlainPolicy → TablesOf S → EnvDecl → Value
kept_variable P t d = unwrap_or (variable_in P t d.name) d.start

-- the tables under a policy that replaces another: subjects have the first cells, and objects those behind them
abbrev pub amended : {S : Type 0} → PlainPolicy → PlainPolicy → TablesOf S → TablesOf S
amended P Q t = record t {
  subjects = laid_from 0 (width Q sides.Subject) t.subjects;
  objects = laid_from (length (all_kept_cells P Q t.cells sides.Subject t.subjects)) (width Q sides.Object) t.objects;
  cells = all_kept_cells P Q t.cells sides.Subject t.subjects ++ all_kept_cells P Q t.cells sides.Object t.objects;
  variables = map (kept_variable P t) Q.envs;
}

-- ---- all actions

-- the tables after an action
abbrev pub applied : PlainPolicy → Action → Tables → Tables
applied P (subject name) t = with_entity P t sides.Subject name
applied P (object name) t = with_entity P t sides.Object name
applied P (write side name attr v) t = option_map_or (λ cell. with_cell t cell v) (cell_of P t side name attr) t
applied P (env name v) t = option_map_or (λ position. with_variable t position v) (env_position P name) t
applied P (tick now) t = with_tick t now
applied P (act s a o) t = with_act t (record { subject = s; action = a; object = o })
applied P (tries n caller s r o) t = with_new_session t (tried caller s r o)
applied P (wait n label) t = t
applied P (permit n) t = with_state t n Accessing
applied P (deny n label) t = with_state t n Denied
applied P (ends n) t = with_state t n Ended
applied P (revoke n label) t = with_state t n Revoked
applied P (amend text Q) t = amended P Q t

-- before all actions: no entities, each variable at its default, tick 0
abbrev pub opening_of : {S : Type 0} → PlainPolicy → TablesOf S
opening_of P = record {
  subjects = [];
  objects = [];
  cells = [];
  variables = map (λ d. d.start) P.envs;
  tick = pos 0;
  acts = [];
  sessions = [];
}

abbrev pub opening_tables : PlainPolicy → Tables
opening_tables P = opening_of P

-- the tables after a trace
abbrev pub tables_of : PlainPolicy → Trace → Tables
tables_of P [] = opening_tables P
tables_of P (a ∷ T) = applied (in_force P T) a (tables_of P T)
