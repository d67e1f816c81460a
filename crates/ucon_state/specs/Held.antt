-- All that is there to be listed: after a trace, and in a state.
use Rattle.std.specs.Prelude.{◌≡◌, ℕ, ℤ, List, length, map, Option}
use Rattle.ucon_base.specs.declared.value.Side.{Side}
use Rattle.ucon_base.specs.declared.value.Value.{Value}
use Rattle.ucon_model.specs.declared.session.SessionRow.{SessionRow}
use Rattle.ucon_model.specs.Plain.{Bytes, PlainPolicy}
use Rattle.ucon_model.specs.Action.{Trace}
use Rattle.ucon_model.specs.Readings.{in_force, tick_of, entities, entity_names, attribute, variable, moment, act_rows, session, sessions}
use Rattle.ucon_state.specs.declared.held.ActRow.{ActRow}
use Rattle.ucon_state.specs.declared.state.State.{State}
use Rattle.ucon_state.specs.Following.{row_of}
use Rattle.ucon_state.specs.Shown.{Shown, shown}
use Rattle.ucon_state.specs.Tables.{Tables, entities_of, attribute_in, variable_in, moment_in, session_in}

-- The policy in force; the entities of each side in the order in which they were made; what an attribute of an entity holds, and a
-- variable; the tick; the acts by their three names, in the order in which they were first done, and the moment at which each was last
-- done; how many sessions there are, and each by its number, from 1.
pub record Held : Type 0 where
  pub policy : PlainPolicy
  pub names : Side → List Bytes
  pub attribute : Side → Bytes → Bytes → Option Value
  pub variable : Bytes → Option Value
  pub tick : ℤ
  pub acts : List (Bytes × Bytes × Bytes)
  pub moment : Bytes → Bytes → Bytes → Option ℤ
  pub sessions : ℕ
  pub session : ℕ → Option SessionRow

-- what is there after a trace
abbrev pub held_after : PlainPolicy → Trace → Held
held_after P T = record {
  policy = in_force P T;
  names = λ side. entity_names side T;
  attribute = λ side name attr. attribute P T side name attr;
  variable = λ name. variable P T name;
  tick = tick_of T;
  acts = act_rows T;
  moment = λ s a o. moment s a o T;
  sessions = sessions T;
  session = λ n. session T n;
}

-- what is there in tables under a policy
abbrev pub held_in : PlainPolicy → Tables → Held
held_in Q t = record {
  policy = Q;
  names = λ side. map (λ e. e.0) (entities_of side t);
  attribute = λ side name attr. attribute_in Q t side name attr;
  variable = λ name. variable_in Q t name;
  tick = t.tick;
  acts = map row_of t.acts;
  moment = λ s a o. moment_in t s a o;
  sessions = length t.sessions;
  session = λ n. session_in t n;
}

-- what is there in a state
abbrev pub held : State → Held
held s = held_in (shown s).policy (shown s).tables

-- The trace gives to read what the state does: the same is there after it, and no entity was made twice.
pub record ReadsAlike (s : Shown) (P : PlainPolicy) (T : Trace) : Type 0 where
  pub held_alike : held_in s.policy s.tables ≡ held_after P T
  pub made_once : (side : Side) → entities side T ≡ length (entity_names side T)

-- the three names of an act
abbrev pub names_of : ActRow → Bytes × Bytes × Bytes
names_of row = (row.subject, row.action, row.object)
