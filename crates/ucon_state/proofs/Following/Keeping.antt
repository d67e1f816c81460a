-- The tables after a legal trace keep it.
use Rattle.std.proofs.Common.{◌≡◌, ◌∙◌, sym, ap, subst, ℕ, ℤ, ◌-◌, true, false, List, [], ◌∷◌, map, refl}
use Rattle.std.specs.Prelude.{◌↔◌, Option, Some, None, is_some, option_and_then, slice_get, slice_set, IsTrue, IsSomeAnd, ⊤}
use Rattle.std.specs.Option.{option_map_or}
use Rattle.std.specs.Str.{bytes_eq}
use Rattle.ucon_base.specs.declared.value.Side.{Side}
use Rattle.ucon_base.specs.declared.value.Side.TheVariants as sides
use Rattle.ucon_base.specs.declared.value.Value.{Value}
use Rattle.ucon_base.specs.Admits.{admits}
use Rattle.ucon_model.specs.declared.formula.Ref.{Ref}
use Rattle.ucon_model.specs.declared.formula.Ref.TheVariants as refs
use Rattle.ucon_model.specs.declared.policy.EnvDecl.{EnvDecl}
use Rattle.ucon_model.specs.declared.session.SessionRow.{SessionRow}
use Rattle.ucon_model.specs.declared.session.SessionState.{SessionState}
use Rattle.ucon_model.specs.declared.session.SessionState.TheVariants.{Denied, Accessing, Revoked, Ended}
use Rattle.ucon_model.specs.Plain.{Bytes, PlainPolicy}
use Rattle.ucon_model.specs.Action.{Action, Trace, subject, object, write, env, tick, act, tries, wait, permit, deny, ends, revoke, amend, extended}
use Rattle.ucon_model.specs.Readings.{in_force, tick_of, entity_names, declared_env, env_position}
use Rattle.ucon_model.specs.Truth.{place_of}
use Rattle.ucon_model.specs.Legal.{IsLegal, AreLegal}
use Rattle.ucon_model.specs.Reach.{replaces}
use Rattle.ucon_model.specs.Sound.{IsSound}
use Rattle.ucon_model.specs.Typing.{IsTyped}
use Rattle.ucon_state.specs.Shown.{Shown, changed_by}
use Rattle.ucon_state.specs.declared.act.Act.{Act}
use Rattle.ucon_state.specs.Tables.{Tables, first_cell, entities_of, entity_number, cell_of, place_in, session_in, counts_in}
use Rattle.ucon_state.specs.Applied.{with_cell, with_variable, moved_to, with_state, applied, opening_tables, tables_of}
use Rattle.ucon_state.specs.Following.{IsLegalTrace, all_applied, counts_of, KeepsEntities, KeepsVariables, KeepsActs, TablesFollow, Follows, Keeps}
use Rattle.ucon_state.proofs.Following.Places.{passes_there, placed_where_found, placed_where_first}
use Rattle.ucon_state.proofs.Following.Names.{same_name}
use Rattle.ucon_state.proofs.Following.Entities.{keeps_entities_opening, keeps_entities_after, first_stays, cell_where_declared}
use Rattle.ucon_state.proofs.Following.Cells.{from_first, cell_of-first_cell}
use Rattle.ucon_state.proofs.Following.Acts.{keeps_acts_opening, keeps_acts_act}
use Rattle.ucon_state.proofs.Following.Sessions.{keeps_sessions_opening, keeps_sessions_after, accessing_kept, by_option}
use Rattle.ucon_state.proofs.Following.Amending.{keeps_variables_amend}
use Rattle.ucon_state.proofs.Following.Variables.{keeps_variables_opening, keeps_variables_given}

-- ---- what an action leaves

moved_leaves : {A : Type 0} (read : Tables → A) (t : Tables) (n : ℕ) (state : SessionState) → ((rows : List SessionRow) → read (record t { sessions = rows }) ≡ read t)
    → read (with_state t n state) ≡ read t
moved_leaves read t n state each =
    by_option read t (λ row. record t { sessions = slice_set t.sessions (n - 1) (moved_to state t.tick row) }) (session_in t n)
    (λ row. each (slice_set t.sessions (n - 1) (moved_to state t.tick row)))

-- ---- variables

abbrev pub LeavesVariables : Action → Type 0
LeavesVariables (env name v) = ⊥
LeavesVariables (amend text Q) = ⊥
LeavesVariables a = ⊤

same_variables : (P : PlainPolicy) (t : Tables) (a : Action) → LeavesVariables a → (applied P a t).variables ≡ t.variables
same_variables P t (subject name) leaves = refl
same_variables P t (object name) leaves = refl
same_variables P t (write side name attr v) leaves = by_option (λ u. u.variables) t (λ cell. with_cell t cell v) (cell_of P t side name attr) (λ cell. refl)
same_variables P t (env name v) leaves = absurd leaves
same_variables P t (amend text Q) leaves = absurd leaves
same_variables P t (tick now) leaves = refl
same_variables P t (act s a o) leaves = refl
same_variables P t (tries n caller s r o) leaves = refl
same_variables P t (wait n label) leaves = refl
same_variables P t (permit n) leaves = moved_leaves (λ u. u.variables) t n Accessing (λ rows. refl)
same_variables P t (deny n label) leaves = moved_leaves (λ u. u.variables) t n Denied (λ rows. refl)
same_variables P t (ends n) leaves = moved_leaves (λ u. u.variables) t n Ended (λ rows. refl)
same_variables P t (revoke n label) leaves = moved_leaves (λ u. u.variables) t n Revoked (λ rows. refl)

pub still_variables : (P : PlainPolicy) (variables : List Value) (T : Trace) (a : Action) → LeavesVariables a → KeepsVariables P variables T → KeepsVariables P variables (a ∷ T)
still_variables P variables T (env name v) leaves h = absurd leaves
still_variables P variables T (amend text Q) leaves h = absurd leaves
still_variables P variables T a leaves h = record { count = h.count; values = h.values }

variables_left : (P : PlainPolicy) (t : Tables) (T : Trace) (a : Action) → LeavesVariables a → KeepsVariables P t.variables T
    → KeepsVariables P (applied (in_force P T) a t).variables (a ∷ T)
variables_left P t T a leaves h =
    subst (λ (variables : List Value). KeepsVariables P variables (a ∷ T)) (sym (same_variables (in_force P T) t a leaves)) (still_variables P t.variables T a leaves h)

is_declared : (o : Option EnvDecl) (v : Value) → IsSomeAnd o (λ d. IsTrue (admits d.kind v)) → is_some o ≡ true
is_declared None v h = absurd h
is_declared (Some d) v h = refl

variable_given : (P : PlainPolicy) (t : Tables) (T : Trace) (name : Bytes) (v : Value) (o : Option ℕ) → env_position (in_force P T) name ≡ o → is_some o ≡ true
    → KeepsVariables P t.variables T → KeepsVariables P (option_map_or (λ place. with_variable t place v) o t).variables (env name v ∷ T)
variable_given P t T name v None is there h = absurd cc
variable_given P t T name v (Some place) is there h = keeps_variables_given P t.variables T name v place h is

keeps_variables_after : (P : PlainPolicy) (t : Tables) (T : Trace) (a : Action) → IsLegal P T a → KeepsVariables P t.variables T
    → KeepsVariables P (applied (in_force P T) a t).variables (a ∷ T)
keeps_variables_after P t T (env name v) legal h =
    variable_given P t T name v (env_position (in_force P T) name) refl
    (placed_where_first (λ d. bytes_eq name d.name) (in_force P T).envs ∙ is_declared (declared_env (in_force P T).envs name) v legal) h
keeps_variables_after P t T (amend text Q) legal h = keeps_variables_amend P t T Q h text
keeps_variables_after P t T a legal h = variables_left P t T a tt h

-- ---- the tick

keeps_tick_after : (P : PlainPolicy) (t : Tables) (T : Trace) (a : Action) → t.tick ≡ tick_of T → (applied P a t).tick ≡ tick_of (a ∷ T)
keeps_tick_after P t T (subject name) h = h
keeps_tick_after P t T (object name) h = h
keeps_tick_after P t T (write side name attr v) h = by_option (λ u. u.tick) t (λ cell. with_cell t cell v) (cell_of P t side name attr) (λ cell. refl) ∙ h
keeps_tick_after P t T (env name v) h = by_option (λ u. u.tick) t (λ place. with_variable t place v) (env_position P name) (λ place. refl) ∙ h
keeps_tick_after P t T (tick now) h = refl
keeps_tick_after P t T (act s a o) h = h
keeps_tick_after P t T (tries n caller s r o) h = h
keeps_tick_after P t T (wait n label) h = h
keeps_tick_after P t T (permit n) h = moved_leaves (λ u. u.tick) t n Accessing (λ rows. refl) ∙ h
keeps_tick_after P t T (deny n label) h = moved_leaves (λ u. u.tick) t n Denied (λ rows. refl) ∙ h
keeps_tick_after P t T (ends n) h = moved_leaves (λ u. u.tick) t n Ended (λ rows. refl) ∙ h
keeps_tick_after P t T (amend text Q) h = h
keeps_tick_after P t T (revoke n label) h = moved_leaves (λ u. u.tick) t n Revoked (λ rows. refl) ∙ h

-- ---- acts

abbrev pub LeavesActs : Action → Type 0
LeavesActs (act s a o) = ⊥
LeavesActs a = ⊤

same_acts : (P : PlainPolicy) (t : Tables) (a : Action) → LeavesActs a → (applied P a t).acts ≡ t.acts
same_acts P t (subject name) leaves = refl
same_acts P t (object name) leaves = refl
same_acts P t (write side name attr v) leaves = by_option (λ u. u.acts) t (λ cell. with_cell t cell v) (cell_of P t side name attr) (λ cell. refl)
same_acts P t (env name v) leaves = by_option (λ u. u.acts) t (λ place. with_variable t place v) (env_position P name) (λ place. refl)
same_acts P t (tick now) leaves = refl
same_acts P t (act s a o) leaves = absurd leaves
same_acts P t (tries n caller s r o) leaves = refl
same_acts P t (wait n label) leaves = refl
same_acts P t (permit n) leaves = moved_leaves (λ u. u.acts) t n Accessing (λ rows. refl)
same_acts P t (deny n label) leaves = moved_leaves (λ u. u.acts) t n Denied (λ rows. refl)
same_acts P t (ends n) leaves = moved_leaves (λ u. u.acts) t n Ended (λ rows. refl)
same_acts P t (amend text Q) leaves = refl
same_acts P t (revoke n label) leaves = moved_leaves (λ u. u.acts) t n Revoked (λ rows. refl)

pub still_acts : (es : List (Act × ℤ)) (T : Trace) (a : Action) → LeavesActs a → KeepsActs es T → KeepsActs es (a ∷ T)
still_acts es T (act s a o) leaves h = absurd leaves
still_acts es T a leaves h = record { moments = h.moments; rows = h.rows; count = h.count }

acts_left : (P : PlainPolicy) (t : Tables) (T : Trace) (a : Action) → LeavesActs a → KeepsActs t.acts T → KeepsActs (applied P a t).acts (a ∷ T)
acts_left P t T a leaves h = subst (λ (es : List (Act × ℤ)). KeepsActs es (a ∷ T)) (sym (same_acts P t a leaves)) (still_acts t.acts T a leaves h)

keeps_acts_after : (P : PlainPolicy) (t : Tables) (T : Trace) (a : Action) → t.tick ≡ tick_of T → KeepsActs t.acts T → KeepsActs (applied P a t).acts (a ∷ T)
keeps_acts_after P t T (act s a o) now h = keeps_acts_act t.acts T t.tick s a o now h
keeps_acts_after P t T a now h = acts_left P t T a tt h

-- ---- all of it

pub follows_opening : (P : PlainPolicy) → TablesFollow P (opening_tables P) []
follows_opening P = record {
  entities = keeps_entities_opening P;
  variables = keeps_variables_opening P;
  tick = refl;
  acts = keeps_acts_opening;
  sessions = keeps_sessions_opening P;
}

pub follows_after : (P : PlainPolicy) (t : Tables) (T : Trace) (a : Action) → IsLegal P T a → TablesFollow P t T → TablesFollow P (applied (in_force P T) a t) (a ∷ T)
follows_after P t T a legal h = record {
  entities = keeps_entities_after P t T a legal h.entities;
  variables = keeps_variables_after P t T a legal h.variables;
  tick = keeps_tick_after (in_force P T) t T a h.tick;
  acts = keeps_acts_after (in_force P T) t T a h.tick h.acts;
  sessions = keeps_sessions_after P (in_force P T) t T a h.tick legal h.sessions;
}

pub follows : (P : PlainPolicy) (T : Trace) → IsLegalTrace P T → TablesFollow P (tables_of P T) T
follows P [] legal = follows_opening P
follows P (a ∷ T) legal = follows_after P (tables_of P T) T a legal.1 (follows P T legal.0)

-- ---- what is kept

same_place : (P : PlainPolicy) (t : Tables) (T : Trace) → TablesFollow P t T → (row : SessionRow) (place : Ref) → place_in (in_force P T) t row place ≡ place_of P T row place
same_place P t T h row (refs.Subject attr) = h.entities.values sides.Subject row.subject attr
same_place P t T h row (refs.Object attr) = h.entities.values sides.Object row.object attr
same_place P t T h row (refs.Env name) = h.variables.values name

same_counts : (P : PlainPolicy) (t : Tables) (T : Trace) → TablesFollow P t T → counts_in t ≡ counts_of T
same_counts P t T h = λ i. record {
  subjects = (h.entities.names sides.Subject).count i;
  objects = (h.entities.names sides.Object).count i;
  acts = h.acts.count i;
  sessions = h.sessions.count i;
  accessing = accessing_kept t T h.sessions i;
}

named_by : (name : Bytes) (o : Option Bytes) → IsSomeAnd o (λ e. bytes_eq name e ≡ true) → o ≡ Some name
named_by name None h = absurd h
named_by name (Some e) h = ap (λ (e : Bytes). Some e) (sym (same_name name e h))

number_is_position : (P : PlainPolicy) (t : Tables) (T : Trace) → TablesFollow P t T → (side : Side) (name : Bytes) (i : ℕ)
    → (entity_number t side name ≡ Some i) ↔ (slice_get (entity_names side T) i ≡ Some name)
number_is_position P t T h side name i =
    let names = h.entities.names side in
    subst (λ (es : List Bytes). (entity_number t side name ≡ Some i) ↔ (slice_get es i ≡ Some name)) names.names (
      λ at. named_by name (slice_get (map (λ (e : Bytes × ℕ). e.0) (entities_of side t)) i) (passes_there (bytes_eq name) (map (λ (e : Bytes × ℕ). e.0) (entities_of side t)) i at),
      names.number name i,
    )

pub keeps : (P : PlainPolicy) (t : Tables) (T : Trace) → TablesFollow P t T → Keeps (in_force P T) t P T
keeps P t T h = record {
  readings_agree = record { now = h.tick; row = h.sessions.rows; at = same_place P t T h; done_at = h.acts.moments };
  counts_agree = same_counts P t T h;
  names = λ side. (h.entities.names side).names;
  entity_is_there = λ side name. placed_where_found (bytes_eq name) (entities_of side t) ∙ (h.entities.names side).there name;
  number_is_position = number_is_position P t T h;
  cell_is_there = cell_where_declared P t T h.entities;
  attribute_agrees = h.entities.values;
  variable_agrees = h.variables.values;
  act_rows_agree = h.acts.rows;
}

pub tables_keep : (P : PlainPolicy) (T : Trace) → IsLegalTrace P T → Keeps (in_force P T) (tables_of P T) P T
tables_keep P T legal = keeps P (tables_of P T) T (follows P T legal)

-- ---- states that follow

pub followed_before : (P : PlainPolicy) → IsTyped P → IsSound P [] → (s : Shown) → s.policy ≡ P → s.tables ≡ opening_tables s.policy → Follows s P []
followed_before P typed sound s policy tables = record {
  policy = policy;
  typed = typed;
  tables = subst (λ (t : Tables). TablesFollow P t []) (sym (tables ∙ ap opening_tables policy)) (follows_opening P);
  sound = sound;
}

-- the policy that an action leaves in force
policy_after : (P : PlainPolicy) (T : Trace) (a : Action) → in_force (in_force P T) (a ∷ []) ≡ in_force P (a ∷ T)
policy_after P T (amend text Q) = refl
policy_after P T a = refl

pub followed_after : (s : Shown) (P : PlainPolicy) (T : Trace) (a : Action) → Follows s P T → IsLegal P T a → IsTyped (in_force P (a ∷ T)) → IsSound P (a ∷ T)
    → Follows (changed_by s a) P (a ∷ T)
followed_after s P T a h legal typed sound = record {
  policy = ap (λ (Q : PlainPolicy). in_force Q (a ∷ [])) h.policy ∙ policy_after P T a;
  typed = typed;
  tables = subst (λ (Q : PlainPolicy). TablesFollow P (applied Q a s.tables) (a ∷ T)) (sym h.policy) (follows_after P s.tables T a legal h.tables);
  sound = sound;
}

pub followed_kept : (s : Shown) (P : PlainPolicy) (T : Trace) → Follows s P T → Keeps s.policy s.tables P T
followed_kept s P T h = subst (λ (Q : PlainPolicy). Keeps Q s.tables P T) (sym h.policy) (keeps P s.tables T h.tables)

-- ---- cells of those that are there stay

cell_from : (f : Option ℕ) (g : Option ℕ) (read : ℕ → Option ℕ) (cell : ℕ) → ((n : ℕ) → f ≡ Some n → g ≡ Some n) → option_and_then read f ≡ Some cell → option_and_then read g ≡ Some cell
cell_from None g read cell same is = absurd cc
cell_from (Some n) g read cell same is = ap (option_and_then read) (same n refl) ∙ is

cell_still : (P : PlainPolicy) (t : Tables) (T : Trace) (a : Action) → KeepsEntities P t T → IsLegal P T a → replaces a ≡ false → (side : Side) (name attr : Bytes) (cell : ℕ)
    → cell_of (in_force P T) t side name attr ≡ Some cell → cell_of (in_force P T) (applied (in_force P T) a t) side name attr ≡ Some cell
cell_still P t T a h legal stays side name attr cell is =
    let R : PlainPolicy = in_force P T in
    cell_of-first_cell R (applied R a t) side name attr
    ∙ cell_from (first_cell t side name) (first_cell (applied R a t) side name) (from_first R side attr) cell (first_stays P t T a h legal stays side name)
    (sym (cell_of-first_cell R t side name attr) ∙ is)

pub cell_stays : (s : Shown) (P : PlainPolicy) (T : Trace) (a : Action) → Follows s P T → IsLegal P T a → replaces a ≡ false → (side : Side) (name attr : Bytes) (cell : ℕ)
    → cell_of s.policy s.tables side name attr ≡ Some cell → cell_of s.policy (applied s.policy a s.tables) side name attr ≡ Some cell
cell_stays s P T a h legal stays side name attr cell is =
    subst (λ (Q : PlainPolicy). cell_of Q (applied Q a s.tables) side name attr ≡ Some cell) (sym h.policy)
    (cell_still P s.tables T a h.tables.entities legal stays side name attr cell (subst (λ (Q : PlainPolicy). cell_of Q s.tables side name attr ≡ Some cell) h.policy is))

-- ---- traces that go on

pub legal_extended : (P : PlainPolicy) (T : Trace) (actions : List Action) → IsLegalTrace P T → AreLegal P T actions → IsLegalTrace P (extended T actions)
legal_extended P T [] before legal = before
legal_extended P T (a ∷ actions) before legal = legal_extended P (a ∷ T) actions (before, legal.0) legal.1

pub tables_of-extended : (P : PlainPolicy) (T : Trace) (actions : List Action) → tables_of P (extended T actions) ≡ all_applied P T actions (tables_of P T)
tables_of-extended P T [] = refl
tables_of-extended P T (a ∷ actions) = tables_of-extended P (a ∷ T) actions
