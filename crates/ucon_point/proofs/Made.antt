-- What rows make, one after the other: a state with these tables follows some trace, and the rows that came are those of what is there.
use Rattle.std.proofs.Common.{◌≡◌, ◌∙◌, ℕ, suc, ◌+◌, ◌-◌, ◌<◌, ◌≤ℤ◌, ℤ, pos, Bool, true, false, List, [], ◌∷◌, ◌++◌, length, map, Some, None, is_some, refl, sym, ap, subst, append_assoc, append-nil, arith, length-append, ltb-false, ltb-true}
use Rattle.std.specs.Prelude.{Option, slice_get, slice_set, find, position, nat_lt, option_and_then}
use Rattle.std.specs.Option.{option_map_or}
use Rattle.std.specs.List.{position_or_len}
use Rattle.std.specs.Str.{bytes_eq}
use Rattle.std.proofs.lemmas.List.{length-map}
use Rattle.std.proofs.lemmas.List.Folds.{find_at}
use Rattle.std.proofs.lemmas.Option.{slice_get_past}
use Rattle.ucon_base.specs.declared.value.Side.{Side}
use Rattle.ucon_base.specs.declared.value.Side.TheVariants as sides
use Rattle.ucon_base.specs.declared.value.Value.{Value}
use Rattle.ucon_model.specs.declared.session.SessionRow.{SessionRow}
use Rattle.ucon_model.specs.Action.{Action, Trace, env, object, subject, tick, write}
use Rattle.ucon_model.specs.Fitting.{AttributeAdmits, VariableAdmits}
use Rattle.ucon_model.specs.Legal.{IsLegal}
use Rattle.ucon_model.specs.Plain.{Bytes, PlainPolicy}
use Rattle.ucon_model.specs.Readings.{attrs_of, entities, entity_names, has_entity, in_force}
use Rattle.ucon_model.specs.Typing.{IsTyped}
use Rattle.ucon_state.specs.declared.counts.Counts.{Counts}
use Rattle.ucon_state.specs.declared.held.ActRow.{ActRow}
use Rattle.ucon_state.specs.Applied.{applied, opening_tables, with_cell, with_entity, with_new_session, with_tick}
use Rattle.ucon_state.specs.Following.{Follows, IsFollowing, Keeps, TablesFollow}
use Rattle.ucon_state.specs.Held.{Held, held_after, held_in}
use Rattle.ucon_state.specs.Putting.{MayPutAct, MayPutSession, with_act_row}
use Rattle.ucon_state.specs.Shown.{Shown, changed_by, changed_to}
use Rattle.ucon_state.specs.Tables.{Tables, cell_at, entities_of, entity_number}
use Rattle.ucon_point.specs.declared.order.Reached.{Reached}
use Rattle.ucon_point.specs.declared.order.Stage.{Stage}
use Rattle.ucon_point.specs.declared.order.Stage.TheVariants.{Variables, Subjects, Objects, Acts, Sessions}
use Rattle.ucon_point.specs.declared.row.Row.{Row}
use Rattle.ucon_point.specs.declared.row.Row.TheVariants.{Variable, Entity, Attribute, Act, Session}
use Rattle.ucon_point.specs.HeldRows.{rows_held}
use Rattle.ucon_point.specs.Order.{after, attribute_place, awaited, stage_of, variable_place}
use Rattle.ucon_point.specs.Standing.{Standing, act_of, last_cell, may_put, may_put_entity, put, put_all, start, with_next, with_put}
use Rattle.ucon_point.proofs.Blocks.{AtValues, Full, Told, closed, to_subjects, to_objects, to_acts, to_sessions}
use Rattle.ucon_point.proofs.Coming.{ValueCame, RowCame, attr_there, attribute_fits, env_there, reaching, row_came, value_came, variable_fits}
use Rattle.ucon_point.proofs.MayPut.{may_act, may_session}
use Rattle.std.proofs.lemmas.Bool.{and_parts}
use Rattle.ucon_point.proofs.PointsSpelled.{none_is}
use Rattle.ucon_point.proofs.Steps.{act_step, get_behind, object_step, object_value_step, row_of_act, session_step, subject_step, subject_value_step, variable_step}
use Rattle.ucon_point.proofs.Results.{and_then_is, kept, no_place, nothing, same}

-- the laws of a state that are built on
pub record StateLaws : Type 0 where
  pub opening : (s : Shown) (P : PlainPolicy) → IsTyped (in_force P []) → s.policy ≡ in_force P [] → s.tables ≡ opening_tables s.policy → Follows s P []
  pub after : (s : Shown) (P : PlainPolicy) (T : Trace) (a : Action) → Follows s P T → IsLegal P T a → Follows (changed_by s a) P (a ∷ T)
  pub keeps : (s : Shown) (P : PlainPolicy) (T : Trace) → Follows s P T → Keeps s.policy s.tables P T
  pub holds : (s : Shown) (P : PlainPolicy) (T : Trace) → Follows s P T → held_in s.policy s.tables ≡ held_after P T
  pub acts : (s : Shown) (row : ActRow) → IsFollowing s → MayPutAct s.tables row → IsFollowing (changed_to s (with_act_row s.tables row))
  pub sessions : (s : Shown) (row : SessionRow) → IsFollowing s → MayPutSession s.tables row → IsFollowing (changed_to s (with_new_session s.tables row))

-- a state with this policy and these tables
abbrev pub seen : PlainPolicy → Tables → Shown
seen Q t = record { policy = Q; tables = t; opening_policy = Q; opening = t }

moved : (s s' : Shown) (P : PlainPolicy) (T : Trace) → s'.policy ≡ s.policy → s'.tables ≡ s.tables → Follows s P T → Follows s' P T
moved s s' P T p q f = record { policy = p ∙ f.policy; typed = f.typed; tables = subst (λ (t : Tables). TablesFollow P t T) (sym q) f.tables; sound = f.sound }

pub moved_so : (s s' : Shown) → s'.policy ≡ s.policy → s'.tables ≡ s.tables → IsFollowing s → IsFollowing s'
moved_so s s' p q f = record { policy = f.policy; trace = f.trace; follows = moved s s' f.policy f.trace p q f.follows }

pub not_found : {X : Type 0} (p : X → Bool) (xs : List X) → position p xs ≡ None → find p xs ≡ None
not_found p xs h =
    find_at p xs ∙ slice_get_past xs (position_or_len p xs) (ltb-false (position_or_len p xs) (length xs) (no_place (nat_lt (position_or_len p xs) (length xs)) (position_or_len p xs) h))

-- so it stands after rows
pub record Stands (Q : PlainPolicy) (now : ℤ) (s : Standing) (rows : List Row) : Type 0 where
  pub following : IsFollowing (seen Q s.tables)
  pub told : Told s.reached.stage s.reached.values (held_in Q s.tables) rows
  pub tick : s.tables.tick ≡ now

abbrev at : Stage → ℕ → Tables → Standing
at stage values t = record { reached = reaching stage values; tables = t }

tick_kept : (Q : PlainPolicy) (stage : Stage) (t : Tables) (row : Row) → (with_put Q stage t row).tick ≡ t.tick
tick_kept Q stage t (Variable name v) = by _
  where
    by : (o : Option ℕ) → (option_map_or (λ place. record t { variables = slice_set t.variables place v }) o t).tick ≡ t.tick
    by None = refl
    by (Some place) = refl
tick_kept Q stage t (Entity sides.Subject name) = refl
tick_kept Q stage t (Entity sides.Object name) = refl
tick_kept Q stage t (Attribute name v) = by _
  where
    by : (o : Option ℕ) → (option_map_or (λ cell. with_cell t cell v) o t).tick ≡ t.tick
    by None = refl
    by (Some cell) = refl
tick_kept Q stage t (Act who what whom at) = refl
tick_kept Q stage t (Session s) = refl

module _ (laws : StateLaws) (Q : PlainPolicy) (typed : IsTyped Q) where
  -- ---- actions

  act_on : (t t' : Tables) (f : IsFollowing (seen Q t)) (a : Action) → IsLegal f.policy f.trace a → in_force Q (a ∷ []) ≡ Q → applied Q a t ≡ t' → Follows (seen Q t') f.policy (a ∷ f.trace)
  act_on t t' f a legal stays is = moved (changed_by (seen Q t) a) (seen Q t') f.policy (a ∷ f.trace) (sym stays) (sym is) (laws.after (seen Q t) f.policy f.trace a f.follows legal)

  abbrev Makes : Tables → Stage → ℕ → List Row → Type 0
  Makes t stage i rows = IsFollowing (seen Q t) × Told stage i (held_in Q t) rows

  -- it follows this trace, after which the rows are told
  makes : (t : Tables) (stage : Stage) (i j : ℕ) (rows : List Row) (P : PlainPolicy) (T : Trace) → i ≡ j → Follows (seen Q t) P T → Told stage i (held_after P T) rows → Makes t stage j rows
  makes t stage i j rows P T same f told =
      (record { policy = P; trace = T; follows = f }, subst (λ (n : ℕ). Told stage n (held_in Q t) rows) same (subst (λ (h : Held). Told stage i h rows) (sym (laws.holds (seen Q t) P T f)) told))

  variable_put : (t : Tables) (i : ℕ) (name : Bytes) (v : Value) (next : Reached) (rows : List Row) → IsFollowing (seen Q t) → Told Variables i (held_in Q t) rows
      → ValueCame (slice_get (map variable_place Q.envs) i) Variables i name v next → Makes (applied Q (env name v) t) Variables (i + 1) (rows ++ Variable name v ∷ [])
  variable_put t i name v next rows f told c =
      let P = f.policy in
      let T = f.trace in
      let d = env_there Q i c.name_there c.kind_there c.there in
      let named : d.decl.name ≡ name = d.named ∙ sym c.named in
      let there = subst (λ (R : PlainPolicy). slice_get R.envs i ≡ Some d.decl) f.follows.policy d.at in
      let legal = subst (λ (R : PlainPolicy). VariableAdmits R name v) f.follows.policy (variable_fits Q typed i name v next c) in
      let more = variable_step P T f.follows.typed rows i d.decl v there (subst (λ (h : Held). Told Variables i h rows) (laws.holds (seen Q t) P T f.follows) told) in
      makes (applied Q (env name v) t) Variables (suc i) (i + 1) (rows ++ Variable name v ∷ []) P (env name v ∷ T) (omega arith)
      (act_on t (applied Q (env name v) t) f (env name v) legal refl refl)
      (subst (λ (n : Bytes). Told Variables (suc i) (held_after P (env n v ∷ T)) (rows ++ Variable n v ∷ [])) named more)

  -- the entity that was made last has the number before the count
  last_number : (t : Tables) (side : Side) (P : PlainPolicy) (T : Trace) (pre rows : List Row) (i : ℕ) → Follows (seen Q t) P T → (a : AtValues (held_after P T) side pre i rows)
      → (entity_number t side a.last ≡ Some (length (entities_of side t) - 1)) × (has_entity side a.last T ≡ true)
  last_number t side P T pre rows i f a =
      let k = laws.keeps (seen Q t) P T f in
      let names : map (λ (e : Bytes × ℕ). e.0) (entities_of side t) ≡ a.front ++ a.last ∷ [] = k.names side ∙ a.split in
      let count : length (entities_of side t) - 1 ≡ length a.front =
      omega (arith, length-map (entities_of side t) (λ (e : Bytes × ℕ). e.0), ap length names, length-append a.front (a.last ∷ [])) in
      let number : entity_number t side a.last ≡ Some (length a.front) =
      (k.number_is_position side a.last (length a.front)).1 (ap (λ (ns : List Bytes). slice_get ns (length a.front)) a.split ∙ get_behind a.front a.last) in
      (number ∙ ap (λ (n : ℕ). Some n) (sym count), sym (k.entity_is_there side a.last) ∙ ap is_some number)

  attribute_written : (t : Tables) (side : Side) (last attr : Bytes) (v : Value) → entity_number t side last ≡ Some (length (entities_of side t) - 1)
      → applied Q (write side last attr v) t ≡ option_map_or (λ cell. with_cell t cell v) (last_cell Q t side attr) t
  attribute_written t side last attr v number =
      ap (λ (o : Option ℕ). option_map_or (λ cell. with_cell t cell v) (option_and_then (λ (entity : ℕ). cell_at Q t side entity attr) o) t) number

  abbrev written : Tables → Side → Bytes → Value → Tables
  written t side attr v = option_map_or (λ cell. with_cell t cell v) (last_cell Q t side attr) t

  subject_value_put : (t : Tables) (i : ℕ) (name : Bytes) (v : Value) (next : Reached) (rows : List Row) → IsFollowing (seen Q t) → Told Subjects i (held_in Q t) rows
      → ValueCame (slice_get (map attribute_place (attrs_of Q sides.Subject)) i) Subjects i name v next → Makes (written t sides.Subject name v) Subjects (i + 1) (rows ++ Attribute name v ∷ [])
  subject_value_put t i name v next rows f told c =
      let P = f.policy in
      let T = f.trace in
      let d = attr_there Q sides.Subject i c.name_there c.kind_there c.there in
      let named : d.decl.name ≡ name = d.named ∙ sym c.named in
      let there = subst (λ (R : PlainPolicy). slice_get (attrs_of R sides.Subject) i ≡ Some d.decl) f.follows.policy d.at in
      let now : Told Subjects i (held_after P T) rows = subst (λ (h : Held). Told Subjects i h rows) (laws.holds (seen Q t) P T f.follows) told in
      let number = last_number t sides.Subject P T _ rows i f.follows now.0 in
      let legal : IsLegal P T (write sides.Subject now.0.last name v) = (number.1, subst (λ (R : PlainPolicy). AttributeAdmits R sides.Subject name v) f.follows.policy (attribute_fits Q typed sides.Subject Subjects i name v next c)) in
      let more = subject_value_step P T f.follows.typed rows i d.decl v there now number.1 in
      makes (written t sides.Subject name v) Subjects (suc i) (i + 1) (rows ++ Attribute name v ∷ []) P (write sides.Subject now.0.last name v ∷ T) (omega arith)
      (act_on t (written t sides.Subject name v) f (write sides.Subject now.0.last name v) legal refl (attribute_written t sides.Subject now.0.last name v number.0))
      (subst (λ (n : Bytes). Told Subjects (suc i) (held_after P (write sides.Subject now.0.last n v ∷ T)) (rows ++ Attribute n v ∷ [])) named more)

  object_value_put : (t : Tables) (i : ℕ) (name : Bytes) (v : Value) (next : Reached) (rows : List Row) → IsFollowing (seen Q t) → Told Objects i (held_in Q t) rows
      → ValueCame (slice_get (map attribute_place (attrs_of Q sides.Object)) i) Objects i name v next → Makes (written t sides.Object name v) Objects (i + 1) (rows ++ Attribute name v ∷ [])
  object_value_put t i name v next rows f told c =
      let P = f.policy in
      let T = f.trace in
      let d = attr_there Q sides.Object i c.name_there c.kind_there c.there in
      let named : d.decl.name ≡ name = d.named ∙ sym c.named in
      let there = subst (λ (R : PlainPolicy). slice_get (attrs_of R sides.Object) i ≡ Some d.decl) f.follows.policy d.at in
      let now : Told Objects i (held_after P T) rows = subst (λ (h : Held). Told Objects i h rows) (laws.holds (seen Q t) P T f.follows) told in
      let number = last_number t sides.Object P T _ rows i f.follows now.0 in
      let legal : IsLegal P T (write sides.Object now.0.last name v) = (number.1, subst (λ (R : PlainPolicy). AttributeAdmits R sides.Object name v) f.follows.policy (attribute_fits Q typed sides.Object Objects i name v next c)) in
      let more = object_value_step P T f.follows.typed rows i d.decl v there now number.1 in
      makes (written t sides.Object name v) Objects (suc i) (i + 1) (rows ++ Attribute name v ∷ []) P (write sides.Object now.0.last name v ∷ T) (omega arith)
      (act_on t (written t sides.Object name v) f (write sides.Object now.0.last name v) legal refl (attribute_written t sides.Object now.0.last name v number.0))
      (subst (λ (n : Bytes). Told Objects (suc i) (held_after P (write sides.Object now.0.last n v ∷ T)) (rows ++ Attribute n v ∷ [])) named more)

  -- ---- entities

  full_at : (t : Tables) (stage : Stage) (i : ℕ) (rows : List Row) → Told stage i (held_in Q t) rows → awaited Q (reaching stage i) ≡ None → Full stage (held_in Q t) rows
  full_at t stage i rows told none = closed stage i (held_in Q t) rows told none

  record IsNew (t : Tables) (side : Side) (name : Bytes) (T : Trace) : Type 0 where
    absent : has_entity side name T ≡ false
    unfound : find (bytes_eq name) (entity_names side T) ≡ None

  is_new : (t : Tables) (side : Side) (name : Bytes) (P : PlainPolicy) (T : Trace) → Follows (seen Q t) P T → entity_number t side name ≡ None → IsNew t side name T
  is_new t side name P T f none =
      let k = laws.keeps (seen Q t) P T f in
      record {
        absent = sym (k.entity_is_there side name) ∙ ap is_some none;
        unfound = ap (find (bytes_eq name)) (sym (k.names side)) ∙ not_found (bytes_eq name) (map (λ (e : Bytes × ℕ). e.0) (entities_of side t)) none;
      }

  entity_put : (t : Tables) (stage : Stage) (i : ℕ) (side : Side) (name : Bytes) (next : Reached) (rows : List Row) → IsFollowing (seen Q t) → Told stage i (held_in Q t) rows
      → RowCame (awaited Q (reaching stage i)) stage (stage_of side) next → may_put_entity t side name ≡ true → Makes (with_entity Q t side name) (stage_of side) 0 (rows ++ Entity side name ∷ [])
  entity_put t stage i sides.Subject name next rows f told c may =
      let P = f.policy in
      let T = f.trace in
      let k = laws.keeps (seen Q t) P T f.follows in
      let tests = and_parts _ _ may in
      let new = is_new t sides.Subject name P T f.follows (none_is (entity_number t sides.Subject name) tests.0) in
      let few : length t.subjects < 16384 = ltb-true (length t.subjects) 16384 tests.1 in
      let room : entities sides.Subject T < 16384 = subst (λ (n : ℕ). n < 16384) (ap (λ (x : Counts). x.subjects) k.counts_agree) few in
      let full = to_subjects stage (held_in Q t) rows c.later (full_at t stage i rows told c.none) in
      makes (with_entity Q t sides.Subject name) Subjects 0 0 (rows ++ Entity sides.Subject name ∷ []) P (subject name ∷ T) refl
      (act_on t (with_entity Q t sides.Subject name) f (subject name) (new.absent, room) refl refl)
      (subject_step P T name rows (subst (λ (h : Held). Full Subjects h rows) (laws.holds (seen Q t) P T f.follows) full) new.absent new.unfound)
  entity_put t stage i sides.Object name next rows f told c may =
      let P = f.policy in
      let T = f.trace in
      let k = laws.keeps (seen Q t) P T f.follows in
      let tests = and_parts _ _ may in
      let new = is_new t sides.Object name P T f.follows (none_is (entity_number t sides.Object name) tests.0) in
      let few : length t.objects < 16384 = ltb-true (length t.objects) 16384 tests.1 in
      let room : entities sides.Object T < 16384 = subst (λ (n : ℕ). n < 16384) (ap (λ (x : Counts). x.objects) k.counts_agree) few in
      let full = to_objects stage (held_in Q t) rows c.later (full_at t stage i rows told c.none) in
      makes (with_entity Q t sides.Object name) Objects 0 0 (rows ++ Entity sides.Object name ∷ []) P (object name ∷ T) refl
      (act_on t (with_entity Q t sides.Object name) f (object name) (new.absent, room) refl refl)
      (object_step P T name rows (subst (λ (h : Held). Full Objects h rows) (laws.holds (seen Q t) P T f.follows) full) new.absent new.unfound)

  -- ---- acts and sessions

  act_put : (t : Tables) (stage : Stage) (i : ℕ) (a : ActRow) (next : Reached) (rows : List Row) → IsFollowing (seen Q t) → Told stage i (held_in Q t) rows
      → RowCame (awaited Q (reaching stage i)) stage Acts next → MayPutAct t a → Makes (with_act_row t a) Acts 0 (rows ++ row_of_act a ∷ [])
  act_put t stage i a next rows f told c may = (
    moved_so (changed_to (seen Q t) (with_act_row t a)) (seen Q (with_act_row t a)) refl refl (laws.acts (seen Q t) a f may),
    act_step Q t a rows (to_acts stage (held_in Q t) rows c.later (full_at t stage i rows told c.none)) may.new,
  )

  session_put : (t : Tables) (stage : Stage) (i : ℕ) (s : SessionRow) (next : Reached) (rows : List Row) → IsFollowing (seen Q t) → Told stage i (held_in Q t) rows
      → RowCame (awaited Q (reaching stage i)) stage Sessions next → MayPutSession t s → Makes (with_new_session t s) Sessions 0 (rows ++ Session s ∷ [])
  session_put t stage i s next rows f told c may = (
    moved_so (changed_to (seen Q t) (with_new_session t s)) (seen Q (with_new_session t s)) refl refl (laws.sessions (seen Q t) s f may),
    session_step Q t s rows (to_sessions stage (held_in Q t) rows (full_at t stage i rows told c.none)),
  )

  -- ---- any row

  abbrev MakesNext : Tables → Reached → List Row → Type 0
  MakesNext t next rows = Makes t next.stage next.values rows

  on_to : (t : Tables) (r next : Reached) (rows : List Row) → r ≡ next → MakesNext t r rows → MakesNext t next rows
  on_to t r next rows is h = subst (λ (n : Reached). MakesNext t n rows) is h

  one_put : (t : Tables) (stage : Stage) (i : ℕ) (row : Row) (next : Reached) (rows : List Row) → IsFollowing (seen Q t) → Told stage i (held_in Q t) rows
      → after Q (reaching stage i) row ≡ Some next → may_put t row ≡ true → MakesNext (with_put Q stage t row) next (rows ++ row ∷ [])
  one_put t Variables i (Variable name v) next rows f told h may =
      let c = value_came (awaited Q (reaching Variables i)) Variables i name v next h in on_to (with_put Q Variables t (Variable name v)) _ next (rows ++ Variable name v ∷ []) c.is (variable_put t i name v next rows f told c)
  one_put t Subjects i (Variable name v) next rows f told h may = absurd (nothing h)
  one_put t Objects i (Variable name v) next rows f told h may = absurd (nothing h)
  one_put t Acts i (Variable name v) next rows f told h may = absurd (nothing h)
  one_put t Sessions i (Variable name v) next rows f told h may = absurd (nothing h)
  one_put t Variables i (Attribute name v) next rows f told h may = absurd (nothing h)
  one_put t Subjects i (Attribute name v) next rows f told h may =
      let c = value_came (awaited Q (reaching Subjects i)) Subjects i name v next h in on_to (with_put Q Subjects t (Attribute name v)) _ next (rows ++ Attribute name v ∷ []) c.is (subject_value_put t i name v next rows f told c)
  one_put t Objects i (Attribute name v) next rows f told h may =
      let c = value_came (awaited Q (reaching Objects i)) Objects i name v next h in on_to (with_put Q Objects t (Attribute name v)) _ next (rows ++ Attribute name v ∷ []) c.is (object_value_put t i name v next rows f told c)
  one_put t Acts i (Attribute name v) next rows f told h may = absurd (nothing h)
  one_put t Sessions i (Attribute name v) next rows f told h may = absurd (nothing h)
  one_put t stage i (Entity side name) next rows f told h may =
      let c = row_came (awaited Q (reaching stage i)) stage (stage_of side) i next h in on_to (with_put Q stage t (Entity side name)) _ next (rows ++ Entity side name ∷ []) c.is (entity_put t stage i side name next rows f told c may)
  one_put t stage i (Act who what whom at) next rows f told h may =
      let a = act_of who what whom at in
      let c = row_came (awaited Q (reaching stage i)) stage Acts i next h in
      on_to (with_put Q stage t (row_of_act a)) _ next (rows ++ row_of_act a ∷ []) c.is (act_put t stage i a next rows f told c (may_act t a may))
  one_put t stage i (Session s) next rows f told h may =
      let c = row_came (awaited Q (reaching stage i)) stage Sessions i next h in on_to (with_put Q stage t (Session s)) _ next (rows ++ Session s ∷ []) c.is (session_put t stage i s next rows f told c (may_session t s may))

  row_put : (now : ℤ) (s next : Standing) (row : Row) (rows : List Row) → Stands Q now s rows → put Q s row ≡ Some next → Stands Q now next (rows ++ row ∷ [])
  row_put now s next row rows st h =
      let k = and_then_is (after Q s.reached row) (with_next Q s row) next h in
      let m = kept (may_put s.tables row) _ next k.1.1 in
      let made = one_put s.tables s.reached.stage s.reached.values row k.0 rows st.following st.told k.1.0 m.0 in
      subst (λ (n : Standing). Stands Q now n (rows ++ row ∷ [])) m.1 (record { following = made.0; told = made.1; tick = tick_kept Q s.reached.stage s.tables row ∙ st.tick })

  all_put : (now : ℤ) (s end : Standing) (done rows : List Row) → Stands Q now s done → put_all Q s rows ≡ Some end → Stands Q now end (done ++ rows)
  all_put now s end done [] st h = subst (λ (n : Standing). Stands Q now n (done ++ [])) (same s end h) (subst (λ (l : List Row). Stands Q now s l) (sym (append-nil done)) st)
  all_put now s end done (row ∷ rows) st h =
      let k = and_then_is (put Q s row) (λ n. put_all Q n rows) end h in
      subst (λ (l : List Row). Stands Q now end l) (append_assoc done (row ∷ []) rows) (all_put now k.0 end (done ++ row ∷ []) rows (row_put now s k.0 row done st k.1.0) k.1.1)

  starting : (now : ℤ) → pos 0 ≤ℤ now → Stands Q now (start Q now) []
  starting now since =
      let opened : Follows (seen Q (opening_tables Q)) Q [] = laws.opening (seen Q (opening_tables Q)) Q typed refl refl in
      record {
        following = record { policy = Q; trace = tick now ∷ []; follows = moved (changed_by (seen Q (opening_tables Q)) (tick now)) (seen Q (with_tick (opening_tables Q) now)) Q (tick now ∷ []) refl refl (laws.after (seen Q (opening_tables Q)) Q [] (tick now) opened since) };
        told = (refl, (refl, (refl, (refl, refl))));
        tick = refl;
      }

  pub made_after : (now : ℤ) (end : Standing) (rows : List Row) → pos 0 ≤ℤ now → put_all Q (start Q now) rows ≡ Some end → Stands Q now end rows
  made_after now end rows since h = all_put now (start Q now) end [] rows (starting now since) h

  pub whole_rows : (now : ℤ) (end : Standing) (rows : List Row) → Stands Q now end rows → awaited Q end.reached ≡ None → rows ≡ rows_held (held_in Q end.tables)
  whole_rows now end rows st none = to_sessions end.reached.stage (held_in Q end.tables) rows (full_at end.tables end.reached.stage end.reached.values rows st.told none)
