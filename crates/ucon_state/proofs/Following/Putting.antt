-- A state that follows a trace follows one still once an act or a session was put into it: time goes back to its moment, it is done or
-- permitted there, and time goes on where it stood.
use Rattle.std.proofs.Common.{◌≡◌, ◌∙◌, sym, ap, subst, ℕ, ℤ, pos, ◌+◌, Bool, true, false, cond, ◌&&◌, List, [], ◌∷◌, ◌++◌, refl, arith}
use Rattle.std.specs.Prelude.{Option, Some, None, ◌≤ℤ◌, is_some, nat_eq, IsTrue, IsSome, ⊤}
use Rattle.std.specs.Str.{bytes_eq}
use Rattle.std.proofs.lemmas.Bool.{ne_eqb}
use Rattle.std.proofs.lemmas.List.{length_push}
use Rattle.std.proofs.lemmas.Option.{same_Some}
use Rattle.indexmap.specs.IndexMap.{insert_entry}
use Rattle.ucon_base.specs.declared.value.Side.{Side}
use Rattle.ucon_base.specs.declared.value.Side.TheVariants as sides
use Rattle.ucon_base.specs.declared.value.Value.{Value}
use Rattle.ucon_model.specs.declared.session.SessionRow.{SessionRow}
use Rattle.ucon_model.specs.declared.session.SessionState.{SessionState}
use Rattle.ucon_model.specs.declared.session.SessionState.TheVariants.{Requesting, Denied, Accessing, Revoked, Ended}
use Rattle.ucon_model.specs.Plain.{Bytes, PlainPolicy}
use Rattle.ucon_model.specs.Action.{Action, Trace, subject, object, write, env, tick, act, tries, permit, deny, ends, revoke, amend}
use Rattle.ucon_model.specs.Fitting.{AttributeAdmits, VariableAdmits, ValuesFit}
use Rattle.ucon_model.specs.Readings.{in_force, tick_of, has_entity, attribute, variable, moment, session, sessions, changed_if}
use Rattle.ucon_model.specs.Sound.{IsNumbered, IsGrounded, IsTimely}
use Rattle.ucon_model.specs.Typing.{IsTyped}
use Rattle.ucon_state.specs.declared.act.Act.{Act}
use Rattle.ucon_state.specs.declared.held.ActRow.{ActRow}
use Rattle.ucon_state.specs.Applied.{with_new_session}
use Rattle.ucon_state.specs.Following.{KeepsNames, HaveOwnCells, KeepsEntities, KeepsVariables, KeepsActs, Follows, IsFollowing}
use Rattle.ucon_state.specs.Putting.{act_in, with_act_row, MayPutAct, StartsAtZero, MayPutSession}
use Rattle.ucon_state.specs.Shown.{Shown, changed_to}
use Rattle.ucon_state.specs.Tables.{Tables, entities_of, entity_number, attribute_in, same_act}
use Rattle.ucon_state.proofs.Lists.{added_last}
use Rattle.ucon_state.proofs.Following.Acts.{keeps_acts_act}
use Rattle.ucon_state.proofs.Following.Entities.{LeavesEntities, entities_read, first_read, attribute_read, same_names, same_attribute, same_own_cells, same_policy}
use Rattle.ucon_state.proofs.Following.Keeping.{LeavesVariables, still_variables, still_acts}
use Rattle.ucon_state.proofs.Following.Places.{placed_where_found}
use Rattle.ucon_state.proofs.Following.Sessions.{session_in-same, session_in-with_new_session}

-- ---- actions that leave the policy, the entities and the variables

abbrev LeavesValues : Action → Type 0
LeavesValues a = LeavesEntities a × LeavesVariables a

-- each of these, the newest first
abbrev LeaveValues : List Action → Type 0
LeaveValues [] = ⊤
LeaveValues (a ∷ actions) = LeavesValues a × LeaveValues actions

same_entity : (T : Trace) (a : Action) → LeavesEntities a → (side : Side) (e : Bytes) → has_entity side e (a ∷ T) ≡ has_entity side e T
same_entity T (subject name) leaves side e = absurd leaves
same_entity T (object name) leaves side e = absurd leaves
same_entity T (write s name b v) leaves side e = absurd leaves
same_entity T (amend text Q) leaves side e = absurd leaves
same_entity T a leaves sides.Subject e = refl
same_entity T a leaves sides.Object e = refl

same_variable : (P : PlainPolicy) (T : Trace) (a : Action) → LeavesVariables a → (name : Bytes) → variable P (a ∷ T) name ≡ variable P T name
same_variable P T (env n v) leaves name = absurd leaves
same_variable P T (amend text Q) leaves name = absurd leaves
same_variable P T a leaves name = refl

module _ (P : PlainPolicy) (T : Trace) where
  policy_stays : (actions : List Action) → LeaveValues actions → in_force P (actions ++ T) ≡ in_force P T
  policy_stays [] leave = refl
  policy_stays (a ∷ actions) leave = same_policy P (actions ++ T) a leave.0.0 ∙ policy_stays actions leave.1

  names_stay : (actions : List Action) → LeaveValues actions → (es : List (Bytes × ℕ)) (side : Side) → KeepsNames es side T → KeepsNames es side (actions ++ T)
  names_stay [] leave es side h = h
  names_stay (a ∷ actions) leave es side h = same_names es side (actions ++ T) a leave.0.0 (names_stay actions leave.1 es side h)

  entity_stays : (actions : List Action) → LeaveValues actions → (side : Side) (e : Bytes) → has_entity side e (actions ++ T) ≡ has_entity side e T
  entity_stays [] leave side e = refl
  entity_stays (a ∷ actions) leave side e = same_entity (actions ++ T) a leave.0.0 side e ∙ entity_stays actions leave.1 side e

  attribute_stays : (actions : List Action) → LeaveValues actions → (side : Side) (e attr : Bytes) → attribute P T side e attr ≡ attribute P (actions ++ T) side e attr
  attribute_stays [] leave side e attr = refl
  attribute_stays (a ∷ actions) leave side e attr = attribute_stays actions leave.1 side e attr ∙ same_attribute P (actions ++ T) a leave.0.0 side e attr

  variable_stays : (actions : List Action) → LeaveValues actions → (name : Bytes) → variable P (actions ++ T) name ≡ variable P T name
  variable_stays [] leave name = refl
  variable_stays (a ∷ actions) leave name = same_variable P (actions ++ T) a leave.0.1 name ∙ variable_stays actions leave.1 name

  variables_stay : (actions : List Action) → LeaveValues actions → (vs : List Value) → KeepsVariables P vs T → KeepsVariables P vs (actions ++ T)
  variables_stay [] leave vs h = h
  variables_stay (a ∷ actions) leave vs h = still_variables P vs (actions ++ T) a leave.0.1 (variables_stay actions leave.1 vs h)

  -- other acts and sessions leave the entities
  entities_stay : (t : Tables) (acts : List (Act × ℤ)) (rows : List SessionRow) (actions : List Action) → LeaveValues actions → KeepsEntities P t T
      → KeepsEntities P (record t { acts = acts; sessions = rows }) (actions ++ T)
  entities_stay t acts rows actions leave h =
      let u : Tables = record t { acts = acts; sessions = rows } in
      let R : PlainPolicy = in_force P T in
      let policy = policy_stays actions leave in
      record {
        names = λ side.
            subst (λ (es : List (Bytes × ℕ)). KeepsNames es side (actions ++ T)) (sym (entities_read side t t.variables t.tick acts rows))
            (names_stay actions leave (entities_of side t) side (h.names side));
        own_cells = subst (λ (Q : PlainPolicy). HaveOwnCells Q u) (sym policy)
            (same_own_cells R t u (λ side name. first_read side name t t.variables t.tick acts rows) refl h.own_cells);
        values = λ side name attr.
            ap (λ (Q : PlainPolicy). attribute_in Q u side name attr) policy ∙ attribute_read R side name attr t t.variables t.tick acts rows
            ∙ h.values side name attr ∙ attribute_stays actions leave side name attr;
      }

  values_fit : (actions : List Action) → LeaveValues actions → ValuesFit P T → ValuesFit P (actions ++ T)
  values_fit actions leave h =
      let policy = sym (policy_stays actions leave) in
      record {
        attributes = λ side e attr v is.
            subst (λ (Q : PlainPolicy). AttributeAdmits Q side attr v) policy (h.attributes side e attr v (attribute_stays actions leave side e attr ∙ is));
        variables = λ name v is. subst (λ (Q : PlainPolicy). VariableAdmits Q name v) policy (h.variables name v (sym (variable_stays actions leave name) ∙ is));
      }

  grounded_still : (actions : List Action) → LeaveValues actions → (o : Option SessionRow) → IsGrounded T o → IsGrounded (actions ++ T) o
  grounded_still actions leave None h = tt
  grounded_still actions leave (Some row) h =
      (subst IsTrue (sym (entity_stays actions leave sides.Subject row.subject)) h.0, subst IsTrue (sym (entity_stays actions leave sides.Object row.object)) h.1)

-- ---- an act

-- time goes back to the moment, the act is done, and time goes on
abbrev acted : ℤ → ActRow → List Action
acted now row = tick now ∷ act row.subject row.action row.object ∷ tick row.moment ∷ []

module _ (s : Shown) (P : PlainPolicy) (T : Trace) (row : ActRow) (h : Follows s P T) (may : MayPutAct s.tables row) where
  abbrev acted_after : Trace
  acted_after = acted (tick_of T) row ++ T

  act_leaves : LeaveValues (acted (tick_of T) row)
  act_leaves = ((tt, tt), ((tt, tt), ((tt, tt), tt)))

  inserted : insert_entry same_act s.tables.acts (act_in row) row.moment ≡ (with_act_row s.tables row).acts
  inserted = added_last same_act s.tables.acts (act_in row) row.moment may.new

  keeps_it : KeepsActs (with_act_row s.tables row).acts acted_after
  keeps_it =
      let back = still_acts s.tables.acts T (tick row.moment) tt h.tables.acts in
      let done = keeps_acts_act s.tables.acts (tick row.moment ∷ T) row.moment row.subject row.action row.object refl back in
      subst (λ (es : List (Act × ℤ)). KeepsActs es acted_after) inserted
      (still_acts _ (act row.subject row.action row.object ∷ tick row.moment ∷ T) (tick (tick_of T)) tt done)

  done_by : (b : Bool) (m : ℤ) → row.moment ≤ℤ tick_of T → (moment' : Option ℤ) → (moment' ≡ Some m → m ≤ℤ tick_of T) → cond b (Some row.moment) moment' ≡ Some m → m ≤ℤ tick_of T
  done_by true m past moment' others is = subst (λ (x : ℤ). x ≤ℤ tick_of T) (same_Some row.moment m is) past
  done_by false m past moment' others is = others is

  timely_still : IsTimely acted_after
  timely_still s' a' o' m is =
      done_by (bytes_eq s' row.subject && bytes_eq a' row.action && bytes_eq o' row.object) m (subst (λ (x : ℤ). row.moment ≤ℤ x) h.tables.tick may.past.until)
      (moment s' a' o' T) (h.sound.timely s' a' o' m) is

  act_followed : Follows (changed_to s (with_act_row s.tables row)) P acted_after
  act_followed =
      let policy = policy_stays P T (acted (tick_of T) row) act_leaves in
      record {
        policy = h.policy ∙ sym policy;
        typed = subst IsTyped (sym policy) h.typed;
        tables = record {
          entities = entities_stay P T s.tables (with_act_row s.tables row).acts s.tables.sessions (acted (tick_of T) row) act_leaves h.tables.entities;
          variables = variables_stay P T (acted (tick_of T) row) act_leaves s.tables.variables h.tables.variables;
          tick = h.tables.tick;
          acts = keeps_it;
          sessions = record { rows = λ n. session_in-same s.tables (with_act_row s.tables row) refl n ∙ h.tables.sessions.rows n; count = h.tables.sessions.count };
        };
        sound = record {
          numbered = record { zeroth = h.sound.numbered.zeroth; beyond = h.sound.numbered.beyond };
          grounded = λ n. grounded_still P T (acted (tick_of T) row) act_leaves (session T n) (h.sound.grounded n);
          timely = timely_still;
          fit = values_fit P T (acted (tick_of T) row) act_leaves h.sound.fit;
        };
      }

pub act_put : (s : Shown) (row : ActRow) → IsFollowing s → MayPutAct s.tables row → IsFollowing (changed_to s (with_act_row s.tables row))
act_put s row h may = record { policy = h.policy; trace = acted_after s h.policy h.trace row h.follows may; follows = act_followed s h.policy h.trace row h.follows may }

-- ---- a session

-- it is tried
abbrev begun : ℕ → SessionRow → Action
begun n row = tries n row.caller row.subject row.right row.object

-- time goes back to its start, it is permitted, and time goes on
abbrev permitted : ℤ → ℕ → SessionRow → List Action
permitted now n row = tick now ∷ permit n ∷ tick row.start ∷ begun n row ∷ []

-- up to this state of it
abbrev up_to : SessionState → ℤ → ℕ → SessionRow → List Action
up_to Requesting now n row = begun n row ∷ []
up_to Denied now n row = deny n [] ∷ begun n row ∷ []
up_to Accessing now n row = permitted now n row
up_to Revoked now n row = revoke n [] ∷ permitted now n row
up_to Ended now n row = ends n ∷ permitted now n row

abbrev in_state : SessionState → SessionRow → SessionRow
in_state state row = record row { state = state }

changed_by : (b : Bool) (f : SessionRow → SessionRow) (row : SessionRow) (o : Option SessionRow) → changed_if b f (cond b (Some row) o) ≡ cond b (Some (f row)) o
changed_by true f row o = refl
changed_by false f row o = refl

module _ (T : Trace) (now : ℤ) (n : ℕ) (row : SessionRow) where
  abbrev as_tried : SessionRow
  as_tried = record row { state = Requesting; start = pos 0 }

  abbrev at_start : SessionRow → SessionRow
  at_start r = record r { state = Accessing; start = row.start }

  up_to_leaves : (state : SessionState) → LeaveValues (up_to state now n row)
  up_to_leaves Requesting = ((tt, tt), tt)
  up_to_leaves Denied = ((tt, tt), ((tt, tt), tt))
  up_to_leaves Accessing = ((tt, tt), ((tt, tt), ((tt, tt), ((tt, tt), tt))))
  up_to_leaves Revoked = ((tt, tt), ((tt, tt), ((tt, tt), ((tt, tt), ((tt, tt), tt)))))
  up_to_leaves Ended = ((tt, tt), ((tt, tt), ((tt, tt), ((tt, tt), ((tt, tt), tt)))))

  permitted_there : (k : ℕ) → session (permitted now n row ++ T) k ≡ cond (nat_eq k n) (Some (in_state Accessing row)) (session T k)
  permitted_there k = changed_by (nat_eq k n) at_start as_tried (session T k)

  there : (state : SessionState) → StartsAtZero state row.start → (k : ℕ) → session (up_to state now n row ++ T) k ≡ cond (nat_eq k n) (Some (in_state state row)) (session T k)
  there Requesting zero k = ap (λ (start : ℤ). cond (nat_eq k n) (Some (record row { state = Requesting; start = start })) (session T k)) (sym zero)
  there Denied zero k =
      changed_by (nat_eq k n) (in_state Denied) as_tried (session T k)
      ∙ ap (λ (start : ℤ). cond (nat_eq k n) (Some (record row { state = Denied; start = start })) (session T k)) (sym zero)
  there Accessing starts k = permitted_there k
  there Revoked starts k = ap (changed_if (nat_eq k n) (in_state Revoked)) (permitted_there k) ∙ changed_by (nat_eq k n) (in_state Revoked) (in_state Accessing row) (session T k)
  there Ended starts k = ap (changed_if (nat_eq k n) (in_state Ended)) (permitted_there k) ∙ changed_by (nat_eq k n) (in_state Ended) (in_state Accessing row) (session T k)

  one_more : (state : SessionState) → sessions (up_to state now n row ++ T) ≡ sessions T + 1
  one_more Requesting = refl
  one_more Denied = refl
  one_more Accessing = refl
  one_more Revoked = refl
  one_more Ended = refl

  same_tick : (state : SessionState) → now ≡ tick_of T → tick_of (up_to state now n row ++ T) ≡ tick_of T
  same_tick Requesting is = refl
  same_tick Denied is = refl
  same_tick Accessing is = is
  same_tick Revoked is = is
  same_tick Ended is = is

  same_moment : (state : SessionState) (s a o : Bytes) → moment s a o (up_to state now n row ++ T) ≡ moment s a o T
  same_moment Requesting s a o = refl
  same_moment Denied s a o = refl
  same_moment Accessing s a o = refl
  same_moment Revoked s a o = refl
  same_moment Ended s a o = refl

  acts_stay : (state : SessionState) (es : List (Act × ℤ)) → KeepsActs es T → KeepsActs es (up_to state now n row ++ T)
  acts_stay Requesting es h = record { moments = h.moments; rows = h.rows; count = h.count }
  acts_stay Denied es h = record { moments = h.moments; rows = h.rows; count = h.count }
  acts_stay Accessing es h = record { moments = h.moments; rows = h.rows; count = h.count }
  acts_stay Revoked es h = record { moments = h.moments; rows = h.rows; count = h.count }
  acts_stay Ended es h = record { moments = h.moments; rows = h.rows; count = h.count }

there_is : (o : Option ℕ) (b : Bool) → is_some o ≡ b → IsSome o → b ≡ true
there_is None b is some = absurd cc
there_is (Some i) b is some = sym is

module _ (s : Shown) (P : PlainPolicy) (T : Trace) (row : SessionRow) (h : Follows s P T) (may : MayPutSession s.tables row) where
  abbrev number : ℕ
  number = sessions T + 1

  abbrev steps : List Action
  steps = up_to row.state (tick_of T) number row

  abbrev tried_after : Trace
  tried_after = steps ++ T

  leaves : LeaveValues steps
  leaves = up_to_leaves T (tick_of T) number row row.state

  row_there : (k : ℕ) → session tried_after k ≡ cond (nat_eq k number) (Some row) (session T k)
  row_there k = there T (tick_of T) number row row.state may.starts k

  counted : sessions tried_after ≡ number
  counted = one_more T (tick_of T) number row row.state

  not_number : (k : ℕ) (o : Option SessionRow) → (k ≡ number → ⊥) → session T k ≡ o → session tried_after k ≡ o
  not_number k o other is = row_there k ∙ rw (ne_eqb k number other) is

  numbered_still : IsNumbered tried_after
  numbered_still = record {
    zeroth = not_number 0 None (λ e. omega (arith, e)) h.sound.numbered.zeroth;
    beyond = λ k above. not_number k None (λ e. omega (arith, e, above, counted)) (h.sound.numbered.beyond k (omega (arith, above, counted)));
  }

  entity_there : (side : Side) (name : Bytes) → IsSome (entity_number s.tables side name) → IsTrue (has_entity side name T)
  entity_there side name some =
      there_is (entity_number s.tables side name) (has_entity side name T)
      (placed_where_found (bytes_eq name) (entities_of side s.tables) ∙ (h.tables.entities.names side).there name) some

  grounded_by : (b : Bool) (o : Option SessionRow) → IsGrounded T o → IsGrounded T (cond b (Some row) o)
  grounded_by true o g = (entity_there sides.Subject row.subject may.entities.subject_there, entity_there sides.Object row.object may.entities.object_there)
  grounded_by false o g = g

  timely_after : IsTimely tried_after
  timely_after a b o m is =
      subst (λ (now : ℤ). m ≤ℤ now) (sym (same_tick T (tick_of T) number row row.state refl))
      (h.sound.timely a b o m (sym (same_moment T (tick_of T) number row row.state a b o) ∙ is))

  session_followed : Follows (changed_to s (with_new_session s.tables row)) P tried_after
  session_followed =
      let policy = policy_stays P T steps leaves in
      let t = s.tables in
      record {
        policy = h.policy ∙ sym policy;
        typed = subst IsTyped (sym policy) h.typed;
        tables = record {
          entities = entities_stay P T t t.acts (with_new_session t row).sessions steps leaves h.tables.entities;
          variables = variables_stay P T steps leaves t.variables h.tables.variables;
          tick = h.tables.tick ∙ sym (same_tick T (tick_of T) number row row.state refl);
          acts = acts_stay T (tick_of T) number row row.state t.acts h.tables.acts;
          sessions = record {
            rows = λ k.
                session_in-with_new_session t number row k (ap (λ n. n + 1) (sym h.tables.sessions.count))
                ∙ ap (cond (nat_eq k number) (Some row)) (h.tables.sessions.rows k) ∙ sym (row_there k);
            count = length_push t.sessions row ∙ ap (λ n. n + 1) h.tables.sessions.count ∙ sym counted;
          };
        };
        sound = record {
          numbered = numbered_still;
          grounded = λ k. grounded_still P T steps leaves (session tried_after k) (subst (IsGrounded T) (sym (row_there k)) (grounded_by (nat_eq k number) (session T k) (h.sound.grounded k)));
          timely = timely_after;
          fit = values_fit P T steps leaves h.sound.fit;
        };
      }

pub session_put : (s : Shown) (row : SessionRow) → IsFollowing s → MayPutSession s.tables row → IsFollowing (changed_to s (with_new_session s.tables row))
session_put s row h may = record {
  policy = h.policy;
  trace = tried_after s h.policy h.trace row h.follows may;
  follows = session_followed s h.policy h.trace row h.follows may;
}
