-- A state that follows some trace follows each that gives the same to read.
use Rattle.std.proofs.Common.{◌≡◌, ◌∙◌, sym, ap, subst, ℕ, ℤ, ◌+◌, Bool, true, false, cond, List, [], ◌∷◌, ◌++◌, length, map, refl, arith}
use Rattle.std.specs.Prelude.{Option, Some, None, ◌≤ℤ◌, ◌||◌, is_none, is_some, position, IsTrue}
use Rattle.std.specs.Str.{bytes_eq}
use Rattle.std.proofs.lemmas.Bool.{or_right}
use Rattle.std.proofs.lemmas.List.{length_push, length-map}
use Rattle.ucon_base.specs.declared.value.Side.{Side}
use Rattle.ucon_base.specs.declared.value.Side.TheVariants as sides
use Rattle.ucon_model.specs.declared.session.SessionRow.{SessionRow}
use Rattle.ucon_model.specs.Plain.{Bytes, PlainPolicy}
use Rattle.ucon_model.specs.Action.{Trace, subject, object, act}
use Rattle.ucon_model.specs.Fitting.{AttributeAdmits, VariableAdmits}
use Rattle.ucon_model.specs.Readings.{in_force, has_entity, entity_names, with_new, attribute, variable, moment, act_rows, acts, session}
use Rattle.ucon_model.specs.Sound.{IsGrounded, IsSound}
use Rattle.ucon_model.specs.Typing.{IsTyped}
use Rattle.ucon_state.specs.Following.{KeepsNames, HaveOwnCells, TablesFollow, row_of, Follows, IsFollowing}
use Rattle.ucon_state.specs.Held.{held_after, held_in, ReadsAlike}
use Rattle.ucon_state.specs.Shown.{Shown}
use Rattle.ucon_state.specs.Tables.{entities_of, attribute_in, variable_in}
use Rattle.ucon_state.proofs.Following.Keeping.{followed_kept}
use Rattle.ucon_state.proofs.Following.Names.{same_name}
use Rattle.ucon_state.proofs.Following.Places.{place_kept, place_new, placed_where_found}

-- ---- who is there is listed

listed_by : (names : List Bytes) (name e : Bytes) (o : Option ℕ) (there : Bool) → position (bytes_eq e) names ≡ o → is_some o ≡ there
    → is_some (position (bytes_eq e) (names ++ name ∷ [])) ≡ (bytes_eq e name || there)
listed_by names name e (Some i) there at is = ap is_some (place_kept (bytes_eq e) names name i at) ∙ sym (or_right (bytes_eq e name) there (sym is))
listed_by names name e None there at is = ap is_some (place_new (bytes_eq e) names name at) ∙ by (bytes_eq e name)
  where
    by : (b : Bool) → is_some (cond b (Some (length names)) None) ≡ (b || there)
    by true = refl
    by false = is

-- a name that comes again is listed where it was
again_by : (names : List Bytes) (name e : Bytes) (b there : Bool) → bytes_eq e name ≡ b → is_some (position (bytes_eq e) names) ≡ there → (e ≡ name → there ≡ true)
    → is_some (position (bytes_eq e) names) ≡ (b || there)
again_by names name e true there is listed was = listed ∙ was (same_name e name is)
again_by names name e false there is listed was = listed

new_by : (names : List Bytes) (name e : Bytes) (was there : Bool) → is_some (position (bytes_eq e) names) ≡ there → (e ≡ name → was ≡ there)
    → is_some (position (bytes_eq e) (with_new was names name)) ≡ (bytes_eq e name || there)
new_by names name e true there listed same = again_by names name e (bytes_eq e name) there refl listed (λ is. sym (same is))
new_by names name e false there listed same = listed_by names name e (position (bytes_eq e) names) there refl listed

listed : (side : Side) (T : Trace) (e : Bytes) → is_some (position (bytes_eq e) (entity_names side T)) ≡ has_entity side e T
listed side [] e = refl
listed sides.Subject (subject name ∷ T) e =
    new_by (entity_names sides.Subject T) name e (has_entity sides.Subject name T) (has_entity sides.Subject e T) (listed sides.Subject T e)
    (λ is. ap (λ (d : Bytes). has_entity sides.Subject d T) (sym is))
listed sides.Subject (a ∷ T) e = listed sides.Subject T e
listed sides.Object (object name ∷ T) e =
    new_by (entity_names sides.Object T) name e (has_entity sides.Object name T) (has_entity sides.Object e T) (listed sides.Object T e)
    (λ is. ap (λ (d : Bytes). has_entity sides.Object d T) (sym is))
listed sides.Object (a ∷ T) e = listed sides.Object T e

-- ---- acts are counted as they are listed

one_more_by : (b : Bool) (rows : List (Bytes × Bytes × Bytes)) (row : Bytes × Bytes × Bytes) (n : ℕ) → n ≡ length rows → n + cond b 1 0 ≡ length (cond b (rows ++ row ∷ []) rows)
one_more_by true rows row n is = ap (λ k. k + 1) is ∙ sym (length_push rows row)
one_more_by false rows row n is = omega (arith, is)

acts_listed : (T : Trace) → acts T ≡ length (act_rows T)
acts_listed [] = refl
acts_listed (act s a o ∷ T) = one_more_by (is_none (moment s a o T)) (act_rows T) (s, a, o) (acts T) (acts_listed T)
acts_listed (a ∷ T) = acts_listed T

-- ---- both ways

pub held_followed : (s : Shown) (P : PlainPolicy) (T : Trace) → Follows s P T → held_in s.policy s.tables ≡ held_after P T
held_followed s P T h = λ i.
    let k = followed_kept s P T h in
    record {
      policy = h.policy i;
      names = λ side. k.names side i;
      attribute = λ side name attr. k.attribute_agrees side name attr i;
      variable = λ name. k.variable_agrees name i;
      tick = k.readings_agree.now i;
      acts = k.act_rows_agree i;
      moment = λ subject action object. k.readings_agree.done_at subject action object i;
      sessions = ap (λ counts. counts.sessions) k.counts_agree i;
      session = λ n. k.readings_agree.row n i;
    }

pub alike_followed : (s : Shown) (P : PlainPolicy) (T : Trace) → Follows s P T → ReadsAlike s P T
alike_followed s P T h = record {
  held_alike = held_followed s P T h;
  made_once = λ side.
      let es = entities_of side s.tables in
      let names = h.tables.entities.names side in
      sym names.count ∙ sym (length-map es (λ (e : Bytes × ℕ). e.0)) ∙ ap length names.names;
}

module _ (s : Shown) (P : PlainPolicy) (T : Trace) (f : IsFollowing s) (r : ReadsAlike s P T) where
  abbrev h : Follows s f.policy f.trace
  h = f.follows

  abbrev Q : PlainPolicy
  Q = f.policy

  abbrev U : Trace
  U = f.trace

  policy : s.policy ≡ in_force P T
  policy = ap (λ d. d.policy) r.held_alike

  same_policy : in_force Q U ≡ in_force P T
  same_policy = sym h.policy ∙ policy

  names : (side : Side) → KeepsNames (entities_of side s.tables) side T
  names side =
      let es = entities_of side s.tables in
      let same : map (λ (e : Bytes × ℕ). e.0) es ≡ entity_names side T = ap (λ d. d.names side) r.held_alike in
      record {
        names = same;
        count = sym (length-map es (λ (e : Bytes × ℕ). e.0)) ∙ ap length same ∙ sym (r.made_once side);
        there = λ e. sym (placed_where_found (bytes_eq e) es) ∙ ap (λ (ns : List Bytes). is_some (position (bytes_eq e) ns)) same ∙ listed side T e;
        number = (h.tables.entities.names side).number;
      }

  values : (side : Side) (name attr : Bytes) → attribute_in (in_force P T) s.tables side name attr ≡ attribute P T side name attr
  values side name attr = ap (λ (R : PlainPolicy). attribute_in R s.tables side name attr) (sym policy) ∙ ap (λ d. d.attribute side name attr) r.held_alike

  variables : (name : Bytes) → variable_in (in_force P T) s.tables name ≡ variable P T name
  variables name = ap (λ (R : PlainPolicy). variable_in R s.tables name) (sym policy) ∙ ap (λ d. d.variable name) r.held_alike

  tables : TablesFollow P s.tables T
  tables = record {
    entities = record { names = names; own_cells = subst (λ (R : PlainPolicy). HaveOwnCells R s.tables) same_policy h.tables.entities.own_cells; values = values };
    variables = record { count = h.tables.variables.count ∙ ap (λ (R : PlainPolicy). length R.envs) same_policy; values = variables };
    tick = ap (λ d. d.tick) r.held_alike;
    acts = record {
      moments = λ a b c. ap (λ d. d.moment a b c) r.held_alike;
      rows = ap (λ d. d.acts) r.held_alike;
      count = sym (length-map s.tables.acts row_of) ∙ ap length (ap (λ d. d.acts) r.held_alike) ∙ sym (acts_listed T);
    };
    sessions = record { rows = λ n. ap (λ d. d.session n) r.held_alike; count = ap (λ d. d.sessions) r.held_alike };
  }

  same_there : (side : Side) (e : Bytes) → has_entity side e U ≡ has_entity side e T
  same_there side e = sym ((h.tables.entities.names side).there e) ∙ (names side).there e

  same_row : (n : ℕ) → session U n ≡ session T n
  same_row n = sym (h.tables.sessions.rows n) ∙ tables.sessions.rows n

  same_attribute : (side : Side) (name attr : Bytes) → attribute Q U side name attr ≡ attribute P T side name attr
  same_attribute side name attr =
      sym (h.tables.entities.values side name attr) ∙ ap (λ (R : PlainPolicy). attribute_in R s.tables side name attr) same_policy ∙ values side name attr

  same_variable : (name : Bytes) → variable Q U name ≡ variable P T name
  same_variable name =
      sym (h.tables.variables.values name) ∙ ap (λ (R : PlainPolicy). variable_in R s.tables name) same_policy ∙ variables name

  grounded : (o : Option SessionRow) → IsGrounded U o → IsGrounded T o
  grounded None g = tt
  grounded (Some row) g = (subst IsTrue (same_there sides.Subject row.subject) g.0, subst IsTrue (same_there sides.Object row.object) g.1)

  sound : IsSound P T
  sound = record {
    numbered = record {
      zeroth = sym (same_row 0) ∙ h.sound.numbered.zeroth;
      beyond = λ n above. sym (same_row n) ∙ h.sound.numbered.beyond n (omega (arith, above, h.tables.sessions.count, tables.sessions.count));
    };
    grounded = λ n. grounded (session T n) (subst (IsGrounded U) (same_row n) (h.sound.grounded n));
    timely = λ a b c m is.
        subst (λ (now : ℤ). m ≤ℤ now) (sym h.tables.tick ∙ tables.tick) (h.sound.timely a b c m (sym (h.tables.acts.moments a b c) ∙ tables.acts.moments a b c ∙ is));
    fit = record {
      attributes = λ side e attr v is.
          subst (λ (R : PlainPolicy). AttributeAdmits R side attr v) same_policy (h.sound.fit.attributes side e attr v (same_attribute side e attr ∙ is));
      variables = λ name v is. subst (λ (R : PlainPolicy). VariableAdmits R name v) same_policy (h.sound.fit.variables name v (same_variable name ∙ is));
    };
  }

  pub followed_alike : Follows s P T
  followed_alike = record { policy = policy; typed = subst IsTyped same_policy h.typed; tables = tables; sound = sound }
