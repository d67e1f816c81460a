-- What one row more makes of what is there, and so of the rows that have come.
use Rattle.std.proofs.Common.{◌≡◌, ◌∙◌, ℕ, zero, suc, ◌≤◌, ◌<◌, Bool, true, false, cond, List, [], ◌∷◌, ◌++◌, length, map, take, Some, None, is_some, refl, sym, ap, ap₂, append_assoc, arith, length-append}
use Rattle.std.specs.Prelude.{ℤ, pos, Option, slice_get, find, unwrap_or, if◌then◌else◌}
use Rattle.std.specs.List.{flat_map}
use Rattle.std.specs.Map.{lookup}
use Rattle.std.specs.Str.{bytes_eq}
use Rattle.std.proofs.lemmas.Bool.{false≢true}
use Rattle.std.proofs.lemmas.Grind.{flat_map-append}
use Rattle.std.proofs.lemmas.List.{map-append}
use Rattle.std.proofs.lemmas.Slice.Eq.{bytes_eq-Decides}
use Rattle.ucon_base.specs.declared.value.Side.{Side}
use Rattle.ucon_base.specs.declared.value.Side.TheVariants as sides
use Rattle.ucon_base.specs.declared.value.Value.{Value}
use Rattle.ucon_model.specs.declared.policy.AttrDecl.{AttrDecl}
use Rattle.ucon_model.specs.declared.policy.EnvDecl.{EnvDecl}
use Rattle.ucon_model.specs.declared.session.SessionRow.{SessionRow}
use Rattle.ucon_model.specs.Action.{Trace, env, object, subject, write}
use Rattle.ucon_model.specs.Plain.{Bytes, PlainPolicy}
use Rattle.ucon_model.specs.Readings.{attrs_of, entity_names, has_entity, in_force, same_side}
use Rattle.ucon_model.specs.Typing.{IsTyped}
use Rattle.ucon_state.specs.declared.act.Act.{Act as Doing}
use Rattle.ucon_state.specs.declared.held.ActRow.{ActRow}
use Rattle.ucon_state.specs.Applied.{with_new_session}
use Rattle.ucon_state.specs.Following.{row_of}
use Rattle.ucon_state.specs.Held.{Held, held_after, held_in}
use Rattle.ucon_state.specs.Putting.{act_in, with_act_row}
use Rattle.ucon_state.specs.Tables.{Tables, moment_in, same_act, session_in}
use Rattle.ucon_point.specs.declared.order.Stage.TheVariants.{Variables, Subjects, Objects, Acts, Sessions}
use Rattle.ucon_point.specs.declared.row.Row.{Row}
use Rattle.ucon_point.specs.declared.row.Row.TheVariants.{Variable, Entity, Attribute, Act, Session}
use Rattle.ucon_point.specs.HeldRows.{given, variable_rows, attribute_rows, entity_rows, act_row, session_rows, session_rows_to, rows_held}
use Rattle.ucon_point.proofs.Blocks.{AtValues, Full, Told, all_acts, all_entities, all_variables, each_same, own_rows, take_more}
use Rattle.ucon_point.proofs.Declared.{attr_once, env_declared, env_once}
use Rattle.ucon_point.proofs.Found.{same_but}
use Rattle.ucon_point.proofs.PointsRead.{bytes_same}

-- ---- names

flipped : (a b : Bytes) → bytes_eq a b ≡ false → bytes_eq b a ≡ false
flipped a b h = by (bytes_eq b a) refl
  where
    by : (x : Bool) → bytes_eq b a ≡ x → x ≡ false
    by false is = refl
    by true is = absurd (false≢true (sym h ∙ ap (bytes_eq a) ((bytes_eq-Decides b a).0 is) ∙ bytes_same a))

-- ---- values of attributes

module _ (h h' : Held) (side : Side) (pre pre' rows : List Row) (i : ℕ) (d : AttrDecl) (v : Value) (a : AtValues h side pre i rows) where
  attribute_step : h'.policy ≡ h.policy → h'.names side ≡ h.names side → pre' ≡ pre
      → ((e x : Bytes) → bytes_eq a.last e ≡ false → h'.attribute side e x ≡ h.attribute side e x)
      → ((x : Bytes) → bytes_eq d.name x ≡ false → h'.attribute side a.last x ≡ h.attribute side a.last x)
      → h'.attribute side a.last d.name ≡ Some v
      → slice_get (attrs_of h.policy side) i ≡ Some d → find (λ (e : AttrDecl). bytes_eq d.name e.name) (take i (attrs_of h.policy side)) ≡ None
      → AtValues h' side pre' (suc i) (rows ++ Attribute d.name v ∷ [])
  attribute_step same_policy same_names same_pre others other this at once =
      let ds : List AttrDecl = attrs_of h.policy side in
      let row : List Row = Attribute d.name v ∷ [] in
      let F : List Row = flat_map (entity_rows h side) a.front in
      let W : List Row = flat_map (own_rows h side a.last) (take i ds) in
      let same_entity : (e : Bytes) → bytes_eq a.last e ≡ false → entity_rows h' side e ≡ entity_rows h side e =
      λ e ne. ap (λ (Q : PlainPolicy). Entity side e ∷ flat_map (attribute_rows h' side e) Q.attrs) same_policy
      ∙ ap (λ (r : List Row). Entity side e ∷ r) (each_same (attribute_rows h' side e) (attribute_rows h side e) h.policy.attrs
      (λ (c : AttrDecl). ap (λ (o : Option Value). if same_side side c.side then given (λ w. Attribute c.name w) o else []) (others e c.name ne))) in
      let fronts : flat_map (entity_rows h' side) a.front ≡ F = same_but (bytes_eq a.last) (entity_rows h' side) (entity_rows h side) a.front a.once same_entity in
      let values : flat_map (own_rows h' side a.last) (take (suc i) ds) ≡ W ++ row =
      ap (flat_map (own_rows h' side a.last)) (take_more ds i d at)
      ∙ flat_map-append (own_rows h' side a.last) (take i ds) (d ∷ [])
      ∙ ap₂ (λ (x y : List Row). x ++ (y ++ [])) (same_but (λ (e : AttrDecl). bytes_eq d.name e.name) (own_rows h' side a.last) (own_rows h side a.last) (take i ds) once
      (λ (c : AttrDecl) ne. ap (given (λ w. Attribute c.name w)) (other c.name ne))) (ap (given (λ w. Attribute d.name w)) this) in
      record {
        front = a.front;
        last = a.last;
        split = same_names ∙ a.split;
        once = a.once;
        is = ap (λ (r : List Row). r ++ row) a.is ∙ append_assoc pre (F ++ Entity side a.last ∷ W) row
            ∙ ap (λ (r : List Row). pre ++ r) (append_assoc F (Entity side a.last ∷ W) row)
            ∙ ap₂ (λ (p r : List Row). p ++ (F ++ Entity side a.last ∷ r)) (sym same_pre) (sym values)
            ∙ ap (λ (r : List Row). pre' ++ (r ++ Entity side a.last ∷ flat_map (own_rows h' side a.last) (take (suc i) ds))) (sym fronts)
            ∙ ap (λ (Q : PlainPolicy). pre' ++ (flat_map (entity_rows h' side) a.front ++ Entity side a.last ∷ flat_map (own_rows h' side a.last) (take (suc i) (attrs_of Q side)))) (sym same_policy);
      }

module _ (P : PlainPolicy) (T : Trace) (typed : IsTyped (in_force P T)) where
  pub subject_value_step : (rows : List Row) (i : ℕ) (d : AttrDecl) (v : Value) → slice_get (attrs_of (in_force P T) sides.Subject) i ≡ Some d → (t : Told Subjects i (held_after P T) rows)
      → has_entity sides.Subject t.0.last T ≡ true → Told Subjects (suc i) (held_after P (write sides.Subject t.0.last d.name v ∷ T)) (rows ++ Attribute d.name v ∷ [])
  subject_value_step rows i d v at t there =
      let once = attr_once (in_force P T) typed sides.Subject i d at in
      let a = t.0 in (
        attribute_step (held_after P T) (held_after P (write sides.Subject a.last d.name v ∷ T)) sides.Subject (all_variables (held_after P T)) (all_variables (held_after P T)) rows i d v a refl refl refl
            (λ e x ne. rw (flipped a.last e ne) refl)
            (λ x ne. rw (bytes_same a.last, flipped d.name x ne) refl)
            (rw (there, once.declared, bytes_same a.last, bytes_same d.name) refl) at once.once,
        t.1,
      )

  pub object_value_step : (rows : List Row) (i : ℕ) (d : AttrDecl) (v : Value) → slice_get (attrs_of (in_force P T) sides.Object) i ≡ Some d → (t : Told Objects i (held_after P T) rows)
      → has_entity sides.Object t.0.last T ≡ true → Told Objects (suc i) (held_after P (write sides.Object t.0.last d.name v ∷ T)) (rows ++ Attribute d.name v ∷ [])
  object_value_step rows i d v at t there =
      let once = attr_once (in_force P T) typed sides.Object i d at in
      let a = t.0 in
      let pre : List Row = all_variables (held_after P T) ++ all_entities (held_after P T) sides.Subject in (
        attribute_step (held_after P T) (held_after P (write sides.Object a.last d.name v ∷ T)) sides.Object pre pre rows i d v a refl refl refl
            (λ e x ne. rw (flipped a.last e ne) refl)
            (λ x ne. rw (bytes_same a.last, flipped d.name x ne) refl)
            (rw (there, once.declared, bytes_same a.last, bytes_same d.name) refl) at once.once,
        t.1,
      )

  pub variable_step : (rows : List Row) (i : ℕ) (d : EnvDecl) (v : Value) → slice_get (in_force P T).envs i ≡ Some d → Told Variables i (held_after P T) rows
      → Told Variables (suc i) (held_after P (env d.name v ∷ T)) (rows ++ Variable d.name v ∷ [])
  variable_step rows i d v at t =
      let ds : List EnvDecl = (in_force P T).envs in
      let h : Held = held_after P T in
      let h' : Held = held_after P (env d.name v ∷ T) in
      let this : h'.variable d.name ≡ Some v = rw (env_declared (in_force P T) typed i d at, bytes_same d.name) refl in
      let other : (c : EnvDecl) → bytes_eq d.name c.name ≡ false → variable_rows h' c ≡ variable_rows h c =
      λ c ne. let one : h'.variable c.name ≡ h.variable c.name = rw (flipped d.name c.name ne) refl in ap (given (λ w. Variable c.name w)) one in (
        ap (λ (r : List Row). r ++ Variable d.name v ∷ []) t.0
            ∙ sym (ap (flat_map (variable_rows h')) (take_more ds i d at) ∙ flat_map-append (variable_rows h') (take i ds) (d ∷ [])
            ∙ ap₂ (λ (x y : List Row). x ++ (y ++ [])) (same_but (λ (e : EnvDecl). bytes_eq d.name e.name) (variable_rows h') (variable_rows h) (take i ds) (env_once (in_force P T) typed i d at) other)
            (ap (given (λ w. Variable d.name w)) this)),
        t.1,
      )

-- ---- entities

module _ (P : PlainPolicy) (T : Trace) (name : Bytes) where
  entity_there : (h h' : Held) (side : Side) (pre rows : List Row) → h'.policy ≡ h.policy → h'.names side ≡ h.names side ++ name ∷ [] → find (bytes_eq name) (h.names side) ≡ None
      → ((e x : Bytes) → bytes_eq name e ≡ false → h'.attribute side e x ≡ h.attribute side e x) → rows ≡ pre ++ all_entities h side
      → AtValues h' side pre 0 (rows ++ Entity side name ∷ [])
  entity_there h h' side pre rows same_policy names none others is =
      let same_entity : (e : Bytes) → bytes_eq name e ≡ false → entity_rows h' side e ≡ entity_rows h side e =
      λ e ne. ap (λ (Q : PlainPolicy). Entity side e ∷ flat_map (attribute_rows h' side e) Q.attrs) same_policy
      ∙ ap (λ (r : List Row). Entity side e ∷ r) (each_same (attribute_rows h' side e) (attribute_rows h side e) h.policy.attrs
      (λ (c : AttrDecl). ap (λ (o : Option Value). if same_side side c.side then given (λ w. Attribute c.name w) o else []) (others e c.name ne))) in
      record {
        front = h.names side;
        last = name;
        split = names;
        once = none;
        is = ap (λ (r : List Row). r ++ Entity side name ∷ []) is ∙ append_assoc pre (all_entities h side) (Entity side name ∷ [])
            ∙ ap (λ (r : List Row). pre ++ (r ++ Entity side name ∷ [])) (sym (same_but (bytes_eq name) (entity_rows h' side) (entity_rows h side) (h.names side) none same_entity));
      }

  pub subject_step : (rows : List Row) → Full Subjects (held_after P T) rows → has_entity sides.Subject name T ≡ false → find (bytes_eq name) (entity_names sides.Subject T) ≡ None
      → Told Subjects 0 (held_after P (subject name ∷ T)) (rows ++ Entity sides.Subject name ∷ [])
  subject_step rows f new none =
      let names : (held_after P (subject name ∷ T)).names sides.Subject ≡ (held_after P T).names sides.Subject ++ name ∷ [] = rw new refl in (
        entity_there (held_after P T) (held_after P (subject name ∷ T)) sides.Subject (all_variables (held_after P T)) rows refl names none (λ e x ne. rw (flipped name e ne) refl) f.0,
        f.1,
      )

  pub object_step : (rows : List Row) → Full Objects (held_after P T) rows → has_entity sides.Object name T ≡ false → find (bytes_eq name) (entity_names sides.Object T) ≡ None
      → Told Objects 0 (held_after P (object name ∷ T)) (rows ++ Entity sides.Object name ∷ [])
  object_step rows f new none =
      let names : (held_after P (object name ∷ T)).names sides.Object ≡ (held_after P T).names sides.Object ++ name ∷ [] = rw new refl in (
        entity_there (held_after P T) (held_after P (object name ∷ T)) sides.Object (all_variables (held_after P T) ++ all_entities (held_after P T) sides.Subject) rows refl names none
            (λ e x ne. rw (flipped name e ne) refl) f.0,
        f.1,
      )

-- ---- acts

same_itself : (a : Doing) → same_act a a ≡ true
same_itself a = rw (bytes_same a.subject, bytes_same a.action, bytes_same a.object) refl

module _ {K X : Type 0} (test : K → Bool) where
  found_before : (es fs : List (K × X)) → is_some (lookup test es) ≡ true → lookup test (es ++ fs) ≡ lookup test es
  found_before [] fs h = absurd (false≢true h)
  found_before (e ∷ es) fs h = by (λ k. found_before es fs k) (test e.0) h
    where
      by : (is_some (lookup test es) ≡ true → lookup test (es ++ fs) ≡ lookup test es) → (b : Bool) → is_some (cond b (Some e.1) (lookup test es)) ≡ true → cond b (Some e.1) (lookup test (es ++ fs)) ≡ cond b (Some e.1) (lookup test es)
      by rest true k = refl
      by rest false k = rest k

  found_behind : (es fs : List (K × X)) → lookup test es ≡ None → lookup test (es ++ fs) ≡ lookup test fs
  found_behind [] fs h = refl
  found_behind (e ∷ es) fs h = by (λ k. found_behind es fs k) (test e.0) h
    where
      by : (lookup test es ≡ None → lookup test (es ++ fs) ≡ lookup test fs) → (b : Bool) → cond b (Some e.1) (lookup test es) ≡ None → cond b (Some e.1) (lookup test (es ++ fs)) ≡ lookup test fs
      by rest true k = absurd (false≢true (ap is_some (sym k)))
      by rest false k = rest k

  is_there : (es fs : List (K × X)) (e : K × X) → test e.0 ≡ true → is_some (lookup test (es ++ e ∷ fs)) ≡ true
  is_there [] fs e h = rw h refl
  is_there (d ∷ es) fs e h = by (is_there es fs e h) (test d.0)
    where
      by : is_some (lookup test (es ++ e ∷ fs)) ≡ true → (b : Bool) → is_some (cond b (Some d.1) (lookup test (es ++ e ∷ fs))) ≡ true
      by rest true = refl
      by rest false = rest

-- the row of an act
abbrev pub row_of_act : ActRow → Row
row_of_act a = Act a.subject a.action a.object a.moment

module _ (Q : PlainPolicy) (t : Tables) (row : ActRow) where
  acts_same : (done rest : List (Doing × ℤ)) → t.acts ≡ done ++ rest
      → map (act_row (held_in Q (with_act_row t row))) (map row_of rest) ≡ map (act_row (held_in Q t)) (map row_of rest)
  acts_same done [] is = refl
  acts_same done (e ∷ rest) is =
      let there : is_some (lookup (same_act e.0) t.acts) ≡ true = ap (λ (es : List (Doing × ℤ)). is_some (lookup (same_act e.0) es)) is ∙ is_there (same_act e.0) done rest e (same_itself e.0) in
      ap₂ (λ (m : Option ℤ) (r : List Row). Act e.0.subject e.0.action e.0.object (unwrap_or m (pos 0)) ∷ r)
      (found_before (same_act e.0) t.acts ((act_in row, row.moment) ∷ []) there) (acts_same (done ++ e ∷ []) rest (is ∙ sym (append_assoc done (e ∷ []) rest)))

  pub act_step : (rows : List Row) → Full Acts (held_in Q t) rows → moment_in t row.subject row.action row.object ≡ None → Told Acts 0 (held_in Q (with_act_row t row)) (rows ++ row_of_act row ∷ [])
  act_step rows f none =
      let h : Held = held_in Q t in
      let h' : Held = held_in Q (with_act_row t row) in
      let pre : List Row = (all_variables h ++ all_entities h sides.Subject) ++ all_entities h sides.Object in
      let e : Doing × ℤ = (act_in row, row.moment) in
      let one : lookup (same_act (act_in row)) (t.acts ++ e ∷ []) ≡ Some row.moment = found_behind (same_act (act_in row)) t.acts (e ∷ []) none ∙ rw (same_itself (act_in row)) refl in
      let acts : all_acts h' ≡ all_acts h ++ row_of_act row ∷ [] =
      ap (map (act_row h')) (map-append row_of t.acts (e ∷ [])) ∙ map-append (act_row h') (map row_of t.acts) (row_of e ∷ [])
      ∙ ap₂ (λ (x : List Row) (m : Option ℤ). x ++ Act row.subject row.action row.object (unwrap_or m (pos 0)) ∷ []) (acts_same [] t.acts refl) one in
      (ap (λ (r : List Row). r ++ row_of_act row ∷ []) f.0 ∙ append_assoc pre (all_acts h) (row_of_act row ∷ []) ∙ ap (λ (r : List Row). pre ++ r) (sym acts), f.1)

-- ---- sessions

get_before : {X : Type 0} (xs ys : List X) (i : ℕ) → i < length xs → slice_get (xs ++ ys) i ≡ slice_get xs i
get_before [] ys i lt = absurd (omega (arith, lt))
get_before (x ∷ xs) ys zero lt = refl
get_before (x ∷ xs) ys (suc i) lt = get_before xs ys i (omega (arith, lt))

pub get_behind : {X : Type 0} (xs : List X) (x : X) → slice_get (xs ++ x ∷ []) (length xs) ≡ Some x
get_behind [] x = refl
get_behind (y ∷ xs) x = get_behind xs x

module _ (Q : PlainPolicy) (t : Tables) (row : SessionRow) where
  sessions_same : (n : ℕ) → n ≤ length t.sessions → session_rows_to (session_in (with_new_session t row)) n ≡ session_rows_to (session_in t) n
  sessions_same zero le = refl
  sessions_same (suc n) le =
      ap₂ (λ (x : List Row) (o : Option SessionRow). x ++ session_rows o) (sessions_same n (omega (arith, le))) (get_before t.sessions (row ∷ []) n (omega (arith, le)))

  pub session_step : (rows : List Row) → rows ≡ rows_held (held_in Q t) → Told Sessions 0 (held_in Q (with_new_session t row)) (rows ++ Session row ∷ [])
  session_step rows is =
      let h : Held = held_in Q t in
      let v : List Row = all_variables h in
      let s : List Row = all_entities h sides.Subject in
      let o : List Row = all_entities h sides.Object in
      let a : List Row = all_acts h in
      let n : ℕ = length t.sessions in
      let last : List Row = Session row ∷ [] in
      let before : List Row = session_rows_to (session_in t) n in
      let one_more : length (t.sessions ++ row ∷ []) ≡ suc n = omega (arith, length-append t.sessions (row ∷ [])) in
      let sessions : session_rows_to (session_in (with_new_session t row)) (length (t.sessions ++ row ∷ [])) ≡ before ++ last =
      ap (session_rows_to (session_in (with_new_session t row))) one_more ∙ ap₂ (λ (x : List Row) (p : Option SessionRow). x ++ session_rows p) (sessions_same n (omega arith)) (get_behind t.sessions row) in
      ap (λ (r : List Row). r ++ last) is ∙ append_assoc v (s ++ (o ++ (a ++ before))) last
      ∙ ap (λ (r : List Row). v ++ r) (append_assoc s (o ++ (a ++ before)) last ∙ ap (λ (r : List Row). s ++ r) (append_assoc o (a ++ before) last ∙ ap (λ (r : List Row). o ++ r) (append_assoc a before last)))
      ∙ ap (λ (r : List Row). v ++ (s ++ (o ++ (a ++ r)))) (sym sessions)
