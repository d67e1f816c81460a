-- Where rows are the same, the same is there.
use Rattle.std.proofs.Common.{◌≡◌, ◌∙◌, ℕ, zero, suc, ◌<◌, Bool, true, false, cond, List, [], ◌∷◌, ◌++◌, map, Option, Some, None, is_some, refl, sym, ap, subst, arith}
use Rattle.std.specs.Prelude.{ℤ, pos, ◌&&◌, nat_lt, nat_eq, find, slice_get, unwrap_or}
use Rattle.std.specs.List.{flat_map}
use Rattle.std.specs.Str.{bytes_eq}
use Rattle.std.proofs.lemmas.Bool.{and_parts, false≢true}
use Rattle.std.proofs.lemmas.Bool.Decides.{nat_tests}
use Rattle.std.proofs.lemmas.Slice.Eq.{bytes_eq-Decides}
use Rattle.ucon_base.specs.Elements.{Each, each_map}
use Rattle.ucon_base.specs.declared.value.Side.{Side}
use Rattle.ucon_base.specs.declared.value.Side.TheVariants as sides
use Rattle.ucon_model.specs.declared.policy.AttrDecl.{AttrDecl}
use Rattle.ucon_model.specs.declared.policy.EnvDecl.{EnvDecl}
use Rattle.ucon_model.specs.declared.session.SessionRow.{SessionRow}
use Rattle.ucon_model.specs.Action.{Trace}
use Rattle.ucon_model.specs.Plain.{Bytes, PlainPolicy}
use Rattle.ucon_model.specs.Readings.{in_force, has_entity, entity_names, same_side, declared_attr, declared_env, given_attr, given_env, attribute, variable, moment, act_rows, session, sessions, tick_of}
use Rattle.ucon_state.specs.Held.{Held, held_after}
use Rattle.ucon_point.specs.declared.row.Row.{Row}
use Rattle.ucon_point.specs.HeldRows.{act_row, session_rows_to, rows_held}
use Rattle.ucon_point.specs.Orderly.{same_names}
use Rattle.ucon_store.proofs.Seeing.SameRows.{HasAttribute, IsListed, SameAttribute, SameMoment, SameTo, acts_aligned, begins, begins_acts, begins_append, begins_objects, begins_sessions, entities_aligned, entity_by, is_act, is_entity, nothing, rows_by, sessions_aligned, variables_aligned}

-- ---- lists

pub each_at : {A : Type 0} (Q : A → Type 0) (xs : List A) → ((i : ℕ) (x : A) → slice_get xs i ≡ Some x → Q x) → Each Q xs
each_at Q [] h = tt
each_at Q (x ∷ xs) h = (h zero x refl, each_at Q xs (λ i y at. h (suc i) y at))

same_some : {A : Type 0} (x y : A) → Some x ≡ Some y → x ≡ y
same_some x y h = ap (λ o. unwrap_or o x) h

-- what is found has what each has, and is what was sought
found_has : {A : Type 0} (Q : A → Type 0) (test : A → Bool) (xs : List A) (x : A) → Each Q xs → find test xs ≡ Some x → Q x × (test x ≡ true)
found_has Q test [] x each h = absurd (nothing h)
found_has {A} Q test (y ∷ xs) x each h = by (test y) refl h (λ k. found_has Q test xs x each.1 k)
  where
    by : (b : Bool) → test y ≡ b → cond b (Some y) (find test xs) ≡ Some x → (find test xs ≡ Some x → Q x × (test x ≡ true)) → Q x × (test x ≡ true)
    by true is k rest = let e = same_some y x k in (subst Q e each.0, ap test (sym e) ∙ is)
    by false is k rest = rest k

bytes_same : (x : Bytes) → bytes_eq x x ≡ true
bytes_same x = (bytes_eq-Decides x x).1 refl

found_later : {A : Type 0} (b : Bool) (y : A) (o : Option A) → is_some o ≡ true → is_some (cond b (Some y) o) ≡ true
found_later true y o h = refl
found_later false y o h = h

found_here : {A : Type 0} (b : Bool) (y : A) (o : Option A) → b ≡ true → is_some (cond b (Some y) o) ≡ true
found_here true y o h = refl
found_here false y o h = absurd (false≢true h)

envs_found : (ds : List EnvDecl) → Each (λ d. is_some (declared_env ds d.name) ≡ true) ds
envs_found [] = tt
envs_found (d ∷ ds) = (
  found_here (bytes_eq d.name d.name) d (declared_env ds d.name) (bytes_same d.name),
  each_map (λ e. is_some (declared_env ds e.name) ≡ true) (λ e. is_some (declared_env (d ∷ ds) e.name) ≡ true)
      (λ e h. found_later (bytes_eq e.name d.name) d (declared_env ds e.name) h) ds (envs_found ds),
)

attrs_found : (side : Side) (ds : List AttrDecl) → Each (λ d. same_side side d.side ≡ true → is_some (declared_attr ds side d.name) ≡ true) ds
attrs_found side [] = tt
attrs_found side (d ∷ ds) = (
  λ of. found_here (same_side side d.side && bytes_eq d.name d.name) d (declared_attr ds side d.name) (rw (of, bytes_same d.name) refl),
  each_map (λ e. same_side side e.side ≡ true → is_some (declared_attr ds side e.name) ≡ true) (λ e. same_side side e.side ≡ true → is_some (declared_attr (d ∷ ds) side e.name) ≡ true)
      (λ e h of. found_later (same_side side d.side && bytes_eq e.name d.name) d (declared_attr ds side e.name) (h of)) ds (attrs_found side ds),
)

-- ---- options and numbers

the_one : {A : Type 0} (o : Option A) → is_some o ≡ true → (x : A) × (o ≡ Some x)
the_one None h = absurd (false≢true h)
the_one (Some x) h = (x, refl)

none_of : {A : Type 0} (o : Option A) → is_some o ≡ false → o ≡ None
none_of None h = refl
none_of (Some x) h = absurd (false≢true (sym h))

unwrap_same : (o p : Option ℤ) → is_some o ≡ true → is_some p ≡ true → unwrap_or o (pos 0) ≡ unwrap_or p (pos 0) → o ≡ p
unwrap_same None p a b h = absurd (false≢true a)
unwrap_same (Some x) None a b h = absurd (false≢true b)
unwrap_same (Some x) (Some y) a b h = ap (λ (z : ℤ). Some z) h

below_if : (i n : ℕ) → nat_lt i n ≡ true → i < n
below_if i n h = grind (arith, nat_tests)

past_if : (i n : ℕ) → nat_lt i n ≡ false → n < suc i
past_if i n h = grind (arith, nat_tests)

equal_if : (i n : ℕ) → nat_eq i n ≡ true → i ≡ n
equal_if i n h = grind (arith, nat_tests)

below_unless : (i n : ℕ) → i < suc n → nat_eq i n ≡ false → i < n
below_unless i n h other = grind (arith, nat_tests)

to_at : (f g : ℕ → Option SessionRow) (n : ℕ) → SameTo f g n → (i : ℕ) → i < n → f (suc i) ≡ g (suc i)
to_at f g zero h i lt = absurd (omega (arith, lt))
to_at f g (suc n) h i lt = by (nat_eq i n) refl (λ less. to_at f g n h.0 i less)
  where
    by : (b : Bool) → nat_eq i n ≡ b → (i < n → f (suc i) ≡ g (suc i)) → f (suc i) ≡ g (suc i)
    by true is rest = let e : i ≡ n = equal_if i n is in subst (λ (j : ℕ). f (suc j) ≡ g (suc j)) (sym e) h.1
    by false other rest = rest (below_unless i n lt other)

-- ---- everything is told by the rows

module _ (P : PlainPolicy) (T : Trace) (Q : PlainPolicy) (U : Trace) (l : IsListed P T) (m : IsListed Q U) (policy : in_force P T ≡ in_force Q U) (now : tick_of T ≡ tick_of U)
    (is : rows_held (held_after P T) ≡ rows_held (held_after Q U)) where
  abbrev h : Held
  h = held_after P T

  abbrev k : Held
  k = held_after Q U

  abbrev R : PlainPolicy
  R = in_force P T

  both : rows_by R h ≡ rows_by R k
  both = is ∙ ap (λ (S : PlainPolicy). rows_by S k) (sym policy)

  one_values : (side : Side) → Each (λ n. Each (HasAttribute h k h side n) R.attrs) (entity_names side T)
  one_values side = each_at _ (entity_names side T) (λ i n at.
      each_map (λ d. same_side side d.side ≡ true → is_some (declared_attr R.attrs side d.name) ≡ true) (HasAttribute h k h side n)
      (λ d found of. l.values side n d.name (l.there side i n at) (found of)) R.attrs (attrs_found side R.attrs))

  other_values : (side : Side) → Each (λ n. Each (HasAttribute h k k side n) R.attrs) (entity_names side U)
  other_values side = each_at _ (entity_names side U) (λ i n at.
      each_map (λ d. same_side side d.side ≡ true → is_some (declared_attr R.attrs side d.name) ≡ true) (HasAttribute h k k side n)
      (λ d found of. m.values side n d.name (m.there side i n at) (subst (λ (S : PlainPolicy). is_some (declared_attr S.attrs side d.name) ≡ true) policy (found of)))
      R.attrs (attrs_found side R.attrs))

  -- ---- part by part

  abbrev rest : Held → List Row
  rest x = map (act_row x) x.acts ++ session_rows_to x.session x.sessions

  abbrev HasVariable : Held → EnvDecl → Type 0
  HasVariable x d = is_some (x.variable d.name) ≡ true

  abbrev SameVariable : EnvDecl → Type 0
  SameVariable d = h.variable d.name ≡ k.variable d.name

  abbrev behind : Held → List Row
  behind x = flat_map (entity_by R x sides.Subject) (x.names sides.Subject) ++ (flat_map (entity_by R x sides.Object) (x.names sides.Object) ++ rest x)

  variables_are : Each SameVariable R.envs × (behind h ≡ behind k)
  variables_are =
      variables_aligned h k R.envs (behind h) (behind k)
      (each_map (λ d. is_some (declared_env R.envs d.name) ≡ true) (HasVariable h) (λ d found. l.variables d.name found) R.envs (envs_found R.envs))
      (each_map (λ d. is_some (declared_env R.envs d.name) ≡ true) (HasVariable k)
      (λ d found. m.variables d.name (subst (λ (S : PlainPolicy). is_some (declared_env S.envs d.name) ≡ true) policy found)) R.envs (envs_found R.envs))
      both

  begins_rest : (x : Held) (side : Side) → begins (is_entity side) (rest x) ≡ false
  begins_rest x side =
      begins_append (is_entity side) (map (act_row x) x.acts) (session_rows_to x.session x.sessions) (begins_acts side x x.acts)
      (begins_sessions (is_entity side) (λ s. refl) x.session x.sessions)

  begins_behind : (x : Held) → begins (is_entity sides.Subject) (flat_map (entity_by R x sides.Object) (x.names sides.Object) ++ rest x) ≡ false
  begins_behind x =
      begins_append (is_entity sides.Subject) (flat_map (entity_by R x sides.Object) (x.names sides.Object)) (rest x) (begins_objects R x (x.names sides.Object)) (begins_rest x sides.Subject)

  abbrev AreSame : Side → Type 0
  AreSame side = Each (λ n. Each (SameAttribute h k side n) R.attrs) (entity_names side T)

  subjects_are : (entity_names sides.Subject T ≡ entity_names sides.Subject U) × (AreSame sides.Subject
      × (flat_map (entity_by R h sides.Object) (h.names sides.Object) ++ rest h ≡ flat_map (entity_by R k sides.Object) (k.names sides.Object) ++ rest k))
  subjects_are =
      entities_aligned h k R sides.Subject (h.names sides.Subject) (k.names sides.Subject) (flat_map (entity_by R h sides.Object) (h.names sides.Object) ++ rest h)
      (flat_map (entity_by R k sides.Object) (k.names sides.Object) ++ rest k) (begins_behind h) (begins_behind k) (one_values sides.Subject) (other_values sides.Subject) variables_are.1

  objects_are : (entity_names sides.Object T ≡ entity_names sides.Object U) × (AreSame sides.Object × (rest h ≡ rest k))
  objects_are =
      entities_aligned h k R sides.Object (h.names sides.Object) (k.names sides.Object) (rest h) (rest k) (begins_rest h sides.Object) (begins_rest k sides.Object)
      (one_values sides.Object) (other_values sides.Object) subjects_are.1.1

  acts_are : (act_rows T ≡ act_rows U) × (Each (SameMoment h k) (act_rows T) × (session_rows_to (session T) (sessions T) ≡ session_rows_to (session U) (sessions U)))
  acts_are =
      acts_aligned h k h.acts k.acts (session_rows_to (session T) (sessions T)) (session_rows_to (session U) (sessions U))
      (begins_sessions is_act (λ s. refl) (session T) (sessions T)) (begins_sessions is_act (λ s. refl) (session U) (sessions U)) objects_are.1.1

  sessions_are : (sessions T ≡ sessions U) × SameTo (session T) (session U) (sessions T)
  sessions_are = sessions_aligned (session T) (session U) (sessions T) (sessions U) l.rows m.rows acts_are.1.1

  -- ---- all of it

  same_names_of : (side : Side) → entity_names side T ≡ entity_names side U
  same_names_of sides.Subject = subjects_are.0
  same_names_of sides.Object = objects_are.0

  same_values_of : (side : Side) → AreSame side
  same_values_of sides.Subject = subjects_are.1.0
  same_values_of sides.Object = objects_are.1.0

  same_there : (side : Side) (e : Bytes) → has_entity side e T ≡ has_entity side e U
  same_there side e = by (has_entity side e T) (has_entity side e U) refl refl
    where
      by : (a b : Bool) → has_entity side e T ≡ a → has_entity side e U ≡ b → a ≡ b
      by true true x y = refl
      by false false x y = refl
      by true false x y =
          let at = l.listed side e x in
          sym (m.there side at.0 e (ap (λ (ns : List Bytes). slice_get ns at.0) (sym (same_names_of side)) ∙ at.1)) ∙ y
      by false true x y =
          let at = m.listed side e y in
          sym x ∙ l.there side at.0 e (ap (λ (ns : List Bytes). slice_get ns at.0) (same_names_of side) ∙ at.1)

  -- an attribute of one that is there and declared
  same_held_value : (side : Side) (e attr : Bytes) (d : AttrDecl) → has_entity side e T ≡ true → declared_attr R.attrs side attr ≡ Some d → attribute P T side e attr ≡ attribute Q U side e attr
  same_held_value side e attr d there declared =
      let at = l.listed side e there in
      let each = each_of at.0 (entity_names side T) at.1 (same_values_of side) in
      let one = found_has (SameAttribute h k side e) (λ c. same_side side c.side && bytes_eq attr c.name) R.attrs d each declared in
      let parts = and_parts (same_side side d.side) (bytes_eq attr d.name) one.1 in
      let name : attr ≡ d.name = (bytes_eq-Decides attr d.name).0 parts.1 in
      ap (λ (n : Bytes). attribute P T side e n) name ∙ one.0 parts.0 ∙ ap (λ (n : Bytes). attribute Q U side e n) (sym name)
    where
      each_of : (i : ℕ) (ns : List Bytes) → slice_get ns i ≡ Some e → Each (λ n. Each (SameAttribute h k side n) R.attrs) ns → Each (SameAttribute h k side e) R.attrs
      each_of i [] at all = absurd (nothing at)
      each_of zero (n ∷ ns) at all = subst (λ (x : Bytes). Each (SameAttribute h k side x) R.attrs) (same_some n e at) all.0
      each_of (suc i) (n ∷ ns) at all = each_of i ns at all.1

  none_here : (side : Side) (e attr : Bytes) (S : PlainPolicy) (V : Trace) → (has_entity side e V && is_some (declared_attr (in_force S V).attrs side attr)) ≡ false → attribute S V side e attr ≡ None
  none_here side e attr S V isnt = ap (λ (b : Bool). cond b (given_attr S side e attr V) None) isnt

  there_and : (side : Side) (e attr : Bytes)
      → (has_entity side e T && is_some (declared_attr R.attrs side attr)) ≡ (has_entity side e U && is_some (declared_attr (in_force Q U).attrs side attr))
  there_and side e attr = λ t. same_there side e t && is_some (declared_attr (policy t).attrs side attr)

  same_value : (side : Side) (e attr : Bytes) → attribute P T side e attr ≡ attribute Q U side e attr
  same_value side e attr = by (has_entity side e T && is_some (declared_attr R.attrs side attr)) refl
    where
      by : (b : Bool) → (has_entity side e T && is_some (declared_attr R.attrs side attr)) ≡ b → attribute P T side e attr ≡ attribute Q U side e attr
      by false isnt = none_here side e attr P T isnt ∙ sym (none_here side e attr Q U (sym (there_and side e attr) ∙ isnt))
      by true was =
          let parts = and_parts (has_entity side e T) (is_some (declared_attr R.attrs side attr)) was in
          let d = the_one (declared_attr R.attrs side attr) parts.1 in
          same_held_value side e attr d.0 parts.0 d.1

  same_variable : (name : Bytes) → variable P T name ≡ variable Q U name
  same_variable name = by (is_some (declared_env R.envs name)) refl
    where
      by : (b : Bool) → is_some (declared_env R.envs name) ≡ b → variable P T name ≡ variable Q U name
      by false isnt =
          ap (λ (b : Bool). cond b (given_env P name T) None) isnt
          ∙ sym (ap (λ (b : Bool). cond b (given_env Q name U) None) (ap (λ (S : PlainPolicy). is_some (declared_env S.envs name)) (sym policy) ∙ isnt))
      by true was =
          let d = the_one (declared_env R.envs name) was in
          let one = found_has SameVariable (λ e. bytes_eq name e.name) R.envs d.0 variables_are.0 d.1 in
          let is : name ≡ d.0.name = (bytes_eq-Decides name d.0.name).0 one.1 in
          ap (λ (n : Bytes). variable P T n) is ∙ one.0 ∙ ap (λ (n : Bytes). variable Q U n) (sym is)

  same_moment : (s a o : Bytes) → moment s a o T ≡ moment s a o U
  same_moment s a o = by (find (same_names (s, a, o)) (act_rows T)) refl
    where
      found_too : find (same_names (s, a, o)) (act_rows T) ≡ find (same_names (s, a, o)) (act_rows U)
      found_too = ap (find (same_names (s, a, o))) acts_are.0

      by : (f : Option (Bytes × Bytes × Bytes)) → find (same_names (s, a, o)) (act_rows T) ≡ f → moment s a o T ≡ moment s a o U
      by None isnt =
          none_of (moment s a o T) (l.moments (s, a, o) ∙ ap is_some isnt) ∙ sym (none_of (moment s a o U) (m.moments (s, a, o) ∙ ap is_some (sym found_too ∙ isnt)))
      by (Some x) was =
          let one = found_has (SameMoment h k) (same_names (s, a, o)) (act_rows T) x acts_are.1.0 was in
          let parts = and_parts (bytes_eq s x.0 && bytes_eq a x.1) (bytes_eq o x.2) one.1 in
          let front = and_parts (bytes_eq s x.0) (bytes_eq a x.1) parts.0 in
          let is : (s, a, o) ≡ x = λ t. ((bytes_eq-Decides s x.0).0 front.0 t, (bytes_eq-Decides a x.1).0 front.1 t, (bytes_eq-Decides o x.2).0 parts.1 t) in
          let same : SameMoment h k (s, a, o) = subst (SameMoment h k) (sym is) one.0 in
          unwrap_same (moment s a o T) (moment s a o U) (l.moments (s, a, o) ∙ ap is_some was) (m.moments (s, a, o) ∙ ap is_some (sym found_too ∙ was)) same

  same_session : (n : ℕ) → session T n ≡ session U n
  same_session zero = l.zeroth ∙ sym m.zeroth
  same_session (suc i) = by (nat_lt i (sessions T)) refl
    where
      by : (b : Bool) → nat_lt i (sessions T) ≡ b → session T (suc i) ≡ session U (suc i)
      by true is = to_at (session T) (session U) (sessions T) sessions_are.1 i (below_if i (sessions T) is)
      by false is =
          let past : sessions T < suc i = past_if i (sessions T) is in
          l.beyond (suc i) past ∙ sym (m.beyond (suc i) (subst (λ (n : ℕ). n < suc i) sessions_are.0 past))

  pub held_same : held_after P T ≡ held_after Q U
  held_same = λ t. record {
    policy = policy t;
    names = λ side. same_names_of side t;
    attribute = λ side e attr. same_value side e attr t;
    variable = λ name. same_variable name t;
    tick = now t;
    acts = acts_are.0 t;
    moment = λ s a o. same_moment s a o t;
    sessions = sessions_are.0 t;
    session = λ n. same_session n t;
  }
