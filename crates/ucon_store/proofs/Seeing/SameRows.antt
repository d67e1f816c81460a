-- What is there after traces that states follow is told by its rows.
use Rattle.std.proofs.Common.{◌≡◌, ◌∙◌, ℕ, zero, suc, ◌<◌, Bool, true, false, cond, List, [], ◌∷◌, ◌++◌, map, Option, Some, None, is_some, refl, sym, ap, subst, append_assoc}
use Rattle.std.specs.Prelude.{pos, find, slice_get, unwrap_or, ⊤}
use Rattle.std.specs.List.{flat_map}
use Rattle.std.proofs.lemmas.Bool.{false≢true}
use Rattle.ucon_base.specs.Elements.{Each}
use Rattle.ucon_base.specs.declared.value.Side.{Side}
use Rattle.ucon_base.specs.declared.value.Side.TheVariants as sides
use Rattle.ucon_base.specs.declared.value.Value.{Value}
use Rattle.ucon_model.specs.declared.policy.AttrDecl.{AttrDecl}
use Rattle.ucon_model.specs.declared.policy.EnvDecl.{EnvDecl}
use Rattle.ucon_model.specs.declared.session.SessionRow.{SessionRow}
use Rattle.ucon_model.specs.Action.{Trace}
use Rattle.ucon_model.specs.Plain.{Bytes, PlainPolicy}
use Rattle.ucon_model.specs.Readings.{in_force, has_entity, entity_names, same_side, declared_attr, declared_env, attribute, variable, moment, act_rows, session, sessions}
use Rattle.ucon_state.specs.declared.held.ActRow.{ActRow}
use Rattle.ucon_state.specs.Held.{Held}
use Rattle.ucon_point.specs.declared.row.Row.{Row}
use Rattle.ucon_point.specs.declared.row.Row.TheVariants.{Variable, Entity, Attribute, Act, Session}
use Rattle.ucon_point.specs.HeldRows.{given, variable_rows, attribute_rows, act_row, session_rows, session_rows_to}
use Rattle.ucon_point.specs.Orderly.{same_names}

pub nothing : {A : Type 0} {v : A} → None ≡ Some v → ⊥
nothing h = false≢true (ap is_some h)

no_list : {A : Type 0} (x : A) (xs : List A) → [] ≡ x ∷ xs → ⊥
no_list x xs h = absurd (cc h)

-- ---- rows by rows

abbrev pub entity_by : PlainPolicy → Held → Side → Bytes → List Row
entity_by R h side name = Entity side name ∷ flat_map (attribute_rows h side name) R.attrs

abbrev pub rows_by : PlainPolicy → Held → List Row
rows_by R h =
    flat_map (variable_rows h) R.envs
    ++ (flat_map (entity_by R h sides.Subject) (h.names sides.Subject) ++ (flat_map (entity_by R h sides.Object) (h.names sides.Object)
    ++ (map (act_row h) h.acts ++ session_rows_to h.session h.sessions)))

-- what the first row is, if there is one
abbrev pub begins : (Row → Bool) → List Row → Bool
begins p [] = false
begins p (row ∷ rows) = p row

abbrev pub is_entity : Side → Row → Bool
is_entity side (Entity s name) = same_side side s
is_entity side row = false

abbrev pub is_act : Row → Bool
is_act (Act s a o m) = true
is_act row = false

pub begins_append : (p : Row → Bool) (xs ys : List Row) → begins p xs ≡ false → begins p ys ≡ false → begins p (xs ++ ys) ≡ false
begins_append p [] ys h k = k
begins_append p (x ∷ xs) ys h k = h

pub begins_sessions : (p : Row → Bool) → ((s : SessionRow) → p (Session s) ≡ false) → (f : ℕ → Option SessionRow) (n : ℕ) → begins p (session_rows_to f n) ≡ false
begins_sessions p none f zero = refl
begins_sessions p none f (suc n) = begins_append p (session_rows_to f n) (session_rows (f (suc n))) (begins_sessions p none f n) (by (f (suc n)))
  where
    by : (o : Option SessionRow) → begins p (session_rows o) ≡ false
    by None = refl
    by (Some s) = none s

pub begins_acts : (side : Side) (h : Held) (cs : List (Bytes × Bytes × Bytes)) → begins (is_entity side) (map (act_row h) cs) ≡ false
begins_acts side h [] = refl
begins_acts side h (a ∷ cs) = refl

pub begins_objects : (R : PlainPolicy) (h : Held) (ns : List Bytes) → begins (is_entity sides.Subject) (flat_map (entity_by R h sides.Object) ns) ≡ false
begins_objects R h [] = refl
begins_objects R h (n ∷ ns) = refl

abbrev value_in_row : Row → Value → Value
value_in_row (Variable name v) w = v
value_in_row (Attribute name v) w = v
value_in_row row w = w

abbrev name_in_row : Row → Bytes
name_in_row (Entity side name) = name
name_in_row row = []

abbrev act_in_row : Row → ActRow → ActRow
act_in_row (Act s a o m) b = record { subject = s; action = a; object = o; moment = m }
act_in_row row b = b

abbrev session_in_row : Row → SessionRow → SessionRow
session_in_row (Session s) other = s
session_in_row row other = other

abbrev first_row : List Row → Row
first_row [] = Entity sides.Subject []
first_row (row ∷ rows) = row

abbrev other_rows : List Row → List Row
other_rows [] = []
other_rows (row ∷ rows) = rows

module _ (h k : Held) where
  pub variables_aligned : (ds : List EnvDecl) (r s : List Row) → Each (λ d. is_some (h.variable d.name) ≡ true) ds → Each (λ d. is_some (k.variable d.name) ≡ true) ds
      → flat_map (variable_rows h) ds ++ r ≡ flat_map (variable_rows k) ds ++ s → Each (λ d. h.variable d.name ≡ k.variable d.name) ds × (r ≡ s)
  variables_aligned [] r s one other is = (tt, is)
  variables_aligned (d ∷ ds) r s one other is = by (h.variable d.name) (k.variable d.name) one.0 other.0 is (λ rest. variables_aligned ds r s one.1 other.1 rest)
    where
      by : (o p : Option Value) → is_some o ≡ true → is_some p ≡ true
          → (given (λ v. Variable d.name v) o ++ flat_map (variable_rows h) ds) ++ r ≡ (given (λ v. Variable d.name v) p ++ flat_map (variable_rows k) ds) ++ s
          → (flat_map (variable_rows h) ds ++ r ≡ flat_map (variable_rows k) ds ++ s → Each (λ d. h.variable d.name ≡ k.variable d.name) ds × (r ≡ s))
          → ((o ≡ p) × Each (λ d. h.variable d.name ≡ k.variable d.name) ds) × (r ≡ s)
      by None p a b e rest = absurd (false≢true a)
      by (Some v) None a b e rest = absurd (false≢true b)
      by (Some v) (Some w) a b e rest =
          let later = rest (ap other_rows e) in
          ((ap (λ (rows : List Row). Some (value_in_row (first_row rows) v)) e, later.0), later.1)

  abbrev pub SameAttribute : Side → Bytes → AttrDecl → Type 0
  SameAttribute side e d = same_side side d.side ≡ true → h.attribute side e d.name ≡ k.attribute side e d.name

  abbrev pub HasAttribute : Held → Side → Bytes → AttrDecl → Type 0
  HasAttribute x side e d = same_side side d.side ≡ true → is_some (x.attribute side e d.name) ≡ true

  attributes_aligned : (side : Side) (e : Bytes) (ds : List AttrDecl) (r s : List Row) → Each (HasAttribute h side e) ds → Each (HasAttribute k side e) ds
      → flat_map (attribute_rows h side e) ds ++ r ≡ flat_map (attribute_rows k side e) ds ++ s → Each (SameAttribute side e) ds × (r ≡ s)
  attributes_aligned side e [] r s one other is = (tt, is)
  attributes_aligned side e (d ∷ ds) r s one other is =
      by (same_side side d.side) (h.attribute side e d.name) (k.attribute side e d.name) one.0 other.0 is (λ rest. attributes_aligned side e ds r s one.1 other.1 rest)
    where
      by : (b : Bool) (o p : Option Value) → (b ≡ true → is_some o ≡ true) → (b ≡ true → is_some p ≡ true)
          → (cond b (given (λ v. Attribute d.name v) o) [] ++ flat_map (attribute_rows h side e) ds) ++ r ≡ (cond b (given (λ v. Attribute d.name v) p) [] ++ flat_map (attribute_rows k side e) ds) ++ s
          → (flat_map (attribute_rows h side e) ds ++ r ≡ flat_map (attribute_rows k side e) ds ++ s → Each (SameAttribute side e) ds × (r ≡ s))
          → ((b ≡ true → o ≡ p) × Each (SameAttribute side e) ds) × (r ≡ s)
      by false o p a b q rest = let later = rest q in ((λ x. absurd (false≢true x), later.0), later.1)
      by true None p a b q rest = absurd (false≢true (a refl))
      by true (Some v) None a b q rest = absurd (false≢true (b refl))
      by true (Some v) (Some w) a b q rest =
          let later = rest (ap other_rows q) in
          ((λ x. ap (λ (rows : List Row). Some (value_in_row (first_row rows) v)) q, later.0), later.1)

  pub entities_aligned : (R : PlainPolicy) (side : Side) (ns ms : List Bytes) (r s : List Row) → begins (is_entity side) r ≡ false → begins (is_entity side) s ≡ false
      → Each (λ n. Each (HasAttribute h side n) R.attrs) ns → Each (λ n. Each (HasAttribute k side n) R.attrs) ms
      → flat_map (entity_by R h side) ns ++ r ≡ flat_map (entity_by R k side) ms ++ s → (ns ≡ ms) × (Each (λ n. Each (SameAttribute side n) R.attrs) ns × (r ≡ s))
  entities_aligned R side [] [] r s a b one other is = (refl, (tt, is))
  entities_aligned R side [] (m ∷ ms) r s a b one other is = absurd (false≢true (sym a ∙ ap (begins (is_entity side)) is ∙ itself side))
    where
      itself : (x : Side) → same_side x x ≡ true
      itself sides.Subject = refl
      itself sides.Object = refl
  entities_aligned R side (n ∷ ns) [] r s a b one other is = absurd (false≢true (sym b ∙ ap (begins (is_entity side)) (sym is) ∙ itself side))
    where
      itself : (x : Side) → same_side x x ≡ true
      itself sides.Subject = refl
      itself sides.Object = refl
  entities_aligned R side (n ∷ ns) (m ∷ ms) r s a b one other is =
      let name : n ≡ m = ap (λ (rows : List Row). name_in_row (first_row rows)) is in
      let behind = ap other_rows is in
      let grouped : flat_map (attribute_rows h side n) R.attrs ++ (flat_map (entity_by R h side) ns ++ r) ≡ flat_map (attribute_rows k side n) R.attrs ++ (flat_map (entity_by R k side) ms ++ s) =
      sym (append_assoc (flat_map (attribute_rows h side n) R.attrs) (flat_map (entity_by R h side) ns) r) ∙ behind
      ∙ append_assoc (flat_map (attribute_rows k side m) R.attrs) (flat_map (entity_by R k side) ms) s
      ∙ ap (λ (x : Bytes). flat_map (attribute_rows k side x) R.attrs ++ (flat_map (entity_by R k side) ms ++ s)) (sym name) in
      let here = attributes_aligned side n R.attrs (flat_map (entity_by R h side) ns ++ r) (flat_map (entity_by R k side) ms ++ s) one.0
      (subst (λ (x : Bytes). Each (HasAttribute k side x) R.attrs) (sym name) other.0) grouped in
      let rest = entities_aligned R side ns ms r s a b one.1 other.1 here.1 in
      (λ t. name t ∷ rest.0 t, ((here.0, rest.1.0), rest.1.1))

  abbrev pub SameMoment : Bytes × Bytes × Bytes → Type 0
  SameMoment a = unwrap_or (h.moment a.0 a.1 a.2) (pos 0) ≡ unwrap_or (k.moment a.0 a.1 a.2) (pos 0)

  pub acts_aligned : (cs ds : List (Bytes × Bytes × Bytes)) (r s : List Row) → begins is_act r ≡ false → begins is_act s ≡ false
      → map (act_row h) cs ++ r ≡ map (act_row k) ds ++ s → (cs ≡ ds) × (Each SameMoment cs × (r ≡ s))
  acts_aligned [] [] r s x y is = (refl, (tt, is))
  acts_aligned [] (b ∷ ds) r s x y is = absurd (false≢true (sym x ∙ ap (begins is_act) is))
  acts_aligned (a ∷ cs) [] r s x y is = absurd (false≢true (sym y ∙ ap (begins is_act) (sym is)))
  acts_aligned (a ∷ cs) (b ∷ ds) r s x y is =
      let one : ActRow = record { subject = a.0; action = a.1; object = a.2; moment = unwrap_or (h.moment a.0 a.1 a.2) (pos 0) } in
      let row = ap (λ (rows : List Row). act_in_row (first_row rows) one) is in
      let names : a ≡ b = λ t. ((row t).subject, (row t).action, (row t).object) in
      let rest = acts_aligned cs ds r s x y (ap other_rows is) in
      let moments : SameMoment a = ap (λ (d : ActRow). d.moment) row ∙ ap (λ (c : Bytes × Bytes × Bytes). unwrap_or (k.moment c.0 c.1 c.2) (pos 0)) (sym names) in
      (λ t. names t ∷ rest.0 t, ((moments, rest.1.0), rest.1.1))

-- ---- sessions

no_push : {A : Type 0} (xs : List A) (x : A) → [] ≡ xs ++ x ∷ [] → ⊥
no_push [] x h = absurd (cc h)
no_push (y ∷ xs) x h = absurd (cc h)

abbrev tail_of : {A : Type 0} → List A → List A
tail_of [] = []
tail_of (x ∷ xs) = xs

abbrev head_or : {A : Type 0} → List A → A → A
head_or [] d = d
head_or (x ∷ xs) d = x

push_same : {A : Type 0} (xs ys : List A) (x y : A) → xs ++ x ∷ [] ≡ ys ++ y ∷ [] → (xs ≡ ys) × (x ≡ y)
push_same {A} [] [] x y h = (refl, ap (λ (l : List A). head_or l x) h)
push_same [] (z ∷ ys) x y h = absurd (no_push ys y (ap tail_of h))
push_same (z ∷ xs) [] x y h = absurd (no_push xs x (sym (ap tail_of h)))
push_same {A} (z ∷ xs) (w ∷ ys) x y h =
    let rest = push_same xs ys x y (ap tail_of h) in
    (λ t. ap (λ (l : List A). head_or l z) h t ∷ rest.0 t, rest.1)

-- the sessions 1 to n are the same
abbrev pub SameTo : (f g : ℕ → Option SessionRow) → ℕ → Type 0
SameTo f g zero = ⊤
SameTo f g (suc n) = SameTo f g n × (f (suc n) ≡ g (suc n))

abbrev pub HasTo : (ℕ → Option SessionRow) → ℕ → Type 0
HasTo f zero = ⊤
HasTo f (suc n) = HasTo f n × (is_some (f (suc n)) ≡ true)

same_one : (o p : Option SessionRow) (xs ys : List Row) → is_some o ≡ true → is_some p ≡ true → xs ++ session_rows o ≡ ys ++ session_rows p → (xs ≡ ys) × (o ≡ p)
same_one None p xs ys a b h = absurd (false≢true a)
same_one (Some v) None xs ys a b h = absurd (false≢true b)
same_one (Some v) (Some w) xs ys a b h =
    let both = push_same xs ys (Session v) (Session w) h in
    (both.0, ap (λ (row : Row). Some (session_in_row row v)) both.1)

no_session : (f : ℕ → Option SessionRow) (n : ℕ) → is_some (f (suc n)) ≡ true → [] ≡ session_rows_to f (suc n) → ⊥
no_session f n has h = by (f (suc n)) has h
  where
    by : (o : Option SessionRow) → is_some o ≡ true → [] ≡ session_rows_to f n ++ session_rows o → ⊥
    by None a e = absurd (false≢true a)
    by (Some s) a e = no_push (session_rows_to f n) (Session s) e

pub sessions_aligned : (f g : ℕ → Option SessionRow) (n m : ℕ) → HasTo f n → HasTo g m → session_rows_to f n ≡ session_rows_to g m → (n ≡ m) × SameTo f g n
sessions_aligned f g zero zero a b h = (refl, tt)
sessions_aligned f g zero (suc m) a b h = absurd (no_session g m b.1 h)
sessions_aligned f g (suc n) zero a b h = absurd (no_session f n a.1 (sym h))
sessions_aligned f g (suc n) (suc m) a b h =
    let last = same_one (f (suc n)) (g (suc m)) (session_rows_to f n) (session_rows_to g m) a.1 b.1 h in
    let rest = sessions_aligned f g n m a.0 b.0 last.0 in
    (ap suc rest.0, (rest.1, last.1 ∙ ap (λ (i : ℕ). g (suc i)) (sym rest.0)))

-- ---- traces whose readings are all listed

pub record IsListed (P : PlainPolicy) (T : Trace) : Type 0 where
  pub values : (side : Side) (e attr : Bytes) → has_entity side e T ≡ true → is_some (declared_attr (in_force P T).attrs side attr) ≡ true → is_some (attribute P T side e attr) ≡ true
  pub variables : (name : Bytes) → is_some (declared_env (in_force P T).envs name) ≡ true → is_some (variable P T name) ≡ true
  pub listed : (side : Side) (e : Bytes) → has_entity side e T ≡ true → (i : ℕ) × (slice_get (entity_names side T) i ≡ Some e)
  pub there : (side : Side) (i : ℕ) (e : Bytes) → slice_get (entity_names side T) i ≡ Some e → has_entity side e T ≡ true
  pub moments : (a : Bytes × Bytes × Bytes) → is_some (moment a.0 a.1 a.2 T) ≡ is_some (find (same_names a) (act_rows T))
  pub rows : HasTo (session T) (sessions T)
  pub zeroth : session T 0 ≡ None
  pub beyond : (n : ℕ) → sessions T < n → session T n ≡ None
