-- What a state follows is all listed.
use Rattle.std.proofs.Common.{◌≡◌, ◌∙◌, ℕ, zero, suc, ◌<◌, ◌≤◌, Bool, true, false, cond, List, [], ◌∷◌, ◌++◌, length, Option, Some, None, is_some, refl, sym, ap, arith}
use Rattle.std.specs.Prelude.{ℤ, ◌&&◌, ◌||◌, find, is_none, slice_get, option_map}
use Rattle.std.specs.Str.{bytes_eq}
use Rattle.std.proofs.lemmas.Bool.{and_parts, false≢true}
use Rattle.std.proofs.lemmas.Option.{slice_get-get_or}
use Rattle.std.proofs.lemmas.Slice.Eq.{bytes_eq-Decides}
use Rattle.ucon_base.specs.declared.value.Side.{Side}
use Rattle.ucon_base.specs.declared.value.Side.TheVariants.{Subject, Object}
use Rattle.ucon_base.specs.declared.value.Value.{Value}
use Rattle.ucon_model.specs.declared.policy.AttrDecl.{AttrDecl}
use Rattle.ucon_model.specs.declared.session.SessionRow.{SessionRow}
use Rattle.ucon_model.specs.Action.{Trace, subject, object, write, env, act, amend}
use Rattle.ucon_model.specs.Plain.{Bytes, PlainPolicy}
use Rattle.ucon_model.specs.Readings.{in_force, tick_of, has_entity, entity_names, same_side, declared_attr, declared_env, given_attr, given_env, moment, act_rows, session, sessions}
use Rattle.ucon_state.specs.Following.{Follows, Keeps}
use Rattle.ucon_state.specs.Shown.{Shown}
use Rattle.ucon_state.specs.Tables.{entity_number}
use Rattle.ucon_point.specs.Orderly.{same_names}
use Rattle.ucon_store.proofs.Seeing.SameRows.{HasTo, IsListed}

-- ---- values

default_there : {D : Type 0} (value : D → Value) (o : Option D) → is_some o ≡ true → is_some (option_map value o) ≡ true
default_there value None h = absurd (false≢true h)
default_there value (Some d) h = refl

by_making : (here there : Bool) (o : Option AttrDecl) (given : Option Value) → (here || there) ≡ true → is_some o ≡ true → (there ≡ true → is_some given ≡ true)
    → is_some (cond here (option_map (λ d. d.start) o) given) ≡ true
by_making true there o given made declared old = default_there (λ d. d.start) o declared
by_making false there o given made declared old = old made

by_write : (that : Bool) (v : Value) (given : Option Value) → is_some given ≡ true → is_some (cond that (Some v) given) ≡ true
by_write true v given old = refl
by_write false v given old = old

by_amendment : {D : Type 0} (before : Option D) (value : D → Value) (o : Option D) (given : Option Value) → is_some o ≡ true
    → (is_some before ≡ true → is_some given ≡ true) → is_some (cond (is_some before) given (option_map value o)) ≡ true
by_amendment None value o given declared old = default_there value o declared
by_amendment (Some d) value o given declared old = old refl

pub attr_given : (P : PlainPolicy) (T : Trace) (side : Side) (e attr : Bytes) → has_entity side e T ≡ true
    → is_some (declared_attr (in_force P T).attrs side attr) ≡ true → is_some (given_attr P side e attr T) ≡ true
attr_given P [] Subject e attr there declared = absurd (false≢true there)
attr_given P [] Object e attr there declared = absurd (false≢true there)
attr_given P (subject name ∷ T) Subject e attr there declared =
    by_making (bytes_eq e name) (has_entity Subject e T) (declared_attr (in_force P T).attrs Subject attr) (given_attr P Subject e attr T) there declared
    (λ old. attr_given P T Subject e attr old declared)
attr_given P (object name ∷ T) Object e attr there declared =
    by_making (bytes_eq e name) (has_entity Object e T) (declared_attr (in_force P T).attrs Object attr) (given_attr P Object e attr T) there declared
    (λ old. attr_given P T Object e attr old declared)
attr_given P (write s n a v ∷ T) Subject e attr there declared =
    by_write (same_side Subject s && bytes_eq e n && bytes_eq attr a) v (given_attr P Subject e attr T) (attr_given P T Subject e attr there declared)
attr_given P (write s n a v ∷ T) Object e attr there declared =
    by_write (same_side Object s && bytes_eq e n && bytes_eq attr a) v (given_attr P Object e attr T) (attr_given P T Object e attr there declared)
attr_given P (amend text Q ∷ T) Subject e attr there declared =
    by_amendment (declared_attr (in_force P T).attrs Subject attr) (λ d. d.start) (declared_attr Q.attrs Subject attr) (given_attr P Subject e attr T) declared
    (λ before. attr_given P T Subject e attr there before)
attr_given P (amend text Q ∷ T) Object e attr there declared =
    by_amendment (declared_attr (in_force P T).attrs Object attr) (λ d. d.start) (declared_attr Q.attrs Object attr) (given_attr P Object e attr T) declared
    (λ before. attr_given P T Object e attr there before)
attr_given P (a ∷ T) Subject e attr there declared = attr_given P T Subject e attr there declared
attr_given P (a ∷ T) Object e attr there declared = attr_given P T Object e attr there declared

pub env_given : (P : PlainPolicy) (T : Trace) (name : Bytes) → is_some (declared_env (in_force P T).envs name) ≡ true → is_some (given_env P name T) ≡ true
env_given P [] name declared = default_there (λ d. d.start) (declared_env P.envs name) declared
env_given P (env n v ∷ T) name declared = by_write (bytes_eq name n) v (given_env P name T) (env_given P T name declared)
env_given P (amend text Q ∷ T) name declared =
    by_amendment (declared_env (in_force P T).envs name) (λ d. d.start) (declared_env Q.envs name) (given_env P name T) declared (λ before. env_given P T name before)
env_given P (a ∷ T) name declared = env_given P T name declared

-- ---- moments

abbrev Names : Type 0
Names = Bytes × Bytes × Bytes

pushed_there : (test : Names → Bool) (xs : List Names) (x : Names) → is_some (find test (xs ++ x ∷ [])) ≡ (is_some (find test xs) || test x)
pushed_there test [] x = by (test x)
  where
    by : (b : Bool) → is_some (cond b (Some x) None) ≡ b
    by true = refl
    by false = refl
pushed_there test (y ∷ xs) x = by (test y) (pushed_there test xs x)
  where
    by : (b : Bool) → is_some (find test (xs ++ x ∷ [])) ≡ (is_some (find test xs) || test x)
        → is_some (cond b (Some y) (find test (xs ++ x ∷ []))) ≡ (is_some (cond b (Some y) (find test xs)) || test x)
    by true rest = refl
    by false rest = rest

or_same : (a b : Bool) → b ≡ true → (a || b) ≡ true
or_same true b h = refl
or_same false b h = h

or_none : (a b : Bool) → b ≡ false → (a || b) ≡ a
or_none true b h = refl
or_none false b h = h

there_if : (m : Option ℤ) → is_none m ≡ false → is_some m ≡ true
there_if None h = absurd (false≢true (sym h))
there_if (Some z) h = refl

abbrev Listed : Trace → Names → Type 0
Listed T x = is_some (moment x.0 x.1 x.2 T) ≡ is_some (find (same_names x) (act_rows T))

new_act : (T : Trace) (x y : Names) (b : Bool) → same_names x y ≡ b → Listed T x
    → is_some (cond b (Some (tick_of T)) (moment x.0 x.1 x.2 T)) ≡ is_some (find (same_names x) (act_rows T ++ y ∷ []))
new_act T x y true is here = sym (pushed_there (same_names x) (act_rows T) y ∙ or_same (is_some (find (same_names x) (act_rows T))) (same_names x y) is)
new_act T x y false is here = here ∙ sym (pushed_there (same_names x) (act_rows T) y ∙ or_none (is_some (find (same_names x) (act_rows T))) (same_names x y) is)

old_act : (T : Trace) (x y : Names) (b : Bool) → same_names x y ≡ b → is_none (moment y.0 y.1 y.2 T) ≡ false → Listed T x → Listed T y
    → is_some (cond b (Some (tick_of T)) (moment x.0 x.1 x.2 T)) ≡ is_some (find (same_names x) (act_rows T))
old_act T x y false is old here there = here
old_act T x y true is old here there =
    let parts = and_parts (bytes_eq x.0 y.0 && bytes_eq x.1 y.1) (bytes_eq x.2 y.2) is in
    let front = and_parts (bytes_eq x.0 y.0) (bytes_eq x.1 y.1) parts.0 in
    let same : x ≡ y = λ t. ((bytes_eq-Decides x.0 y.0).0 front.0 t, (bytes_eq-Decides x.1 y.1).0 front.1 t, (bytes_eq-Decides x.2 y.2).0 parts.1 t) in
    sym (there_if (moment y.0 y.1 y.2 T) old) ∙ there ∙ ap (λ (z : Names). is_some (find (same_names z) (act_rows T))) (sym same)

-- an act is listed where it was done
pub listed_moment : (T : Trace) (x : Names) → Listed T x
listed_moment [] x = refl
listed_moment (act s a o ∷ T) x = by (is_none (moment s a o T)) refl (listed_moment T x) (listed_moment T (s, a, o))
  where
    by : (new : Bool) → is_none (moment s a o T) ≡ new → Listed T x → Listed T (s, a, o)
        → is_some (cond (same_names x (s, a, o)) (Some (tick_of T)) (moment x.0 x.1 x.2 T)) ≡ is_some (find (same_names x) (cond new (act_rows T ++ (s, a, o) ∷ []) (act_rows T)))
    by true is here there = new_act T x (s, a, o) (same_names x (s, a, o)) refl here
    by false is here there = old_act T x (s, a, o) (same_names x (s, a, o)) refl is here there
listed_moment (b ∷ T) x = listed_moment T x

-- ---- sessions

got : {A : Type 0} (xs : List A) (i : ℕ) → i < length xs → is_some (slice_get xs i) ≡ true
got [] i lt = absurd (omega (arith, lt))
got (x ∷ xs) i lt = ap is_some (slice_get-get_or (x ∷ xs) i x lt)

pub rows_there : (f : ℕ → Option SessionRow) (n m : ℕ) → n ≤ m → ((i : ℕ) → i < m → is_some (f (suc i)) ≡ true) → HasTo f n
rows_there f zero m le there = tt
rows_there f (suc n) m le there = (rows_there f n m (omega (arith, le)) there, there n (omega (arith, le)))

-- ---- all of it

numbered : (side : Side) (e : Bytes) (names : List Bytes) (o number : Option ℕ) → number ≡ o → is_some number ≡ true
    → ((i : ℕ) → number ≡ Some i → slice_get names i ≡ Some e) → (i : ℕ) × (slice_get names i ≡ Some e)
numbered side e names None number is there at = absurd (false≢true (sym (ap is_some is) ∙ there))
numbered side e names (Some i) number is there at = (i, at i is)

module _ (keeps : (s : Shown) (P : PlainPolicy) (T : Trace) → Follows s P T → Keeps s.policy s.tables P T) where
  pub listed_all : (s : Shown) (P : PlainPolicy) (T : Trace) → Follows s P T → IsListed P T
  listed_all s P T f =
      let k = keeps s P T f in
      record {
        values = λ side e attr there declared. rw (there, declared) (attr_given P T side e attr there declared);
        variables = λ name declared. rw declared (env_given P T name declared);
        listed = λ side e there.
            numbered side e (entity_names side T) (entity_number s.tables side e) (entity_number s.tables side e) refl (k.entity_is_there side e ∙ there) (λ i. (k.number_is_position side e i).0);
        there = λ side i e at. sym (k.entity_is_there side e) ∙ ap is_some ((k.number_is_position side e i).1 at);
        moments = λ x. listed_moment T x;
        rows = rows_there (session T) (sessions T) (sessions T) (omega arith)
            (λ i lt. ap is_some (sym (f.tables.sessions.rows (suc i))) ∙ got s.tables.sessions i (omega (arith, lt, f.tables.sessions.count)));
        zeroth = f.sound.numbered.zeroth;
        beyond = f.sound.numbered.beyond;
      }
