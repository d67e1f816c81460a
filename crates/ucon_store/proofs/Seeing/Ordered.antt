-- What is there in order after a trace is all listed, whatever trace it is.
use Rattle.std.proofs.Common.{◌≡◌, ◌∙◌, ℕ, zero, suc, ◌<◌, ◌≤◌, Bool, true, false, cond, List, [], ◌∷◌, ◌++◌, length, Option, Some, None, is_some, refl, sym, ap, subst, arith, eqb-true}
use Rattle.std.specs.Prelude.{◌||◌, nat_eq, pos, slice_get, IsSomeAnd}
use Rattle.std.specs.Str.{bytes_eq}
use Rattle.std.proofs.lemmas.Bool.{false≢true}
use Rattle.std.proofs.lemmas.Bool.Decides.{nat_tests}
use Rattle.std.proofs.lemmas.Slice.Eq.{bytes_eq-Decides}
use Rattle.ucon_base.specs.declared.value.Side.{Side}
use Rattle.ucon_base.specs.declared.value.Side.TheVariants as sides
use Rattle.ucon_model.specs.declared.session.SessionRow.{SessionRow}
use Rattle.ucon_model.specs.declared.session.SessionState.TheVariants.{Requesting, Denied, Accessing, Revoked, Ended}
use Rattle.ucon_model.specs.Action.{Trace, subject, object, tries, permit, deny, ends, revoke}
use Rattle.ucon_model.specs.Plain.{Bytes, PlainPolicy}
use Rattle.ucon_model.specs.Readings.{changed_if, has_entity, entity_names, session, sessions, tick_of, with_new}
use Rattle.ucon_state.specs.Held.{held_after}
use Rattle.ucon_point.specs.Orderly.{IsOrderly, IsSessionInOrder}
use Rattle.ucon_store.proofs.Seeing.Listed.{attr_given, env_given, listed_moment, rows_there}
use Rattle.ucon_store.proofs.Seeing.SameRows.{IsListed, nothing}
use Rattle.ucon_store.proofs.Seeing.Histories.{same_some}

-- ---- entities

abbrev Stands : List Bytes → Bytes → Type 0
Stands names e = (i : ℕ) × (slice_get names i ≡ Some e)

got_last : (names : List Bytes) (name : Bytes) → slice_get (names ++ name ∷ []) (length names) ≡ Some name
got_last [] name = refl
got_last (n ∷ names) name = got_last names name

got_still : (names : List Bytes) (name e : Bytes) (i : ℕ) → slice_get names i ≡ Some e → slice_get (names ++ name ∷ []) i ≡ Some e
got_still [] name e i at = absurd (nothing at)
got_still (n ∷ names) name e zero at = at
got_still (n ∷ names) name e (suc i) at = got_still names name e i at

-- one that is there with a new name is that name, or was there before it
new_stands : (names : List Bytes) (name e : Bytes) (there here rest : Bool) → bytes_eq e name ≡ here → (there ≡ true → Stands names name) → (rest ≡ true → Stands names e)
    → (here || rest) ≡ true → Stands (with_new there names name) e
new_stands names name e true true rest is old other h = subst (Stands names) (sym ((bytes_eq-Decides e name).0 is)) (old refl)
new_stands names name e false true rest is old other h = (length names, got_last names name ∙ ap (λ (n : Bytes). Some n) (sym ((bytes_eq-Decides e name).0 is)))
new_stands names name e true false rest is old other h = other h
new_stands names name e false false rest is old other h = let at = other h in (at.0, got_still names name e at.0 at.1)

or_true : (a b : Bool) → b ≡ true → (a || b) ≡ true
or_true true b h = refl
or_true false b h = h

bytes_same : (x : Bytes) → bytes_eq x x ≡ true
bytes_same x = (bytes_eq-Decides x x).1 refl

-- and each one among the names is there
new_there : (names : List Bytes) (name e : Bytes) (rest : Bool) → ((i : ℕ) → slice_get names i ≡ Some e → rest ≡ true) → (there : Bool) (i : ℕ)
    → slice_get (with_new there names name) i ≡ Some e → (bytes_eq e name || rest) ≡ true
new_there names name e rest old true i at = or_true (bytes_eq e name) rest (old i at)
new_there [] name e rest old false zero at =
    let is : name ≡ e = same_some name e at in
    ap (λ (b : Bool). b || rest) (ap (λ (n : Bytes). bytes_eq n name) (sym is) ∙ bytes_same name)
new_there [] name e rest old false (suc i) at = absurd (nothing at)
new_there (n ∷ names) name e rest old false zero at = or_true (bytes_eq e name) rest (old zero at)
new_there (n ∷ names) name e rest old false (suc i) at = new_there names name e rest (λ j k. old (suc j) k) false i at

subject_stands : (T : Trace) (e : Bytes) → has_entity sides.Subject e T ≡ true → Stands (entity_names sides.Subject T) e
subject_stands [] e h = absurd (false≢true h)
subject_stands (subject name ∷ T) e h =
    new_stands (entity_names sides.Subject T) name e (has_entity sides.Subject name T) (bytes_eq e name) (has_entity sides.Subject e T) refl
    (λ k. subject_stands T name k) (λ k. subject_stands T e k) h
subject_stands (a ∷ T) e h = subject_stands T e h

object_stands : (T : Trace) (e : Bytes) → has_entity sides.Object e T ≡ true → Stands (entity_names sides.Object T) e
object_stands [] e h = absurd (false≢true h)
object_stands (object name ∷ T) e h =
    new_stands (entity_names sides.Object T) name e (has_entity sides.Object name T) (bytes_eq e name) (has_entity sides.Object e T) refl
    (λ k. object_stands T name k) (λ k. object_stands T e k) h
object_stands (a ∷ T) e h = object_stands T e h

stands : (side : Side) (T : Trace) (e : Bytes) → has_entity side e T ≡ true → Stands (entity_names side T) e
stands sides.Subject T e h = subject_stands T e h
stands sides.Object T e h = object_stands T e h

subject_there : (T : Trace) (e : Bytes) (i : ℕ) → slice_get (entity_names sides.Subject T) i ≡ Some e → has_entity sides.Subject e T ≡ true
subject_there [] e i at = absurd (nothing at)
subject_there (subject name ∷ T) e i at =
    new_there (entity_names sides.Subject T) name e (has_entity sides.Subject e T) (λ j k. subject_there T e j k) (has_entity sides.Subject name T) i at
subject_there (a ∷ T) e i at = subject_there T e i at

object_there : (T : Trace) (e : Bytes) (i : ℕ) → slice_get (entity_names sides.Object T) i ≡ Some e → has_entity sides.Object e T ≡ true
object_there [] e i at = absurd (nothing at)
object_there (object name ∷ T) e i at =
    new_there (entity_names sides.Object T) name e (has_entity sides.Object e T) (λ j k. object_there T e j k) (has_entity sides.Object name T) i at
object_there (a ∷ T) e i at = object_there T e i at

there : (side : Side) (T : Trace) (i : ℕ) (e : Bytes) → slice_get (entity_names side T) i ≡ Some e → has_entity side e T ≡ true
there sides.Subject T i e at = subject_there T e i at
there sides.Object T i e at = object_there T e i at

-- ---- numbers that stand in a list

abbrev has : ℕ → List ℕ → Bool
has n [] = false
has n (m ∷ ms) = nat_eq n m || has n ms

-- the others
abbrev but : ℕ → List ℕ → List ℕ
but n [] = []
but n (m ∷ ms) = cond (nat_eq n m) (but n ms) (m ∷ but n ms)

but_most : (n : ℕ) (ms : List ℕ) → length (but n ms) ≤ length ms
but_most n [] = omega arith
but_most n (m ∷ ms) = by (nat_eq n m) (but_most n ms)
  where
    by : (b : Bool) → length (but n ms) ≤ length ms → length (cond b (but n ms) (m ∷ but n ms)) ≤ length (m ∷ ms)
    by true le = omega (arith, le)
    by false le = omega (arith, le)

but_fewer : (n : ℕ) (ms : List ℕ) → has n ms ≡ true → length (but n ms) < length ms
but_fewer n [] h = absurd (false≢true h)
but_fewer n (m ∷ ms) h = by (nat_eq n m) h (but_fewer n ms)
  where
    by : (b : Bool) → (b || has n ms) ≡ true → (has n ms ≡ true → length (but n ms) < length ms) → length (cond b (but n ms) (m ∷ but n ms)) < length (m ∷ ms)
    by true k rest = omega (arith, but_most n ms)
    by false k rest = omega (arith, rest k)

apart : (i n m : ℕ) → nat_eq i n ≡ false → nat_eq n m ≡ true → nat_eq i m ≡ false
apart i n m other is = ap (λ (k : ℕ). nat_eq i k) (sym (eqb-true n m is)) ∙ other

but_has : (n i : ℕ) (ms : List ℕ) → nat_eq i n ≡ false → has i ms ≡ true → has i (but n ms) ≡ true
but_has n i [] other h = absurd (false≢true h)
but_has n i (m ∷ ms) other h = by (nat_eq n m) refl (but_has n i ms other)
  where
    by : (b : Bool) → nat_eq n m ≡ b → (has i ms ≡ true → has i (but n ms) ≡ true) → has i (cond b (but n ms) (m ∷ but n ms)) ≡ true
    by true is rest = rest (ap (λ (c : Bool). c || has i ms) (sym (apart i n m other is)) ∙ h)
    by false is rest = still (nat_eq i m) h
      where
        still : (c : Bool) → (c || has i ms) ≡ true → (c || has i (but n ms)) ≡ true
        still true k = refl
        still false k = rest k

differ : (i n : ℕ) → i < n → nat_eq i n ≡ false
differ i n lt = grind (arith, nat_tests)

differ_too : (i n : ℕ) → n < i → nat_eq i n ≡ false
differ_too i n lt = grind (arith, nat_tests)

-- where 1 to k stand there are k at least
as_many : (k : ℕ) (ms : List ℕ) → ((i : ℕ) → i < k → has (suc i) ms ≡ true) → k ≤ length ms
as_many zero ms all = omega arith
as_many (suc k) ms all =
    let rest = as_many k (but (suc k) ms) (λ i lt. but_has (suc k) (suc i) ms (differ (suc i) (suc k) (omega (arith, lt))) (all i (omega (arith, lt)))) in
    omega (arith, rest, but_fewer (suc k) ms (all k (omega arith)))

-- and where another one stands too there are more
one_more : (k n : ℕ) (ms : List ℕ) → ((i : ℕ) → i < k → has (suc i) ms ≡ true) → ((i : ℕ) → i < k → nat_eq (suc i) n ≡ false) → has n ms ≡ true → k < length ms
one_more k n ms all other h =
    let rest = as_many k (but n ms) (λ i lt. but_has n (suc i) ms (other i lt) (all i lt)) in
    omega (arith, rest, but_fewer n ms h)

-- ---- sessions

-- the numbers that were tried
abbrev tried : Trace → List ℕ
tried [] = []
tried (tries n c s r o ∷ T) = n ∷ tried T
tried (a ∷ T) = tried T

tried_count : (T : Trace) → length (tried T) ≡ sessions T
tried_count [] = refl
tried_count (tries n c s r o ∷ T) = omega (arith, tried_count T)
tried_count (a ∷ T) = tried_count T

was_there : (b : Bool) (f : SessionRow → SessionRow) (o : Option SessionRow) → is_some (changed_if b f o) ≡ true → is_some o ≡ true
was_there true f None h = h
was_there true f (Some row) h = refl
was_there false f o h = h

was_tried : (T : Trace) (n : ℕ) → is_some (session T n) ≡ true → has n (tried T) ≡ true
was_tried [] n h = absurd (false≢true h)
was_tried (tries m c s r o ∷ T) n h = by (record { caller = c; right = r; subject = s; object = o; state = Requesting; start = pos 0 }) (nat_eq n m) h (was_tried T n)
  where
    by : (row : SessionRow) (b : Bool) → is_some (cond b (Some row) (session T n)) ≡ true → (is_some (session T n) ≡ true → has n (tried T) ≡ true) → (b || has n (tried T)) ≡ true
    by row true k rest = refl
    by row false k rest = rest k
was_tried (permit m ∷ T) n h = was_tried T n (was_there (nat_eq n m) (λ row. record row { state = Accessing; start = tick_of T }) (session T n) h)
was_tried (deny m l ∷ T) n h = was_tried T n (was_there (nat_eq n m) (λ row. record row { state = Denied }) (session T n) h)
was_tried (ends m ∷ T) n h = was_tried T n (was_there (nat_eq n m) (λ row. record row { state = Ended }) (session T n) h)
was_tried (revoke m l ∷ T) n h = was_tried T n (was_there (nat_eq n m) (λ row. record row { state = Revoked }) (session T n) h)
was_tried (a ∷ T) n h = was_tried T n h

some_and : {A : Type 0} (o : Option A) (Q : A → Type 0) → IsSomeAnd o Q → is_some o ≡ true
some_and None Q h = absurd h
some_and (Some x) Q h = refl

none_unless : {A : Type 0} (o : Option A) → (is_some o ≡ true → ⊥) → o ≡ None
none_unless None h = refl
none_unless (Some x) h = absurd (h refl)

module _ (T : Trace) (rows : (i : ℕ) → i < sessions T → is_some (session T (suc i)) ≡ true) where
  none_else : (n : ℕ) → ((i : ℕ) → i < sessions T → nat_eq (suc i) n ≡ false) → session T n ≡ None
  none_else n other = none_unless (session T n) (λ h.
      let more = one_more (sessions T) n (tried T) (λ i lt. was_tried T (suc i) (rows i lt)) other (was_tried T n h) in
      omega (arith, more, tried_count T))

-- ---- all of it

pub listed_in_order : (P : PlainPolicy) (T : Trace) → IsOrderly (held_after P T) → IsListed P T
listed_in_order P T o =
    let rows : (i : ℕ) → i < sessions T → is_some (session T (suc i)) ≡ true = λ i lt. some_and (session T (suc i)) (IsSessionInOrder (held_after P T) i) (o.sessions i lt) in
    record {
      values = λ side e attr there declared. rw (there, declared) (attr_given P T side e attr there declared);
      variables = λ name declared. rw declared (env_given P T name declared);
      listed = λ side e h. stands side T e h;
      there = λ side i e at. there side T i e at;
      moments = λ x. listed_moment T x;
      rows = rows_there (session T) (sessions T) (sessions T) (omega arith) rows;
      zeroth = none_else T rows 0 (λ i lt. differ_too (suc i) 0 (omega arith));
      beyond = λ n lt. none_else T rows n (λ i below. differ (suc i) n (omega (arith, lt, below)));
    }
