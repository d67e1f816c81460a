-- What is there after a legal trace is in order.
use Rattle.std.proofs.Common.{◌≡◌, ◌∙◌, ℕ, zero, suc, ◌+◌, ◌-◌, ◌≤◌, ◌<◌, ◌≤ℤ◌, ℤ, pos, negsuc, Bool, true, false, cond, List, [], ◌∷◌, ◌++◌, length, take, Some, None, is_some, refl, sym, ap, ap₂, subst, inl, inr, arith}
use Rattle.std.specs.Prelude.{Option, ◌⊎◌, ◌&&◌, ◌||◌, slice_get, find, position, nat_lt, nat_eq, is_none, count_by, option_map, IsSome, IsSomeAnd, IsTrue, unwrap_or}
use Rattle.std.specs.List.{position_or_len}
use Rattle.std.specs.Str.{bytes_eq}
use Rattle.std.proofs.lemmas.Bool.{and_parts, false≢true, eqb-true}
use Rattle.std.proofs.lemmas.Int.{ints}
use Rattle.std.proofs.lemmas.List.{length-map}
use Rattle.std.proofs.lemmas.List.Sums.{sum_by-append}
use Rattle.std.proofs.lemmas.Slice.Eq.{bytes_eq-Decides}
use Rattle.ucon_base.specs.Elements.{Each}
use Rattle.ucon_base.specs.declared.value.Side.{Side}
use Rattle.ucon_base.specs.declared.value.Side.TheVariants as sides
use Rattle.ucon_base.specs.declared.value.Value.{Value}
use Rattle.ucon_base.specs.Admits.{admits}
use Rattle.ucon_model.specs.declared.policy.AttrDecl.{AttrDecl}
use Rattle.ucon_model.specs.declared.policy.EnvDecl.{EnvDecl}
use Rattle.ucon_model.specs.declared.session.SessionRow.{SessionRow}
use Rattle.ucon_model.specs.declared.session.SessionState.{SessionState}
use Rattle.ucon_model.specs.declared.session.SessionState.TheVariants.{Requesting, Denied, Accessing, Revoked, Ended}
use Rattle.ucon_model.specs.Action.{Trace, subject, object, write, env, tick, act, tries, wait, permit, deny, ends, revoke, amend}
use Rattle.ucon_model.specs.Plain.{Bytes, PlainPolicy}
use Rattle.ucon_model.specs.Readings.{in_force, tick_of, has_entity, entities, entity_names, same_side, declared_attr, declared_env, attrs_of, attr_default, env_default, given_attr, given_env, attribute, variable, moment, act_rows, acts, changed_if, session, sessions, is_accessing, is_accessing_state, accessing_up_to, accessing}
use Rattle.ucon_model.specs.Sound.{IsGrounded, IsSound}
use Rattle.ucon_model.specs.Typing.{IsTyped}
use Rattle.ucon_state.specs.declared.counts.Counts.{Counts}
use Rattle.ucon_state.specs.Applied.{opening_tables, tables_of}
use Rattle.ucon_state.specs.Following.{Follows, IsLegalTrace, Keeps, row_of}
use Rattle.ucon_state.specs.Held.{held_after}
use Rattle.ucon_state.specs.Putting.{StartsAtZero}
use Rattle.ucon_state.specs.Shown.{Shown, changed_by}
use Rattle.ucon_state.specs.Tables.{Tables, accessing_among}
use Rattle.ucon_point.specs.Orderly.{HasRoomBehind, IsActInOrder, IsBy, IsOrderly, IsSessionInOrder, one_session, same_names, sessions_to}
use Rattle.ucon_point.specs.PointRead.{is_whole}
use Rattle.ucon_point.proofs.Declared.{attr_once, env_declared}
use Rattle.ucon_point.proofs.Made.{StateLaws, seen}
use Rattle.ucon_point.proofs.PointsRead.{bytes_same, some_and}
use Rattle.ucon_point.proofs.Results.{mapped_is, nothing, same}

-- ---- options and lists

some_if : {A : Type 0} (b : Bool) (x : A) (o : Option A) → is_some o ≡ true → is_some (cond b (Some x) o) ≡ true
some_if true x o h = refl
some_if false x o h = h

mapped_some : {A B : Type 0} (f : A → B) (o : Option A) → is_some o ≡ true → is_some (option_map f o) ≡ true
mapped_some f None h = absurd (false≢true h)
mapped_some f (Some x) h = refl

pub the_one : {A : Type 0} (o : Option A) → is_some o ≡ true → (x : A) × (o ≡ Some x)
the_one None h = absurd (false≢true h)
the_one (Some x) h = (x, refl)

or_true : (a b : Bool) → b ≡ true → (a || b) ≡ true
or_true true b h = refl
or_true false b h = h

pub get_there : {X : Type 0} (xs : List X) (i : ℕ) → i < length xs → is_some (slice_get xs i) ≡ true
get_there [] i lt = absurd (omega (arith, lt))
get_there (x ∷ xs) zero lt = refl
get_there (x ∷ xs) (suc i) lt = get_there xs i (omega (arith, lt))

pub each_get : {X : Type 0} (P : X → Type 0) (xs : List X) (k : ℕ) (x : X) → Each P xs → slice_get xs k ≡ Some x → P x
each_get P [] k x h at = absurd (nothing at)
each_get P (y ∷ xs) zero x h at = subst P (same y x at) h.0
each_get P (y ∷ xs) (suc k) x h at = each_get P xs k x h.1 at

pub each_so : {X : Type 0} (P R : X → Type 0) (xs : List X) → ((x : X) → P x → R x) → Each P xs → Each R xs
each_so P R [] f h = tt
each_so P R (x ∷ xs) f h = (f x h.0, each_so P R xs f h.1)

pub each_more : {X : Type 0} (P : X → Type 0) (xs : List X) (x : X) → Each P xs → P x → Each P (xs ++ x ∷ [])
each_more P [] x h p = (p, tt)
each_more P (y ∷ xs) x h p = (h.0, each_more P xs x h.1 p)

find_more : {X : Type 0} (p : X → Bool) (xs : List X) (x : X) → find p xs ≡ None → p x ≡ false → find p (xs ++ x ∷ []) ≡ None
find_more p [] x none h = rw h refl
find_more {X} p (y ∷ xs) x none h = by (λ k. find_more p xs x k h) (p y) none
  where
    by : (find p xs ≡ None → find p (xs ++ x ∷ []) ≡ None) → (b : Bool) → cond {A = Option X} b (Some y) (find p xs) ≡ None → cond {A = Option X} b (Some y) (find p (xs ++ x ∷ [])) ≡ None
    by rest true k = absurd (nothing (sym k))
    by rest false k = rest k

-- before the first that passes none does
none_before : {X : Type 0} (p : X → Bool) (xs : List X) → find p (take (position_or_len p xs) xs) ≡ None
none_before p [] = refl
none_before {X} p (x ∷ xs) = by (none_before p xs) (p x) refl
  where
    by : find p (take (position_or_len p xs) xs) ≡ None → (b : Bool) → p x ≡ b → find p (take (position_or_len p (x ∷ xs)) (x ∷ xs)) ≡ None
    by rest true is = let first : position_or_len p (x ∷ xs) ≡ 0 = rw is refl in ap (λ (n : ℕ). find p (take n (x ∷ xs))) first
    by rest false is =
        let next : position_or_len p (x ∷ xs) ≡ suc (position_or_len p xs) = rw is (omega arith) in
        ap (λ (n : ℕ). find p (take n (x ∷ xs))) next ∙ rw is rest

placed_at : (b : Bool) (n k : ℕ) → cond b (Some n) None ≡ Some k → n ≡ k
placed_at true n k h = same n k h
placed_at false n k h = absurd (nothing h)

none_before_place : {X : Type 0} (p : X → Bool) (xs : List X) (k : ℕ) → position p xs ≡ Some k → find p (take k xs) ≡ None
none_before_place p xs k h =
    ap (λ (n : ℕ). find p (take n xs)) (sym (placed_at (nat_lt (position_or_len p xs) (length xs)) (position_or_len p xs) k h)) ∙ none_before p xs

-- each stands once, and one more
pub take_before : {X : Type 0} (xs ys : List X) (k : ℕ) → k ≤ length xs → take k (xs ++ ys) ≡ take k xs
take_before [] [] zero le = refl
take_before [] (y ∷ ys) zero le = refl
take_before [] ys (suc k) le = absurd (omega (arith, le))
take_before (x ∷ xs) ys zero le = refl
take_before {X} (x ∷ xs) ys (suc k) le = ap (λ (l : List X). x ∷ l) (take_before xs ys k (omega (arith, le)))

pub take_whole : {X : Type 0} (xs ys : List X) → take (length xs) (xs ++ ys) ≡ xs
take_whole [] [] = refl
take_whole [] (y ∷ ys) = refl
take_whole {X} (x ∷ xs) ys = ap (λ (l : List X). x ∷ l) (take_whole xs ys)

pub record IsLastOf {X : Type 0} (xs : List X) (x : X) (k : ℕ) (y : X) : Type 0 where
  pub place : k ≡ length xs
  pub is : x ≡ y

pub record IsBefore {X : Type 0} (xs : List X) (k : ℕ) (y : X) : Type 0 where
  pub within : k < length xs
  pub at : slice_get xs k ≡ Some y

pub get_more : {X : Type 0} (xs : List X) (x : X) (k : ℕ) (y : X) → slice_get (xs ++ x ∷ []) k ≡ Some y → IsBefore xs k y ⊎ IsLastOf xs x k y
get_more [] x zero y at = inr (record { place = refl; is = same x y at })
get_more [] x (suc k) y at = absurd (nothing at)
get_more (z ∷ xs) x zero y at = inl (record { within = omega (arith); at = at })
get_more {X} (z ∷ xs) x (suc k) y at = by (get_more xs x k y at)
  where
    by : IsBefore xs k y ⊎ IsLastOf xs x k y → IsBefore (z ∷ xs) (suc k) y ⊎ IsLastOf (z ∷ xs) x (suc k) y
    by (inl b) = inl (record { within = omega (arith, b.within); at = b.at })
    by (inr l) = inr (record { place = ap suc l.place; is = l.is })

abbrev pub StandOnce : List (Bytes × Bytes × Bytes) → Type 0
StandOnce rows = (k : ℕ) (a : Bytes × Bytes × Bytes) → slice_get rows k ≡ Some a → find (same_names a) (take k rows) ≡ None

once_more : (xs : List (Bytes × Bytes × Bytes)) (x : Bytes × Bytes × Bytes) → StandOnce xs → find (same_names x) xs ≡ None → StandOnce (xs ++ x ∷ [])
once_more xs x once new k a at = by (get_more xs x k a at)
  where
    by : IsBefore xs k a ⊎ IsLastOf xs x k a → find (same_names a) (take k (xs ++ x ∷ [])) ≡ None
    by (inl b) = let le : k ≤ length xs = omega (arith, b.within) in ap (find (same_names a)) (take_before xs (x ∷ []) k le) ∙ once k a b.at
    by (inr l) =
        ap (λ (n : ℕ). find (same_names a) (take n (xs ++ x ∷ []))) l.place ∙ ap (find (same_names a)) (take_whole xs (x ∷ []))
        ∙ ap (λ (y : Bytes × Bytes × Bytes). find (same_names y) xs) (sym l.is) ∙ new

-- ---- values are there

env_given : (P : PlainPolicy) (name : Bytes) (T : Trace) → is_some (declared_env (in_force P T).envs name) ≡ true → is_some (given_env P name T) ≡ true
env_given P name [] h = mapped_some (λ (d : EnvDecl). d.start) (declared_env P.envs name) h
env_given P name (subject e1 ∷ T) h = env_given P name T h
env_given P name (object e1 ∷ T) h = env_given P name T h
env_given P name (write d1 n1 a1 v1 ∷ T) h = env_given P name T h
env_given P name (env n1 v1 ∷ T) h = some_if (bytes_eq name n1) v1 (given_env P name T) (env_given P name T h)
env_given P name (tick t1 ∷ T) h = env_given P name T h
env_given P name (act s1 a1 o1 ∷ T) h = env_given P name T h
env_given P name (tries k1 c1 s1 r1 o1 ∷ T) h = env_given P name T h
env_given P name (wait k1 w1 ∷ T) h = env_given P name T h
env_given P name (permit k1 ∷ T) h = env_given P name T h
env_given P name (deny k1 w1 ∷ T) h = env_given P name T h
env_given P name (ends k1 ∷ T) h = env_given P name T h
env_given P name (revoke k1 w1 ∷ T) h = env_given P name T h
env_given P name (amend x1 R ∷ T) h = by (λ k. env_given P name T k) (is_some (declared_env (in_force P T).envs name)) refl
  where
    by : (is_some (declared_env (in_force P T).envs name) ≡ true → is_some (given_env P name T) ≡ true) → (b : Bool) → is_some (declared_env (in_force P T).envs name) ≡ b
        → is_some (cond {A = Option Value} b (given_env P name T) (env_default R name)) ≡ true
    by rest true is = rest is
    by rest false is = mapped_some (λ (d : EnvDecl). d.start) (declared_env R.envs name) h

subject_given : (P : PlainPolicy) (e x : Bytes) (T : Trace) → has_entity sides.Subject e T ≡ true → is_some (declared_attr (in_force P T).attrs sides.Subject x) ≡ true → is_some (given_attr P sides.Subject e x T) ≡ true
subject_given P e x [] there h = absurd (false≢true there)
subject_given P e x (subject e1 ∷ T) there h = by (λ k. subject_given P e x T k h) (bytes_eq e e1) there
  where
    by : (has_entity sides.Subject e T ≡ true → is_some (given_attr P sides.Subject e x T) ≡ true) → (b : Bool) → (b || has_entity sides.Subject e T) ≡ true
        → is_some (cond {A = Option Value} b (attr_default (in_force P T) sides.Subject x) (given_attr P sides.Subject e x T)) ≡ true
    by rest true k = mapped_some (λ (d : AttrDecl). d.start) (declared_attr (in_force P T).attrs sides.Subject x) h
    by rest false k = rest k
subject_given P e x (object e1 ∷ T) there h = subject_given P e x T there h
subject_given P e x (write d1 n1 a1 v1 ∷ T) there h = some_if (same_side sides.Subject d1 && bytes_eq e n1 && bytes_eq x a1) v1 (given_attr P sides.Subject e x T) (subject_given P e x T there h)
subject_given P e x (env n1 v1 ∷ T) there h = subject_given P e x T there h
subject_given P e x (tick t1 ∷ T) there h = subject_given P e x T there h
subject_given P e x (act s1 a1 o1 ∷ T) there h = subject_given P e x T there h
subject_given P e x (tries k1 c1 s1 r1 o1 ∷ T) there h = subject_given P e x T there h
subject_given P e x (wait k1 w1 ∷ T) there h = subject_given P e x T there h
subject_given P e x (permit k1 ∷ T) there h = subject_given P e x T there h
subject_given P e x (deny k1 w1 ∷ T) there h = subject_given P e x T there h
subject_given P e x (ends k1 ∷ T) there h = subject_given P e x T there h
subject_given P e x (revoke k1 w1 ∷ T) there h = subject_given P e x T there h
subject_given P e x (amend x1 R ∷ T) there h = by (λ k. subject_given P e x T there k) (is_some (declared_attr (in_force P T).attrs sides.Subject x)) refl
  where
    by : (is_some (declared_attr (in_force P T).attrs sides.Subject x) ≡ true → is_some (given_attr P sides.Subject e x T) ≡ true) → (b : Bool) → is_some (declared_attr (in_force P T).attrs sides.Subject x) ≡ b
        → is_some (cond {A = Option Value} b (given_attr P sides.Subject e x T) (attr_default R sides.Subject x)) ≡ true
    by rest true is = rest is
    by rest false is = mapped_some (λ (d : AttrDecl). d.start) (declared_attr R.attrs sides.Subject x) h

object_given : (P : PlainPolicy) (e x : Bytes) (T : Trace) → has_entity sides.Object e T ≡ true → is_some (declared_attr (in_force P T).attrs sides.Object x) ≡ true → is_some (given_attr P sides.Object e x T) ≡ true
object_given P e x [] there h = absurd (false≢true there)
object_given P e x (subject e1 ∷ T) there h = object_given P e x T there h
object_given P e x (object e1 ∷ T) there h = by (λ k. object_given P e x T k h) (bytes_eq e e1) there
  where
    by : (has_entity sides.Object e T ≡ true → is_some (given_attr P sides.Object e x T) ≡ true) → (b : Bool) → (b || has_entity sides.Object e T) ≡ true
        → is_some (cond {A = Option Value} b (attr_default (in_force P T) sides.Object x) (given_attr P sides.Object e x T)) ≡ true
    by rest true k = mapped_some (λ (d : AttrDecl). d.start) (declared_attr (in_force P T).attrs sides.Object x) h
    by rest false k = rest k
object_given P e x (write d1 n1 a1 v1 ∷ T) there h = some_if (same_side sides.Object d1 && bytes_eq e n1 && bytes_eq x a1) v1 (given_attr P sides.Object e x T) (object_given P e x T there h)
object_given P e x (env n1 v1 ∷ T) there h = object_given P e x T there h
object_given P e x (tick t1 ∷ T) there h = object_given P e x T there h
object_given P e x (act s1 a1 o1 ∷ T) there h = object_given P e x T there h
object_given P e x (tries k1 c1 s1 r1 o1 ∷ T) there h = object_given P e x T there h
object_given P e x (wait k1 w1 ∷ T) there h = object_given P e x T there h
object_given P e x (permit k1 ∷ T) there h = object_given P e x T there h
object_given P e x (deny k1 w1 ∷ T) there h = object_given P e x T there h
object_given P e x (ends k1 ∷ T) there h = object_given P e x T there h
object_given P e x (revoke k1 w1 ∷ T) there h = object_given P e x T there h
object_given P e x (amend x1 R ∷ T) there h = by (λ k. object_given P e x T there k) (is_some (declared_attr (in_force P T).attrs sides.Object x)) refl
  where
    by : (is_some (declared_attr (in_force P T).attrs sides.Object x) ≡ true → is_some (given_attr P sides.Object e x T) ≡ true) → (b : Bool) → is_some (declared_attr (in_force P T).attrs sides.Object x) ≡ b
        → is_some (cond {A = Option Value} b (given_attr P sides.Object e x T) (attr_default R sides.Object x)) ≡ true
    by rest true is = rest is
    by rest false is = mapped_some (λ (d : AttrDecl). d.start) (declared_attr R.attrs sides.Object x) h

-- ---- limits

subjects_few : (P : PlainPolicy) (T : Trace) → IsLegalTrace P T → entities sides.Subject T ≤ 16384
subjects_few P [] l = omega arith
subjects_few P (subject e1 ∷ T) l = omega (arith, l.1.1)
subjects_few P (object e1 ∷ T) l = subjects_few P T l.0
subjects_few P (write d1 n1 a1 v1 ∷ T) l = subjects_few P T l.0
subjects_few P (env n1 v1 ∷ T) l = subjects_few P T l.0
subjects_few P (tick t1 ∷ T) l = subjects_few P T l.0
subjects_few P (act s1 a1 o1 ∷ T) l = subjects_few P T l.0
subjects_few P (tries k1 c1 s1 r1 o1 ∷ T) l = subjects_few P T l.0
subjects_few P (wait k1 w1 ∷ T) l = subjects_few P T l.0
subjects_few P (permit k1 ∷ T) l = subjects_few P T l.0
subjects_few P (deny k1 w1 ∷ T) l = subjects_few P T l.0
subjects_few P (ends k1 ∷ T) l = subjects_few P T l.0
subjects_few P (revoke k1 w1 ∷ T) l = subjects_few P T l.0
subjects_few P (amend x1 R ∷ T) l = subjects_few P T l.0

objects_few : (P : PlainPolicy) (T : Trace) → IsLegalTrace P T → entities sides.Object T ≤ 16384
objects_few P [] l = omega arith
objects_few P (subject e1 ∷ T) l = objects_few P T l.0
objects_few P (object e1 ∷ T) l = omega (arith, l.1.1)
objects_few P (write d1 n1 a1 v1 ∷ T) l = objects_few P T l.0
objects_few P (env n1 v1 ∷ T) l = objects_few P T l.0
objects_few P (tick t1 ∷ T) l = objects_few P T l.0
objects_few P (act s1 a1 o1 ∷ T) l = objects_few P T l.0
objects_few P (tries k1 c1 s1 r1 o1 ∷ T) l = objects_few P T l.0
objects_few P (wait k1 w1 ∷ T) l = objects_few P T l.0
objects_few P (permit k1 ∷ T) l = objects_few P T l.0
objects_few P (deny k1 w1 ∷ T) l = objects_few P T l.0
objects_few P (ends k1 ∷ T) l = objects_few P T l.0
objects_few P (revoke k1 w1 ∷ T) l = objects_few P T l.0
objects_few P (amend x1 R ∷ T) l = objects_few P T l.0

acts_few : (P : PlainPolicy) (T : Trace) → IsLegalTrace P T → acts T ≤ 1048576
acts_few P [] l = omega arith
acts_few P (subject e1 ∷ T) l = acts_few P T l.0
acts_few P (object e1 ∷ T) l = acts_few P T l.0
acts_few P (write d1 n1 a1 v1 ∷ T) l = acts_few P T l.0
acts_few P (env n1 v1 ∷ T) l = acts_few P T l.0
acts_few P (tick t1 ∷ T) l = acts_few P T l.0
acts_few P (act s1 a1 o1 ∷ T) l = by (moment s1 a1 o1 T) l.1.3 (acts_few P T l.0)
  where
    by : (o : Option ℤ) → IsSome o ⊎ (acts T < 1048576) → acts T ≤ 1048576 → acts T + cond (is_none o) 1 0 ≤ 1048576
    by None (inl there) few = absurd (false≢true there)
    by None (inr lt) few = omega (arith, lt)
    by (Some m) room few = omega (arith, few)
acts_few P (tries k1 c1 s1 r1 o1 ∷ T) l = acts_few P T l.0
acts_few P (wait k1 w1 ∷ T) l = acts_few P T l.0
acts_few P (permit k1 ∷ T) l = acts_few P T l.0
acts_few P (deny k1 w1 ∷ T) l = acts_few P T l.0
acts_few P (ends k1 ∷ T) l = acts_few P T l.0
acts_few P (revoke k1 w1 ∷ T) l = acts_few P T l.0
acts_few P (amend x1 R ∷ T) l = acts_few P T l.0

sessions_few : (P : PlainPolicy) (T : Trace) → IsLegalTrace P T → sessions T ≤ 1048576
sessions_few P [] l = omega arith
sessions_few P (subject e1 ∷ T) l = sessions_few P T l.0
sessions_few P (object e1 ∷ T) l = sessions_few P T l.0
sessions_few P (write d1 n1 a1 v1 ∷ T) l = sessions_few P T l.0
sessions_few P (env n1 v1 ∷ T) l = sessions_few P T l.0
sessions_few P (tick t1 ∷ T) l = sessions_few P T l.0
sessions_few P (act s1 a1 o1 ∷ T) l = sessions_few P T l.0
sessions_few P (tries k1 c1 s1 r1 o1 ∷ T) l = omega (arith, l.1.0, l.1.1)
sessions_few P (wait k1 w1 ∷ T) l = sessions_few P T l.0
sessions_few P (permit k1 ∷ T) l = sessions_few P T l.0
sessions_few P (deny k1 w1 ∷ T) l = sessions_few P T l.0
sessions_few P (ends k1 ∷ T) l = sessions_few P T l.0
sessions_few P (revoke k1 w1 ∷ T) l = sessions_few P T l.0
sessions_few P (amend x1 R ∷ T) l = sessions_few P T l.0

pub tick_since : (P : PlainPolicy) (T : Trace) → IsLegalTrace P T → pos 0 ≤ℤ tick_of T
tick_since P [] l = omega (arith, ints)
tick_since P (subject e1 ∷ T) l = tick_since P T l.0
tick_since P (object e1 ∷ T) l = tick_since P T l.0
tick_since P (write d1 n1 a1 v1 ∷ T) l = tick_since P T l.0
tick_since P (env n1 v1 ∷ T) l = tick_since P T l.0
tick_since P (tick t1 ∷ T) l = omega (arith, ints, tick_since P T l.0, l.1)
tick_since P (act s1 a1 o1 ∷ T) l = tick_since P T l.0
tick_since P (tries k1 c1 s1 r1 o1 ∷ T) l = tick_since P T l.0
tick_since P (wait k1 w1 ∷ T) l = tick_since P T l.0
tick_since P (permit k1 ∷ T) l = tick_since P T l.0
tick_since P (deny k1 w1 ∷ T) l = tick_since P T l.0
tick_since P (ends k1 ∷ T) l = tick_since P T l.0
tick_since P (revoke k1 w1 ∷ T) l = tick_since P T l.0
tick_since P (amend x1 R ∷ T) l = tick_since P T l.0

pub whole_tick : (t : ℤ) → pos 0 ≤ℤ t → is_whole t ≡ true
whole_tick (pos n) h = refl
whole_tick (negsuc n) h = absurd (omega (arith, ints, h))

-- ---- acts

record IsMoment (T : Trace) (s o : Bytes) (m : ℤ) : Type 0 where
  subject_there : has_entity sides.Subject s T ≡ true
  object_there : has_entity sides.Object o T ≡ true
  since : pos 0 ≤ℤ m

moment_fits : (P : PlainPolicy) (T : Trace) → IsLegalTrace P T → (s a o : Bytes) (m : ℤ) → moment s a o T ≡ Some m → IsMoment T s o m
moment_fits P [] l s a o m h = absurd (nothing h)
moment_fits P (subject e1 ∷ T) l s a o m h = let i = moment_fits P T l.0 s a o m h in record { subject_there = or_true (bytes_eq s e1) (has_entity sides.Subject s T) i.subject_there; object_there = i.object_there; since = i.since }
moment_fits P (object e1 ∷ T) l s a o m h = let i = moment_fits P T l.0 s a o m h in record { subject_there = i.subject_there; object_there = or_true (bytes_eq o e1) (has_entity sides.Object o T) i.object_there; since = i.since }
moment_fits P (write d1 n1 a1 v1 ∷ T) l s a o m h = let i = moment_fits P T l.0 s a o m h in record { subject_there = i.subject_there; object_there = i.object_there; since = i.since }
moment_fits P (env n1 v1 ∷ T) l s a o m h = let i = moment_fits P T l.0 s a o m h in record { subject_there = i.subject_there; object_there = i.object_there; since = i.since }
moment_fits P (tick t1 ∷ T) l s a o m h = let i = moment_fits P T l.0 s a o m h in record { subject_there = i.subject_there; object_there = i.object_there; since = i.since }
moment_fits P (act s1 a1 o1 ∷ T) l s a o m h = by (λ k. moment_fits P T l.0 s a o m k) (bytes_eq s s1 && bytes_eq a a1 && bytes_eq o o1) refl h
  where
    by : (moment s a o T ≡ Some m → IsMoment T s o m) → (b : Bool) → (bytes_eq s s1 && bytes_eq a a1 && bytes_eq o o1) ≡ b → cond {A = Option ℤ} b (Some (tick_of T)) (moment s a o T) ≡ Some m
        → IsMoment (act s1 a1 o1 ∷ T) s o m
    by rest true is k =
        let p = and_parts (bytes_eq s s1 && bytes_eq a a1) (bytes_eq o o1) is in
        let q = and_parts (bytes_eq s s1) (bytes_eq a a1) p.0 in
        record {
          subject_there = ap (λ (x : Bytes). has_entity sides.Subject x T) ((bytes_eq-Decides s s1).0 q.0) ∙ l.1.0;
          object_there = ap (λ (x : Bytes). has_entity sides.Object x T) ((bytes_eq-Decides o o1).0 p.1) ∙ l.1.1;
          since = subst (λ (z : ℤ). pos 0 ≤ℤ z) (same (tick_of T) m k) (tick_since P T l.0);
        }
    by rest false is k = let i = rest k in record { subject_there = i.subject_there; object_there = i.object_there; since = i.since }
moment_fits P (tries k1 c1 s1 r1 o1 ∷ T) l s a o m h = let i = moment_fits P T l.0 s a o m h in record { subject_there = i.subject_there; object_there = i.object_there; since = i.since }
moment_fits P (wait k1 w1 ∷ T) l s a o m h = let i = moment_fits P T l.0 s a o m h in record { subject_there = i.subject_there; object_there = i.object_there; since = i.since }
moment_fits P (permit k1 ∷ T) l s a o m h = let i = moment_fits P T l.0 s a o m h in record { subject_there = i.subject_there; object_there = i.object_there; since = i.since }
moment_fits P (deny k1 w1 ∷ T) l s a o m h = let i = moment_fits P T l.0 s a o m h in record { subject_there = i.subject_there; object_there = i.object_there; since = i.since }
moment_fits P (ends k1 ∷ T) l s a o m h = let i = moment_fits P T l.0 s a o m h in record { subject_there = i.subject_there; object_there = i.object_there; since = i.since }
moment_fits P (revoke k1 w1 ∷ T) l s a o m h = let i = moment_fits P T l.0 s a o m h in record { subject_there = i.subject_there; object_there = i.object_there; since = i.since }
moment_fits P (amend x1 R ∷ T) l s a o m h = let i = moment_fits P T l.0 s a o m h in record { subject_there = i.subject_there; object_there = i.object_there; since = i.since }

abbrev Done : Trace → Bytes × Bytes × Bytes → Type 0
Done T a = is_some (moment a.0 a.1 a.2 T) ≡ true

rows_done : (T : Trace) → Each (Done T) (act_rows T)
rows_done [] = tt
rows_done (subject e1 ∷ T) = each_so (Done T) (Done (subject e1 ∷ T)) (act_rows T) (λ b h. h) (rows_done T)
rows_done (object e1 ∷ T) = each_so (Done T) (Done (object e1 ∷ T)) (act_rows T) (λ b h. h) (rows_done T)
rows_done (write d1 n1 a1 v1 ∷ T) = each_so (Done T) (Done (write d1 n1 a1 v1 ∷ T)) (act_rows T) (λ b h. h) (rows_done T)
rows_done (env n1 v1 ∷ T) = each_so (Done T) (Done (env n1 v1 ∷ T)) (act_rows T) (λ b h. h) (rows_done T)
rows_done (tick t1 ∷ T) = each_so (Done T) (Done (tick t1 ∷ T)) (act_rows T) (λ b h. h) (rows_done T)
rows_done (act s1 a1 o1 ∷ T) = by (rows_done T) (is_none (moment s1 a1 o1 T))
  where
    still : Each (Done T) (act_rows T) → Each (Done (act s1 a1 o1 ∷ T)) (act_rows T)
    still h = each_so (Done T) (Done (act s1 a1 o1 ∷ T)) (act_rows T) (λ b h. some_if (bytes_eq b.0 s1 && bytes_eq b.1 a1 && bytes_eq b.2 o1) (tick_of T) (moment b.0 b.1 b.2 T) h) h

    by : Each (Done T) (act_rows T) → (b : Bool) → Each (Done (act s1 a1 o1 ∷ T)) (cond b (act_rows T ++ (s1, a1, o1) ∷ []) (act_rows T))
    by h true = each_more (Done (act s1 a1 o1 ∷ T)) (act_rows T) (s1, a1, o1) (still h) (rw (bytes_same s1, bytes_same a1, bytes_same o1) refl)
    by h false = still h
rows_done (tries k1 c1 s1 r1 o1 ∷ T) = each_so (Done T) (Done (tries k1 c1 s1 r1 o1 ∷ T)) (act_rows T) (λ b h. h) (rows_done T)
rows_done (wait k1 w1 ∷ T) = each_so (Done T) (Done (wait k1 w1 ∷ T)) (act_rows T) (λ b h. h) (rows_done T)
rows_done (permit k1 ∷ T) = each_so (Done T) (Done (permit k1 ∷ T)) (act_rows T) (λ b h. h) (rows_done T)
rows_done (deny k1 w1 ∷ T) = each_so (Done T) (Done (deny k1 w1 ∷ T)) (act_rows T) (λ b h. h) (rows_done T)
rows_done (ends k1 ∷ T) = each_so (Done T) (Done (ends k1 ∷ T)) (act_rows T) (λ b h. h) (rows_done T)
rows_done (revoke k1 w1 ∷ T) = each_so (Done T) (Done (revoke k1 w1 ∷ T)) (act_rows T) (λ b h. h) (rows_done T)
rows_done (amend x1 R ∷ T) = each_so (Done T) (Done (amend x1 R ∷ T)) (act_rows T) (λ b h. h) (rows_done T)

never_row : (T : Trace) (s a o : Bytes) → moment s a o T ≡ None → find (same_names (s, a, o)) (act_rows T) ≡ None
never_row [] s a o h = refl
never_row (subject e1 ∷ T) s a o h = never_row T s a o h
never_row (object e1 ∷ T) s a o h = never_row T s a o h
never_row (write d1 n1 a1 v1 ∷ T) s a o h = never_row T s a o h
never_row (env n1 v1 ∷ T) s a o h = never_row T s a o h
never_row (tick t1 ∷ T) s a o h = never_row T s a o h
never_row (act s1 a1 o1 ∷ T) s a o h = by (λ k. never_row T s a o k) (bytes_eq s s1 && bytes_eq a a1 && bytes_eq o o1) refl h
  where
    with_it : (b : Bool) → find (same_names (s, a, o)) (act_rows T) ≡ None → same_names (s, a, o) (s1, a1, o1) ≡ false → find (same_names (s, a, o)) (cond b (act_rows T ++ (s1, a1, o1) ∷ []) (act_rows T)) ≡ None
    with_it true none other = find_more (same_names (s, a, o)) (act_rows T) (s1, a1, o1) none other
    with_it false none other = none

    by : (moment s a o T ≡ None → find (same_names (s, a, o)) (act_rows T) ≡ None) → (b : Bool) → (bytes_eq s s1 && bytes_eq a a1 && bytes_eq o o1) ≡ b
        → cond {A = Option ℤ} b (Some (tick_of T)) (moment s a o T) ≡ None → find (same_names (s, a, o)) (act_rows (act s1 a1 o1 ∷ T)) ≡ None
    by rest true is k = absurd (nothing (sym k))
    by rest false is k = with_it (is_none (moment s1 a1 o1 T)) (rest k) is
never_row (tries k1 c1 s1 r1 o1 ∷ T) s a o h = never_row T s a o h
never_row (wait k1 w1 ∷ T) s a o h = never_row T s a o h
never_row (permit k1 ∷ T) s a o h = never_row T s a o h
never_row (deny k1 w1 ∷ T) s a o h = never_row T s a o h
never_row (ends k1 ∷ T) s a o h = never_row T s a o h
never_row (revoke k1 w1 ∷ T) s a o h = never_row T s a o h
never_row (amend x1 R ∷ T) s a o h = never_row T s a o h

none_said : {A : Type 0} (o : Option A) → is_none o ≡ true → o ≡ None
none_said None h = refl
none_said (Some x) h = absurd (false≢true h)

pub rows_once : (T : Trace) → StandOnce (act_rows T)
rows_once [] = λ k a at. absurd (nothing at)
rows_once (subject e1 ∷ T) = rows_once T
rows_once (object e1 ∷ T) = rows_once T
rows_once (write d1 n1 a1 v1 ∷ T) = rows_once T
rows_once (env n1 v1 ∷ T) = rows_once T
rows_once (tick t1 ∷ T) = rows_once T
rows_once (act s1 a1 o1 ∷ T) = by (rows_once T) (is_none (moment s1 a1 o1 T)) refl
  where
    by : StandOnce (act_rows T) → (b : Bool) → is_none (moment s1 a1 o1 T) ≡ b → StandOnce (cond b (act_rows T ++ (s1, a1, o1) ∷ []) (act_rows T))
    by once true is = once_more (act_rows T) (s1, a1, o1) once (never_row T s1 a1 o1 (none_said (moment s1 a1 o1 T) is))
    by once false is = once
rows_once (tries k1 c1 s1 r1 o1 ∷ T) = rows_once T
rows_once (wait k1 w1 ∷ T) = rows_once T
rows_once (permit k1 ∷ T) = rows_once T
rows_once (deny k1 w1 ∷ T) = rows_once T
rows_once (ends k1 ∷ T) = rows_once T
rows_once (revoke k1 w1 ∷ T) = rows_once T
rows_once (amend x1 R ∷ T) = rows_once T

-- ---- sessions

record IsStarted (T : Trace) (row : SessionRow) : Type 0 where
  past : IsBy (tick_of T) row.start
  starts : StartsAtZero row.state row.start

abbrev AreStarted : Trace → Type 0
AreStarted T = (n : ℕ) (row : SessionRow) → session T n ≡ Some row → IsStarted T row

changed_is : (b : Bool) (f : SessionRow → SessionRow) (o : Option SessionRow) (row : SessionRow) → changed_if b f o ≡ Some row
    → ((b ≡ true) × ((before : SessionRow) × ((o ≡ Some before) × (f before ≡ row)))) ⊎ (o ≡ Some row)
changed_is true f o row h = inl (refl, mapped_is o f row h)
changed_is false f o row h = inr h

started : (P : PlainPolicy) (T : Trace) → IsLegalTrace P T → AreStarted T
started P [] l n row h = absurd (nothing h)
started P (subject e1 ∷ T) l n row h = let i = started P T l.0 n row h in record { past = i.past; starts = i.starts }
started P (object e1 ∷ T) l n row h = let i = started P T l.0 n row h in record { past = i.past; starts = i.starts }
started P (write d1 n1 a1 v1 ∷ T) l n row h = let i = started P T l.0 n row h in record { past = i.past; starts = i.starts }
started P (env n1 v1 ∷ T) l n row h = let i = started P T l.0 n row h in record { past = i.past; starts = i.starts }
started P (tick t1 ∷ T) l n row h = let i = started P T l.0 n row h in record { past = record { since = i.past.since; until = omega (arith, ints, i.past.until, l.1) }; starts = i.starts }
started P (act s1 a1 o1 ∷ T) l n row h = let i = started P T l.0 n row h in record { past = i.past; starts = i.starts }
started P (tries k1 c1 s1 r1 o1 ∷ T) l n row h = by (λ k. started P T l.0 n row k) (nat_eq n k1) h
  where
    by : (session T n ≡ Some row → IsStarted T row) → (b : Bool) → cond {A = Option SessionRow} b (Some (record { caller = c1; right = r1; subject = s1; object = o1; state = Requesting; start = pos 0 })) (session T n) ≡ Some row
        → IsStarted (tries k1 c1 s1 r1 o1 ∷ T) row
    by rest true k =
        subst (IsStarted (tries k1 c1 s1 r1 o1 ∷ T)) (same (record { caller = c1; right = r1; subject = s1; object = o1; state = Requesting; start = pos 0 }) row k)
        (record { past = record { since = omega (arith, ints); until = tick_since P T l.0 }; starts = refl })
    by rest false k = let i = rest k in record { past = i.past; starts = i.starts }
started P (wait k1 w1 ∷ T) l n row h = let i = started P T l.0 n row h in record { past = i.past; starts = i.starts }
started P (permit k1 ∷ T) l n row h = by (λ r k. started P T l.0 n r k) (changed_is (nat_eq n k1) (λ r. record r { state = Accessing; start = tick_of T }) (session T n) row h)
  where
    by : ((r : SessionRow) → session T n ≡ Some r → IsStarted T r)
        → ((nat_eq n k1 ≡ true) × ((before : SessionRow) × ((session T n ≡ Some before) × ((record before { state = Accessing; start = tick_of T }) ≡ row)))) ⊎ (session T n ≡ Some row) → IsStarted (permit k1 ∷ T) row
    by rest (inl x) = subst (IsStarted (permit k1 ∷ T)) x.1.1.1 (record { past = record { since = tick_since P T l.0; until = omega (arith, ints) }; starts = tt })
    by rest (inr k) = let i = rest row k in record { past = i.past; starts = i.starts }
started P (deny k1 w1 ∷ T) l n row h = by (λ r k. started P T l.0 n r k) (changed_is (nat_eq n k1) (λ r. record r { state = Denied }) (session T n) row h)
  where
    waits : nat_eq n k1 ≡ true → (before : SessionRow) → session T n ≡ Some before → before.state ≡ Requesting
    waits is before at =
        let one = some_and (session T k1) (λ r. r.state ≡ Requesting) l.1.0 in
        let here : session T n ≡ session T k1 = ap (session T) (eqb-true n k1 is) in
        ap (λ (r : SessionRow). r.state) (same before one.0 (sym at ∙ here ∙ one.1.0)) ∙ one.1.1

    zero_start : (before : SessionRow) → before.state ≡ Requesting → StartsAtZero before.state before.start → before.start ≡ pos 0
    zero_start before is z = subst (λ (q : SessionState). StartsAtZero q before.start) is z

    by : ((r : SessionRow) → session T n ≡ Some r → IsStarted T r)
        → ((nat_eq n k1 ≡ true) × ((before : SessionRow) × ((session T n ≡ Some before) × ((record before { state = Denied }) ≡ row)))) ⊎ (session T n ≡ Some row) → IsStarted (deny k1 w1 ∷ T) row
    by rest (inl x) = subst (IsStarted (deny k1 w1 ∷ T)) x.1.1.1 (let i = rest x.1.0 x.1.1.0 in record { past = i.past; starts = zero_start x.1.0 (waits x.0 x.1.0 x.1.1.0) i.starts })
    by rest (inr k) = let i = rest row k in record { past = i.past; starts = i.starts }
started P (ends k1 ∷ T) l n row h = by (λ r k. started P T l.0 n r k) (changed_is (nat_eq n k1) (λ r. record r { state = Ended }) (session T n) row h)
  where
    by : ((r : SessionRow) → session T n ≡ Some r → IsStarted T r)
        → ((nat_eq n k1 ≡ true) × ((before : SessionRow) × ((session T n ≡ Some before) × ((record before { state = Ended }) ≡ row)))) ⊎ (session T n ≡ Some row) → IsStarted (ends k1 ∷ T) row
    by rest (inl x) = subst (IsStarted (ends k1 ∷ T)) x.1.1.1 (let i = rest x.1.0 x.1.1.0 in record { past = i.past; starts = tt })
    by rest (inr k) = let i = rest row k in record { past = i.past; starts = i.starts }
started P (revoke k1 w1 ∷ T) l n row h = by (λ r k. started P T l.0 n r k) (changed_is (nat_eq n k1) (λ r. record r { state = Revoked }) (session T n) row h)
  where
    by : ((r : SessionRow) → session T n ≡ Some r → IsStarted T r)
        → ((nat_eq n k1 ≡ true) × ((before : SessionRow) × ((session T n ≡ Some before) × ((record before { state = Revoked }) ≡ row)))) ⊎ (session T n ≡ Some row) → IsStarted (revoke k1 w1 ∷ T) row
    by rest (inl x) = subst (IsStarted (revoke k1 w1 ∷ T)) x.1.1.1 (let i = rest x.1.0 x.1.1.0 in record { past = i.past; starts = tt })
    by rest (inr k) = let i = rest row k in record { past = i.past; starts = i.starts }
started P (amend x1 R ∷ T) l n row h = let i = started P T l.0 n row h in record { past = i.past; starts = i.starts }

accessing_counted : (T : Trace) (n : ℕ) → accessing_among (sessions_to (session T) n) ≡ accessing_up_to T n
accessing_counted T zero = refl
accessing_counted T (suc n) =
    sum_by-append (λ (row : SessionRow). cond (is_accessing_state row.state) 1 0) (sessions_to (session T) n) (one_session (session T (suc n)))
    ∙ ap₂ (λ (x y : ℕ). x + y) (accessing_counted T n) (one (session T (suc n)))
  where
    one : (o : Option SessionRow) → count_by (λ (row : SessionRow). is_accessing_state row.state) (one_session o) ≡ cond (is_accessing o) 1 0
    one None = refl
    one (Some row) = by (is_accessing_state row.state) refl
      where
        by : (b : Bool) → is_accessing_state row.state ≡ b → count_by (λ (r : SessionRow). is_accessing_state r.state) (row ∷ []) ≡ cond b 1 0
        by true is = rw is refl
        by false is = rw is refl

accessing_below : (T : Trace) (n k : ℕ) → accessing_up_to T n ≤ accessing_up_to T (n + k)
accessing_below T n zero = let same_n : n + 0 ≡ n = omega arith in subst (λ (j : ℕ). accessing_up_to T n ≤ accessing_up_to T j) (sym same_n) (omega arith)
accessing_below T n (suc k) = let next : n + suc k ≡ suc (n + k) = omega arith in
    let one_more : accessing_up_to T n ≤ accessing_up_to T (suc (n + k)) = omega (arith, accessing_below T n k) in
    subst (λ (j : ℕ). accessing_up_to T n ≤ accessing_up_to T j) (sym next) one_more

room_behind : (T : Trace) (n : ℕ) (row : SessionRow) → n < sessions T → accessing T ≤ 65536 → session T (suc n) ≡ Some row → HasRoomBehind (sessions_to (session T) n) row.state
room_behind T n row lt few at = by row.state refl
  where
    by : (q : SessionState) → row.state ≡ q → HasRoomBehind (sessions_to (session T) n) q
    by Requesting is = tt
    by Denied is = tt
    by Revoked is = tt
    by Ended is = tt
    by Accessing is =
        let going : is_accessing (session T (suc n)) ≡ true = ap is_accessing at ∙ ap is_accessing_state is in
        let more : accessing_up_to T (suc n) ≡ accessing_up_to T n + 1 = rw going refl in
        let rest = accessing_below T (suc n) (sessions T - suc n) in
        let end : suc n + (sessions T - suc n) ≡ sessions T = omega (arith, lt) in
        let all : accessing_up_to T (suc n) ≤ accessing_up_to T (sessions T) = subst (λ (k : ℕ). accessing_up_to T (suc n) ≤ accessing_up_to T k) end rest in
        omega (arith, accessing_counted T n, more, all, few)

-- ---- what a state follows

module _ (P : PlainPolicy) (T : Trace) (typed : IsTyped (in_force P T)) (sound : IsSound P T) (Q : PlainPolicy) (t : Tables) (keeps : Keeps Q t P T) where
  pub variable_there : (i : ℕ) (d : EnvDecl) → slice_get (in_force P T).envs i ≡ Some d → IsSomeAnd (variable P T d.name) (λ v. IsTrue (admits d.kind v))
  variable_there i d at =
      let declared = env_declared (in_force P T) typed i d at in
      let there : is_some (declared_env (in_force P T).envs d.name) ≡ true = ap is_some declared in
      let one = the_one (given_env P d.name T) (env_given P d.name T there) in
      let is : variable P T d.name ≡ Some one.0 = rw there one.1 in
      let fit = some_and (declared_env (in_force P T).envs d.name) (λ e. IsTrue (admits e.kind one.0)) (sound.fit.variables d.name one.0 is) in
      let fits : IsTrue (admits d.kind one.0) = ap (λ (e : EnvDecl). admits e.kind one.0) (same d fit.0 (sym declared ∙ fit.1.0)) ∙ fit.1.1 in
      subst (λ (o : Option Value). IsSomeAnd o (λ v. IsTrue (admits d.kind v))) (sym is) fits

  given_there : (side : Side) (e x : Bytes) → has_entity side e T ≡ true → is_some (declared_attr (in_force P T).attrs side x) ≡ true → is_some (given_attr P side e x T) ≡ true
  given_there sides.Subject e x there h = subject_given P e x T there h
  given_there sides.Object e x there h = object_given P e x T there h

  name_there : (side : Side) (k : ℕ) (e : Bytes) → slice_get (entity_names side T) k ≡ Some e → has_entity side e T ≡ true
  name_there side k e at = sym (keeps.entity_is_there side e) ∙ ap is_some ((keeps.number_is_position side e k).1 at)

  pub attribute_there : (side : Side) (k : ℕ) (e : Bytes) (i : ℕ) (d : AttrDecl) → slice_get (entity_names side T) k ≡ Some e → slice_get (attrs_of (in_force P T) side) i ≡ Some d
      → IsSomeAnd (attribute P T side e d.name) (λ v. IsTrue (admits d.kind v))
  attribute_there side k e i d at_name at =
      let declared = (attr_once (in_force P T) typed side i d at).declared in
      let has = name_there side k e at_name in
      let there : is_some (declared_attr (in_force P T).attrs side d.name) ≡ true = ap is_some declared in
      let one = the_one (given_attr P side e d.name T) (given_there side e d.name has there) in
      let is : attribute P T side e d.name ≡ Some one.0 = rw (has, there) one.1 in
      let fit = some_and (declared_attr (in_force P T).attrs side d.name) (λ c. IsTrue (admits c.kind one.0)) (sound.fit.attributes side e d.name one.0 is) in
      let fits : IsTrue (admits d.kind one.0) = ap (λ (c : AttrDecl). admits c.kind one.0) (same d fit.0 (sym declared ∙ fit.1.0)) ∙ fit.1.1 in
      subst (λ (o : Option Value). IsSomeAnd o (λ v. IsTrue (admits d.kind v))) (sym is) fits

  pub name_once : (side : Side) (k : ℕ) (e : Bytes) → slice_get (entity_names side T) k ≡ Some e → find (bytes_eq e) (take k (entity_names side T)) ≡ None
  name_once side k e at =
      none_before_place (bytes_eq e) (entity_names side T) k (ap (position (bytes_eq e)) (sym (keeps.names side)) ∙ (keeps.number_is_position side e k).1 at)

-- ---- all of it

module _ (laws : StateLaws) (kept : (P : PlainPolicy) (T : Trace) → IsLegalTrace P T → Keeps (in_force P T) (tables_of P T) P T) where
  followed : (P : PlainPolicy) (T : Trace) → IsTyped P → IsLegalTrace P T → (s : Shown) × Follows s P T
  followed P [] typed l = (seen P (opening_tables P), laws.opening (seen P (opening_tables P)) P typed refl refl)
  followed P (a ∷ T) typed l = let f = followed P T typed l.0 in (changed_by f.0 a, laws.after f.0 P T a f.1 l.1)

  module _ (P : PlainPolicy) (T : Trace) (first_typed : IsTyped P) (legal : IsLegalTrace P T) (few : accessing T ≤ 65536) where
    here : Follows (followed P T first_typed legal).0 P T
    here = (followed P T first_typed legal).1

    keeps : Keeps (in_force P T) (tables_of P T) P T
    keeps = kept P T legal

    names_few : (side : Side) → length (entity_names side T) ≤ 16384
    names_few sides.Subject =
        omega (arith, ap length (keeps.names sides.Subject), length-map (tables_of P T).subjects (λ (e : Bytes × ℕ). e.0), ap (λ (c : Counts). c.subjects) keeps.counts_agree, subjects_few P T legal)
    names_few sides.Object =
        omega (arith, ap length (keeps.names sides.Object), length-map (tables_of P T).objects (λ (e : Bytes × ℕ). e.0), ap (λ (c : Counts). c.objects) keeps.counts_agree, objects_few P T legal)

    placed : (side : Side) (e : Bytes) → has_entity side e T ≡ true → IsSome (position (bytes_eq e) (entity_names side T))
    placed side e h = ap (λ (ns : List Bytes). is_some (position (bytes_eq e) ns)) (sym (keeps.names side)) ∙ keeps.entity_is_there side e ∙ h

    act_in_order : (k : ℕ) (a : Bytes × Bytes × Bytes) → slice_get (act_rows T) k ≡ Some a → IsActInOrder (held_after P T) k a
    act_in_order k a at =
        let done = the_one (moment a.0 a.1 a.2 T) (each_get (Done T) (act_rows T) k a (rows_done T) at) in
        let fits = moment_fits P T legal a.0 a.1 a.2 done.0 done.1 in
        let until = here.sound.timely a.0 a.1 a.2 done.0 done.1 in
        let is : done.0 ≡ unwrap_or (moment a.0 a.1 a.2 T) (pos 0) = sym (ap (λ (o : Option ℤ). unwrap_or o (pos 0)) done.1) in
        record {
          once = rows_once T k a at;
          entities = record { subject_there = placed sides.Subject a.0 fits.subject_there; object_there = placed sides.Object a.2 fits.object_there };
          past = subst (λ (m : ℤ). IsBy (tick_of T) m) is (record { since = fits.since; until = until });
        }

    act_rows_few : length (act_rows T) ≤ 1048576
    act_rows_few =
        omega (arith, ap length keeps.act_rows_agree, length-map (tables_of P T).acts row_of, ap (λ (c : Counts). c.acts) keeps.counts_agree, acts_few P T legal)

    grounded : (o : Option SessionRow) (row : SessionRow) → o ≡ Some row → IsGrounded T o
        → IsTrue (has_entity sides.Subject row.subject T) × IsTrue (has_entity sides.Object row.object T)
    grounded o row is g = subst (IsGrounded T) is g

    session_in_order : (n : ℕ) → n < sessions T → IsSomeAnd (session T (suc n)) (IsSessionInOrder (held_after P T) n)
    session_in_order n lt =
        let count : length (tables_of P T).sessions ≡ sessions T = ap (λ (c : Counts). c.sessions) keeps.counts_agree in
        let one = the_one (slice_get (tables_of P T).sessions n) (get_there (tables_of P T).sessions n (omega (arith, lt, count))) in
        let at : session T (suc n) ≡ Some one.0 = sym (keeps.readings_agree.row (suc n)) ∙ one.1 in
        let row : SessionRow = one.0 in
        let ground = grounded (session T (suc n)) row at (here.sound.grounded (suc n)) in
        let start = started P T legal (suc n) row at in
        let in_order : IsSessionInOrder (held_after P T) n row = record {
          room = room_behind T n row lt few at;
          entities = record { subject_there = placed sides.Subject row.subject ground.0; object_there = placed sides.Object row.object ground.1 };
          past = start.past;
          starts = start.starts;
        } in
        subst (λ (o : Option SessionRow). IsSomeAnd o (IsSessionInOrder (held_after P T) n)) (sym at) in_order

    pub in_order_after : IsOrderly (held_after P T)
    in_order_after = record {
      variables = variable_there P T here.typed here.sound (in_force P T) (tables_of P T) keeps;
      attributes = attribute_there P T here.typed here.sound (in_force P T) (tables_of P T) keeps;
      once = name_once P T here.typed here.sound (in_force P T) (tables_of P T) keeps;
      few_entities = names_few;
      acts = act_in_order;
      few_acts = act_rows_few;
      sessions = session_in_order;
      few_sessions = sessions_few P T legal;
    }
