-- The names that the numbers of sessions stand for.
use Rattle.std.proofs.Common.{◌≡◌, ◌∙◌, ◌<◌, ℕ, ℤ, zero, suc, refl, sym, ap, subst, Bool, true, false, cond, List, [], ◌∷◌, ◌++◌, length, map, find, position, slice_get, Option, Some, None, is_some, IsSomeAnd, option_map, option_and_then, unwrap_or, arith}
use Rattle.std.specs.Option.{option_map_or}
use Rattle.std.specs.Str.{bytes_eq}
use Rattle.std.proofs.lemmas.Bool.{cases_order}
use Rattle.std.proofs.lemmas.List.{length_push, map_push}
use Rattle.std.proofs.lemmas.Option.{same_Some, slice_get-map}
use Rattle.ucon_base.specs.declared.value.Side.{Side}
use Rattle.ucon_base.specs.declared.value.Side.TheVariants as sides
use Rattle.ucon_model.specs.declared.formula.Ref.TheVariants as refs
use Rattle.ucon_model.specs.declared.session.SessionRow.{SessionRow}
use Rattle.ucon_model.specs.declared.session.SessionState.{SessionState}
use Rattle.ucon_model.specs.Plain.{Bytes, PlainPolicy, PlainRight}
use Rattle.ucon_model.specs.Decision.{right_named}
use Rattle.ucon_model.specs.Lookup.{value_read}
use Rattle.ucon_state.specs.declared.session.Session.{Session}
use Rattle.ucon_state.specs.Applied.{with_entity, with_new_session}
use Rattle.ucon_state.specs.Stored.{Stored, NumbersAreBelow, AreDistinct, AreNumbered, moved_at, name_at, right_at, row_of, named}
use Rattle.ucon_state.specs.Tables.{cell_at, cell_of, entity_number, place_in, readings_in, session_in}
use Rattle.ucon_state.proofs.Following.Names.{same_name, number_by}
use Rattle.ucon_state.proofs.Following.Places.{still_there, passes_there, placed_where_first}

-- ---- names

-- an entity that is there keeps its name
pub name_still : (es : List (Bytes × ℕ)) (e : Bytes × ℕ) (n : ℕ) → n < length es → name_at (es ++ e ∷ []) n ≡ name_at es n
name_still es e n lt = ap (λ o. option_map_or (λ (d : Bytes × ℕ). d.0) o []) (still_there es (e ∷ []) n lt)

-- the name at a number is what stands there among the names
name_there : (es : List (Bytes × ℕ)) (n : ℕ) → n < length es → slice_get (map (λ d. d.0) es) n ≡ Some (name_at es n)
name_there [] n lt = absurd (omega (arith, lt))
name_there (e ∷ es) zero lt = refl
name_there (e ∷ es) (suc n) lt = name_there es n (omega (arith, lt))

-- each number is the number of its name
pub number_of_name : (es : List (Bytes × ℕ)) (n : ℕ) → AreDistinct es → n < length es → position (bytes_eq (name_at es n)) (map (λ d. d.0) es) ≡ Some n
number_of_name es n differ lt = differ (name_at es n) n (name_there es n lt)

named_as : (name : Bytes) (o : Option Bytes) → IsSomeAnd o (λ e. bytes_eq name e ≡ true) → o ≡ Some name
named_as name None h = absurd h
named_as name (Some e) h = ap (λ (e : Bytes). Some e) (sym (same_name name e h))

named_at : (es : List (Bytes × ℕ)) (name : Bytes) (n : ℕ) → slice_get (map (λ d. d.0) es) n ≡ Some name → name_at es n ≡ name
named_at [] name n at = cc
named_at (e ∷ es) name zero at = same_Some e.0 name at
named_at (e ∷ es) name (suc n) at = named_at es name n at

-- a name is that of its number
pub name_of_number : (es : List (Bytes × ℕ)) (name : Bytes) (n : ℕ) → position (bytes_eq name) (map (λ d. d.0) es) ≡ Some n → name_at es n ≡ name
name_of_number es name n at = named_at es name n (named_as name (slice_get (map (λ (d : Bytes × ℕ). d.0) es) n) (passes_there (bytes_eq name) (map (λ (d : Bytes × ℕ). d.0) es) n at))

-- names still differ with a new one behind them
pub distinct_push : (es : List (Bytes × ℕ)) (name : Bytes) (f : ℕ) → AreDistinct es → position (bytes_eq name) (map (λ d. d.0) es) ≡ None → AreDistinct (es ++ (name, f) ∷ [])
distinct_push es name f differ new e i =
    subst (λ (names : List Bytes). slice_get names i ≡ Some e → position (bytes_eq e) names ≡ Some i) (sym (map_push (λ (d : Bytes × ℕ). d.0) es (name, f)))
    (number_by (map (λ d. d.0) es) name e i new (differ e i) (cases_order i (length (map (λ (d : Bytes × ℕ). d.0) es))))

-- ---- what holds of each session

all_pushed : (Q : Session → Type 0) (xs : List Session) (x : Session) → ((i : ℕ) (s : Session) → slice_get xs i ≡ Some s → Q s) → Q x
    → (i : ℕ) (s : Session) → slice_get (xs ++ x ∷ []) i ≡ Some s → Q s
all_pushed Q [] x all here zero s at = subst Q (same_Some x s at) here
all_pushed Q [] x all here (suc i) s at = cc
all_pushed Q (y ∷ ys) x all here zero s at = all zero s at
all_pushed Q (y ∷ ys) x all here (suc i) s at = all_pushed Q ys x (λ k z. all (suc k) z) here i s at

module _ (r m n : ℕ) where
  all_moved : (xs : List Session) (place : ℕ) (state : SessionState) (start : ℤ) → ((i : ℕ) (s : Session) → slice_get xs i ≡ Some s → NumbersAreBelow r m n s)
      → (i : ℕ) (s : Session) → slice_get (moved_at state start place xs) i ≡ Some s → NumbersAreBelow r m n s
  all_moved [] place state start all i s at = all i s at
  all_moved (y ∷ ys) zero state start all zero s at =
      let h = all zero y refl in
      let moved : NumbersAreBelow r m n (record y { state = state; start = start }) = record { right = h.right; subject = h.subject; object = h.object } in
      subst (NumbersAreBelow r m n) (same_Some (record y { state = state; start = start }) s at) moved
  all_moved (y ∷ ys) zero state start all (suc i) s at = all (suc i) s at
  all_moved (y ∷ ys) (suc place) state start all zero s at = all zero s at
  all_moved (y ∷ ys) (suc place) state start all (suc i) s at = all_moved ys place state start (λ k z. all (suc k) z) i s at

pub map_same : (f g : Session → SessionRow) (xs : List Session) → ((i : ℕ) (s : Session) → slice_get xs i ≡ Some s → f s ≡ g s) → map f xs ≡ map g xs
map_same f g [] h = refl
map_same f g (x ∷ xs) h = λ j. h zero x refl j ∷ map_same f g xs (λ i s at. h (suc i) s at) j

-- ---- changes

module _ (R : List Bytes) (t : Stored) (h : AreNumbered R t.subjects t.objects t.sessions) where
  pub numbered_moved : (place : ℕ) (state : SessionState) (start : ℤ) → AreNumbered R t.subjects t.objects (moved_at state start place t.sessions)
  numbered_moved place state start = record {
    numbers = all_moved (length R) (length t.subjects) (length t.objects) t.sessions place state start h.numbers;
    subjects_differ = h.subjects_differ;
    objects_differ = h.objects_differ;
  }

  pub numbered_session : (s : Session) → NumbersAreBelow (length R) (length t.subjects) (length t.objects) s → AreNumbered R t.subjects t.objects (t.sessions ++ s ∷ [])
  numbered_session s is = record {
    numbers = all_pushed (NumbersAreBelow (length R) (length t.subjects) (length t.objects)) t.sessions s h.numbers is;
    subjects_differ = h.subjects_differ;
    objects_differ = h.objects_differ;
  }

  more_subjects : (e : Bytes × ℕ) (i : ℕ) (s : Session) → slice_get t.sessions i ≡ Some s → NumbersAreBelow (length R) (length (t.subjects ++ e ∷ [])) (length t.objects) s
  more_subjects e i s at = let b = h.numbers i s at in record { right = b.right; subject = omega (arith, b.subject, length_push t.subjects e); object = b.object }

  more_objects : (e : Bytes × ℕ) (i : ℕ) (s : Session) → slice_get t.sessions i ≡ Some s → NumbersAreBelow (length R) (length t.subjects) (length (t.objects ++ e ∷ [])) s
  more_objects e i s at = let b = h.numbers i s at in record { right = b.right; subject = b.subject; object = omega (arith, b.object, length_push t.objects e) }

  pub numbered_entity : (P : PlainPolicy) (side : Side) (name : Bytes) → entity_number t side name ≡ None
      → let u = with_entity P t side name in AreNumbered R u.subjects u.objects u.sessions
  numbered_entity P sides.Subject name new = record {
    numbers = more_subjects (name, length t.cells);
    subjects_differ = distinct_push t.subjects name (length t.cells) h.subjects_differ new;
    objects_differ = h.objects_differ;
  }
  numbered_entity P sides.Object name new = record {
    numbers = more_objects (name, length t.cells);
    subjects_differ = h.subjects_differ;
    objects_differ = distinct_push t.objects name (length t.cells) h.objects_differ new;
  }

  -- the sessions have the same names with one more entity
  pub named_entity : (P : PlainPolicy) (side : Side) (name : Bytes) → named R (with_entity P t side name) ≡ with_entity P (named R t) side name
  named_entity P sides.Subject name =
      let e : Bytes × ℕ = (name, length t.cells) in
      let same = map_same (row_of R (t.subjects ++ e ∷ []) t.objects) (row_of R t.subjects t.objects) t.sessions
      (λ i s at. ap (λ (x : Bytes). record { caller = s.caller; right = right_at R s.right; subject = x; object = name_at t.objects s.object; state = s.state; start = s.start })
      (name_still t.subjects e s.subject (h.numbers i s at).subject)) in
      λ j. record (with_entity P (named R t) sides.Subject name) { sessions = same j }
  named_entity P sides.Object name =
      let e : Bytes × ℕ = (name, length t.cells) in
      let same = map_same (row_of R t.subjects (t.objects ++ e ∷ [])) (row_of R t.subjects t.objects) t.sessions
      (λ i s at. ap (λ (x : Bytes). record { caller = s.caller; right = right_at R s.right; subject = name_at t.subjects s.subject; object = x; state = s.state; start = s.start })
      (name_still t.objects e s.object (h.numbers i s at).object)) in
      λ j. record (with_entity P (named R t) sides.Object name) { sessions = same j }

-- no session has no numbers
pub none_numbered : (R : List Bytes) → AreNumbered R [] [] []
none_numbered R = record { numbers = λ i s at. cc; subjects_differ = λ e i at. cc; objects_differ = λ e i at. cc }

-- one more session is one more with its names
pub named_session : (R : List Bytes) (t : Stored) (s : Session) → named R (with_new_session t s) ≡ with_new_session (named R t) (row_of R t.subjects t.objects s)
named_session R t s = λ j. record (named R t) { sessions = map_push (row_of R t.subjects t.objects) t.sessions s j }

-- ---- the rights

found_named : (rights : List PlainRight) (name : Bytes) → is_some (find (bytes_eq name) (map (λ r. r.name) rights)) ≡ is_some (right_named rights name)
found_named [] name = refl
found_named (r ∷ rights) name = by (bytes_eq name r.name) (found_named rights name)
  where
    by : (b : Bool) → is_some (find (bytes_eq name) (map (λ r. r.name) rights)) ≡ is_some (right_named rights name)
        → is_some (cond b (Some r.name) (find (bytes_eq name) (map (λ r. r.name) rights))) ≡ is_some (cond b (Some r) (right_named rights name))
    by true rest = refl
    by false rest = rest

-- each right stands among the names of all
pub own_rights : (rights : List PlainRight) (name : Bytes) → is_some (position (bytes_eq name) (map (λ r. r.name) rights)) ≡ is_some (right_named rights name)
own_rights rights name = placed_where_first (bytes_eq name) (map (λ r. r.name) rights) ∙ found_named rights name

-- a right's name is that of its number
pub right_of_number : (R : List Bytes) (name : Bytes) (n : ℕ) → position (bytes_eq name) R ≡ Some n → right_at R n ≡ name
right_of_number R name n at = ap (λ o. unwrap_or o []) (named_as name (slice_get R n) (passes_there (bytes_eq name) R n at))

-- ---- what is read of a session that is there

session_in-named : (R : List Bytes) (t : Stored) (n : ℕ) → session_in (named R t) n ≡ option_map (row_of R t.subjects t.objects) (session_in t n)
session_in-named R t zero = refl
session_in-named R t (suc n) = slice_get-map (row_of R t.subjects t.objects) t.sessions n

module _ (R : List Bytes) (t : Stored) (n : ℕ) (x : Session) (there : session_in t n ≡ Some x) where
  pub row_is : session_in (named R t) n ≡ Some (row_of R t.subjects t.objects x)
  row_is = session_in-named R t n ∙ ap (option_map (row_of R t.subjects t.objects)) there

  pub numbers_are : AreNumbered R t.subjects t.objects t.sessions → NumbersAreBelow (length R) (length t.subjects) (length t.objects) x
  numbers_are h = by n there
    where
      by : (n : ℕ) → session_in t n ≡ Some x → NumbersAreBelow (length R) (length t.subjects) (length t.objects) x
      by zero at = absurd cc
      by (suc m) at = h.numbers m x at

  -- the cell of its own subject's or object's attribute holds the attribute
  pub subject_value : (P : PlainPolicy) → AreNumbered R t.subjects t.objects t.sessions → (attr : Bytes)
      → option_and_then (slice_get t.cells) (cell_at P t sides.Subject x.subject attr) ≡ value_read (readings_in P (named R t)) n (refs.Subject attr)
  subject_value P h attr =
      ap (λ o. option_and_then (slice_get t.cells) (option_and_then (λ e. cell_at P t sides.Subject e attr) o))
      (sym (number_of_name t.subjects x.subject h.subjects_differ (numbers_are h).subject))
      ∙ sym (ap (option_and_then (λ row. place_in P (named R t) row (refs.Subject attr))) row_is)

  pub object_value : (P : PlainPolicy) → AreNumbered R t.subjects t.objects t.sessions → (attr : Bytes)
      → option_and_then (slice_get t.cells) (cell_at P t sides.Object x.object attr) ≡ value_read (readings_in P (named R t)) n (refs.Object attr)
  object_value P h attr =
      ap (λ o. option_and_then (slice_get t.cells) (option_and_then (λ e. cell_at P t sides.Object e attr) o))
      (sym (number_of_name t.objects x.object h.objects_differ (numbers_are h).object))
      ∙ sym (ap (option_and_then (λ row. place_in P (named R t) row (refs.Object attr))) row_is)

  -- the cell of its own subject's or object's attribute is the one that is found by the names
  pub subject_cell : (P : PlainPolicy) → AreNumbered R t.subjects t.objects t.sessions → (attr : Bytes)
      → cell_at P t sides.Subject x.subject attr ≡ option_and_then (λ row. cell_of P (named R t) sides.Subject row.subject attr) (session_in (named R t) n)
  subject_cell P h attr =
      ap (option_and_then (λ e. cell_at P t sides.Subject e attr)) (sym (number_of_name t.subjects x.subject h.subjects_differ (numbers_are h).subject))
      ∙ sym (ap (option_and_then (λ row. cell_of P (named R t) sides.Subject row.subject attr)) row_is)

  pub object_cell : (P : PlainPolicy) → AreNumbered R t.subjects t.objects t.sessions → (attr : Bytes)
      → cell_at P t sides.Object x.object attr ≡ option_and_then (λ row. cell_of P (named R t) sides.Object row.object attr) (session_in (named R t) n)
  object_cell P h attr =
      ap (option_and_then (λ e. cell_at P t sides.Object e attr)) (sym (number_of_name t.objects x.object h.objects_differ (numbers_are h).object))
      ∙ sym (ap (option_and_then (λ row. cell_of P (named R t) sides.Object row.object attr)) row_is)
