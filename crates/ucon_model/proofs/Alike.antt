-- A decision during the usage reads its places and its timed parts, and nothing else.
use Rattle.std.proofs.Common.{◌≡◌, ℕ, Bool, true, false, cond, List, [], ◌∷◌, ◌++◌, refl, sym, ap, subst, ◌∙◌}
use Rattle.std.specs.Prelude.{◌&&◌, ◌||◌, not, fold, filter, Option, Some, None}
use Rattle.std.specs.Option.{option_map_or}
use Rattle.std.specs.List.{list_any, flat_map}
use Rattle.std.proofs.lemmas.Slice.Eq.{bytes_eq-Decides}
use Rattle.ucon_base.specs.declared.value.Value.{Value}
use Rattle.ucon_base.specs.Elements.{Each, each_parts}
use Rattle.ucon_model.specs.declared.formula.Ref.{Ref}
use Rattle.ucon_model.specs.declared.formula.Ref.TheVariants.{Subject, Object, Env}
use Rattle.ucon_model.specs.declared.session.SessionRow.{SessionRow}
use Rattle.ucon_model.specs.Plain.{Bytes, PlainExpr, lit, read, plus, minus, times, size, PlainFormula, both, either, negation, compare, lasts, PlainTest, authorisation, duty, condition, PlainPredicate, PlainRight, PlainPolicy}
use Rattle.ucon_model.specs.Truth.{Readings, read_or_zero, value_of, holds, truth}
use Rattle.ucon_model.specs.Decision.{right_named, ongoing, first_false, no_right, failing_of, failing}
use Rattle.ucon_model.specs.Places.{expr_places, formula_places, test_places, same_place, with_place, distinct, places_read}
use Rattle.ucon_model.specs.Reach.{Timed, formula_timed, test_timed, right_timed, timed_truth, places_of, timed_of, HoldTheSame, ReadAlike}

-- ---- what each of the distinct places has, each place has

same_place_is : (p q : Ref) → same_place p q ≡ true → p ≡ q
same_place_is (Subject a) (Subject b) h = ap Subject ((bytes_eq-Decides a b).0 h)
same_place_is (Object a) (Object b) h = ap Object ((bytes_eq-Decides a b).0 h)
same_place_is (Env a) (Env b) h = ap Env ((bytes_eq-Decides a b).0 h)
same_place_is p q h = absurd cc

-- what each has, one that is listed has
listed_has : (Q : Ref → Type 0) (p : Ref) (xs : List Ref) → list_any (same_place p) xs ≡ true → Each Q xs → Q p
listed_has Q p [] is h = absurd cc
listed_has Q p (x ∷ xs) is h = here_or_later (same_place p x) refl is (λ later. listed_has Q p xs later h.1)
  where
    here_or_later : (b : Bool) → same_place p x ≡ b → (b || list_any (same_place p) xs) ≡ true → (list_any (same_place p) xs ≡ true → Q p) → Q p
    here_or_later true e t rest = subst Q (sym (same_place_is p x e)) h.0
    here_or_later false e t rest = rest t

with_place_has : (Q : Ref → Type 0) (places : List Ref) (p : Ref) → Each Q (with_place places p) → Each Q places × Q p
with_place_has Q places p h = known_or_new (list_any (same_place p) places) refl h
  where
    known_or_new : (b : Bool) → list_any (same_place p) places ≡ b → Each Q (cond b places (places ++ p ∷ [])) → Each Q places × Q p
    known_or_new true e h = (h, listed_has Q p places e h)
    known_or_new false e h = let parts = each_parts Q places (p ∷ []) h in (parts.0, parts.1.0)

distinct_from : (Q : Ref → Type 0) (before places : List Ref) → Each Q (fold with_place before places) → Each Q before × Each Q places
distinct_from Q before [] h = (h, tt)
distinct_from Q before (p ∷ places) h =
    let later = distinct_from Q (with_place before p) places h in
    let here = with_place_has Q before p later.0 in
    (here.0, (here.1, later.1))

each-distinct : (Q : Ref → Type 0) (places : List Ref) → Each Q (distinct places) → Each Q places
each-distinct Q places h = (distinct_from Q [] places h).1

-- ---- expressions

pub value_alike : (at bt : Ref → Option Value) (e : PlainExpr) → Each (λ place. at place ≡ bt place) (expr_places e) → value_of at e ≡ value_of bt e
value_alike at bt (lit v) h = refl
value_alike at bt (read place) h = ap read_or_zero h.0
value_alike at bt (plus a b) h =
    let parts = each_parts (λ place. at place ≡ bt place) (expr_places a) (expr_places b) h in
    rw (value_alike at bt a parts.0, value_alike at bt b parts.1) refl
value_alike at bt (minus a b) h =
    let parts = each_parts (λ place. at place ≡ bt place) (expr_places a) (expr_places b) h in
    rw (value_alike at bt a parts.0, value_alike at bt b parts.1) refl
value_alike at bt (times a b) h =
    let parts = each_parts (λ place. at place ≡ bt place) (expr_places a) (expr_places b) h in
    rw (value_alike at bt a parts.0, value_alike at bt b parts.1) refl
value_alike at bt (size a) h = rw (value_alike at bt a h) refl

-- ---- formulas, tests, predicates

module _ (R : Readings) (row : SessionRow) (S : Readings) (other : SessionRow) where
  abbrev SameAt : Ref → Type 0
  SameAt place = R.at row place ≡ S.at other place

  abbrev SameTimed : Timed → Type 0
  SameTimed part = timed_truth R row part ≡ timed_truth S other part

  holds_alike : (f : PlainFormula) → Each SameAt (formula_places f) → Each SameTimed (formula_timed f) → holds R row f ≡ holds S other f
  holds_alike (both f g) h t =
      let places = each_parts SameAt (formula_places f) (formula_places g) h in
      let timed = each_parts SameTimed (formula_timed f) (formula_timed g) t in
      rw (holds_alike f places.0 timed.0, holds_alike g places.1 timed.1) refl
  holds_alike (either f g) h t =
      let places = each_parts SameAt (formula_places f) (formula_places g) h in
      let timed = each_parts SameTimed (formula_timed f) (formula_timed g) t in
      rw (holds_alike f places.0 timed.0, holds_alike g places.1 timed.1) refl
  holds_alike (negation f) h t = ap not (holds_alike f h t)
  holds_alike (compare op a b) h t =
      let places = each_parts SameAt (expr_places a) (expr_places b) h in
      rw (value_alike (R.at row) (S.at other) a places.0, value_alike (R.at row) (S.at other) b places.1) refl
  holds_alike (lasts n) h t = t.0

  truth_alike : (t : PlainTest) → Each SameAt (test_places t) → Each SameTimed (test_timed t) → truth R row t ≡ truth S other t
  truth_alike (authorisation f) h t = holds_alike f h t
  truth_alike (duty o) h t = t.0
  truth_alike (condition f) h t = holds_alike f h t

  abbrev AllAlike : List PlainPredicate → Type 0
  AllAlike ps = Each SameAt (flat_map (λ p. test_places p.test) ps) × Each SameTimed (flat_map (λ p. test_timed p.test) ps)

  one_alike : (p : PlainPredicate) (ps : List PlainPredicate) (b : Bool) (x y : Option Bytes) → AllAlike (cond b (p ∷ ps) ps)
      → (AllAlike ps → x ≡ y) → cond (b && not (truth R row p.test)) (Some p.label) x ≡ cond (b && not (truth S other p.test)) (Some p.label) y
  one_alike p ps true x y h rest =
      let places = each_parts SameAt (test_places p.test) (flat_map (λ p. test_places p.test) ps) h.0 in
      let timed = each_parts SameTimed (test_timed p.test) (flat_map (λ p. test_timed p.test) ps) h.1 in
      rw (truth_alike p.test places.0 timed.0, rest (places.1, timed.1)) refl
  one_alike p ps false x y h rest = rest h

  all_alike : (ps : List PlainPredicate) → AllAlike (filter ongoing ps) → first_false R row ongoing ps ≡ first_false S other ongoing ps
  all_alike [] h = refl
  all_alike (p ∷ ps) h =
      one_alike p (filter ongoing ps) (ongoing p) (first_false R row ongoing ps) (first_false S other ongoing ps) h (all_alike ps)

  -- the same at each place that a right reads and at each of its timed parts, so the same first label
  right_alike : (o : Option PlainRight) → Each SameAt (option_map_or places_read o []) → Each SameTimed (option_map_or right_timed o [])
      → option_map_or (λ r. first_false R row ongoing r.preds) o (Some no_right) ≡ option_map_or (λ r. first_false S other ongoing r.preds) o (Some no_right)
  right_alike None h t = refl
  right_alike (Some r) h t = all_alike r.preds (each-distinct SameAt (flat_map (λ p. test_places p.test) (filter ongoing r.preds)) h, t)

-- ---- sessions that read alike fail alike

pub alike_fails : (Q : PlainPolicy) (R : Readings) (row : SessionRow) (S : Readings) (other : SessionRow) → ReadAlike Q R row S other
    → failing_of Q R row ≡ failing_of Q S other
alike_fails Q R row S other h =
    right_alike R row S other (right_named Q.rights row.right) h.places h.timed
    ∙ ap (λ (name : Bytes). option_map_or (λ r. first_false S other ongoing r.preds) (right_named Q.rights name) (Some no_right)) h.right

-- the same by their numbers
pub alike_failing : (Q : PlainPolicy) (R : Readings) (n : ℕ) (row : SessionRow) (S : Readings) (m : ℕ) (other : SessionRow)
    → R.row n ≡ Some row → S.row m ≡ Some other → ReadAlike Q R row S other → failing Q R n ≡ failing Q S m
alike_failing Q R n row S m other is there h = rw (is, there) (alike_fails Q R row S other h)

-- without timed parts the places are enough
pub untimed_fails : (Q : PlainPolicy) (R : Readings) (row : SessionRow) (S : Readings) (other : SessionRow) → row.right ≡ other.right
    → HoldTheSame R row S other (places_of Q row) → timed_of Q row ≡ [] → failing_of Q R row ≡ failing_of Q S other
untimed_fails Q R row S other right places none =
    alike_fails Q R row S other (record {
      right = right;
      places = places;
      timed = subst (Each (λ part. timed_truth R row part ≡ timed_truth S other part)) (sym none) tt;
    })
