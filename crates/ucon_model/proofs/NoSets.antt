-- The tests of a well typed policy make no set.
use Rattle.std.proofs.Common.{◌≡◌, sym, refl, ap, subst, ℕ, zero, suc, Bool, true, false, cond, List, [], ◌∷◌}
use Rattle.std.specs.Prelude.{pos, ◌&&◌, not, Option, Some, None, option_and_then, slice_get}
use Rattle.std.specs.Option.{option_map_or}
use Rattle.ucon_base.specs.declared.value.Value.{Value}
use Rattle.ucon_base.specs.declared.value.Value.TheVariants as values
use Rattle.ucon_base.specs.Arithmetic.{sum_of, difference_of, product_of, size_of}
use Rattle.ucon_model.specs.declared.formula.Op.{Op}
use Rattle.ucon_model.specs.declared.formula.Op.TheVariants.{Eq, Ne, Lt, Le, Gt, Ge, Member}
use Rattle.ucon_model.specs.declared.formula.Ref.{Ref}
use Rattle.ucon_model.specs.declared.formula.Sort.{Sort}
use Rattle.ucon_model.specs.declared.formula.Sort.TheVariants.{Integer, Text, Set}
use Rattle.ucon_model.specs.declared.session.SessionRow.{SessionRow}
use Rattle.ucon_model.specs.Plain.{Bytes, PlainExpr, lit, read, plus, minus, times, size, PlainFormula, both, either, negation, compare, lasts, PlainTest, authorisation, duty, condition, PlainPredicate, PlainRight, PlainPolicy}
use Rattle.ucon_model.specs.Action.{Trace}
use Rattle.ucon_model.specs.Readings.{in_force}
use Rattle.ucon_model.specs.Truth.{Readings, readings, place_of, value_of, read_or_zero}
use Rattle.ucon_model.specs.Decision.{right_named}
use Rattle.ucon_base.specs.Elements.{Each}
use Rattle.ucon_model.specs.History.{Agree}
use Rattle.ucon_model.specs.Fitting.{ValuesFit, PlacesFit}
use Rattle.ucon_model.specs.Typing.{value_sort, same_sort, is_of, are_of_one_sort, expr_sort, takes, is_typed_formula, is_typed_test, IsTyped}
use Rattle.ucon_model.specs.Sums.{is_set_and_text, makes_no_set, formula_makes_no_set, test_makes_no_set, preds_make_no_set, tests_make_no_set}
use Rattle.ucon_model.specs.Asked.{makes_no_set_at}
use Rattle.ucon_model.proofs.AgreeingViews.{agree_is_one}

-- ---- tests that hold

left_true : (a b : Bool) → (a && b) ≡ true → a ≡ true
left_true true b h = refl
left_true false b h = h

right_true : (a b : Bool) → (a && b) ≡ true → b ≡ true
right_true true b h = h
right_true false b h = absurd cc

both_true : (a b : Bool) → a ≡ true → b ≡ true → (a && b) ≡ true
both_true a b h k = rw (h, k) refl

same_sort_is : (s t : Sort) → same_sort s t ≡ true → s ≡ t
same_sort_is Integer Integer h = refl
same_sort_is Text Text h = refl
same_sort_is Set Set h = refl
same_sort_is Integer Text h = absurd cc
same_sort_is Integer Set h = absurd cc
same_sort_is Text Integer h = absurd cc
same_sort_is Text Set h = absurd cc
same_sort_is Set Integer h = absurd cc
same_sort_is Set Text h = absurd cc

is_of_some : (s : Sort) (k : Option Sort) → is_of s k ≡ true → k ≡ Some s
is_of_some s None h = absurd cc
is_of_some s (Some t) h = ap Some (sym (same_sort_is s t h))

-- an expression that has some sort
IsSorted : Option Sort → Type 0
IsSorted k = (s : Sort) × (k ≡ Some s)

-- ---- what a value may be, where a place may also be missing and read as 0

abbrev may_be : Sort → Value → Bool
may_be Integer (values.Int n) = true
may_be Integer v = false
may_be Set (values.Text t) = false
may_be Set v = true
may_be Text v = true

own_sort : (v : Value) → may_be (value_sort v) v ≡ true
own_sort (values.Int n) = refl
own_sort (values.Text t) = refl
own_sort (values.Set s) = refl

zero_may_be : (s : Sort) → may_be s (values.Int (pos 0)) ≡ true
zero_may_be Integer = refl
zero_may_be Text = refl
zero_may_be Set = refl

of_sort : (v : Value) (s : Sort) → value_sort v ≡ s → may_be s v ≡ true
of_sort v s is = rw (← is) (own_sort v)

read_may_be : (o : Option Value) (s : Sort) → ((v : Value) → o ≡ Some v → value_sort v ≡ s) → may_be s (read_or_zero o) ≡ true
read_may_be None s each = zero_may_be s
read_may_be (Some v) s each = of_sort v s (each v refl)

ints_sum : (v w : Value) → may_be Integer v ≡ true → may_be Integer w ≡ true → may_be Integer (sum_of v w) ≡ true
ints_sum (values.Int a) (values.Int b) h k = refl
ints_sum (values.Int a) (values.Text t) h k = absurd cc
ints_sum (values.Int a) (values.Set t) h k = absurd cc
ints_sum (values.Text t) w h k = absurd cc
ints_sum (values.Set t) w h k = absurd cc

ints_difference : (v w : Value) → may_be Integer v ≡ true → may_be Integer w ≡ true → may_be Integer (difference_of v w) ≡ true
ints_difference (values.Int a) (values.Int b) h k = refl
ints_difference (values.Int a) (values.Text t) h k = absurd cc
ints_difference (values.Int a) (values.Set t) h k = absurd cc
ints_difference (values.Text t) w h k = absurd cc
ints_difference (values.Set t) w h k = absurd cc

ints_product : (v w : Value) → may_be Integer v ≡ true → may_be Integer w ≡ true → may_be Integer (product_of v w) ≡ true
ints_product (values.Int a) (values.Int b) h k = refl
ints_product (values.Int a) (values.Text t) h k = absurd cc
ints_product (values.Int a) (values.Set t) h k = absurd cc
ints_product (values.Text t) w h k = absurd cc
ints_product (values.Set t) w h k = absurd cc

size_may_be : (v : Value) → may_be Set v ≡ true → may_be Integer (size_of v) ≡ true
size_may_be (values.Int n) h = refl
size_may_be (values.Set s) h = refl
size_may_be (values.Text t) h = absurd cc

no_set_here : (v w : Value) → may_be Integer v ≡ true → not (is_set_and_text v w) ≡ true
no_set_here (values.Int n) w h = refl
no_set_here (values.Text t) w h = absurd cc
no_set_here (values.Set s) w h = absurd cc

-- ---- sorts of what is put together, outside updates

chosen : (b : Bool) (s : Sort) → cond b (Some Integer) None ≡ Some s → (b ≡ true) × (s ≡ Integer)
chosen true s h = (refl, cc)
chosen false s h = absurd cc

-- both sides are integers, and so is the whole
record AreIntegers (k l : Option Sort) (s : Sort) : Type 0 where
  left : k ≡ Some Integer
  right : l ≡ Some Integer
  whole : s ≡ Integer

ints_of : (k l : Option Sort) (s : Sort) → cond (is_of Integer k && is_of Integer l) (Some Integer) None ≡ Some s → AreIntegers k l s
ints_of k l s h =
    let p = chosen (is_of Integer k && is_of Integer l) s h in
    record {
      left = is_of_some Integer k (left_true (is_of Integer k) (is_of Integer l) p.0);
      right = is_of_some Integer l (right_true (is_of Integer k) (is_of Integer l) p.0);
      whole = p.1;
    }

value_may_be : (P : PlainPolicy) (at : Ref → Option Value) → PlacesFit P at → (e : PlainExpr) (s : Sort) → expr_sort P false e ≡ Some s
    → may_be s (value_of at e) ≡ true
value_may_be P at fits (lit v) s h = of_sort v s cc
value_may_be P at fits (read place) s h = read_may_be (at place) s (λ v is. fits place s v h is)
value_may_be P at fits (plus a b) s h =
    let i = ints_of (expr_sort P false a) (expr_sort P false b) s h in
    rw i.whole (ints_sum (value_of at a) (value_of at b) (value_may_be P at fits a Integer i.left) (value_may_be P at fits b Integer i.right))
value_may_be P at fits (minus a b) s h =
    let i = ints_of (expr_sort P false a) (expr_sort P false b) s h in
    rw i.whole (ints_difference (value_of at a) (value_of at b) (value_may_be P at fits a Integer i.left) (value_may_be P at fits b Integer i.right))
value_may_be P at fits (times a b) s h =
    let i = ints_of (expr_sort P false a) (expr_sort P false b) s h in
    rw i.whole (ints_product (value_of at a) (value_of at b) (value_may_be P at fits a Integer i.left) (value_may_be P at fits b Integer i.right))
value_may_be P at fits (size a) s h =
    let p = chosen (is_of Set (expr_sort P false a)) s h in
    rw p.1 (size_may_be (value_of at a) (value_may_be P at fits a Set (is_of_some Set (expr_sort P false a) p.0)))

-- ---- expressions, formulas and tests

expr_without : (P : PlainPolicy) (at : Ref → Option Value) → PlacesFit P at → (e : PlainExpr) (s : Sort) → expr_sort P false e ≡ Some s → makes_no_set at e ≡ true
expr_without P at fits (lit v) s h = refl
expr_without P at fits (read place) s h = refl
expr_without P at fits (plus a b) s h =
    let i = ints_of (expr_sort P false a) (expr_sort P false b) s h in
    both_true (makes_no_set at a && makes_no_set at b) (not (is_set_and_text (value_of at a) (value_of at b)))
    (both_true (makes_no_set at a) (makes_no_set at b) (expr_without P at fits a Integer i.left) (expr_without P at fits b Integer i.right))
    (no_set_here (value_of at a) (value_of at b) (value_may_be P at fits a Integer i.left))
expr_without P at fits (minus a b) s h =
    let i = ints_of (expr_sort P false a) (expr_sort P false b) s h in
    both_true (makes_no_set at a && makes_no_set at b) (not (is_set_and_text (value_of at a) (value_of at b)))
    (both_true (makes_no_set at a) (makes_no_set at b) (expr_without P at fits a Integer i.left) (expr_without P at fits b Integer i.right))
    (no_set_here (value_of at a) (value_of at b) (value_may_be P at fits a Integer i.left))
expr_without P at fits (times a b) s h =
    let i = ints_of (expr_sort P false a) (expr_sort P false b) s h in
    both_true (makes_no_set at a) (makes_no_set at b) (expr_without P at fits a Integer i.left) (expr_without P at fits b Integer i.right)
expr_without P at fits (size a) s h =
    let p = chosen (is_of Set (expr_sort P false a)) s h in
    expr_without P at fits a Set (is_of_some Set (expr_sort P false a) p.0)

by_two : (s t : Sort) (k l : Option Sort) → (is_of s k && is_of t l) ≡ true → IsSorted k × IsSorted l
unfolding IsSorted
by_two s t k l h =
    ((s, is_of_some s k (left_true (is_of s k) (is_of t l) h)), (t, is_of_some t l (right_true (is_of s k) (is_of t l) h)))

by_one : (k l : Option Sort) → are_of_one_sort k l ≡ true → IsSorted k × IsSorted l
unfolding IsSorted
by_one None l h = absurd cc
by_one (Some s) l h = ((s, refl), (s, is_of_some s l h))

-- both sides of a comparison that is typed have a sort
sides_sorted : (op : Op) (k l : Option Sort) → takes op k l ≡ true → IsSorted k × IsSorted l
sides_sorted Eq k l h = by_one k l h
sides_sorted Ne k l h = by_one k l h
sides_sorted Lt k l h = by_two Integer Integer k l h
sides_sorted Le k l h = by_two Integer Integer k l h
sides_sorted Gt k l h = by_two Integer Integer k l h
sides_sorted Ge k l h = by_two Integer Integer k l h
sides_sorted Member k l h = by_two Text Set k l h

sorted_without : (P : PlainPolicy) (at : Ref → Option Value) → PlacesFit P at → (e : PlainExpr) → IsSorted (expr_sort P false e) → makes_no_set at e ≡ true
unfolding IsSorted
sorted_without P at fits e h = expr_without P at fits e h.0 h.1

formula_without : (P : PlainPolicy) (at : Ref → Option Value) → PlacesFit P at → (f : PlainFormula) → is_typed_formula P f ≡ true → formula_makes_no_set at f ≡ true
formula_without P at fits (both f g) h =
    both_true (formula_makes_no_set at f) (formula_makes_no_set at g)
    (formula_without P at fits f (left_true (is_typed_formula P f) (is_typed_formula P g) h))
    (formula_without P at fits g (right_true (is_typed_formula P f) (is_typed_formula P g) h))
formula_without P at fits (either f g) h =
    both_true (formula_makes_no_set at f) (formula_makes_no_set at g)
    (formula_without P at fits f (left_true (is_typed_formula P f) (is_typed_formula P g) h))
    (formula_without P at fits g (right_true (is_typed_formula P f) (is_typed_formula P g) h))
formula_without P at fits (negation f) h = formula_without P at fits f h
formula_without P at fits (compare op a b) h =
    let p = sides_sorted op (expr_sort P false a) (expr_sort P false b) h in
    both_true (makes_no_set at a) (makes_no_set at b) (sorted_without P at fits a p.0) (sorted_without P at fits b p.1)
formula_without P at fits (lasts n) h = refl

test_without : (P : PlainPolicy) (at : Ref → Option Value) → PlacesFit P at → (t : PlainTest) → is_typed_test P t ≡ true → test_makes_no_set at t ≡ true
test_without P at fits (authorisation f) h = formula_without P at fits f h
test_without P at fits (duty o) h = refl
test_without P at fits (condition f) h = formula_without P at fits f h

preds_without : (P : PlainPolicy) (R : Readings) (row : SessionRow) → PlacesFit P (R.at row) → (preds : List PlainPredicate)
    → Each (λ p. is_typed_test P p.test ≡ true) preds → preds_make_no_set R row preds ≡ true
preds_without P R row fits [] h = refl
preds_without P R row fits (p ∷ ps) h =
    both_true (test_makes_no_set (R.at row) p.test) (preds_make_no_set R row ps) (test_without P (R.at row) fits p.test h.0) (preds_without P R row fits ps h.1)

-- ---- what two laws of typing give

-- each declared place holds a value of the declared sort
abbrev pub PlacesHold : Type 0
PlacesHold = (P : PlainPolicy) (T : Trace) → ValuesFit P T → (row : SessionRow) → PlacesFit (in_force P T) (place_of P T row)

-- each test is typed
abbrev pub TestsTyped : Type 0
TestsTyped = (P : PlainPolicy) → IsTyped P → (name : Bytes) (r : PlainRight) → right_named P.rights name ≡ Some r → Each (λ p. is_typed_test P p.test ≡ true) r.preds

of_right : (test : PlainRight → Bool) (o : Option PlainRight) → ((r : PlainRight) → o ≡ Some r → test r ≡ true) → option_map_or test o true ≡ true
of_right test None each = refl
of_right test (Some r) each = each r refl

of_row : (test : SessionRow → Bool) (o : Option SessionRow) → ((row : SessionRow) → test row ≡ true) → option_map_or test o true ≡ true
of_row test None each = refl
of_row test (Some row) each = each row

tests_of_trace : PlacesHold → TestsTyped → (P : PlainPolicy) (T : Trace) → IsTyped (in_force P T) → ValuesFit P T → (n : ℕ) → tests_make_no_set (in_force P T) (readings P T) n ≡ true
tests_of_trace hold typed_tests P T typed fit n =
    of_row _ ((readings P T).row n)
    (λ row. of_right (λ right. preds_make_no_set (readings P T) row right.preds) (right_named (in_force P T).rights row.right)
    (λ r is. preds_without (in_force P T) (readings P T) row (hold P T fit row) r.preds (typed_tests (in_force P T) typed row.right r is)))

-- ---- one predicate by its place

each_at : (Q : PlainPredicate → Bool) (ps : List PlainPredicate) (i : ℕ) → Each (λ p. Q p ≡ true) ps → option_map_or Q (slice_get ps i) true ≡ true
each_at Q [] i h = refl
each_at Q (p ∷ ps) zero h = h.0
each_at Q (p ∷ ps) (suc i) h = each_at Q ps i h.1

each_without : (P : PlainPolicy) (at : Ref → Option Value) → PlacesFit P at → (ps : List PlainPredicate) → Each (λ p. is_typed_test P p.test ≡ true) ps
    → Each (λ p. test_makes_no_set at p.test ≡ true) ps
each_without P at fits [] h = tt
each_without P at fits (p ∷ ps) h = (test_without P at fits p.test h.0, each_without P at fits ps h.1)

at_right : (Q : PlainPredicate → Bool) (o : Option PlainRight) (i : ℕ) → ((r : PlainRight) → o ≡ Some r → Each (λ p. Q p ≡ true) r.preds)
    → option_map_or Q (option_and_then (λ (right : PlainRight). slice_get right.preds i) o) true ≡ true
at_right Q None i each = refl
at_right Q (Some r) i each = each_at Q r.preds i (each r refl)

test_of_trace : PlacesHold → TestsTyped → (P : PlainPolicy) (T : Trace) → IsTyped (in_force P T) → ValuesFit P T → (n i : ℕ) → makes_no_set_at (in_force P T) (readings P T) n i ≡ true
test_of_trace hold typed_tests P T typed fit n i =
    of_row _ ((readings P T).row n)
    (λ row. at_right (λ p. test_makes_no_set ((readings P T).at row) p.test) (right_named (in_force P T).rights row.right) i
    (λ r is. each_without (in_force P T) ((readings P T).at row) (hold P T fit row) r.preds (typed_tests (in_force P T) typed row.right r is)))

-- ---- over readings that agree with a trace's

pub tests_make_none : PlacesHold → TestsTyped → (P : PlainPolicy) (T : Trace) (R : Readings) → IsTyped (in_force P T) → ValuesFit P T → Agree R (readings P T) → (n : ℕ)
    → tests_make_no_set (in_force P T) R n ≡ true
tests_make_none hold typed_tests P T R typed fit agree n =
    subst (λ (S : Readings). tests_make_no_set (in_force P T) S n ≡ true) (sym (agree_is_one R (readings P T) agree)) (tests_of_trace hold typed_tests P T typed fit n)

pub test_makes_none : PlacesHold → TestsTyped → (P : PlainPolicy) (T : Trace) (R : Readings) → IsTyped (in_force P T) → ValuesFit P T → Agree R (readings P T) → (n i : ℕ)
    → makes_no_set_at (in_force P T) R n i ≡ true
test_makes_none hold typed_tests P T R typed fit agree n i =
    subst (λ (S : Readings). makes_no_set_at (in_force P T) S n i ≡ true) (sym (agree_is_one R (readings P T) agree)) (test_of_trace hold typed_tests P T typed fit n i)
