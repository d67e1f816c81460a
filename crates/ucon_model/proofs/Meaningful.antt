-- Under a well typed policy each predicate and each update of a session's right has a meaning.
use Rattle.std.proofs.Common.{◌≡◌, refl, inl, inr, ℕ, Bool, true, false}
use Rattle.std.specs.Prelude.{◌⊎◌, ◌&&◌, Option, Some, None, is_some, IsTrue, ⊤}
use Rattle.ucon_base.specs.declared.value.Side.TheVariants as sides
use Rattle.ucon_base.specs.declared.value.Value.{Value}
use Rattle.ucon_base.specs.declared.value.Value.TheVariants as values
use Rattle.ucon_model.specs.declared.formula.Op.{Op}
use Rattle.ucon_model.specs.declared.formula.Op.TheVariants.{Eq, Ne, Lt, Le, Gt, Ge, Member}
use Rattle.ucon_model.specs.declared.formula.Ref.{Ref}
use Rattle.ucon_model.specs.declared.formula.Sort.{Sort}
use Rattle.ucon_model.specs.declared.formula.Sort.TheVariants.{Integer, Text, Set}
use Rattle.ucon_model.specs.declared.session.SessionRow.{SessionRow}
use Rattle.ucon_model.specs.Plain.{PlainExpr, lit, read, plus, minus, times, size, PlainFormula, both, either, negation, compare, lasts, PlainTest, authorisation, duty, condition, PlainUpdate, PlainRight, PlainPolicy}
use Rattle.ucon_model.specs.Action.{Trace}
use Rattle.ucon_model.specs.Readings.{in_force, has_entity, session}
use Rattle.ucon_model.specs.Truth.{place_of, value_of, read_or_zero}
use Rattle.ucon_model.specs.Decision.{right_named}
use Rattle.ucon_model.specs.History.{History, AreCommands, trace}
use Rattle.ucon_base.specs.Elements.{Each, each_map}
use Rattle.ucon_model.specs.Places.{attr_place}
use Rattle.ucon_model.specs.Typing.{value_sort, is_of, are_of_one_sort, place_sort, expr_sort, takes, is_typed_formula, is_typed_test, is_typed_update, IsTyped}
use Rattle.ucon_model.specs.Meaning.{are_integers, adds, has_size, are_of_one_kind, is_text_and_set, may_compare, expr_means, formula_means, test_means}
use Rattle.ucon_model.specs.Sound.{IsGrounded}
use Rattle.ucon_model.proofs.Histories.{sound_after, typed_after, values_fit_after}
use Rattle.ucon_model.proofs.TypedParts.{typed_predicates, typed_updates}
use Rattle.ucon_model.proofs.SortsOfValues.{left_true, right_true, both_true, is_of_some, one_sort, sum_by, size_by, read_sort, places_fit, places_there, value_sorted}

-- ---- values of their sorts

ints : (v w : Value) → value_sort v ≡ Integer → value_sort w ≡ Integer → are_integers v w ≡ true
ints (values.Int a) (values.Int b) h k = refl
ints (values.Int a) (values.Text t) h k = absurd cc
ints (values.Int a) (values.Set t) h k = absurd cc
ints (values.Text t) w h k = absurd cc
ints (values.Set t) w h k = absurd cc

adds_ints : (u : Bool) (v w : Value) → value_sort v ≡ Integer → value_sort w ≡ Integer → adds u v w ≡ true
adds_ints true (values.Int a) (values.Int b) h k = refl
adds_ints false (values.Int a) (values.Int b) h k = refl
adds_ints u (values.Int a) (values.Text t) h k = absurd cc
adds_ints u (values.Int a) (values.Set t) h k = absurd cc
adds_ints u (values.Text t) w h k = absurd cc
adds_ints u (values.Set t) w h k = absurd cc

adds_text : (u : Bool) (v w : Value) → u ≡ true → value_sort v ≡ Set → value_sort w ≡ Text → adds u v w ≡ true
adds_text true (values.Set s) (values.Text t) here h k = refl
adds_text false (values.Set s) (values.Text t) here h k = absurd cc
adds_text u (values.Set s) (values.Int t) here h k = absurd cc
adds_text u (values.Set s) (values.Set t) here h k = absurd cc
adds_text u (values.Int t) w here h k = absurd cc
adds_text u (values.Text t) w here h k = absurd cc

sized : (v : Value) → value_sort v ≡ Set → has_size v ≡ true
sized (values.Set s) h = refl
sized (values.Int n) h = absurd cc
sized (values.Text t) h = absurd cc

of_one_kind : (v w : Value) (s : Sort) → value_sort v ≡ s → value_sort w ≡ s → are_of_one_kind v w ≡ true
of_one_kind (values.Int a) (values.Int b) s h k = refl
of_one_kind (values.Text a) (values.Text b) s h k = refl
of_one_kind (values.Set a) (values.Set b) s h k = refl
of_one_kind (values.Int a) (values.Text b) s h k = absurd cc
of_one_kind (values.Int a) (values.Set b) s h k = absurd cc
of_one_kind (values.Text a) (values.Int b) s h k = absurd cc
of_one_kind (values.Text a) (values.Set b) s h k = absurd cc
of_one_kind (values.Set a) (values.Int b) s h k = absurd cc
of_one_kind (values.Set a) (values.Text b) s h k = absurd cc

text_in_set : (v w : Value) → value_sort v ≡ Text → value_sort w ≡ Set → is_text_and_set v w ≡ true
text_in_set (values.Text t) (values.Set s) h k = refl
text_in_set (values.Text t) (values.Int n) h k = absurd cc
text_in_set (values.Text t) (values.Text u) h k = absurd cc
text_in_set (values.Int n) w h k = absurd cc
text_in_set (values.Set s) w h k = absurd cc

-- ---- what a session reads: each declared place is there, and holds a value of the declared sort

record Reads (P : PlainPolicy) (at : Ref → Option Value) : Type 0 where
  there : (place : Ref) (s : Sort) → place_sort P place ≡ Some s → is_some (at place) ≡ true
  sorted : (place : Ref) (s : Sort) → place_sort P place ≡ Some s → value_sort (read_or_zero (at place)) ≡ s

-- the sides of a sum
sum_means : (u : Bool) (k l : Option Sort) (v w : Value) (x y : Bool) → ((t : Sort) → k ≡ Some t → value_sort v ≡ t) → ((t : Sort) → l ≡ Some t → value_sort w ≡ t)
    → ((t : Sort) → k ≡ Some t → x ≡ true) → ((t : Sort) → l ≡ Some t → y ≡ true) → (s : Sort)
    → ((is_of Integer k && is_of Integer l ≡ true) × (s ≡ Integer)) ⊎ ((u && is_of Set k && is_of Text l ≡ true) × (s ≡ Set))
    → (x && y && adds u v w) ≡ true
sum_means u k l v w x y left right x_holds y_holds s (inl p) =
    let a = is_of_some Integer k (left_true (is_of Integer k) (is_of Integer l) p.0) in
    let b = is_of_some Integer l (right_true (is_of Integer k) (is_of Integer l) p.0) in
    both_true (x && y) (adds u v w) (both_true x y (x_holds Integer a) (y_holds Integer b)) (adds_ints u v w (left Integer a) (right Integer b))
sum_means u k l v w x y left right x_holds y_holds s (inr p) =
    let front = left_true (u && is_of Set k) (is_of Text l) p.0 in
    let a = is_of_some Set k (right_true u (is_of Set k) front) in
    let b = is_of_some Text l (right_true (u && is_of Set k) (is_of Text l) p.0) in
    both_true (x && y) (adds u v w) (both_true x y (x_holds Set a) (y_holds Text b))
    (adds_text u v w (left_true u (is_of Set k) front) (left Set a) (right Text b))

expr_has_meaning : (P : PlainPolicy) (at : Ref → Option Value) → Reads P at → (u : Bool) (e : PlainExpr) (s : Sort) → expr_sort P u e ≡ Some s → expr_means u at e ≡ true
expr_has_meaning P at reads u (lit v) s h = refl
expr_has_meaning P at reads u (read place) s h = reads.there place s h
expr_has_meaning P at reads u (plus a b) s h =
    let k = expr_sort P u a in
    let l = expr_sort P u b in
    sum_means u k l (value_of at a) (value_of at b) (expr_means u at a) (expr_means u at b) (value_sorted P at reads.sorted u a) (value_sorted P at reads.sorted u b)
    (expr_has_meaning P at reads u a) (expr_has_meaning P at reads u b) s (sum_by (is_of Integer k && is_of Integer l) (u && is_of Set k && is_of Text l) s h)
expr_has_meaning P at reads u (minus a b) s h =
    let k = expr_sort P u a in
    let l = expr_sort P u b in
    sum_means u k l (value_of at a) (value_of at b) (expr_means u at a) (expr_means u at b) (value_sorted P at reads.sorted u a) (value_sorted P at reads.sorted u b)
    (expr_has_meaning P at reads u a) (expr_has_meaning P at reads u b) s (sum_by (is_of Integer k && is_of Integer l) (u && is_of Set k && is_of Text l) s h)
expr_has_meaning P at reads u (times a b) s h =
    let k = expr_sort P u a in
    let l = expr_sort P u b in
    let p = size_by (is_of Integer k && is_of Integer l) s h in
    let left = is_of_some Integer k (left_true (is_of Integer k) (is_of Integer l) p.0) in
    let right = is_of_some Integer l (right_true (is_of Integer k) (is_of Integer l) p.0) in
    both_true (expr_means u at a && expr_means u at b) (are_integers (value_of at a) (value_of at b))
    (both_true (expr_means u at a) (expr_means u at b) (expr_has_meaning P at reads u a Integer left) (expr_has_meaning P at reads u b Integer right))
    (ints (value_of at a) (value_of at b) (value_sorted P at reads.sorted u a Integer left) (value_sorted P at reads.sorted u b Integer right))
expr_has_meaning P at reads u (size a) s h =
    let p = size_by (is_of Set (expr_sort P u a)) s h in
    let of = is_of_some Set (expr_sort P u a) p.0 in
    both_true (expr_means u at a) (has_size (value_of at a)) (expr_has_meaning P at reads u a Set of) (sized (value_of at a) (value_sorted P at reads.sorted u a Set of))

-- two expressions of these sorts, whose values may be compared
compare_means : (P : PlainPolicy) (at : Ref → Option Value) → Reads P at → (a b : PlainExpr) (s t : Sort) (may : Bool) → expr_sort P false a ≡ Some s
    → expr_sort P false b ≡ Some t → (value_sort (value_of at a) ≡ s → value_sort (value_of at b) ≡ t → may ≡ true)
    → (expr_means false at a && expr_means false at b && may) ≡ true
compare_means P at reads a b s t may left right then =
    both_true (expr_means false at a && expr_means false at b) may
    (both_true (expr_means false at a) (expr_means false at b) (expr_has_meaning P at reads false a s left) (expr_has_meaning P at reads false b t right))
    (then (value_sorted P at reads.sorted false a s left) (value_sorted P at reads.sorted false b t right))

same_sorts_mean : (P : PlainPolicy) (at : Ref → Option Value) → Reads P at → (a b : PlainExpr) → are_of_one_sort (expr_sort P false a) (expr_sort P false b) ≡ true
    → (expr_means false at a && expr_means false at b && are_of_one_kind (value_of at a) (value_of at b)) ≡ true
same_sorts_mean P at reads a b h =
    let p = one_sort (expr_sort P false a) (expr_sort P false b) h in
    compare_means P at reads a b p.0 p.0 (are_of_one_kind (value_of at a) (value_of at b)) p.1.0 p.1.1 (of_one_kind (value_of at a) (value_of at b) p.0)

integers_mean : (P : PlainPolicy) (at : Ref → Option Value) → Reads P at → (a b : PlainExpr)
    → (is_of Integer (expr_sort P false a) && is_of Integer (expr_sort P false b)) ≡ true
    → (expr_means false at a && expr_means false at b && are_integers (value_of at a) (value_of at b)) ≡ true
integers_mean P at reads a b h =
    let k = expr_sort P false a in
    let l = expr_sort P false b in
    compare_means P at reads a b Integer Integer (are_integers (value_of at a) (value_of at b)) (is_of_some Integer k (left_true (is_of Integer k) (is_of Integer l) h))
    (is_of_some Integer l (right_true (is_of Integer k) (is_of Integer l) h)) (ints (value_of at a) (value_of at b))

member_means : (P : PlainPolicy) (at : Ref → Option Value) → Reads P at → (a b : PlainExpr)
    → (is_of Text (expr_sort P false a) && is_of Set (expr_sort P false b)) ≡ true
    → (expr_means false at a && expr_means false at b && is_text_and_set (value_of at a) (value_of at b)) ≡ true
member_means P at reads a b h =
    let k = expr_sort P false a in
    let l = expr_sort P false b in
    compare_means P at reads a b Text Set (is_text_and_set (value_of at a) (value_of at b)) (is_of_some Text k (left_true (is_of Text k) (is_of Set l) h))
    (is_of_some Set l (right_true (is_of Text k) (is_of Set l) h)) (text_in_set (value_of at a) (value_of at b))

comparison_means : (P : PlainPolicy) (at : Ref → Option Value) → Reads P at → (op : Op) (a b : PlainExpr) → takes op (expr_sort P false a) (expr_sort P false b) ≡ true
    → (expr_means false at a && expr_means false at b && may_compare op (value_of at a) (value_of at b)) ≡ true
comparison_means P at reads Eq a b h = same_sorts_mean P at reads a b h
comparison_means P at reads Ne a b h = same_sorts_mean P at reads a b h
comparison_means P at reads Lt a b h = integers_mean P at reads a b h
comparison_means P at reads Le a b h = integers_mean P at reads a b h
comparison_means P at reads Gt a b h = integers_mean P at reads a b h
comparison_means P at reads Ge a b h = integers_mean P at reads a b h
comparison_means P at reads Member a b h = member_means P at reads a b h

formula_has_meaning : (P : PlainPolicy) (at : Ref → Option Value) → Reads P at → (f : PlainFormula) → is_typed_formula P f ≡ true → formula_means at f ≡ true
formula_has_meaning P at reads (both f g) h =
    both_true (formula_means at f) (formula_means at g)
    (formula_has_meaning P at reads f (left_true (is_typed_formula P f) (is_typed_formula P g) h))
    (formula_has_meaning P at reads g (right_true (is_typed_formula P f) (is_typed_formula P g) h))
formula_has_meaning P at reads (either f g) h =
    both_true (formula_means at f) (formula_means at g)
    (formula_has_meaning P at reads f (left_true (is_typed_formula P f) (is_typed_formula P g) h))
    (formula_has_meaning P at reads g (right_true (is_typed_formula P f) (is_typed_formula P g) h))
formula_has_meaning P at reads (negation f) h = formula_has_meaning P at reads f h
formula_has_meaning P at reads (compare op a b) h = comparison_means P at reads op a b h
formula_has_meaning P at reads (lasts n) h = refl

test_has_meaning : (P : PlainPolicy) (at : Ref → Option Value) → Reads P at → (t : PlainTest) → is_typed_test P t ≡ true → test_means at t ≡ true
test_has_meaning P at reads (authorisation f) h = formula_has_meaning P at reads f h
test_has_meaning P at reads (duty o) h = refl
test_has_meaning P at reads (condition f) h = formula_has_meaning P at reads f h

update_has_meaning : (P : PlainPolicy) (at : Ref → Option Value) → Reads P at → (u : PlainUpdate) → is_typed_update P u ≡ true → expr_means true at u.value ≡ true
update_has_meaning P at reads u h =
    let p = one_sort (place_sort P (attr_place u.side u.attr)) (expr_sort P true u.value) h in
    expr_has_meaning P at reads true u.value p.0 p.1.1

-- ---- after a history

entities_of : (T : Trace) (o : Option SessionRow) (row : SessionRow) → IsGrounded T o → o ≡ Some row
    → IsTrue (has_entity sides.Subject row.subject T) × IsTrue (has_entity sides.Object row.object T)
entities_of T None row h is = absurd cc
entities_of T (Some r) row h is = let same : r ≡ row = cc in rw (← same) h

reads_of : (P : PlainPolicy) → IsTyped P → (H : History) → AreCommands H → (n : ℕ) (row : SessionRow) → session (trace P H) n ≡ Some row
    → Reads (in_force P (trace P H)) (place_of P (trace P H) row)
reads_of P typed H commands n row is =
    let T = trace P H in
    let there = entities_of T (session T n) row ((sound_after ⊤ P H (λ sure. typed) (λ sure. commands)).grounded n) is in
    record {
      there = places_there P T row there.0 there.1;
      sorted = λ place s declared. read_sort (place_of P T row place) s (places_there P T row there.0 there.1 place s declared)
          (λ v holds. places_fit P T (values_fit_after P typed H commands) row place s v declared holds);
    }

pub predicates_mean : (P : PlainPolicy) → IsTyped P → (H : History) → AreCommands H → (n : ℕ) (row : SessionRow) (r : PlainRight) → session (trace P H) n ≡ Some row
    → right_named (in_force P (trace P H)).rights row.right ≡ Some r → Each (λ p. test_means (place_of P (trace P H) row) p.test ≡ true) r.preds
predicates_mean P typed H commands n row r is named =
    let Q : PlainPolicy = in_force P (trace P H) in
    each_map (λ p. is_typed_test Q p.test ≡ true) (λ p. test_means (place_of P (trace P H) row) p.test ≡ true)
    (λ p h. test_has_meaning Q (place_of P (trace P H) row) (reads_of P typed H commands n row is) p.test h) r.preds
    (typed_predicates Q (typed_after P typed H commands) row.right r named)

pub updates_mean : (P : PlainPolicy) → IsTyped P → (H : History) → AreCommands H → (n : ℕ) (row : SessionRow) (r : PlainRight) → session (trace P H) n ≡ Some row
    → right_named (in_force P (trace P H)).rights row.right ≡ Some r → Each (λ u. expr_means true (place_of P (trace P H) row) u.value ≡ true) r.updates
updates_mean P typed H commands n row r is named =
    let Q : PlainPolicy = in_force P (trace P H) in
    each_map (λ u. is_typed_update Q u ≡ true) (λ u. expr_means true (place_of P (trace P H) row) u.value ≡ true)
    (λ u h. update_has_meaning Q (place_of P (trace P H) row) (reads_of P typed H commands n row is) u h) r.updates
    (typed_updates Q (typed_after P typed H commands) row.right r named)
