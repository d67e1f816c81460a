-- Where two ways to read agree on the places of a formula, they give it the same truth.
use Rattle.std.proofs.Common.{◌≡◌, ◌∙◌, Bool, true, false, List, ◌++◌, refl, ap}
use Rattle.std.specs.Prelude.{◌||◌, not, Option}
use Rattle.std.specs.List.{list_any}
use Rattle.std.proofs.lemmas.List.Folds.{list_any-append}
use Rattle.ucon_base.specs.declared.value.Value.{Value}
use Rattle.ucon_model.specs.declared.formula.Ref.{Ref}
use Rattle.ucon_model.specs.declared.session.SessionRow.{SessionRow}
use Rattle.ucon_model.specs.Places.{expr_places, formula_places, same_place}
use Rattle.ucon_model.specs.Plain.{PlainExpr, lit, read, plus, minus, times, size, PlainFormula, both, either, negation, compare, lasts}
use Rattle.ucon_model.specs.Truth.{Readings, holds, read_or_zero, value_of}
use Rattle.ucon_model.specs.Sums.{formula_makes_no_set, makes_no_set}
use Rattle.ucon_accept.specs.Facts.{asks_tick}
use Rattle.ucon_accept.proofs.Same.{place_self}

-- they agree on these places
abbrev pub AgreeOn : (Ref → Option Value) → (Ref → Option Value) → List Ref → Type 0
AgreeOn at other places = (p : Ref) → list_any (same_place p) places ≡ true → read_or_zero (at p) ≡ read_or_zero (other p)

or_left : (a b : Bool) → a ≡ true → (a || b) ≡ true
or_left true b h = refl
or_left false b h = absurd cc

or_right : (a b : Bool) → b ≡ true → (a || b) ≡ true
or_right true b h = refl
or_right false b h = h

pub on_left : (at other : Ref → Option Value) (xs ys : List Ref) → AgreeOn at other (xs ++ ys) → AgreeOn at other xs
on_left at other xs ys agree p there = agree p (list_any-append (same_place p) xs ys ∙ or_left (list_any (same_place p) xs) (list_any (same_place p) ys) there)

pub on_right : (at other : Ref → Option Value) (xs ys : List Ref) → AgreeOn at other (xs ++ ys) → AgreeOn at other ys
on_right at other xs ys agree p there = agree p (list_any-append (same_place p) xs ys ∙ or_right (list_any (same_place p) xs) (list_any (same_place p) ys) there)

-- ---- expressions

pub values_agree : (at other : Ref → Option Value) (e : PlainExpr) → AgreeOn at other (expr_places e) → value_of at e ≡ value_of other e
values_agree at other (lit v) agree = refl
values_agree at other (read p) agree = agree p (or_left (same_place p p) false (place_self p))
values_agree at other (plus a b) agree =
    let left = values_agree at other a (on_left at other (expr_places a) (expr_places b) agree) in
    let right = values_agree at other b (on_right at other (expr_places a) (expr_places b) agree) in
    rw (left, right) refl
values_agree at other (minus a b) agree =
    let left = values_agree at other a (on_left at other (expr_places a) (expr_places b) agree) in
    let right = values_agree at other b (on_right at other (expr_places a) (expr_places b) agree) in
    rw (left, right) refl
values_agree at other (times a b) agree =
    let left = values_agree at other a (on_left at other (expr_places a) (expr_places b) agree) in
    let right = values_agree at other b (on_right at other (expr_places a) (expr_places b) agree) in
    rw (left, right) refl
values_agree at other (size a) agree = rw (values_agree at other a agree) refl

-- they agree on whether an expression makes a set
pub sets_agree : (at other : Ref → Option Value) (e : PlainExpr) → AgreeOn at other (expr_places e) → makes_no_set at e ≡ makes_no_set other e
sets_agree at other (lit v) agree = refl
sets_agree at other (read p) agree = refl
sets_agree at other (plus a b) agree =
    let of_a = on_left at other (expr_places a) (expr_places b) agree in
    let of_b = on_right at other (expr_places a) (expr_places b) agree in
    rw (sets_agree at other a of_a, sets_agree at other b of_b, values_agree at other a of_a, values_agree at other b of_b) refl
sets_agree at other (minus a b) agree =
    let of_a = on_left at other (expr_places a) (expr_places b) agree in
    let of_b = on_right at other (expr_places a) (expr_places b) agree in
    rw (sets_agree at other a of_a, sets_agree at other b of_b, values_agree at other a of_a, values_agree at other b of_b) refl
sets_agree at other (times a b) agree =
    let of_a = on_left at other (expr_places a) (expr_places b) agree in
    let of_b = on_right at other (expr_places a) (expr_places b) agree in
    rw (sets_agree at other a of_a, sets_agree at other b of_b) refl
sets_agree at other (size a) agree = sets_agree at other a agree

-- ---- formulas

pub formula_sets_agree : (at other : Ref → Option Value) (f : PlainFormula) → AgreeOn at other (formula_places f)
    → formula_makes_no_set at f ≡ formula_makes_no_set other f
formula_sets_agree at other (both f g) agree =
    rw (
      formula_sets_agree at other f (on_left at other (formula_places f) (formula_places g) agree),
      formula_sets_agree at other g (on_right at other (formula_places f) (formula_places g) agree),
    ) refl
formula_sets_agree at other (either f g) agree =
    rw (
      formula_sets_agree at other f (on_left at other (formula_places f) (formula_places g) agree),
      formula_sets_agree at other g (on_right at other (formula_places f) (formula_places g) agree),
    ) refl
formula_sets_agree at other (negation f) agree = formula_sets_agree at other f agree
formula_sets_agree at other (compare op a b) agree =
    rw (
      sets_agree at other a (on_left at other (expr_places a) (expr_places b) agree),
      sets_agree at other b (on_right at other (expr_places a) (expr_places b) agree),
    ) refl
formula_sets_agree at other (lasts n) agree = refl

-- where the start is the same, and the tick if the formula asks for it, so is the truth
pub truths_agree : (R : Readings) (row : SessionRow) (S : Readings) (other : SessionRow) (f : PlainFormula) → AgreeOn (R.at row) (S.at other) (formula_places f)
    → row.start ≡ other.start → (asks_tick f ≡ true → R.now ≡ S.now) → holds R row f ≡ holds S other f
truths_agree R row S other (both f g) agree start now =
    rw (
      truths_agree R row S other f (on_left (R.at row) (S.at other) (formula_places f) (formula_places g) agree) start (λ h. now (or_left (asks_tick f) (asks_tick g) h)),
      truths_agree R row S other g (on_right (R.at row) (S.at other) (formula_places f) (formula_places g) agree) start (λ h. now (or_right (asks_tick f) (asks_tick g) h)),
    ) refl
truths_agree R row S other (either f g) agree start now =
    rw (
      truths_agree R row S other f (on_left (R.at row) (S.at other) (formula_places f) (formula_places g) agree) start (λ h. now (or_left (asks_tick f) (asks_tick g) h)),
      truths_agree R row S other g (on_right (R.at row) (S.at other) (formula_places f) (formula_places g) agree) start (λ h. now (or_right (asks_tick f) (asks_tick g) h)),
    ) refl
truths_agree R row S other (negation f) agree start now = ap not (truths_agree R row S other f agree start now)
truths_agree R row S other (compare op a b) agree start now =
    rw (
      values_agree (R.at row) (S.at other) a (on_left (R.at row) (S.at other) (expr_places a) (expr_places b) agree),
      values_agree (R.at row) (S.at other) b (on_right (R.at row) (S.at other) (expr_places a) (expr_places b) agree),
    ) refl
truths_agree R row S other (lasts n) agree start now = rw (now refl, start) refl
