-- Comparing lines with the right ones, one after the other.
use Rattle.std.proofs.Common.{◌≡◌, ◌∙◌, ℕ, zero, suc, ◌+◌, ◌<◌, ◌≤◌, true, false, List, [], ◌∷◌, ◌++◌, length, take, refl, sym, ap, arith}
use Rattle.std.specs.Prelude.{Some, None}
use Rattle.std.specs.List.{slice_get}
use Rattle.std.proofs.lemmas.Bool.{and_parts}
use Rattle.std.proofs.lemmas.List.{append_assoc, length-take}
use Rattle.std.proofs.lemmas.Option.{slice_get_past}
use Rattle.std.proofs.Math.Seq.{take-append_seam, take-length}
use Rattle.ucon_model.specs.declared.session.SessionRow.{SessionRow}
use Rattle.ucon_model.specs.Decision.{ongoing}
use Rattle.ucon_model.specs.Plain.{PlainPredicate}
use Rattle.ucon_model.specs.Truth.{Readings}
use Rattle.ucon_model.specs.Sums.{preds_make_no_set, test_makes_no_set}
use Rattle.ucon_accept.specs.Checking.{IsFirstWrong}
use Rattle.ucon_accept.specs.Explanation.{PlainWhy, line, lines_from}
use Rattle.ucon_accept.proofs.Reading.{slice_get-seam, take-one_more}

taken : {X : Type 0} (xs : List X) (n : ℕ) → n ≤ length xs → length (take n xs) ≡ n
taken xs n within = omega (arith, length-take n xs, within)

-- the lines before it are right, and it isn't
pub wrong_here : (given right rest : List PlainWhy) (n : ℕ) (w : PlainWhy) → n ≤ length given → right ≡ take n given ++ (w ∷ rest)
    → (slice_get given n ≡ Some w → ⊥) → IsFirstWrong n given right
wrong_here given right rest n w within is other =
    let long = taken given n within in
    let first : take n right ≡ take n given =
    ap (take n) is ∙ ap (λ (m : ℕ). take m (take n given ++ (w ∷ rest))) (sym long) ∙ take-append_seam (take n given) (w ∷ rest) in
    let next : slice_get right n ≡ Some w =
    ap (λ (x : List PlainWhy). slice_get x n) is
    ∙ ap (λ (m : ℕ). slice_get (take n given ++ (w ∷ rest)) m) (sym long)
    ∙ slice_get-seam (take n given) w rest in
    record { before = sym first; here = λ same. other (same ∙ next) }

is_there : {X : Type 0} (xs : List X) (n : ℕ) → n < length xs → slice_get xs n ≡ None → ⊥
is_there [] n within none = absurd (omega arith)
is_there (x ∷ xs) zero within none = absurd cc
is_there (x ∷ xs) (suc n) within none = is_there xs n (omega arith) none

-- more lines than there are to be
pub wrong_end : (given right : List PlainWhy) (n : ℕ) → n < length given → right ≡ take n given → IsFirstWrong n given right
wrong_end given right n more is =
    let long = taken given n (omega (arith, more)) in
    let all : length right ≡ n = ap length is ∙ long in
    let first : take n right ≡ take n given =
    ap (take n) is ∙ ap (λ (m : ℕ). take m (take n given)) (sym long) ∙ take-length (take n given) in
    let past : slice_get right n ≡ None = slice_get_past right n (omega (arith, all)) in
    record { before = sym first; here = λ same. is_there given n more (same ∙ past) }

-- one line more is right
pub one_right : (given right rest : List PlainWhy) (n : ℕ) (w : PlainWhy) → right ≡ take n given ++ (w ∷ rest) → slice_get given n ≡ Some w
    → right ≡ take (n + 1) given ++ rest
one_right given right rest n w is at =
    is ∙ sym (append_assoc (take n given) (w ∷ []) rest) ∙ ap (λ (x : List PlainWhy). x ++ rest) (sym (take-one_more given n w at))

-- ---- the lines on the predicates that are left

pub lines_from-before : (R : Readings) (row : SessionRow) (i : ℕ) (left rest : List PlainPredicate) (p : PlainPredicate) → left ≡ p ∷ rest → ongoing p ≡ false
    → lines_from R row i left ≡ line R row i p ∷ lines_from R row (i + 1) rest
lines_from-before R row i left rest p is before = ap (lines_from R row i) is ∙ rw before refl

pub lines_from-ongoing : (R : Readings) (row : SessionRow) (i : ℕ) (left rest : List PlainPredicate) (p : PlainPredicate) → left ≡ p ∷ rest → ongoing p ≡ true
    → lines_from R row i left ≡ lines_from R row (i + 1) rest
lines_from-ongoing R row i left rest p is during = ap (lines_from R row i) is ∙ rw during refl

pub no_set_in_rest : (R : Readings) (row : SessionRow) (left rest : List PlainPredicate) (p : PlainPredicate) → left ≡ p ∷ rest
    → preds_make_no_set R row left ≡ true → preds_make_no_set R row rest ≡ true
no_set_in_rest R row left rest p is none =
    (and_parts (test_makes_no_set (R.at row) p.test) (preds_make_no_set R row rest) (ap (preds_make_no_set R row) (sym is) ∙ none)).1
