-- Formulas keep to their form.
use Rattle.std.proofs.Common.{◌≡◌, ℕ, zero, suc, ◌<◌, Bool, true, false, cond, inl, inr, List, [], ◌∷◌, drop, Some, None, Result, Ok, Err, pos, codes, refl, ap, ◌∙◌, arith}
use Rattle.std.specs.Str.{bytes_eq}
use Rattle.std.proofs.lemmas.Slice.Eq.{bytes_eq-Decides}
use Rattle.ucon_model.specs.declared.formula.Op.{Op}
use Rattle.ucon_model.specs.declared.formula.Op.TheVariants as ops
use Rattle.ucon_model.specs.Plain.{Bytes, PlainExpr, PlainFormula, negation, compare, lasts}
use Rattle.ucon_base.specs.Tokens.{Token, a_word, a_number, a_text, a_symbol, joined_word, flawed, the_end, Symbol, equal_sign, unequal_sign, less_sign, at_most_sign, greater_sign, at_least_sign, open_round, close_round, open_square, close_square, semicolon}
use Rattle.ucon_model.specs.Forms.{Terminal, word, symbol, as_token, level, Marked, opening, Form, no_form, before, mapped, either_of}
use Rattle.ucon_model.specs.Grammar.{keyword, sign, a_number as numbers, a_literal, closed, factor_with, term_with, expr_with, expr_of_depth, op_token, an_op, comparison_of, formula_with, unit_with, unit_of_depth, a_formula, one_less}
use Rattle.ucon_model.specs.Spells.{Stands}
use Rattle.ucon_token.specs.declared.stop.Cause.TheVariants.{Unexpected, TooDeep}
use Rattle.ucon_token.specs.Tokens.{first, is_symbol, is_word, is_joined}
use Rattle.ucon_token.specs.Reading.{Halt, Reads, ◌>>=◌, expect, taken, number_at}
use Rattle.ucon_syntax.specs.declared.starts.UnitStart.{UnitStart}
use Rattle.ucon_syntax.specs.declared.starts.UnitStart.TheVariants as units
use Rattle.ucon_syntax.specs.Starts.{sum_sign, symbol_op, word_op, op_of, unit_start}
use Rattle.ucon_syntax.specs.Expressions.{expr_at}
use Rattle.ucon_syntax.specs.Formulas.{compare_at, unit_from, unit_level, unit_at, conj_at, formula_at}
use Rattle.ucon_syntax.specs.Formulas as reading
use Rattle.ucon_syntax.proofs.Steps.{chosen}
use Rattle.ucon_syntax.proofs.Keeping.{Meets, Example}
use Rattle.ucon_syntax.proofs.Outcomes.{Led, led_meets, led_append}
use Rattle.ucon_syntax.proofs.Sound.{Sound, Anything, Tests, sound_same, sound_ending, sound_mapped, sound_meeting, sound_then, sound_before, sound_barred, sound_taken, sound_either, sound_at_any_depth, sound_no_form, sound_under}
use Rattle.ucon_syntax.proofs.Chained.{sound_chain}
use Rattle.ucon_syntax.proofs.Words.{is_symbol_is, is_word_is, no_mark, sound_number}
use Rattle.ucon_syntax.proofs.Operators.{conjunctions_chain, disjunctions_chain, expr_ends, formula_ends, word_ends_expr}
use Rattle.ucon_syntax.proofs.Factors.{meets_opening, sound_closed, sound_level}

-- ---- comparisons

symbol_op_is : (u : Symbol) (op : Op) → symbol_op u ≡ Some op → a_symbol u ≡ as_token (op_token op)
symbol_op_is equal_sign op e = let h : ops.Eq ≡ op = cc in rw (← h) refl
symbol_op_is unequal_sign op e = let h : ops.Ne ≡ op = cc in rw (← h) refl
symbol_op_is less_sign op e = let h : ops.Lt ≡ op = cc in rw (← h) refl
symbol_op_is at_most_sign op e = let h : ops.Le ≡ op = cc in rw (← h) refl
symbol_op_is greater_sign op e = let h : ops.Gt ≡ op = cc in rw (← h) refl
symbol_op_is at_least_sign op e = let h : ops.Ge ≡ op = cc in rw (← h) refl
symbol_op_is u op e = absurd cc

word_op_is : (n : Bytes) (op : Op) → word_op n ≡ Some op → a_word n ≡ as_token (op_token op)
word_op_is n op e =
    elim (chosen (bytes_eq n (codes "in")) (Some ops.Member) None (Some op) e) [
      | inl (t, is) ↦ let h : ops.Member ≡ op = cc in rw (← h) (ap a_word ((bytes_eq-Decides n (codes "in")).0 t))
      | inr (f, e) ↦ absurd cc
    ]

op_is : (ts : List Token) (op : Op) → op_of (first ts) ≡ Some op → ts ≡ as_token (op_token op) ∷ drop 1 ts
unfolding op_of
op_is (a_symbol u ∷ ts) op e = ap (λ (t : Token). t ∷ ts) (symbol_op_is u op e)
op_is (a_word n ∷ ts) op e = ap (λ (t : Token). t ∷ ts) (word_op_is n op e)
op_is (a_number n ∷ ts) op e = absurd cc
op_is (a_text n ∷ ts) op e = absurd cc
op_is (joined_word n ∷ ts) op e = absurd cc
op_is (flawed f ∷ ts) op e = absurd cc
op_is (the_end ∷ ts) op e = absurd cc
op_is [] op e = absurd cc

op_again : (op : Op) → op_of (as_token (op_token op)) ≡ Some op
unfolding op_of
op_again ops.Eq = refl
op_again ops.Ne = refl
op_again ops.Lt = refl
op_again ops.Le = refl
op_again ops.Gt = refl
op_again ops.Ge = refl
op_again ops.Member = refl

op_ends : (op : Op) → expr_ends (as_token (op_token op))
unfolding is_symbol sum_sign
op_ends ops.Eq = ((tt, refl, refl), refl, refl)
op_ends ops.Ne = ((tt, refl, refl), refl, refl)
op_ends ops.Lt = ((tt, refl, refl), refl, refl)
op_ends ops.Le = ((tt, refl, refl), refl, refl)
op_ends ops.Gt = ((tt, refl, refl), refl, refl)
op_ends ops.Ge = ((tt, refl, refl), refl, refl)
op_ends ops.Member = word_ends_expr (codes "in")

sound_op : {P : Type 0} → Sound P an_op Anything (λ ts. taken (op_of (first ts)) ts)
sound_op = sound_taken {pick = op_of} (record { is = op_is; allowed = λ t b e. tt; again = λ b a. op_again b; alone = λ b l e u s. no_mark l e; one = ops.Eq; one_allowed = tt })

sound_compare : {P : Type 0} (X : Form PlainExpr) (room : ℕ) → Sound P X expr_ends (expr_at room) → Sound P (comparison_of X) expr_ends (compare_at room)
unfolding compare_at
sound_compare X room x = sound_meeting x (λ a. sound_then sound_op (λ op. sound_mapped (λ b. compare op a b) x)) (λ a s proper. op_ends s.0)

-- ---- what a unit begins with

is_not : UnitStart → Bool
is_not units.Not = true
is_not u = false

is_square : UnitStart → Bool
is_square units.Bracket = true
is_square u = false

is_lasts : UnitStart → Bool
is_lasts units.Lasts = true
is_lasts u = false

abbrev start_by : Bool → Bool → Bool → UnitStart
start_by a b c = cond a units.Not (cond b units.Bracket (cond c units.Lasts units.Compare))

not_by : (a b c : Bool) → is_not (start_by a b c) ≡ true → a ≡ true
unfolding is_not
not_by true b c e = refl
not_by false true c e = absurd cc
not_by false false true e = absurd cc
not_by false false false e = absurd cc

square_by : (a b c : Bool) → is_square (start_by a b c) ≡ true → b ≡ true
unfolding is_square
square_by true b c e = absurd cc
square_by false true c e = refl
square_by false false true e = absurd cc
square_by false false false e = absurd cc

lasts_by : (a b c : Bool) → is_lasts (start_by a b c) ≡ true → c ≡ true
unfolding is_lasts
lasts_by true b c e = absurd cc
lasts_by false true c e = absurd cc
lasts_by false false true e = refl
lasts_by false false false e = absurd cc

not_tests : Tests (word (codes "not")) (λ t. is_not (unit_start t))
unfolding unit_start is_not is_word
not_tests = record { is = λ ts e. is_word_is ts (codes "not") (not_by (is_word (first ts) (codes "not")) (is_symbol (first ts) open_square) (is_word (first ts) (codes "lasts")) e); again = refl }

square_at : (ts : List Token) → is_square (unit_start (first ts)) ≡ true → is_symbol (first ts) open_square ≡ true
unfolding unit_start
square_at ts e = square_by (is_word (first ts) (codes "not")) (is_symbol (first ts) open_square) (is_word (first ts) (codes "lasts")) e

square_tests : Tests (symbol open_square) (λ t. is_square (unit_start t))
unfolding unit_start is_square is_word is_symbol
square_tests = record { is = λ ts e. is_symbol_is ts open_square (square_at ts e); again = refl }

lasts_tests : Tests (word (codes "lasts")) (λ t. is_lasts (unit_start t))
unfolding unit_start is_lasts is_word is_symbol
lasts_tests = record { is = λ ts e. is_word_is ts (codes "lasts") (lasts_by (is_word (first ts) (codes "not")) (is_symbol (first ts) open_square) (is_word (first ts) (codes "lasts")) e); again = refl }

-- ---- the reader, by tests of the first token

abbrev took : Bool → List Token → Result (List Token) Halt
took b ts = cond b (Ok (drop 1 ts)) (Err (Unexpected, ts))

abbrev bars : Bool → Reads PlainFormula
bars b ts = cond b (Err (TooDeep, ts)) (Err (Unexpected, ts))

abbrev inside : Reads PlainFormula → List Token → Result (PlainFormula × List Token) Halt
inside formula opened = formula opened >>= λ f. expect close_square f.1 >>= λ closed. Ok (f.0, closed)

abbrev by_start : UnitStart → Reads PlainFormula → Reads PlainFormula → Reads PlainFormula → Reads PlainFormula
by_start u inverted squared compared ts =
    cond (is_not u) (inverted ts)
    (cond (is_square u) (squared ts)
    (cond (is_lasts u) (took (is_lasts u) ts >>= λ a. number_at a >>= λ n. Ok (lasts n.0, n.1)) (compared ts)))

split_last : (compared : Reads PlainFormula) (u : UnitStart) (ts : List Token) → unit_from None compared u ts ≡ by_start u (bars (is_not u)) (bars (is_square u)) compared ts
unfolding is_not is_square is_lasts
split_last compared units.Not ts = refl
split_last compared units.Bracket ts = refl
split_last compared units.Lasts ts = refl
split_last compared units.Compare ts = refl

split : (inner compared : Reads PlainFormula) (u : UnitStart) (ts : List Token) → (is_square u ≡ true → is_symbol (first ts) open_square ≡ true)
    → unit_from (Some inner) compared u ts ≡ by_start u (λ ts. took (is_not u) ts >>= λ a. inner a >>= λ f. Ok (negation f.0, f.1)) (λ ts. took (is_square u) ts >>= λ opened. inside (reading.formula_with inner) opened) compared ts
unfolding is_not is_square is_lasts
split inner compared units.Not ts h = refl
split inner compared units.Bracket ts h = let b = h refl in rw b refl
split inner compared units.Lasts ts h = refl
split inner compared units.Compare ts h = refl

-- ---- comparisons begin otherwise

level_stands : (t : Terminal) (u : Token) → Stands level t u → u ≡ as_token t
level_stands t u (inl e) = e
level_stands t u (inr e) = absurd e

led_opening : (E : Token → Type 0) (room : ℕ) (t : Terminal) (ms : List Marked) → E (as_token t) → Led E (opening room t ∷ ms)
led_opening E zero t ms x = λ u s. rw (level_stands t u s) x
led_opening E (suc room) t ms x = x

abbrev Compares : Token → Type 0
Compares t = unit_start t ≡ units.Compare

literal_led : (s : a_literal.Written) → Led Compares (a_literal.tokens s)
unfolding unit_start is_word is_symbol
literal_led (inl (inl n)) = refl
literal_led (inl (inr n)) = refl
literal_led (inr (inl t)) = refl
literal_led (inr (inr ts)) = refl

factor_led : (room : ℕ) (inner : Form PlainExpr) (s : (factor_with room inner).Written) → Led Compares ((factor_with room inner).tokens s)
unfolding unit_start is_word is_symbol
factor_led room inner (inl s) = literal_led s
factor_led room inner (inr (inl s)) = refl
factor_led room inner (inr (inr (inl s))) = refl
factor_led room inner (inr (inr (inr (inl s)))) = refl
factor_led room inner (inr (inr (inr (inr (inl s))))) = led_opening Compares room (word (codes "size")) ((before (sign open_round) (closed close_round inner)).tokens s) refl
factor_led room inner (inr (inr (inr (inr (inr s))))) = led_opening Compares room (symbol open_round) ((closed close_round inner).tokens s) refl

expr_led : (room : ℕ) (inner : Form PlainExpr) (s : (expr_with (factor_with room inner)).Written) → Led Compares ((expr_with (factor_with room inner)).tokens s)
expr_led room inner s = led_append Compares ((term_with (factor_with room inner)).tokens s.0) _ (led_append Compares ((factor_with room inner).tokens s.0.0) _ (factor_led room inner s.0.0))

depth_led : (depth room : ℕ) (s : (expr_of_depth depth room).Written) → Led Compares ((expr_of_depth depth room).tokens s)
depth_led zero room s = expr_led room no_form s
depth_led (suc depth) room s = expr_led room (expr_of_depth depth (one_less room)) s

led_map : (E F : Token → Type 0) (ms : List Marked) → ((t : Token) → E t → F t) → Led E ms → Led F ms
led_map E F [] f x = x
led_map E F ((t, None) ∷ ms) f x = f (as_token t) x
led_map E F ((t, Some l) ∷ ms) f x = λ u s. f u (x u s)

comparison_led : (depth room : ℕ) (s : (comparison_of (expr_of_depth depth room)).Written) → Led Compares ((comparison_of (expr_of_depth depth room)).tokens s)
comparison_led depth room s = led_append Compares ((expr_of_depth depth room).tokens s.0) _ (depth_led depth room s.0)

comparison_first : (test : UnitStart → Bool) (depth room : ℕ) (F : Token → Type 0) (s : (comparison_of (expr_of_depth depth room)).Written) → test units.Compare ≡ false → Meets (λ t. test (unit_start t) ≡ false) ((comparison_of (expr_of_depth depth room)).tokens s) F
comparison_first test depth room F s e = led_meets (λ t. test (unit_start t) ≡ false) ((comparison_of (expr_of_depth depth room)).tokens s) F (led_map Compares (λ t. test (unit_start t) ≡ false) ((comparison_of (expr_of_depth depth room)).tokens s) (λ t is. ap test is ∙ e) (comparison_led depth room s))

-- ---- units

abbrev inverted_form : ℕ → Form PlainFormula → Form PlainFormula
inverted_form room inner = before (opening room (word (codes "not"))) (mapped (λ f. negation f) inner)

abbrev square_form : ℕ → Form PlainFormula → Form PlainFormula
square_form room inner = before (opening room (symbol open_square)) (closed close_square (formula_with inner))

abbrev lasts_form : Form PlainFormula
lasts_form = before (keyword (codes "lasts")) (mapped (λ n. lasts n) numbers)

from_lasts_first : (test : UnitStart → Bool) (depth room : ℕ) (F : Token → Type 0) (s : (either_of lasts_form (comparison_of (expr_of_depth depth room))).Written) → test (unit_start (a_word (codes "lasts"))) ≡ false → test units.Compare ≡ false → Meets (λ t. test (unit_start t) ≡ false) ((either_of lasts_form (comparison_of (expr_of_depth depth room))).tokens s) F
from_lasts_first test depth room F (inl s) a b = a
from_lasts_first test depth room F (inr s) a b = comparison_first test depth room F s b

from_square_first : (test : UnitStart → Bool) (depth room : ℕ) (inner : Form PlainFormula) (F : Token → Type 0) (s : (either_of (square_form room inner) (either_of lasts_form (comparison_of (expr_of_depth depth room)))).Written) → test (unit_start (a_symbol open_square)) ≡ false → test (unit_start (a_word (codes "lasts"))) ≡ false → test units.Compare ≡ false → Meets (λ t. test (unit_start t) ≡ false) ((either_of (square_form room inner) (either_of lasts_form (comparison_of (expr_of_depth depth room)))).tokens s) F
from_square_first test depth room inner F (inl s) o a b = meets_opening (λ t. test (unit_start t) ≡ false) F room (symbol open_square) ((closed close_square (formula_with inner)).tokens s) o
from_square_first test depth room inner F (inr s) o a b = from_lasts_first test depth room F s a b

sound_unit : {P : Type 0} (depth room : ℕ) (inner : Form PlainFormula) {inverted squared compared : Reads PlainFormula} → Sound P (inverted_form room inner) expr_ends inverted → Sound P (square_form room inner) Anything squared → Sound P (comparison_of (expr_of_depth depth room)) expr_ends compared
    → Sound P (unit_with room inner (comparison_of (expr_of_depth depth room))) expr_ends (λ ts.
    cond (is_not (unit_start (first ts))) (inverted ts)
    (cond (is_square (unit_start (first ts))) (squared ts)
    (cond (is_lasts (unit_start (first ts))) (took (is_lasts (unit_start (first ts))) ts >>= λ a. number_at a >>= λ n. Ok (lasts n.0, n.1)) (compared ts))))
unfolding unit_start is_not is_square is_lasts is_word is_symbol
sound_unit depth room inner x y z =
    sound_either (λ t. is_not (unit_start t)) (λ s proper. meets_opening (λ t. is_not (unit_start t) ≡ true) expr_ends room (word (codes "not")) (inner.tokens s) refl) (λ s proper. from_square_first is_not depth room inner expr_ends s refl refl refl) x
    (sound_either (λ t. is_square (unit_start t)) (λ s proper. meets_opening (λ t. is_square (unit_start t) ≡ true) expr_ends room (symbol open_square) ((closed close_square (formula_with inner)).tokens s) refl) (λ s proper. from_lasts_first is_square depth room expr_ends s refl refl) (sound_ending expr_ends (λ t e. tt) y)
    (sound_either (λ t. is_lasts (unit_start t)) (λ s proper. refl) (λ s proper. comparison_first is_lasts depth room expr_ends s refl) (sound_ending expr_ends (λ t e. tt) (sound_before lasts_tests (sound_mapped (λ n. lasts n) sound_number))) z))

unit_example : (depth room : ℕ) → Example (unit_of_depth depth room)
unit_example zero room = record { written = inr (inr (inl (pos 0))); proper = tt }
unit_example (suc depth) room = record { written = inr (inr (inl (pos 0))); proper = tt }

not_bars : (u : Token) → Stands level (word (codes "not")) u → is_not (unit_start u) ≡ true
not_bars u s = ap (λ t. is_not (unit_start t)) (level_stands (word (codes "not")) u s) ∙ not_tests.again

square_bars : (u : Token) → Stands level (symbol open_square) u → is_square (unit_start u) ≡ true
square_bars u s = ap (λ t. is_square (unit_start t)) (level_stands (symbol open_square) u s) ∙ square_tests.again

pub square_ends : formula_ends (a_symbol close_square)
unfolding is_symbol sum_sign is_word is_joined
square_ends = ((((tt, refl, refl), refl, refl), refl, refl), refl, refl)

pub semicolon_ends : formula_ends (a_symbol semicolon)
unfolding is_symbol sum_sign is_word is_joined
semicolon_ends = ((((tt, refl, refl), refl, refl), refl, refl), refl, refl)

sound_chains : {P : Type 0} {X : Form PlainFormula} {p : Reads PlainFormula} → Sound P X expr_ends p → Sound P (formula_with X) formula_ends (reading.formula_with p)
sound_chains x = sound_chain disjunctions_chain (sound_chain conjunctions_chain x)

-- at the last level
sound_last : {P : Type 0} (depth : ℕ) (inner : Form PlainFormula) → (P → Example inner) → Sound P (expr_of_depth depth 0) expr_ends (expr_at 0) → Sound P (unit_with 0 inner (comparison_of (expr_of_depth depth 0))) expr_ends (unit_at 0)
unfolding unit_at unit_level
sound_last depth inner example compared =
    sound_same (unit_at 0) (λ ts. split_last (compare_at 0) (unit_start (first ts)) ts)
    (sound_unit depth 0 inner
    (sound_barred level not_tests not_bars (λ holds. let e = example holds in record { written = e.written; proper = e.proper }))
    (sound_barred level square_tests square_bars (λ holds. let e = example holds in record { written = (((e.written, []), []), tt); proper = (((e.proper, tt), tt), tt) }))
    (sound_compare (expr_of_depth depth 0) 0 compared))

-- above the last
sound_above : {P : Type 0} (depth room : ℕ) (inner : Form PlainFormula) → Sound P inner expr_ends (unit_at room) → Sound P (expr_of_depth depth (suc room)) expr_ends (expr_at (suc room)) → Sound P (unit_with (suc room) inner (comparison_of (expr_of_depth depth (suc room)))) expr_ends (unit_at (suc room))
unfolding unit_at unit_level
sound_above depth room inner x compared =
    sound_same (unit_at (suc room)) (λ ts. split (unit_at room) (compare_at (suc room)) (unit_start (first ts)) ts (square_at ts))
    (sound_unit depth (suc room) inner
    (sound_before not_tests (sound_mapped (λ f. negation f) x))
    (sound_before square_tests (sound_closed close_square square_ends (sound_chains x)))
    (sound_compare (expr_of_depth depth (suc room)) (suc room) compared))

unit_sound : (room depth : ℕ) → Sound (room < depth) (unit_of_depth depth room) expr_ends (unit_at room)
unit_sound zero zero = sound_last 0 no_form (λ lt. absurd (omega arith)) (sound_level 0 0)
unit_sound zero (suc depth) = sound_last (suc depth) (unit_of_depth depth 0) (λ lt. unit_example depth 0) (sound_level 0 (suc depth))
unit_sound (suc room) zero = sound_above 0 room no_form (sound_no_form (λ lt. absurd (omega arith)) (unit_sound room 0).runs) (sound_level (suc room) 0)
unit_sound (suc room) (suc depth) = sound_above (suc depth) room (unit_of_depth depth room) (sound_under (λ lt. omega arith) (unit_sound room depth)) (sound_level (suc room) (suc depth))

pub sound_formula : {P : Type 0} → Sound P a_formula formula_ends (formula_at 32)
unfolding formula_at conj_at
sound_formula = sound_at_any_depth 33 (omega arith) (λ depth. sound_chains (unit_sound 32 depth))
