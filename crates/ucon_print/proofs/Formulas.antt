-- Formulas are read as they are printed.
use Rattle.std.proofs.Common.{◌≡◌, ℕ, pos, negsuc, zero, suc, ◌+◌, ◌<◌, ◌≤◌, [], ◌∷◌, ◌++◌, None, decimal, refl, arith, append_assoc}
use Rattle.std.specs.Prelude.{codes, max, ⊤}
use Rattle.std.proofs.lemmas.List.{append-nil}
use Rattle.ucon_model.specs.declared.formula.Op.{Op}
use Rattle.ucon_model.specs.declared.formula.Op.TheVariants as ops
use Rattle.ucon_model.specs.Plain.{Bytes, PlainExpr, PlainFormula, both, either, negation, compare, lasts}
use Rattle.ucon_model.specs.Printing.{expr_printing, op_printing, formula_printing}
use Rattle.ucon_base.specs.Tokens.{a_word, equal_sign, unequal_sign, less_sign, at_most_sign, greater_sign, at_least_sign, open_square, close_square, next_token, begin_of, skip, token_from, token_at, symbol_token, single}
use Rattle.ucon_model.specs.Forms.{Terminal, as_token, word, symbol, Form, nothing, no_form, opening, before, and_then, mapped, either_of}
use Rattle.ucon_model.specs.Grammar.{one_less, expr_of_depth, op_token, an_op, comparison_of, conj_with, formula_with, unit_with, unit_of_depth}
use Rattle.ucon_model.specs.Grammar as grammar
use Rattle.ucon_print.specs.Printable.{expr_levels, IsExpr, alternatives, conjuncts, formula_levels, IsFormula}
use Rattle.ucon_print.proofs.Lexing.{IsWord}
use Rattle.ucon_print.proofs.Pieces.{Ends, Any, Puts, puts_both, Printed, nothing_printed, one_printed, before_printed, and_then_printed, mapped_printed, left_printed, right_printed, same_printed, blank_printed}
use Rattle.ucon_print.proofs.Literals.{word_puts, number_printed, blank_puts, framed_puts, open_square_puts, close_square_puts}
use Rattle.ucon_print.proofs.Chains.{Chained, chained_printed, same_chained, chain_one, chain_more}
use Rattle.ucon_print.proofs.Expressions.{in_places, whole}

-- ---- words and operators between blanks

pub framed_word : (w : Bytes) → IsWord w → Puts Any (32 ∷ (w ++ 32 ∷ [])) (a_word w ∷ [])
framed_word w is =
    puts_both Any Any (32 ∷ []) (w ++ 32 ∷ []) [] (a_word w ∷ []) blank_puts
    (puts_both Ends Any w (32 ∷ []) (a_word w ∷ []) [] (word_puts w is) blank_puts (λ rest e. refl))
    (λ rest e. tt)

or_word : IsWord (codes "or")
or_word = record { begins = refl; bytes = refl; short = omega arith }

and_word : IsWord (codes "and")
and_word = record { begins = refl; bytes = refl; short = omega arith }

not_word : IsWord (codes "not")
not_word = record { begins = refl; bytes = refl; short = omega arith }

lasts_word : IsWord (codes "lasts")
lasts_word = record { begins = refl; bytes = refl; short = omega arith }

in_word : IsWord (codes "in")
in_word = record { begins = refl; bytes = refl; short = omega arith }

op_puts : (op : Op) → Puts Any (op_printing op) (as_token (op_token op) ∷ [])
unfolding next_token begin_of skip token_from token_at symbol_token single
op_puts ops.Eq = framed_puts (codes "=") equal_sign (omega arith) (λ rest. refl)
op_puts ops.Ne = framed_puts (codes "!=") unequal_sign (omega arith) (λ rest. refl)
op_puts ops.Lt = framed_puts (codes "<") less_sign (omega arith) (λ rest. refl)
op_puts ops.Le = framed_puts (codes "<=") at_most_sign (omega arith) (λ rest. refl)
op_puts ops.Gt = framed_puts (codes ">") greater_sign (omega arith) (λ rest. refl)
op_puts ops.Ge = framed_puts (codes ">=") at_least_sign (omega arith) (λ rest. refl)
op_puts ops.Member = framed_word (codes "in") in_word

op_begins : (op : Op) (bs rest : Bytes) → Ends ((op_printing op ++ bs) ++ rest)
op_begins ops.Eq bs rest = refl
op_begins ops.Ne bs rest = refl
op_begins ops.Lt bs rest = refl
op_begins ops.Le bs rest = refl
op_begins ops.Gt bs rest = refl
op_begins ops.Ge bs rest = refl
op_begins ops.Member bs rest = refl

-- ---- the forms at a depth

abbrev inner : ℕ → ℕ → Form PlainFormula
inner zero room = no_form
inner (suc depth) room = unit_of_depth depth (one_less room)

abbrev comparisons : ℕ → ℕ → Form PlainFormula
comparisons depth room = comparison_of (expr_of_depth depth room)

abbrev and_token : ⊤ → Terminal
and_token o = word (codes "and")

abbrev or_token : ⊤ → Terminal
or_token o = word (codes "or")

abbrev and_tree : ⊤ → PlainFormula → PlainFormula → PlainFormula
and_tree o f g = both f g

abbrev or_tree : ⊤ → PlainFormula → PlainFormula → PlainFormula
or_tree o f g = either f g

abbrev UnitOf : ℕ → ℕ → PlainFormula → Bytes → Type 0
UnitOf depth room f bs = Printed Ends (unit_of_depth depth room) f bs

abbrev AllOf : ℕ → ℕ → PlainFormula → ℕ → Bytes → Type 0
AllOf depth room f n bs = Chained Ends and_token and_tree (unit_of_depth depth room) f n bs

abbrev AnyOf : ℕ → ℕ → PlainFormula → ℕ → Bytes → Type 0
AnyOf depth room f n bs = Chained Ends or_token or_tree (conj_with (unit_of_depth depth room)) f n bs

abbrev unit : ℕ → ℕ → Form PlainFormula
unit depth room = unit_with room (inner depth room) (comparisons depth room)

at_depth : (depth room : ℕ) (f : PlainFormula) (bs : Bytes) → Printed Ends (unit depth room) f bs → UnitOf depth room f bs
at_depth zero room f bs p = p
at_depth (suc depth) room f bs p = p

all_of_unit : (depth room : ℕ) (f : PlainFormula) (bs : Bytes) → UnitOf depth room f bs → AllOf depth room f 1 bs
all_of_unit depth room f bs p = chain_one and_token and_tree (unit_of_depth depth room) Ends f bs p

any_of_all : (depth room : ℕ) (f : PlainFormula) (n : ℕ) (bs : Bytes) → AllOf depth room f n bs → AnyOf depth room f 1 bs
any_of_all depth room f n bs c = chain_one or_token or_tree (conj_with (unit_of_depth depth room)) Ends f bs (chained_printed and_token and_tree (unit_of_depth depth room) Ends f n bs c)

whole_of_any : (depth room : ℕ) (f : PlainFormula) (n : ℕ) (bs : Bytes) → AnyOf depth room f n bs → Printed Ends (formula_with (unit_of_depth depth room)) f bs
whole_of_any depth room f n bs c = chained_printed or_token or_tree (conj_with (unit_of_depth depth room)) Ends f n bs c

-- ---- the alternatives of a unit

abbrev negations : ℕ → Form PlainFormula → Form PlainFormula
negations room inside = before (opening room (word (codes "not"))) (mapped (λ f. negation f) inside)

abbrev bracketed : ℕ → Form PlainFormula → Form PlainFormula
bracketed room inside = before (opening room (symbol open_square)) (grammar.closed close_square (formula_with inside))

abbrev durations : Form PlainFormula
durations = before (grammar.keyword (codes "lasts")) (mapped (λ n. lasts n) grammar.a_number)

abbrev last_two : ℕ → ℕ → Form PlainFormula
last_two depth room = either_of durations (comparisons depth room)

abbrev last_three : ℕ → ℕ → Form PlainFormula
last_three depth room = either_of (bracketed room (inner depth room)) (last_two depth room)

not_unit : (depth room : ℕ) (f : PlainFormula) (bs : Bytes) → UnitOf depth room f bs → UnitOf (suc depth) (suc room) (negation f) (codes "not " ++ bs)
not_unit depth room f bs p =
    let inside = unit_of_depth depth room in
    left_printed Ends (negations (suc room) inside) (last_three (suc depth) (suc room)) (negation f) (codes "not " ++ bs)
    (before_printed Ends Ends (word (codes "not")) None (mapped (λ f. negation f) inside) (negation f) (codes "not") (32 ∷ bs) refl (word_puts (codes "not") not_word)
    (blank_printed Ends (mapped (λ f. negation f) inside) (negation f) bs (32 ∷ []) blank_puts (mapped_printed Ends (λ f. negation f) inside f bs p))
    (λ rest e. refl))

bracket_unit : (depth room : ℕ) (f : PlainFormula) (bs : Bytes) → Printed Ends (formula_with (unit_of_depth depth room)) f bs → UnitOf (suc depth) (suc room) f (codes "[ " ++ (bs ++ codes " ]"))
bracket_unit depth room f bs p =
    let inside = unit_of_depth depth room in
    let all = codes "[ " ++ (bs ++ codes " ]") in
    right_printed Ends (negations (suc room) inside) (last_three (suc depth) (suc room)) f all
    (left_printed Ends (bracketed (suc room) inside) (last_two (suc depth) (suc room)) f all
    (before_printed Ends Any (symbol open_square) None (grammar.closed close_square (formula_with inside)) f (91 ∷ []) (32 ∷ (bs ++ codes " ]")) refl open_square_puts
    (blank_printed Ends (grammar.closed close_square (formula_with inside)) f (bs ++ codes " ]") (32 ∷ []) blank_puts
    (and_then_printed Ends Ends (formula_with inside) (λ x. before (grammar.sign close_square) (nothing x)) f f bs (codes " ]") p
    (blank_printed Ends (before (grammar.sign close_square) (nothing f)) f (codes "]") (32 ∷ []) blank_puts
    (before_printed Ends Any (symbol close_square) None (nothing f) f (codes "]") [] refl close_square_puts (nothing_printed Ends f) (λ rest e. tt)))
    (λ rest e. refl)))
    (λ rest e. tt)))

lasts_unit : (n : ℕ) → n ≤ 1000000000000000 → (depth room : ℕ) → UnitOf depth room (lasts (pos n)) (codes "lasts " ++ decimal n)
lasts_unit n small depth room =
    let f = lasts (pos n) in let all = codes "lasts " ++ decimal n in
    at_depth depth room f all
    (right_printed Ends (negations room (inner depth room)) (last_three depth room) f all
    (right_printed Ends (bracketed room (inner depth room)) (last_two depth room) f all
    (left_printed Ends durations (comparisons depth room) f all
    (before_printed Ends Ends (word (codes "lasts")) None (mapped (λ n. lasts n) grammar.a_number) f (codes "lasts") (32 ∷ decimal n) refl (word_puts (codes "lasts") lasts_word)
    (blank_printed Ends (mapped (λ n. lasts n) grammar.a_number) f (decimal n) (32 ∷ []) blank_puts
    (mapped_printed Ends (λ n. lasts n) grammar.a_number (pos n) (decimal n) (number_printed n small)))
    (λ rest e. refl)))))

compare_unit : (op : Op) (a b : PlainExpr) → IsExpr a → IsExpr b → (depth room : ℕ) → max (expr_levels 0 a) (expr_levels 0 b) ≤ depth → max (expr_levels 0 a) (expr_levels 0 b) ≤ room → UnitOf depth room (compare op a b) (expr_printing 0 a ++ (op_printing op ++ expr_printing 0 b))
compare_unit op a b is-a is-b depth room d r =
    let f = compare op a b in
    let all = expr_printing 0 a ++ (op_printing op ++ expr_printing 0 b) in
    let expr = expr_of_depth depth room in
    let left = whole a (in_places a is-a) depth room (omega (arith, d)) (omega (arith, r)) in
    let right = whole b (in_places b is-b) depth room (omega (arith, d)) (omega (arith, r)) in
    at_depth depth room f all
    (right_printed Ends (negations room (inner depth room)) (last_three depth room) f all
    (right_printed Ends (bracketed room (inner depth room)) (last_two depth room) f all
    (right_printed Ends durations (comparisons depth room) f all
    (and_then_printed Ends Ends expr (λ a. and_then an_op (λ op. mapped (λ b. compare op a b) expr)) a f (expr_printing 0 a) (op_printing op ++ expr_printing 0 b) left
    (and_then_printed Ends Any an_op (λ op. mapped (λ b. compare op a b) expr) op f (op_printing op) (expr_printing 0 b)
    (one_printed Any op_token (λ op. None) (λ op. ⊤) op (op_printing op) (op_puts op) refl tt)
    (mapped_printed Ends (λ b. compare op a b) expr b (expr_printing 0 b) right)
    (λ rest e. tt))
    (λ rest e. op_begins op (expr_printing 0 b) rest)))))

-- ---- formulas

-- in each place that asks so much, at each depth that is enough
pub record InPlaces (f : PlainFormula) : Type 0 where
  pub any : (depth room : ℕ) → formula_levels 0 f ≤ depth → formula_levels 0 f ≤ room → AnyOf depth room f (alternatives f) (formula_printing 0 f)
  pub all : (depth room : ℕ) → formula_levels 1 f ≤ depth → formula_levels 1 f ≤ room → AllOf depth room f (conjuncts f) (formula_printing 1 f)
  pub one : (depth room : ℕ) → formula_levels 2 f ≤ depth → formula_levels 2 f ≤ room → UnitOf depth room f (formula_printing 2 f)

in_brackets : (f : PlainFormula) (n : ℕ) (bs cs : Bytes) → ((depth room : ℕ) → n ≤ depth → n ≤ room → Printed Ends (formula_with (unit_of_depth depth room)) f bs) → codes "[ " ++ (bs ++ codes " ]") ≡ cs → (depth room : ℕ) → 1 + n ≤ depth → 1 + n ≤ room → UnitOf depth room f cs
in_brackets f n bs cs inside same zero room d r = absurd (omega arith)
in_brackets f n bs cs inside same (suc depth) zero d r = absurd (omega arith)
in_brackets f n bs cs inside same (suc depth) (suc room) d r = same_printed Ends (unit_of_depth (suc depth) (suc room)) f (codes "[ " ++ (bs ++ codes " ]")) cs same (bracket_unit depth room f bs (inside depth room (omega arith) (omega arith)))

in_not : (f : PlainFormula) → InPlaces f → (depth room : ℕ) → 1 + formula_levels 2 f ≤ depth → 1 + formula_levels 2 f ≤ room → UnitOf depth room (negation f) (codes "not " ++ formula_printing 2 f)
in_not f p zero room d r = absurd (omega arith)
in_not f p (suc depth) zero d r = absurd (omega arith)
in_not f p (suc depth) (suc room) d r = not_unit depth room f (formula_printing 2 f) (p.one depth room (omega arith) (omega arith))

any_more : (f g : PlainFormula) → InPlaces f → InPlaces g → alternatives f < 32 → (depth room : ℕ) → max (formula_levels 0 f) (formula_levels 1 g) ≤ depth → max (formula_levels 0 f) (formula_levels 1 g) ≤ room → AnyOf depth room (either f g) (suc (alternatives f)) (formula_printing 0 f ++ (codes " or " ++ formula_printing 1 g))
any_more f g pf pg less depth room d r =
    chain_more or_token or_tree (conj_with (unit_of_depth depth room)) Ends Ends f g (alternatives f) tt (formula_printing 0 f) (codes " or ") (formula_printing 1 g)
    (pf.any depth room (omega arith) (omega arith)) less (framed_word (codes "or") or_word) (λ rest. refl)
    (chained_printed and_token and_tree (unit_of_depth depth room) Ends g (conjuncts g) (formula_printing 1 g) (pg.all depth room (omega arith) (omega arith)))

all_more : (f g : PlainFormula) → InPlaces f → InPlaces g → conjuncts f < 32 → (depth room : ℕ) → max (formula_levels 1 f) (formula_levels 2 g) ≤ depth → max (formula_levels 1 f) (formula_levels 2 g) ≤ room → AllOf depth room (both f g) (suc (conjuncts f)) (formula_printing 1 f ++ (codes " and " ++ formula_printing 2 g))
all_more f g pf pg less depth room d r =
    chain_more and_token and_tree (unit_of_depth depth room) Ends Ends f g (conjuncts f) tt (formula_printing 1 f) (codes " and ") (formula_printing 2 g)
    (pf.all depth room (omega arith) (omega arith)) less (framed_word (codes "and") and_word) (λ rest. refl)
    (pg.one depth room (omega arith) (omega arith))

pub in_places_formula : (f : PlainFormula) → IsFormula f → InPlaces f
in_places_formula (lasts (negsuc n)) is = absurd is
in_places_formula (lasts (pos n)) is =
    let f = lasts (pos n) in let bs = codes "lasts " ++ decimal n in
    record {
      any = λ depth room d r. any_of_all depth room f 1 bs (all_of_unit depth room f bs (lasts_unit n is depth room));
      all = λ depth room d r. all_of_unit depth room f bs (lasts_unit n is depth room);
      one = λ depth room d r. lasts_unit n is depth room;
    }
in_places_formula (compare op a b) is =
    let f = compare op a b in let bs = formula_printing 0 f in
    let n : ℕ = max (expr_levels 0 a) (expr_levels 0 b) in
    let one : (depth room : ℕ) → n ≤ depth → n ≤ room → UnitOf depth room f bs = λ depth room d r.
    same_printed Ends (unit_of_depth depth room) f (expr_printing 0 a ++ (op_printing op ++ expr_printing 0 b)) bs (simp append_assoc refl) (compare_unit op a b is.0 is.1 depth room d r) in
    record {
      any = λ depth room d r. any_of_all depth room f 1 bs (all_of_unit depth room f bs (one depth room d r));
      all = λ depth room d r. all_of_unit depth room f bs (one depth room d r);
      one = one;
    }
in_places_formula (negation f) is =
    let p = in_places_formula f is in
    let x = negation f in let bs = codes "not " ++ formula_printing 2 f in
    record {
      any = λ depth room d r. any_of_all depth room x 1 bs (all_of_unit depth room x bs (in_not f p depth room d r));
      all = λ depth room d r. all_of_unit depth room x bs (in_not f p depth room d r);
      one = in_not f p;
    }
in_places_formula (both f g) is =
    let pf = in_places_formula f is.1 in
    let pg = in_places_formula g is.2 in
    let n : ℕ = max (formula_levels 1 f) (formula_levels 2 g) in
    let x : PlainFormula = both f g in
    let all : (depth room : ℕ) → n ≤ depth → n ≤ room → AllOf depth room x (conjuncts x) (formula_printing 1 x) = λ depth room d r.
    same_chained and_token and_tree (unit_of_depth depth room) Ends x (suc (conjuncts f)) (conjuncts x) _ (formula_printing 1 x) (omega arith) (simp (append_assoc, append-nil) refl) (all_more f g pf pg (omega (arith, is.0)) depth room d r) in
    let any : (depth room : ℕ) → n ≤ depth → n ≤ room → AnyOf depth room x 1 (formula_printing 0 x) = λ depth room d r.
    any_of_all depth room x (conjuncts x) (formula_printing 0 x) (all depth room d r) in
    record {
      any = λ depth room d r. any depth room (omega (arith, d)) (omega (arith, r));
      all = λ depth room d r. all depth room (omega (arith, d)) (omega (arith, r));
      one = in_brackets x n (formula_printing 0 x) (formula_printing 2 x)
          (λ depth room d r. whole_of_any depth room x 1 (formula_printing 0 x) (any depth room d r))
          (simp (append_assoc, append-nil) refl);
    }
in_places_formula (either f g) is =
    let pf = in_places_formula f is.1 in
    let pg = in_places_formula g is.2 in
    let n : ℕ = max (formula_levels 0 f) (formula_levels 1 g) in
    let x : PlainFormula = either f g in
    let any : (depth room : ℕ) → n ≤ depth → n ≤ room → AnyOf depth room x (alternatives x) (formula_printing 0 x) = λ depth room d r.
    same_chained or_token or_tree (conj_with (unit_of_depth depth room)) Ends x (suc (alternatives f)) (alternatives x) _ (formula_printing 0 x) (omega arith) (simp (append_assoc, append-nil) refl) (any_more f g pf pg (omega (arith, is.0)) depth room d r) in
    let one : (depth room : ℕ) → 1 + n ≤ depth → 1 + n ≤ room → UnitOf depth room x (formula_printing 2 x) =
    in_brackets x n (formula_printing 0 x) (formula_printing 2 x)
    (λ depth room d r. whole_of_any depth room x (alternatives x) (formula_printing 0 x) (any depth room d r))
    (simp (append_assoc, append-nil) refl) in
    record {
      any = λ depth room d r. any depth room (omega (arith, d)) (omega (arith, r));
      all = λ depth room d r. all_of_unit depth room x (formula_printing 1 x) (one depth room d r);
      one = one;
    }

-- a formula whose levels are few enough
pub formula_printed : (f : PlainFormula) → IsFormula f → formula_levels 0 f ≤ 32 → Printed Ends grammar.a_formula f (formula_printing 0 f)
formula_printed f is few =
    let p = whole_of_any 32 32 f (alternatives f) (formula_printing 0 f) ((in_places_formula f is).any 32 32 few few) in
    record { written = (32, p.written); tree = p.tree; proper = p.proper; clean = p.clean; puts = p.puts }
