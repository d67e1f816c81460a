-- Expressions are read as they are printed.
use Rattle.std.proofs.Common.{◌≡◌, ℕ, zero, suc, ◌+◌, ◌<◌, ◌≤◌, [], ◌∷◌, ◌++◌, None, refl, arith, append_assoc}
use Rattle.std.specs.Prelude.{codes, max, ⊤}
use Rattle.std.proofs.lemmas.List.{append-nil}
use Rattle.ucon_base.specs.Spelling.{IsValue}
use Rattle.ucon_base.specs.declared.value.Value.{Value}
use Rattle.ucon_model.specs.declared.formula.Ref.{Ref}
use Rattle.ucon_model.specs.declared.formula.Ref.TheVariants as refs
use Rattle.ucon_model.specs.Plain.{Bytes, PlainExpr, lit, read, plus, minus, times, size}
use Rattle.ucon_model.specs.Printing.{literal_printing, expr_printing}
use Rattle.ucon_base.specs.Tokens.{a_symbol, dot, plus_sign, minus_sign, star, open_round, close_round, next_token, begin_of, skip, token_from, token_at, symbol_token, single}
use Rattle.ucon_model.specs.Forms.{Terminal, as_token, word, symbol, Form, nothing, no_form, opening, before, mapped, either_of}
use Rattle.ucon_model.specs.Grammar.{SumSign, adding, subtracting, sum_token, sum_tree, one_less, expr_of_depth, factor_with, term_with, expr_with}
use Rattle.ucon_model.specs.Grammar as grammar
use Rattle.ucon_print.specs.Printable.{IsName, terms, factors, expr_levels, IsExpr}
use Rattle.ucon_print.proofs.Lexing.{IsWord}
use Rattle.ucon_print.proofs.Pieces.{Ends, Any, Puts, Printed, nothing_printed, before_printed, and_then_printed, mapped_printed, left_printed, right_printed, same_printed}
use Rattle.ucon_print.proofs.Literals.{AtWord, word_puts, name_printed, name_begins, dot_puts, framed_puts, open_round_puts, close_round_puts, literal_printed}
use Rattle.ucon_print.proofs.Chains.{Chained, chained_printed, same_chained, chain_one, chain_more}

-- ---- the forms at a depth

abbrev inner : ℕ → ℕ → Form PlainExpr
inner zero room = no_form
inner (suc depth) room = expr_of_depth depth (one_less room)

abbrev factor : ℕ → ℕ → Form PlainExpr
factor depth room = factor_with room (inner depth room)

abbrev term : ℕ → ℕ → Form PlainExpr
term depth room = term_with (factor depth room)

abbrev star_token : ⊤ → Terminal
star_token o = symbol star

abbrev product_tree : ⊤ → PlainExpr → PlainExpr → PlainExpr
product_tree o a b = times a b

abbrev SumOf : ℕ → ℕ → PlainExpr → ℕ → Bytes → Type 0
SumOf depth room e n bs = Chained Ends sum_token sum_tree (term depth room) e n bs

abbrev ProductOf : ℕ → ℕ → PlainExpr → ℕ → Bytes → Type 0
ProductOf depth room e n bs = Chained Ends star_token product_tree (factor depth room) e n bs

abbrev FactorOf : ℕ → ℕ → PlainExpr → Bytes → Type 0
FactorOf depth room e bs = Printed Ends (factor depth room) e bs

pub at_depth : (depth room : ℕ) (e : PlainExpr) (bs : Bytes) → Printed Ends (expr_with (factor depth room)) e bs → Printed Ends (expr_of_depth depth room) e bs
at_depth zero room e bs p = p
at_depth (suc depth) room e bs p = p

product_of_factor : (depth room : ℕ) (e : PlainExpr) (bs : Bytes) → FactorOf depth room e bs → ProductOf depth room e 1 bs
product_of_factor depth room e bs p = chain_one star_token product_tree (factor depth room) Ends e bs p

sum_of_product : (depth room : ℕ) (e : PlainExpr) (n : ℕ) (bs : Bytes) → ProductOf depth room e n bs → SumOf depth room e 1 bs
sum_of_product depth room e n bs c = chain_one sum_token sum_tree (term depth room) Ends e bs (chained_printed star_token product_tree (factor depth room) Ends e n bs c)

whole_of_sum : (depth room : ℕ) (e : PlainExpr) (n : ℕ) (bs : Bytes) → SumOf depth room e n bs → Printed Ends (expr_of_depth depth room) e bs
whole_of_sum depth room e n bs c = at_depth depth room e bs (chained_printed sum_token sum_tree (term depth room) Ends e n bs c)

-- ---- the alternatives of a factor

abbrev literals : Form PlainExpr
literals = mapped (λ v. lit v) grammar.a_literal

abbrev of_subject : Form PlainExpr
of_subject = grammar.a_place (codes "s") (λ n. refs.Subject n)

abbrev of_object : Form PlainExpr
of_object = grammar.a_place (codes "o") (λ n. refs.Object n)

abbrev of_env : Form PlainExpr
of_env = grammar.a_place (codes "env") (λ n. refs.Env n)

abbrev sizes : ℕ → Form PlainExpr → Form PlainExpr
sizes room inside = before (opening room (word (codes "size"))) (mapped (λ e. size e) (before (grammar.sign open_round) (grammar.closed close_round inside)))

abbrev bracketed : ℕ → Form PlainExpr → Form PlainExpr
bracketed room inside = before (opening room (symbol open_round)) (grammar.closed close_round inside)

abbrev last_two : ℕ → Form PlainExpr → Form PlainExpr
last_two room inside = either_of (sizes room inside) (bracketed room inside)

abbrev last_three : ℕ → Form PlainExpr → Form PlainExpr
last_three room inside = either_of of_env (last_two room inside)

abbrev last_four : ℕ → Form PlainExpr → Form PlainExpr
last_four room inside = either_of of_object (last_three room inside)

abbrev last_five : ℕ → Form PlainExpr → Form PlainExpr
last_five room inside = either_of of_subject (last_four room inside)

place_printed : (w : Bytes) (ref : Bytes → Ref) (name : Bytes) → IsWord w → IsName name → Printed Ends (grammar.a_place w ref) (read (ref name)) (w ++ (46 ∷ name))
place_printed w ref name is named =
    before_printed Ends Ends (word w) None (mapped (λ n. read (ref n)) (before (grammar.sign dot) grammar.a_name)) (read (ref name)) w (46 ∷ name) refl (word_puts w is)
    (mapped_printed Ends (λ n. read (ref n)) (before (grammar.sign dot) grammar.a_name) name (46 ∷ name)
    (before_printed Ends AtWord (symbol dot) None grammar.a_name name (46 ∷ []) name refl dot_puts (name_printed name named) (λ rest e. name_begins name rest named)))
    (λ rest e. refl)

s_word : IsWord (codes "s")
s_word = record { begins = refl; bytes = refl; short = omega arith }

o_word : IsWord (codes "o")
o_word = record { begins = refl; bytes = refl; short = omega arith }

env_word : IsWord (codes "env")
env_word = record { begins = refl; bytes = refl; short = omega arith }

size_word : IsWord (codes "size")
size_word = record { begins = refl; bytes = refl; short = omega arith }

literal_factor : (v : Value) → IsValue v → (depth room : ℕ) → FactorOf depth room (lit v) (literal_printing v)
literal_factor v is depth room =
    left_printed Ends literals (last_five room (inner depth room)) (lit v) (literal_printing v)
    (mapped_printed Ends (λ v. lit v) grammar.a_literal v (literal_printing v) (literal_printed v is))

subject_factor : (name : Bytes) → IsName name → (depth room : ℕ) → FactorOf depth room (read (refs.Subject name)) (codes "s." ++ name)
subject_factor name is depth room =
    let inside = inner depth room in let e = read (refs.Subject name) in let bs = codes "s." ++ name in
    right_printed Ends literals (last_five room inside) e bs
    (left_printed Ends of_subject (last_four room inside) e bs (place_printed (codes "s") (λ n. refs.Subject n) name s_word is))

object_factor : (name : Bytes) → IsName name → (depth room : ℕ) → FactorOf depth room (read (refs.Object name)) (codes "o." ++ name)
object_factor name is depth room =
    let inside = inner depth room in let e = read (refs.Object name) in let bs = codes "o." ++ name in
    right_printed Ends literals (last_five room inside) e bs
    (right_printed Ends of_subject (last_four room inside) e bs
    (left_printed Ends of_object (last_three room inside) e bs (place_printed (codes "o") (λ n. refs.Object n) name o_word is)))

env_factor : (name : Bytes) → IsName name → (depth room : ℕ) → FactorOf depth room (read (refs.Env name)) (codes "env." ++ name)
env_factor name is depth room =
    let inside = inner depth room in let e = read (refs.Env name) in let bs = codes "env." ++ name in
    right_printed Ends literals (last_five room inside) e bs
    (right_printed Ends of_subject (last_four room inside) e bs
    (right_printed Ends of_object (last_three room inside) e bs
    (left_printed Ends of_env (last_two room inside) e bs (place_printed (codes "env") (λ n. refs.Env n) name env_word is))))

closed_printed : (X : Form PlainExpr) (e : PlainExpr) (bs : Bytes) → Printed Ends X e bs → Printed Ends (grammar.closed close_round X) e (bs ++ codes ")")
closed_printed X e bs p =
    and_then_printed Ends Ends X (λ x. before (grammar.sign close_round) (nothing x)) e e bs (codes ")") p
    (before_printed Ends Any (symbol close_round) None (nothing e) e (codes ")") [] refl close_round_puts (nothing_printed Ends e) (λ rest e. tt))
    (λ rest e. refl)

bracket_factor : (depth room : ℕ) (e : PlainExpr) (bs : Bytes) → Printed Ends (expr_of_depth depth room) e bs → FactorOf (suc depth) (suc room) e (40 ∷ (bs ++ codes ")"))
bracket_factor depth room e bs p =
    let inside = expr_of_depth depth room in let all = 40 ∷ (bs ++ codes ")") in let up = suc room in
    right_printed Ends literals (last_five up inside) e all
    (right_printed Ends of_subject (last_four up inside) e all
    (right_printed Ends of_object (last_three up inside) e all
    (right_printed Ends of_env (last_two up inside) e all
    (right_printed Ends (sizes up inside) (bracketed up inside) e all
    (before_printed Ends Any (symbol open_round) None (grammar.closed close_round inside) e (40 ∷ []) (bs ++ codes ")") refl open_round_puts (closed_printed inside e bs p) (λ rest e. tt))))))

size_factor : (depth room : ℕ) (e : PlainExpr) (bs : Bytes) → Printed Ends (expr_of_depth depth room) e bs → FactorOf (suc depth) (suc room) (size e) (codes "size(" ++ (bs ++ codes ")"))
size_factor depth room e bs p =
    let inside = expr_of_depth depth room in let all = codes "size(" ++ (bs ++ codes ")") in let up = suc room in let x = size e in
    right_printed Ends literals (last_five up inside) x all
    (right_printed Ends of_subject (last_four up inside) x all
    (right_printed Ends of_object (last_three up inside) x all
    (right_printed Ends of_env (last_two up inside) x all
    (left_printed Ends (sizes up inside) (bracketed up inside) x all
    (before_printed Ends Ends (word (codes "size")) None (mapped (λ e. size e) (before (grammar.sign open_round) (grammar.closed close_round inside))) x (codes "size") (40 ∷ (bs ++ codes ")")) refl (word_puts (codes "size") size_word)
    (mapped_printed Ends (λ e. size e) (before (grammar.sign open_round) (grammar.closed close_round inside)) e (40 ∷ (bs ++ codes ")"))
    (before_printed Ends Any (symbol open_round) None (grammar.closed close_round inside) e (40 ∷ []) (bs ++ codes ")") refl open_round_puts (closed_printed inside e bs p) (λ rest e. tt)))
    (λ rest e. refl))))))

-- ---- the operators

plus_puts : Puts Any (codes " + ") (a_symbol plus_sign ∷ [])
unfolding next_token begin_of skip token_from token_at symbol_token single
plus_puts = framed_puts (codes "+") plus_sign (omega arith) (λ rest. refl)

minus_puts : Puts Any (codes " - ") (a_symbol minus_sign ∷ [])
unfolding next_token begin_of skip token_from token_at symbol_token single
minus_puts = framed_puts (codes "-") minus_sign (omega arith) (λ rest. refl)

star_puts : Puts Any (codes " * ") (a_symbol star ∷ [])
unfolding next_token begin_of skip token_from token_at symbol_token single
star_puts = framed_puts (codes "*") star (omega arith) (λ rest. refl)

-- ---- expressions

-- in each place that asks so much, at each depth that is enough
pub record InPlaces (e : PlainExpr) : Type 0 where
  pub sum : (depth room : ℕ) → expr_levels 0 e ≤ depth → expr_levels 0 e ≤ room → SumOf depth room e (terms e) (expr_printing 0 e)
  pub product : (depth room : ℕ) → expr_levels 1 e ≤ depth → expr_levels 1 e ≤ room → ProductOf depth room e (factors e) (expr_printing 1 e)
  pub factor : (depth room : ℕ) → expr_levels 2 e ≤ depth → expr_levels 2 e ≤ room → FactorOf depth room e (expr_printing 2 e)

pub whole : (e : PlainExpr) → InPlaces e → (depth room : ℕ) → expr_levels 0 e ≤ depth → expr_levels 0 e ≤ room → Printed Ends (expr_of_depth depth room) e (expr_printing 0 e)
whole e p depth room d r = whole_of_sum depth room e (terms e) (expr_printing 0 e) (p.sum depth room d r)

-- with brackets
in_brackets : (e : PlainExpr) (n : ℕ) (bs cs : Bytes) → ((depth room : ℕ) → n ≤ depth → n ≤ room → Printed Ends (expr_of_depth depth room) e bs) → 40 ∷ (bs ++ codes ")") ≡ cs → (depth room : ℕ) → 1 + n ≤ depth → 1 + n ≤ room → FactorOf depth room e cs
in_brackets e n bs cs inside same zero room d r = absurd (omega arith)
in_brackets e n bs cs inside same (suc depth) zero d r = absurd (omega arith)
in_brackets e n bs cs inside same (suc depth) (suc room) d r = same_printed Ends (factor (suc depth) (suc room)) e (40 ∷ (bs ++ codes ")")) cs same (bracket_factor depth room e bs (inside depth room (omega arith) (omega arith)))

in_size : (e : PlainExpr) (n : ℕ) (bs cs : Bytes) → ((depth room : ℕ) → n ≤ depth → n ≤ room → Printed Ends (expr_of_depth depth room) e bs) → codes "size(" ++ (bs ++ codes ")") ≡ cs → (depth room : ℕ) → 1 + n ≤ depth → 1 + n ≤ room → FactorOf depth room (size e) cs
in_size e n bs cs inside same zero room d r = absurd (omega arith)
in_size e n bs cs inside same (suc depth) zero d r = absurd (omega arith)
in_size e n bs cs inside same (suc depth) (suc room) d r = same_printed Ends (factor (suc depth) (suc room)) (size e) (codes "size(" ++ (bs ++ codes ")")) cs same (size_factor depth room e bs (inside depth room (omega arith) (omega arith)))

-- a sum or difference of what its operands are
sum_more : (o : SumSign) (ws : Bytes) (a b : PlainExpr) → Puts Any (32 ∷ ws) (as_token (sum_token o) ∷ []) → InPlaces a → InPlaces b → terms a < 32 → (depth room : ℕ) → max (expr_levels 0 a) (expr_levels 1 b) ≤ depth → max (expr_levels 0 a) (expr_levels 1 b) ≤ room → SumOf depth room (sum_tree o a b) (suc (terms a)) (expr_printing 0 a ++ ((32 ∷ ws) ++ expr_printing 1 b))
sum_more o ws a b op pa pb less depth room d r =
    chain_more sum_token sum_tree (term depth room) Ends Ends a b (terms a) o (expr_printing 0 a) (32 ∷ ws) (expr_printing 1 b)
    (pa.sum depth room (omega arith) (omega arith)) less op (λ rest. refl)
    (chained_printed star_token product_tree (factor depth room) Ends b (factors b) (expr_printing 1 b) (pb.product depth room (omega arith) (omega arith)))

product_more : (a b : PlainExpr) → InPlaces a → InPlaces b → factors a < 32 → (depth room : ℕ) → max (expr_levels 1 a) (expr_levels 2 b) ≤ depth → max (expr_levels 1 a) (expr_levels 2 b) ≤ room → ProductOf depth room (times a b) (suc (factors a)) (expr_printing 1 a ++ (codes " * " ++ expr_printing 2 b))
product_more a b pa pb less depth room d r =
    chain_more star_token product_tree (factor depth room) Ends Ends a b (factors a) tt (expr_printing 1 a) (codes " * ") (expr_printing 2 b)
    (pa.product depth room (omega arith) (omega arith)) less star_puts (λ rest. refl)
    (pb.factor depth room (omega arith) (omega arith))

pub in_places : (e : PlainExpr) → IsExpr e → InPlaces e
in_places (lit v) is =
    let f = literal_factor v is in
    record {
      sum = λ depth room d r. sum_of_product depth room (lit v) 1 (literal_printing v) (product_of_factor depth room (lit v) (literal_printing v) (f depth room));
      product = λ depth room d r. product_of_factor depth room (lit v) (literal_printing v) (f depth room);
      factor = λ depth room d r. f depth room;
    }
in_places (read (refs.Subject name)) is =
    let f = subject_factor name is in let e = read (refs.Subject name) in let bs = codes "s." ++ name in
    record {
      sum = λ depth room d r. sum_of_product depth room e 1 bs (product_of_factor depth room e bs (f depth room));
      product = λ depth room d r. product_of_factor depth room e bs (f depth room);
      factor = λ depth room d r. f depth room;
    }
in_places (read (refs.Object name)) is =
    let f = object_factor name is in let e = read (refs.Object name) in let bs = codes "o." ++ name in
    record {
      sum = λ depth room d r. sum_of_product depth room e 1 bs (product_of_factor depth room e bs (f depth room));
      product = λ depth room d r. product_of_factor depth room e bs (f depth room);
      factor = λ depth room d r. f depth room;
    }
in_places (read (refs.Env name)) is =
    let f = env_factor name is in let e = read (refs.Env name) in let bs = codes "env." ++ name in
    record {
      sum = λ depth room d r. sum_of_product depth room e 1 bs (product_of_factor depth room e bs (f depth room));
      product = λ depth room d r. product_of_factor depth room e bs (f depth room);
      factor = λ depth room d r. f depth room;
    }
in_places (size a) is =
    let p = in_places a is in
    let f = in_size a (expr_levels 0 a) (expr_printing 0 a) (expr_printing 0 (size a)) (whole a p) (simp append_assoc refl) in
    record {
      sum = λ depth room d r. sum_of_product depth room (size a) 1 (expr_printing 0 (size a)) (product_of_factor depth room (size a) (expr_printing 0 (size a)) (f depth room d r));
      product = λ depth room d r. product_of_factor depth room (size a) (expr_printing 0 (size a)) (f depth room d r);
      factor = λ depth room d r. f depth room d r;
    }
in_places (times a b) is =
    let pa = in_places a is.1 in
    let pb = in_places b is.2 in
    let n : ℕ = max (expr_levels 1 a) (expr_levels 2 b) in
    let product : (depth room : ℕ) → n ≤ depth → n ≤ room → ProductOf depth room (times a b) (factors (times a b)) (expr_printing 1 (times a b)) = λ depth room d r.
    same_chained star_token product_tree (grammar.factor_with room (inner depth room)) Ends (times a b) (suc (factors a)) (factors (times a b)) _ (expr_printing 1 (times a b)) (omega arith) (simp (append_assoc, append-nil) refl) (product_more a b pa pb (omega (arith, is.0)) depth room d r) in
    let sum : (depth room : ℕ) → n ≤ depth → n ≤ room → SumOf depth room (times a b) 1 (expr_printing 0 (times a b)) = λ depth room d r.
    sum_of_product depth room (times a b) (factors (times a b)) (expr_printing 0 (times a b)) (product depth room d r) in
    record {
      sum = λ depth room d r. sum depth room (omega (arith, d)) (omega (arith, r));
      product = λ depth room d r. product depth room (omega (arith, d)) (omega (arith, r));
      factor = in_brackets (times a b) n (expr_printing 0 (times a b)) (expr_printing 2 (times a b))
          (λ depth room d r. whole_of_sum depth room (times a b) 1 (expr_printing 0 (times a b)) (sum depth room d r))
          (simp (append_assoc, append-nil) refl);
    }
in_places (plus a b) is =
    let pa = in_places a is.1 in
    let pb = in_places b is.2 in
    let n : ℕ = max (expr_levels 0 a) (expr_levels 1 b) in
    let e : PlainExpr = plus a b in
    let sum : (depth room : ℕ) → n ≤ depth → n ≤ room → SumOf depth room e (terms e) (expr_printing 0 e) = λ depth room d r.
    same_chained sum_token sum_tree (term depth room) Ends e (suc (terms a)) (terms e) _ (expr_printing 0 e) (omega arith) (simp (append_assoc, append-nil) refl) (sum_more adding (codes "+ ") a b plus_puts pa pb (omega (arith, is.0)) depth room d r) in
    let factor : (depth room : ℕ) → 1 + n ≤ depth → 1 + n ≤ room → FactorOf depth room e (expr_printing 2 e) =
    in_brackets e n (expr_printing 0 e) (expr_printing 2 e)
    (λ depth room d r. whole_of_sum depth room e (terms e) (expr_printing 0 e) (sum depth room d r))
    (simp (append_assoc, append-nil) refl) in
    record {
      sum = λ depth room d r. sum depth room (omega (arith, d)) (omega (arith, r));
      product = λ depth room d r. product_of_factor depth room e (expr_printing 1 e) (factor depth room d r);
      factor = factor;
    }
in_places (minus a b) is =
    let pa = in_places a is.1 in
    let pb = in_places b is.2 in
    let n : ℕ = max (expr_levels 0 a) (expr_levels 1 b) in
    let e : PlainExpr = minus a b in
    let sum : (depth room : ℕ) → n ≤ depth → n ≤ room → SumOf depth room e (terms e) (expr_printing 0 e) = λ depth room d r.
    same_chained sum_token sum_tree (term depth room) Ends e (suc (terms a)) (terms e) _ (expr_printing 0 e) (omega arith) (simp (append_assoc, append-nil) refl) (sum_more subtracting (codes "- ") a b minus_puts pa pb (omega (arith, is.0)) depth room d r) in
    let factor : (depth room : ℕ) → 1 + n ≤ depth → 1 + n ≤ room → FactorOf depth room e (expr_printing 2 e) =
    in_brackets e n (expr_printing 0 e) (expr_printing 2 e)
    (λ depth room d r. whole_of_sum depth room e (terms e) (expr_printing 0 e) (sum depth room d r))
    (simp (append_assoc, append-nil) refl) in
    record {
      sum = λ depth room d r. sum depth room (omega (arith, d)) (omega (arith, r));
      product = λ depth room d r. product_of_factor depth room e (expr_printing 1 e) (factor depth room d r);
      factor = factor;
    }
