-- The operators of chains.
use Rattle.std.specs.Prelude.{⊤}
use Rattle.std.proofs.Common.{◌≡◌, Bool, true, false, ◌||◌, ◌⊎◌, inl, inr, List, [], ◌∷◌, drop, Option, Some, None, is_some, codes, refl, sym, ap, ◌∙◌, subst}
use Rattle.std.proofs.lemmas.Slice.Eq.{bytes_eq-Decides}
use Rattle.ucon_model.specs.Plain.{Bytes, PlainExpr, times, both, either}
use Rattle.ucon_base.specs.Tokens.{Token, a_word, a_number, a_text, a_symbol, joined_word, flawed, the_end, Symbol, plus_sign, minus_sign, star}
use Rattle.ucon_model.specs.Forms.{word, symbol, as_token, operand}
use Rattle.ucon_model.specs.Grammar.{SumSign, adding, subtracting, sum_token, sum_tree}
use Rattle.ucon_model.specs.Spells.{Stands}
use Rattle.ucon_token.specs.Tokens.{first, is_symbol, is_word, is_joined}
use Rattle.ucon_syntax.specs.declared.starts.SumSign.{SumSign as Sign}
use Rattle.ucon_syntax.specs.declared.starts.SumSign.TheVariants as sums
use Rattle.ucon_syntax.specs.Starts.{sum_sign, symbol_sum, is_sum_sign, is_late}
use Rattle.ucon_syntax.specs.Expressions.{products, sums_and_differences}
use Rattle.ucon_syntax.specs.Formulas.{conjunctions, disjunctions}
use Rattle.ucon_syntax.proofs.Sound.{Anything}
use Rattle.ucon_syntax.proofs.Chained.{Chaining, Ends}
use Rattle.ucon_syntax.proofs.Words.{is_symbol_is, is_word_is, word_tests}

symbol_stands : (s : Symbol) (u : Token) → Stands operand (symbol s) u → u ≡ a_symbol s
symbol_stands s u (inl e) = e
symbol_stands s u (inr e) = absurd e

-- ---- `*`

star_again : (u : Token) → u ≡ a_symbol star → is_symbol u star ≡ true
unfolding is_symbol
star_again u e = rw e refl

pub products_chain : Chaining (λ (o : ⊤). symbol star) (λ o a b. times a b) products Anything
unfolding is_symbol
products_chain = record {
  goes_is = λ ts e. (tt, is_symbol_is ts star e);
  goes_again = λ o. refl;
  joins = λ o a b. refl;
  late_is = λ ts e. (tt, a_symbol star, is_symbol_is ts star e, inl refl);
  late_again = λ o u s. star_again u (symbol_stands star u s);
  between = λ o u s. tt;
}

-- ---- `+` and `-`

tag : Sign → SumSign
tag sums.Plus = adding
tag sums.Minus = subtracting

symbol_sum_is : (u : Symbol) (s : Sign) → symbol_sum u ≡ Some s → a_symbol u ≡ as_token (sum_token (tag s))
unfolding tag
symbol_sum_is plus_sign s e = let h : sums.Plus ≡ s = cc in rw (← h) refl
symbol_sum_is minus_sign s e = let h : sums.Minus ≡ s = cc in rw (← h) refl
symbol_sum_is u s e = absurd cc

sum_is : (ts : List Token) (s : Sign) → sum_sign (first ts) ≡ Some s → ts ≡ as_token (sum_token (tag s)) ∷ drop 1 ts
unfolding sum_sign
sum_is (a_symbol u ∷ ts) s e = ap (λ (t : Token). t ∷ ts) (symbol_sum_is u s e)
sum_is (a_word n ∷ ts) s e = absurd cc
sum_is (a_number n ∷ ts) s e = absurd cc
sum_is (a_text n ∷ ts) s e = absurd cc
sum_is (joined_word n ∷ ts) s e = absurd cc
sum_is (flawed f ∷ ts) s e = absurd cc
sum_is (the_end ∷ ts) s e = absurd cc
sum_is [] s e = absurd cc

there : (o : Option Sign) → is_some o ≡ true → (s : Sign) × (o ≡ Some s)
there None e = absurd cc
there (Some s) e = (s, refl)

sum_at : (ts : List Token) → is_sum_sign (first ts) ≡ true → (o : SumSign) × (ts ≡ as_token (sum_token o) ∷ drop 1 ts)
sum_at ts e = let s = there (sum_sign (first ts)) e in (tag s.0, sum_is ts s.0 s.1)

sum_again : (o : SumSign) → is_sum_sign (as_token (sum_token o)) ≡ true
unfolding sum_sign
sum_again adding = refl
sum_again subtracting = refl

sum_joins : (o : SumSign) (a b : PlainExpr) → sums_and_differences.join (as_token (sum_token o)) a b ≡ sum_tree o a b
unfolding sum_sign
sum_joins adding a b = refl
sum_joins subtracting a b = refl

sum_stands : (o : SumSign) (u : Token) → Stands operand (sum_token o) u → u ≡ as_token (sum_token o)
sum_stands adding u s = symbol_stands plus_sign u s
sum_stands subtracting u s = symbol_stands minus_sign u s

not_star : (o : SumSign) → is_symbol (as_token (sum_token o)) star ≡ false
unfolding is_symbol
not_star adding = refl
not_star subtracting = refl

pub sums_chain : Chaining sum_token sum_tree sums_and_differences (Ends Anything products)
sums_chain = record {
  goes_is = sum_at;
  goes_again = sum_again;
  joins = sum_joins;
  late_is = λ ts e. let s = sum_at ts e in (s.0, as_token (sum_token s.0), s.1, inl refl);
  late_again = λ o u s. ap is_sum_sign (sum_stands o u s) ∙ sum_again o;
  between = λ o u s. let n = ap (λ t. is_symbol t star) (sum_stands o u s) ∙ not_star o in (tt, n, n);
}

-- ---- `and` and `or`

either_true : (a b : Bool) → (a || b) ≡ true → (a ≡ true) ⊎ (b ≡ true)
either_true true b e = inl refl
either_true false b e = inr e

is_joined_is : (ts : List Token) (w : Bytes) → is_joined (first ts) w ≡ true → ts ≡ joined_word w ∷ drop 1 ts
unfolding is_joined
is_joined_is (joined_word n ∷ ts) w e = ap (λ (m : Bytes). joined_word m ∷ ts) ((bytes_eq-Decides n w).0 e)
is_joined_is (a_word n ∷ ts) w e = absurd cc
is_joined_is (a_symbol t ∷ ts) w e = absurd cc
is_joined_is (a_number n ∷ ts) w e = absurd cc
is_joined_is (a_text n ∷ ts) w e = absurd cc
is_joined_is (flawed f ∷ ts) w e = absurd cc
is_joined_is (the_end ∷ ts) w e = absurd cc
is_joined_is [] w e = absurd cc

late_at : (w : Bytes) (ts : List Token) → is_late w (first ts) ≡ true → (o : ⊤) × (u : Token) × (ts ≡ u ∷ drop 1 ts) × Stands operand (word w) u
late_at w ts e = elim (either_true (is_word (first ts) w) (is_joined (first ts) w) e) [
  | inl h ↦ (tt, a_word w, is_word_is ts w h, inl refl)
  | inr h ↦ (tt, joined_word w, is_joined_is ts w h, inr refl)
]

late_word : (w : Bytes) → is_late w (a_word w) ≡ true
unfolding is_word is_joined
late_word w = let h = (bytes_eq-Decides w w).1 refl in rw h refl

late_joined : (w : Bytes) → is_late w (joined_word w) ≡ true
unfolding is_word is_joined
late_joined w = (bytes_eq-Decides w w).1 refl

late_stands : (w : Bytes) (u : Token) → Stands operand (word w) u → is_late w u ≡ true
late_stands w u (inl e) = ap (is_late w) e ∙ late_word w
late_stands w u (inr e) = ap (is_late w) e ∙ late_joined w

-- what may follow an expression
abbrev pub expr_ends : Token → Type 0
expr_ends = Ends (Ends Anything products) sums_and_differences

-- what may follow a conjunction, and a formula
abbrev pub conj_ends : Token → Type 0
conj_ends = Ends expr_ends conjunctions

abbrev pub formula_ends : Token → Type 0
formula_ends = Ends conj_ends disjunctions

pub word_ends_expr : (w : Bytes) → expr_ends (a_word w)
unfolding is_symbol sum_sign
word_ends_expr w = ((tt, refl, refl), refl, refl)

joined_ends_expr : (w : Bytes) → expr_ends (joined_word w)
unfolding is_symbol sum_sign
joined_ends_expr w = ((tt, refl, refl), refl, refl)

and_follows : (u : Token) → Stands operand (word (codes "and")) u → expr_ends u
and_follows u (inl e) = let P : Token → Type 0 = λ t. expr_ends t in subst P (sym e) (word_ends_expr (codes "and"))
and_follows u (inr e) = let P : Token → Type 0 = λ t. expr_ends t in subst P (sym e) (joined_ends_expr (codes "and"))

or_word : conj_ends (a_word (codes "or"))
unfolding is_word is_joined
or_word = (word_ends_expr (codes "or"), refl, refl)

or_joined : conj_ends (joined_word (codes "or"))
unfolding is_word is_joined
or_joined = (joined_ends_expr (codes "or"), refl, refl)

or_follows : (u : Token) → Stands operand (word (codes "or")) u → conj_ends u
or_follows u (inl e) = let P : Token → Type 0 = λ t. conj_ends t in subst P (sym e) or_word
or_follows u (inr e) = let P : Token → Type 0 = λ t. conj_ends t in subst P (sym e) or_joined

pub conjunctions_chain : Chaining (λ (o : ⊤). word (codes "and")) (λ o f g. both f g) conjunctions expr_ends
conjunctions_chain = record {
  goes_is = λ ts e. (tt, is_word_is ts (codes "and") e);
  goes_again = λ o. (word_tests (codes "and")).again;
  joins = λ o a b. refl;
  late_is = late_at (codes "and");
  late_again = λ o u s. late_stands (codes "and") u s;
  between = λ o u s. and_follows u s;
}

pub disjunctions_chain : Chaining (λ (o : ⊤). word (codes "or")) (λ o f g. either f g) disjunctions conj_ends
disjunctions_chain = record {
  goes_is = λ ts e. (tt, is_word_is ts (codes "or") e);
  goes_again = λ o. (word_tests (codes "or")).again;
  joins = λ o a b. refl;
  late_is = late_at (codes "or");
  late_again = λ o u s. late_stands (codes "or") u s;
  between = λ o u s. or_follows u s;
}
