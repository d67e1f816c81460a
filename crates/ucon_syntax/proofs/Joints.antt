-- Chains by what joins their operands.
use Rattle.std.proofs.Common.{◌≡◌, ℕ, true, List, [], ◌∷◌, Option, Some, None, is_some, refl, ap}
use Rattle.ucon_base.specs.Tokens.{Token, a_symbol, star}
use Rattle.ucon_model.specs.Plain.{PlainExpr, times}
use Rattle.ucon_token.specs.Tokens.{first, is_symbol}
use Rattle.ucon_syntax.specs.declared.starts.SumSign.{SumSign}
use Rattle.ucon_syntax.specs.declared.expr.Joint.TheVariants as signs
use Rattle.ucon_syntax.specs.declared.formula.Joint.TheVariants as words
use Rattle.ucon_syntax.specs.Starts.{sum_sign}
use Rattle.ucon_syntax.specs.Expressions.{factor_at, term_at, expr_at, products, sums_and_differences, signed, joined, goes_on, operators, operand_at, chain_at}
use Rattle.ucon_syntax.specs.Formulas.{conj_at, formula_at, chain_at as formulas_at, word_of, operand_at as formula_operand_at}
use Rattle.ucon_syntax.proofs.Chains.{more_alike, rest_alike}
use Rattle.ucon_syntax.proofs.Words.{is_symbol_is}

-- ---- of formulas

pub chain_of_and : (room : ℕ) (ts : List Token) → formulas_at words.And room ts ≡ conj_at room ts
unfolding formulas_at word_of formula_operand_at conj_at
chain_of_and room ts = refl

pub chain_of_or : (room : ℕ) (ts : List Token) → formulas_at words.Or room ts ≡ formula_at room ts
unfolding formulas_at word_of formula_operand_at formula_at
chain_of_or room ts = refl

-- ---- of expressions

star_joins : (t : Token) (a b : PlainExpr) → is_symbol t star ≡ true → joined (sum_sign t) a b ≡ times a b
unfolding sum_sign
star_joins t a b e = let is : t ≡ a_symbol star = ap first (is_symbol_is (t ∷ []) star e) in rw is refl

sign_is : (sign : Option SumSign) (a b : PlainExpr) → is_some sign ≡ true → joined sign a b ≡ signed sign a b
sign_is (Some s) a b e = refl
sign_is None a b e = absurd cc

pub chain_of_star : (room : ℕ) (ts : List Token) → chain_at signs.Star room ts ≡ term_at room ts
unfolding chain_at goes_on operand_at term_at
chain_of_star room ts = rest_alike (factor_at room ts) _ _ (more_alike (operators signs.Star) products (factor_at room) (λ t. refl) (λ t. refl) star_joins 31)

pub chain_of_sign : (room : ℕ) (ts : List Token) → chain_at signs.Sign room ts ≡ expr_at room ts
unfolding chain_at goes_on operand_at expr_at
chain_of_sign room ts = rest_alike (term_at room ts) _ _ (more_alike (operators signs.Sign) sums_and_differences (term_at room) (λ t. refl) (λ t. refl) (λ t. sign_is (sum_sign t)) 31)
