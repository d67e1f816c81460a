-- What reads one level below.
use Rattle.std.proofs.Common.{◌≡◌, ℕ, zero, suc, ◌-◌, ◌≢◌, List, Some, None, refl, arith}
use Rattle.ucon_base.specs.Tokens.{Token}
use Rattle.ucon_syntax.specs.Expressions.{level, factor_at, term_at, expr_at}
use Rattle.ucon_syntax.specs.Formulas.{unit_level, unit_at, conj_at, formula_at, square_at, square_with, formula_with}

pub level_none : (room : ℕ) → room ≡ 0 → level room ≡ None
unfolding level
level_none zero e = refl
level_none (suc room) e = absurd (omega arith)

pub level_some : (room : ℕ) → room ≢ 0 → level room ≡ Some (expr_at (room - 1))
unfolding level factor_at term_at expr_at
level_some zero ne = absurd (omega arith)
level_some (suc room) ne = let k : suc room - 1 ≡ room = omega arith in rw k refl

pub unit_level_none : (room : ℕ) → room ≡ 0 → unit_level room ≡ None
unfolding unit_level
unit_level_none zero e = refl
unit_level_none (suc room) e = absurd (omega arith)

pub unit_level_some : (room : ℕ) → room ≢ 0 → unit_level room ≡ Some (unit_at (room - 1))
unfolding unit_level unit_at
unit_level_some zero ne = absurd (omega arith)
unit_level_some (suc room) ne = let k : suc room - 1 ≡ room = omega arith in rw k refl

pub square_is : (room : ℕ) (ts : List Token) → square_with (formula_with (unit_at room)) ts ≡ square_at room ts
unfolding square_at formula_at conj_at
square_is room ts = refl
