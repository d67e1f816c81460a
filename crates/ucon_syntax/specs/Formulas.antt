-- Reading formulas.
use Rattle.std.specs.Prelude.{ℕ, zero, suc, drop, Option, Some, None, Ok, Err, codes}
use Rattle.ucon_model.specs.Plain.{Bytes, PlainFormula, both, either, negation, compare, lasts}
use Rattle.ucon_base.specs.Tokens.{open_square, close_square}
use Rattle.ucon_token.specs.declared.stop.Cause.TheVariants.{TooDeep}
use Rattle.ucon_token.specs.Tokens.{first, is_word}
use Rattle.ucon_token.specs.Reading.{Reads, ◌>>=◌, expect, taken, number_at}
use Rattle.ucon_syntax.specs.Chains.{Operators, one_more, chain}
use Rattle.ucon_syntax.specs.Expressions.{expr_at}
use Rattle.ucon_syntax.specs.Starts.{op_of, unit_start, is_late}
use Rattle.ucon_syntax.specs.declared.formula.Joint.{Joint}
use Rattle.ucon_syntax.specs.declared.formula.Joint.TheVariants as joints
use Rattle.ucon_syntax.specs.declared.starts.UnitStart.{UnitStart}
use Rattle.ucon_syntax.specs.declared.starts.UnitStart.TheVariants as units

-- two expressions and the operator between them
unfoldable pub compare_at : ℕ → Reads PlainFormula
compare_at room ts = do
  left ← expr_at room ts
  op ← taken (op_of (first left.1)) left.1
  right ← expr_at room op.1
  Ok (compare op.0 left.0 right.0, right.1)

-- `and`
abbrev pub conjunctions : Operators PlainFormula
conjunctions = record { goes_on = λ t. is_word t (codes "and"); is_late = is_late (codes "and"); join = λ t f g. both f g }

-- `or`
abbrev pub disjunctions : Operators PlainFormula
disjunctions = record { goes_on = λ t. is_word t (codes "or"); is_late = is_late (codes "or"); join = λ t f g. either f g }

-- a formula, of units that are read so
abbrev pub formula_with : Reads PlainFormula → Reads PlainFormula
formula_with unit ts = chain disjunctions (chain conjunctions unit) ts

-- what the units read, between `[` and `]`
abbrev pub square_with : Reads PlainFormula → Reads PlainFormula
square_with formula ts = do
  opened ← expect open_square ts
  f ← formula opened
  closed ← expect close_square f.1
  Ok (f.0, closed)

-- the unit that begins so, where inner reads the units one level below, if a level is left, and other what begins otherwise
abbrev pub unit_from : Option (Reads PlainFormula) → Reads PlainFormula → UnitStart → Reads PlainFormula
unit_from None other units.Not ts = Err (TooDeep, ts)
unit_from (Some inner) other units.Not ts = do
  f ← inner (drop 1 ts)
  Ok (negation f.0, f.1)
unit_from None other units.Bracket ts = Err (TooDeep, ts)
unit_from (Some inner) other units.Bracket ts = square_with (formula_with inner) ts
unit_from inner other units.Lasts ts = do
  n ← number_at (drop 1 ts)
  Ok (lasts n.0, n.1)
unit_from inner other units.Compare ts = other ts

-- what reads the units one level below, with this many levels left
unfoldable pub unit_level : ℕ → Option (Reads PlainFormula)
unit_level zero = None
unit_level (suc room) = Some (λ ts. unit_from (unit_level room) (compare_at room) (unit_start (first ts)) ts)

unfoldable pub unit_at : ℕ → Reads PlainFormula
unit_at room ts = unit_from (unit_level room) (compare_at room) (unit_start (first ts)) ts

unfoldable pub conj_at : ℕ → Reads PlainFormula
conj_at room ts = chain conjunctions (unit_at room) ts

unfoldable pub formula_at : ℕ → Reads PlainFormula
formula_at room ts = chain disjunctions (conj_at room) ts

unfoldable pub square_at : ℕ → Reads PlainFormula
square_at room ts = square_with (formula_at room) ts

-- the negation of the unit behind the first token
unfoldable pub not_at : ℕ → Reads PlainFormula
not_at room ts = do
  f ← unit_at room (drop 1 ts)
  Ok (negation f.0, f.1)

-- ---- the chains by what joins their operands

unfoldable pub word_of : Joint → Bytes
word_of joints.And = codes "and"
word_of joints.Or = codes "or"

abbrev pub joined : Joint → PlainFormula → PlainFormula → PlainFormula
joined joints.And f g = both f g
joined joints.Or f g = either f g

abbrev pub operators : Joint → Operators PlainFormula
operators joint = record { goes_on = λ t. is_word t (word_of joint); is_late = is_late (word_of joint); join = λ t f g. joined joint f g }

unfoldable pub operand_at : Joint → ℕ → Reads PlainFormula
operand_at joints.And room ts = unit_at room ts
operand_at joints.Or room ts = conj_at room ts

-- what stands before a joint, joined with the operand behind it
abbrev pub more_at : Joint → ℕ → PlainFormula → Reads PlainFormula
more_at joint room left ts = one_more (operators joint) (operand_at joint room) left ts

unfoldable pub chain_at : Joint → ℕ → Reads PlainFormula
chain_at joint room ts = chain (operators joint) (operand_at joint room) ts
