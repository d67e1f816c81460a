-- Reading expressions.
use Rattle.std.specs.Prelude.{ℕ, Bool, zero, suc, drop, Option, Some, None, Ok, Err}
use Rattle.ucon_model.specs.declared.formula.Ref.TheVariants as refs
use Rattle.ucon_model.specs.Plain.{Bytes, PlainExpr, lit, read, plus, minus, times, size}
use Rattle.ucon_base.specs.Tokens.{Token, dot, star, open_round, close_round}
use Rattle.ucon_token.specs.declared.stop.Cause.TheVariants.{Unexpected, TooDeep}
use Rattle.ucon_token.specs.Tokens.{first, is_symbol}
use Rattle.ucon_token.specs.Reading.{Reads, ◌>>=◌, expect, name_at}
use Rattle.ucon_syntax.specs.Chains.{Operators, one_more, chain}
use Rattle.ucon_token.specs.Literals.{literal_at}
use Rattle.ucon_syntax.specs.Starts.{factor_start, sum_sign, is_sum_sign}
use Rattle.ucon_syntax.specs.declared.expr.Joint.{Joint}
use Rattle.ucon_syntax.specs.declared.expr.Joint.TheVariants as joints
use Rattle.ucon_syntax.specs.declared.starts.FactorStart.{FactorStart}
use Rattle.ucon_syntax.specs.declared.starts.FactorStart.TheVariants as factors
use Rattle.ucon_syntax.specs.declared.starts.SumSign.{SumSign}
use Rattle.ucon_syntax.specs.declared.starts.SumSign.TheVariants as sums

-- the `.` and the name of a place
unfoldable pub place_at : Reads Bytes
place_at ts = do
  after ← expect dot ts
  name_at after

-- what inner reads, between `(` and `)`
abbrev pub round_with : Reads PlainExpr → Reads PlainExpr
round_with inner ts = do
  opened ← expect open_round ts
  e ← inner opened
  closed ← expect close_round e.1
  Ok (e.0, closed)

-- the factor that begins so, where inner reads what stands one level below, if a level is left
abbrev pub factor_from : Option (Reads PlainExpr) → Option FactorStart → Reads PlainExpr
factor_from inner None ts = Err (Unexpected, ts)
factor_from inner (Some factors.Literal) ts = do
  v ← literal_at ts
  Ok (lit v.0, v.1)
factor_from inner (Some factors.Subject) ts = do
  n ← place_at (drop 1 ts)
  Ok (read (refs.Subject n.0), n.1)
factor_from inner (Some factors.Object) ts = do
  n ← place_at (drop 1 ts)
  Ok (read (refs.Object n.0), n.1)
factor_from inner (Some factors.Env) ts = do
  n ← place_at (drop 1 ts)
  Ok (read (refs.Env n.0), n.1)
factor_from None (Some factors.Size) ts = Err (TooDeep, ts)
factor_from (Some inner) (Some factors.Size) ts = do
  e ← round_with inner (drop 1 ts)
  Ok (size e.0, e.1)
factor_from None (Some factors.Round) ts = Err (TooDeep, ts)
factor_from (Some inner) (Some factors.Round) ts = round_with inner ts

abbrev pub signed : Option SumSign → PlainExpr → PlainExpr → PlainExpr
signed (Some sums.Minus) a b = minus a b
signed sign a b = plus a b

-- `*`
abbrev pub products : Operators PlainExpr
products = record { goes_on = λ t. is_symbol t star; is_late = λ t. is_symbol t star; join = λ t a b. times a b }

-- `+` and `-`
abbrev pub sums_and_differences : Operators PlainExpr
sums_and_differences = record { goes_on = is_sum_sign; is_late = is_sum_sign; join = λ t a b. signed (sum_sign t) a b }

-- an expression, of factors that are read so
abbrev pub expr_with : Reads PlainExpr → Reads PlainExpr
expr_with factor ts = chain sums_and_differences (chain products factor) ts

-- what reads one level below, with this many levels left
unfoldable pub level : ℕ → Option (Reads PlainExpr)
level zero = None
level (suc room) = Some (expr_with (λ ts. factor_from (level room) (factor_start (first ts)) ts))

unfoldable pub factor_at : ℕ → Reads PlainExpr
factor_at room ts = factor_from (level room) (factor_start (first ts)) ts

unfoldable pub term_at : ℕ → Reads PlainExpr
term_at room ts = chain products (factor_at room) ts

unfoldable pub expr_at : ℕ → Reads PlainExpr
expr_at room ts = chain sums_and_differences (term_at room) ts

unfoldable pub round_at : ℕ → Reads PlainExpr
round_at room ts = round_with (expr_at room) ts

-- the size of what stands between `(` and `)` behind the first token
unfoldable pub size_at : ℕ → Reads PlainExpr
size_at room ts = do
  e ← round_at room (drop 1 ts)
  Ok (size e.0, e.1)

-- ---- the chains by what joins their operands

-- the sign stands between them, or else a `*`
abbrev pub joined : Option SumSign → PlainExpr → PlainExpr → PlainExpr
joined (Some sign) a b = signed (Some sign) a b
joined None a b = times a b

unfoldable pub goes_on : Joint → Token → Bool
goes_on joints.Star t = is_symbol t star
goes_on joints.Sign t = is_sum_sign t

abbrev pub operators : Joint → Operators PlainExpr
operators joint = record { goes_on = goes_on joint; is_late = goes_on joint; join = λ t a b. joined (sum_sign t) a b }

unfoldable pub operand_at : Joint → ℕ → Reads PlainExpr
operand_at joints.Star room ts = factor_at room ts
operand_at joints.Sign room ts = term_at room ts

-- what stands before a joint, joined with the operand behind it
abbrev pub more_at : Joint → ℕ → PlainExpr → Reads PlainExpr
more_at joint room left ts = one_more (operators joint) (operand_at joint room) left ts

unfoldable pub chain_at : Joint → ℕ → Reads PlainExpr
chain_at joint room ts = chain (operators joint) (operand_at joint room) ts
