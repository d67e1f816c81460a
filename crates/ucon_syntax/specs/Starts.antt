-- What a token begins, where the grammar asks.
use Rattle.std.specs.Prelude.{◌||◌, Bool, Option, Some, None, is_some, is_none, if◌then◌else◌, codes}
use Rattle.std.specs.Str.{bytes_eq}
use Rattle.ucon_base.specs.Name.{first_fault}
use Rattle.ucon_base.specs.declared.value.Side.{Side}
use Rattle.ucon_base.specs.declared.value.Side.TheVariants as sides
use Rattle.ucon_model.specs.declared.formula.Op.{Op}
use Rattle.ucon_model.specs.declared.formula.Op.TheVariants as ops
use Rattle.ucon_model.specs.declared.policy.Phase.{Phase}
use Rattle.ucon_model.specs.declared.policy.Phase.TheVariants as phases
use Rattle.ucon_model.specs.declared.policy.When.{When}
use Rattle.ucon_model.specs.declared.policy.When.TheVariants as whens
use Rattle.ucon_model.specs.Plain.{Bytes}
use Rattle.ucon_base.specs.Tokens.{Token, a_word, a_number, a_text, a_symbol, Symbol, equal_sign, unequal_sign, less_sign, at_most_sign, greater_sign}
use Rattle.ucon_base.specs.Tokens.{at_least_sign, plus_sign, minus_sign, open_round, open_square, open_curly}
use Rattle.ucon_token.specs.Tokens.{is_symbol, is_word, is_joined, text_of}
use Rattle.ucon_syntax.specs.declared.starts.FactorStart.{FactorStart}
use Rattle.ucon_syntax.specs.declared.starts.FactorStart.TheVariants as factors
use Rattle.ucon_syntax.specs.declared.starts.SumSign.{SumSign}
use Rattle.ucon_syntax.specs.declared.starts.SumSign.TheVariants as sums
use Rattle.ucon_syntax.specs.declared.starts.UnitStart.{UnitStart}
use Rattle.ucon_syntax.specs.declared.starts.UnitStart.TheVariants as units
use Rattle.ucon_syntax.specs.declared.starts.TestSort.{TestSort}
use Rattle.ucon_syntax.specs.declared.starts.TestSort.TheVariants as sorts
use Rattle.ucon_syntax.specs.declared.starts.DutyWord.{DutyWord}
use Rattle.ucon_syntax.specs.declared.starts.DutyWord.TheVariants as duties
use Rattle.ucon_syntax.specs.declared.starts.KindWord.{KindWord}
use Rattle.ucon_syntax.specs.declared.starts.KindWord.TheVariants as kinds

abbrev pub symbol_factor : Symbol → Option FactorStart
symbol_factor minus_sign = Some factors.Literal
symbol_factor open_curly = Some factors.Literal
symbol_factor open_round = Some factors.Round
symbol_factor s = None

abbrev pub word_factor : Bytes → Option FactorStart
word_factor n =
    if bytes_eq n (codes "s") then Some factors.Subject else
    if bytes_eq n (codes "o") then Some factors.Object else
    if bytes_eq n (codes "env") then Some factors.Env else
    if bytes_eq n (codes "size") then Some factors.Size else None

-- what sort of factor begins with it
unfoldable pub factor_start : Token → Option FactorStart
factor_start (a_number n) = Some factors.Literal
factor_start (a_text t) = Some factors.Literal
factor_start (a_symbol s) = symbol_factor s
factor_start (a_word n) = word_factor n
factor_start t = None

abbrev pub symbol_sum : Symbol → Option SumSign
symbol_sum plus_sign = Some sums.Plus
symbol_sum minus_sign = Some sums.Minus
symbol_sum s = None

-- `+` or `-`
unfoldable pub sum_sign : Token → Option SumSign
sum_sign (a_symbol s) = symbol_sum s
sum_sign t = None

abbrev pub is_sum_sign : Token → Bool
is_sum_sign t = is_some (sum_sign t)

-- what sort of unit begins with it
unfoldable pub unit_start : Token → UnitStart
unit_start t =
    if is_word t (codes "not") then units.Not else
    if is_symbol t open_square then units.Bracket else
    if is_word t (codes "lasts") then units.Lasts else units.Compare

abbrev pub symbol_op : Symbol → Option Op
symbol_op equal_sign = Some ops.Eq
symbol_op unequal_sign = Some ops.Ne
symbol_op less_sign = Some ops.Lt
symbol_op at_most_sign = Some ops.Le
symbol_op greater_sign = Some ops.Gt
symbol_op at_least_sign = Some ops.Ge
symbol_op s = None

abbrev pub word_op : Bytes → Option Op
word_op n = if bytes_eq n (codes "in") then Some ops.Member else None

-- the comparison that it stands for
unfoldable pub op_of : Token → Option Op
op_of (a_symbol s) = symbol_op s
op_of (a_word n) = word_op n
op_of t = None

-- whether it is this operator, where one more operand may follow, and where none may
abbrev pub is_operator : Bytes → Token → Bool
is_operator w t = is_word t w

abbrev pub is_late : Bytes → Token → Bool
is_late w t = is_word t w || is_joined t w

unfoldable pub side_of : Token → Option Side
side_of t =
    if is_word t (codes "s") then Some sides.Subject else
    if is_word t (codes "o") then Some sides.Object else None

unfoldable pub kind_word : Token → Option KindWord
kind_word t =
    if is_word t (codes "int") then Some kinds.Int else
    if is_word t (codes "text") then Some kinds.Text else
    if is_word t (codes "set") then Some kinds.Set else None

unfoldable pub phase_of : Token → Option Phase
phase_of t =
    if is_word t (codes "pre") then Some phases.Pre else
    if is_word t (codes "on") then Some phases.Ongoing else None

unfoldable pub test_sort : Token → Option TestSort
test_sort t =
    if is_word t (codes "a") then Some sorts.A else
    if is_word t (codes "b") then Some sorts.B else
    if is_word t (codes "c") then Some sorts.C else None

unfoldable pub duty_word : Token → Option DutyWord
duty_word t =
    if is_word t (codes "done") then Some duties.Done else
    if is_word t (codes "within") then Some duties.Within else
    if is_word t (codes "every") then Some duties.Every else None

unfoldable pub when_of : Token → Option When
when_of t =
    if is_word t (codes "before") then Some whens.Before else
    if is_word t (codes "during") then Some whens.During else
    if is_word t (codes "after_end") then Some whens.AfterEnd else
    if is_word t (codes "after_revoke") then Some whens.AfterRevoke else None

abbrev pub if_name : Option Bytes → Option Bytes
if_name None = None
if_name (Some t) = if is_none (first_fault t) then Some t else None

-- the name that a text spells
unfoldable pub name_in : Token → Option Bytes
name_in t = if_name (text_of t)
