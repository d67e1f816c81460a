-- The comparisons of the policy language.
use Rattle.std.specs.Prelude.{Bool, false, not, int_lt, int_le}
use Rattle.std.specs.List.{list_any}
use Rattle.std.specs.Str.{bytes_eq}
use Rattle.ucon_base.specs.declared.value.Value.{Value}
use Rattle.ucon_base.specs.declared.value.Value.TheVariants.{Int, Text, Set}
use Rattle.ucon_base.specs.Arithmetic.{same_value}
use Rattle.ucon_model.specs.declared.formula.Op.{Op}
use Rattle.ucon_model.specs.declared.formula.Op.TheVariants.{Eq, Ne, Lt, Le, Gt, Ge, Member}

-- whether two values compare so: `=` and `!=` any two, the orders two integers, `in` a text with a set
abbrev pub compares : Op → Value → Value → Bool
compares Eq v w = same_value v w
compares Ne v w = not (same_value v w)
compares Lt (Int a) (Int b) = int_lt a b
compares Le (Int a) (Int b) = int_le a b
compares Gt (Int a) (Int b) = int_lt b a
compares Ge (Int a) (Int b) = int_le b a
compares Member (Text t) (Set s) = list_any (bytes_eq t) s
compares op v w = false
