-- When what is read has a meaning: each place is there, and each operation is one of the language's.
use Rattle.std.specs.Prelude.{Bool, true, false, ◌&&◌, Option, is_some}
use Rattle.ucon_base.specs.declared.value.Value.{Value}
use Rattle.ucon_base.specs.declared.value.Value.TheVariants.{Int, Text, Set}
use Rattle.ucon_model.specs.declared.formula.Op.{Op}
use Rattle.ucon_model.specs.declared.formula.Op.TheVariants.{Eq, Ne, Lt, Le, Gt, Ge, Member}
use Rattle.ucon_model.specs.declared.formula.Ref.{Ref}
use Rattle.ucon_model.specs.Plain.{PlainExpr, lit, read, plus, minus, times, size, PlainFormula, both, either, negation, compare, lasts, PlainTest}
use Rattle.ucon_model.specs.Plain.{authorisation, duty, condition}
use Rattle.ucon_model.specs.Truth.{value_of}

abbrev pub are_integers : Value → Value → Bool
are_integers (Int a) (Int b) = true
are_integers v w = false

-- what may be added, or taken away: two integers, and in an update a text to a set
abbrev pub adds : Bool → Value → Value → Bool
adds true (Set s) (Text t) = true
adds in_update v w = are_integers v w

abbrev pub has_size : Value → Bool
has_size (Set s) = true
has_size v = false

abbrev pub are_of_one_kind : Value → Value → Bool
are_of_one_kind (Int a) (Int b) = true
are_of_one_kind (Text a) (Text b) = true
are_of_one_kind (Set a) (Set b) = true
are_of_one_kind v w = false

abbrev pub is_text_and_set : Value → Value → Bool
is_text_and_set (Text t) (Set s) = true
is_text_and_set v w = false

-- what may be compared: by `=` and `!=` two of one kind, by the orders two integers, by `in` a text with a set
abbrev pub may_compare : Op → Value → Value → Bool
may_compare Eq v w = are_of_one_kind v w
may_compare Ne v w = are_of_one_kind v w
may_compare Lt v w = are_integers v w
may_compare Le v w = are_integers v w
may_compare Gt v w = are_integers v w
may_compare Ge v w = are_integers v w
may_compare Member v w = is_text_and_set v w

-- whether an expression, in an update or in a predicate, has a meaning by what its places hold
abbrev pub expr_means : Bool → (Ref → Option Value) → PlainExpr → Bool
expr_means in_update at (lit v) = true
expr_means in_update at (read place) = is_some (at place)
expr_means in_update at (plus a b) = expr_means in_update at a && expr_means in_update at b && adds in_update (value_of at a) (value_of at b)
expr_means in_update at (minus a b) = expr_means in_update at a && expr_means in_update at b && adds in_update (value_of at a) (value_of at b)
expr_means in_update at (times a b) = expr_means in_update at a && expr_means in_update at b && are_integers (value_of at a) (value_of at b)
expr_means in_update at (size a) = expr_means in_update at a && has_size (value_of at a)

abbrev pub formula_means : (Ref → Option Value) → PlainFormula → Bool
formula_means at (both f g) = formula_means at f && formula_means at g
formula_means at (either f g) = formula_means at f && formula_means at g
formula_means at (negation f) = formula_means at f
formula_means at (compare op a b) = expr_means false at a && expr_means false at b && may_compare op (value_of at a) (value_of at b)
formula_means at (lasts n) = true

abbrev pub test_means : (Ref → Option Value) → PlainTest → Bool
test_means at (authorisation f) = formula_means at f
test_means at (duty o) = true
test_means at (condition f) = formula_means at f
