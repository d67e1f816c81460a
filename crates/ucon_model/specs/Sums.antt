-- Tests that make no new set. In a well typed policy only updates make one, so tests take no memory.
use Rattle.std.specs.Prelude.{ℕ, Bool, true, false, ◌&&◌, not, Option, Some, List}
use Rattle.std.specs.List.{list_all}
use Rattle.ucon_base.specs.declared.value.Value.{Value}
use Rattle.ucon_base.specs.declared.value.Value.TheVariants.{Text, Set}
use Rattle.std.specs.Str.{bytes_eq}
use Rattle.ucon_model.specs.declared.formula.Op.{Op}
use Rattle.ucon_model.specs.declared.formula.Op.TheVariants.{Lt, Le, Gt, Ge}
use Rattle.ucon_model.specs.declared.formula.Ref.{Ref}
use Rattle.ucon_model.specs.declared.session.SessionRow.{SessionRow}
use Rattle.ucon_model.specs.Plain.{PlainExpr, lit, read, plus, minus, times, size, PlainFormula, both, either, negation, compare, lasts, PlainTest}
use Rattle.ucon_model.specs.Plain.{authorisation, duty, condition, PlainPredicate, PlainPolicy}
use Rattle.ucon_model.specs.Truth.{Readings, value_of}
use Rattle.ucon_model.specs.Decision.{right_named}
use Rattle.std.specs.Option.{option_map_or}

-- an order of integers
abbrev pub is_order : Op → Bool
is_order Lt = true
is_order Le = true
is_order Gt = true
is_order Ge = true
is_order op = false

-- whether there are two texts, and the same
abbrev pub is_same_text : Option (List ℕ) → Option (List ℕ) → Bool
is_same_text (Some t) (Some u) = bytes_eq t u
is_same_text a b = false

-- whether these are a set and a text
abbrev pub is_set_and_text : Value → Value → Bool
is_set_and_text (Set s) (Text t) = true
is_set_and_text v w = false

-- whether no sum and no difference in an expression is of a set and a text
abbrev pub makes_no_set : (Ref → Option Value) → PlainExpr → Bool
makes_no_set at (lit v) = true
makes_no_set at (read place) = true
makes_no_set at (plus a b) = makes_no_set at a && makes_no_set at b && not (is_set_and_text (value_of at a) (value_of at b))
makes_no_set at (minus a b) = makes_no_set at a && makes_no_set at b && not (is_set_and_text (value_of at a) (value_of at b))
makes_no_set at (times a b) = makes_no_set at a && makes_no_set at b
makes_no_set at (size a) = makes_no_set at a

abbrev pub formula_makes_no_set : (Ref → Option Value) → PlainFormula → Bool
formula_makes_no_set at (both f g) = formula_makes_no_set at f && formula_makes_no_set at g
formula_makes_no_set at (either f g) = formula_makes_no_set at f && formula_makes_no_set at g
formula_makes_no_set at (negation f) = formula_makes_no_set at f
formula_makes_no_set at (compare op a b) = makes_no_set at a && makes_no_set at b
formula_makes_no_set at (lasts n) = true

abbrev pub test_makes_no_set : (Ref → Option Value) → PlainTest → Bool
test_makes_no_set at (authorisation f) = formula_makes_no_set at f
test_makes_no_set at (duty o) = true
test_makes_no_set at (condition f) = formula_makes_no_set at f

-- whether no predicate of a list makes a set for a session
abbrev pub preds_make_no_set : Readings → SessionRow → List PlainPredicate → Bool
preds_make_no_set R row preds = list_all (λ p. test_makes_no_set (R.at row) p.test) preds

-- whether no predicate of session n's right makes a set
abbrev pub tests_make_no_set : PlainPolicy → Readings → ℕ → Bool
tests_make_no_set P R n =
    option_map_or (λ row. option_map_or (λ right. preds_make_no_set R row right.preds) (right_named P.rights row.right) true) (R.row n) true
