-- What an operator makes of two values.
use Rattle.ucon_base.specs.declared.value.Value.{Value}
use Rattle.ucon_base.specs.Arithmetic.{sum_of, difference_of, product_of}
use Rattle.ucon_eval.specs.declared.update.Operator.{Operator}
use Rattle.ucon_eval.specs.declared.update.Operator.TheVariants.{Plus, Minus, Times}

abbrev pub combined : Operator → Value → Value → Value
combined Plus = sum_of
combined Minus = difference_of
combined Times = product_of
