-- What the worth of an expression stands for.
use Rattle.ucon_base.specs.declared.value.Value.{Value}
use Rattle.ucon_base.specs.declared.value.Value.TheVariants as values
use Rattle.ucon_accept.specs.declared.worth.Worth.{Worth}
use Rattle.ucon_accept.specs.declared.worth.Worth.TheVariants.{Int, Text, Set}

abbrev pub worth_value : Worth → Value
worth_value (Int n) = values.Int n
worth_value (Text t) = values.Text t.now
worth_value (Set s) = values.Set s.now
