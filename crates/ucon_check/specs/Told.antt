-- What the checker tells of a fault.
use Rattle.std.specs.Prelude.{◌≡◌, Option, Some, None, option_map, Result, MatchResult}
use Rattle.ucon_model.specs.Typing.{TypeFault, twice, no_name, wrong_reader, wrong_kind, not_core, too_many_cells}
use Rattle.ucon_check.specs.declared.fault.CheckFault.{CheckFault}
use Rattle.ucon_check.specs.declared.fault.CheckFault.TheVariants.{Twice, NoName, WrongReader, WrongKind, NotCore, TooManyCells}
use Rattle.ucon_check.specs.Numbers.{told_number}

-- a fault as it is told
abbrev pub told : TypeFault → CheckFault
told (twice name n) = Twice name (told_number n)
told (no_name name n) = NoName name (told_number n)
told (wrong_reader n) = WrongReader (told_number n)
told (wrong_kind n) = WrongKind (told_number n)
told (not_core right) = NotCore right
told (too_many_cells right count) = TooManyCells right (told_number count)

-- Ok if there is no fault, else the fault as it is told
abbrev pub Answers : {T : Type 0} → Option TypeFault → Result T CheckFault → Type 0
Answers fault result = MatchResult result (λ x. option_map told fault ≡ None) (λ e. option_map told fault ≡ Some e)
