-- Which places are looked for among those that are read.
use Rattle.std.specs.Prelude.{Bool, not, List, filter}
use Rattle.std.specs.List.{list_any, flat_map}
use Rattle.ucon_model.specs.declared.formula.Ref.{Ref}
use Rattle.ucon_model.specs.Plain.{PlainRight}
use Rattle.ucon_model.specs.Decision.{ongoing}
use Rattle.ucon_model.specs.Places.{test_places, same_place}
use Rattle.ucon_model.specs.Typing.{is_variable}
use Rattle.ucon_check.specs.declared.sought.Sought.{Sought}
use Rattle.ucon_check.specs.declared.sought.Sought.TheVariants.{Variable, Attribute, This}

-- whether a place is what is sought
abbrev pub fits : Sought → Ref → Bool
fits Variable = λ p. is_variable p
fits Attribute = λ p. not (is_variable p)
fits (This place) = λ p. same_place place p

-- the places that a right's ongoing predicates read, each as often as it is read
abbrev pub all_read : PlainRight → List Ref
all_read r = flat_map (λ p. test_places p.test) (filter ongoing r.preds)

-- whether a right's ongoing predicates read a place
abbrev pub is_read : PlainRight → Ref → Bool
is_read r place = list_any (same_place place) (all_read r)
