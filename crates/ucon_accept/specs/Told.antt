-- What can be worked out from the facts of a line alone.
use Rattle.std.specs.Prelude.{ℤ, pos, Bool, List, [], ◌∷◌, Option, Some, None, if◌then◌else◌}
use Rattle.ucon_base.specs.declared.value.Value.{Value}
use Rattle.ucon_model.specs.declared.formula.Ref.{Ref}
use Rattle.ucon_model.specs.Places.{same_place}
use Rattle.ucon_model.specs.Plain.{PlainTest}
use Rattle.ucon_model.specs.Truth.{Readings, truth}
use Rattle.ucon_model.specs.Asked.{no_session}
use Rattle.ucon_accept.specs.declared.explanation.Fact.{Fact}
use Rattle.ucon_accept.specs.declared.explanation.Fact.TheVariants as facts

-- what a fact says that a place holds, if it is of this place
abbrev pub value_in : Fact → Ref → Option Value
value_in (facts.Value p v) place = if same_place place p then Some v else None
value_in f place = None

-- what is there, or else this
abbrev pub told_else : Option Value → Option Value → Option Value
told_else None other = other
told_else (Some v) other = Some v

-- what the first fact of a place says that it holds
abbrev pub value_told : List Fact → Ref → Option Value
value_told [] place = None
value_told (f ∷ fs) place = told_else (value_in f place) (value_told fs place)

-- what the first fact of an act says
abbrev pub moment_told : List Fact → Option ℤ
moment_told [] = None
moment_told (facts.Moment s a o m ∷ fs) = m
moment_told (f ∷ fs) = moment_told fs

-- what the first fact of the tick says
abbrev pub tick_told : List Fact → ℤ
tick_told [] = pos 0
tick_told (facts.Tick t ∷ fs) = t
tick_told (f ∷ fs) = tick_told fs

-- what the facts give to read, of one session and of one act
abbrev pub told : List Fact → Readings
told fs = record { now = tick_told fs; row = λ n. None; at = λ row place. value_told fs place; done_at = λ s a o. moment_told fs }

-- a test's truth by the facts, for a usage that hasn't begun
abbrev pub truth_told : List Fact → PlainTest → Bool
truth_told fs test = truth (told fs) no_session test
