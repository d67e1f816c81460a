-- What an amendment drops and another brings back begins anew: an attribute and a variable with the new default, while a value that was set stays
-- where no amendment drops it. An entity that is made meanwhile has the defaults in force there.
use Rattle.std.proofs.Common.{◌≡◌, ℕ, List, [], ◌∷◌, map, refl}
use Rattle.std.specs.Prelude.{pos, codes, Option, Some, None}
use Rattle.ucon_base.specs.declared.value.Side.TheVariants.{Subject}
use Rattle.ucon_base.specs.declared.value.Kind.TheVariants as kinds
use Rattle.ucon_base.specs.declared.value.Value.{Value}
use Rattle.ucon_base.specs.declared.value.Value.TheVariants as values
use Rattle.ucon_model.specs.declared.command.Command.TheVariants as commands
use Rattle.ucon_model.specs.declared.command.Entry.{Entry}
use Rattle.ucon_model.specs.declared.policy.AttrDecl.{AttrDecl}
use Rattle.ucon_model.specs.declared.policy.EnvDecl.{EnvDecl}
use Rattle.ucon_model.specs.declared.reply.Refusal.TheVariants.{NoAttribute}
use Rattle.ucon_model.specs.Plain.{Bytes, PlainPolicy, refused, value_is}
use Rattle.ucon_model.specs.History.{serial, trace}
use Rattle.ucon_model.specs.Readings.{variable}
use Rattle.ucon_model.proofs.Scenes.{by, amended, int_attr, ok}

abbrev hour : ℕ → EnvDecl
hour start = record { name = codes "hour"; kind = kinds.Int (pos 0) (pos 23); start = values.Int (pos start) }

abbrev declaring : List AttrDecl → List EnvDecl → PlainPolicy
declaring attrs envs = record { attrs = attrs; envs = envs; rights = [] }

abbrev credit : List AttrDecl
credit = int_attr Subject (codes "credit") 0 100 5 ∷ []

-- the same with another default
abbrev more_credit : List AttrDecl
more_credit = int_attr Subject (codes "credit") 0 100 7 ∷ []

abbrev credit_of : Bytes → Entry
credit_of name = by 0 (commands.Value Subject name (codes "credit"))

abbrev set_credit : Entry
set_credit = by 0 (commands.Set Subject (codes "a") (codes "credit") (values.Int (pos 50)))

abbrev subject_made : Bytes → Entry
subject_made name = by 0 (commands.Subject name)

-- another default leaves what is there, set or not, and is given to whoever comes after
new_default : serial (declaring credit []) [] (subject_made (codes "a") ∷ subject_made (codes "b") ∷ set_credit
    ∷ amended (codes "attr s credit : int 0..100 = 7;") (declaring more_credit [])
    ∷ credit_of (codes "a") ∷ credit_of (codes "b") ∷ subject_made (codes "c") ∷ credit_of (codes "c") ∷ [])
    ≡ (1, ok) ∷ (2, ok) ∷ (3, ok) ∷ (4, ok) ∷ (4, value_is (values.Int (pos 50))) ∷ (4, value_is (values.Int (pos 5)))
    ∷ (5, ok) ∷ (5, value_is (values.Int (pos 7))) ∷ []
new_default = refl

-- dropped and brought back, it has the new default, whoever made the entity when
attribute_back : serial (declaring credit []) [] (subject_made (codes "a") ∷ set_credit ∷ amended [] (declaring [] []) ∷ credit_of (codes "a")
    ∷ subject_made (codes "b") ∷ amended (codes "attr s credit : int 0..100 = 7;") (declaring more_credit [])
    ∷ credit_of (codes "a") ∷ credit_of (codes "b") ∷ [])
    ≡ (1, ok) ∷ (2, ok) ∷ (3, ok) ∷ (3, refused NoAttribute) ∷ (4, ok) ∷ (5, ok)
    ∷ (5, value_is (values.Int (pos 7))) ∷ (5, value_is (values.Int (pos 7))) ∷ []
attribute_back = refl

-- ---- a variable, which is read by decisions alone

-- the variable after these lines
abbrev hour_after : List Entry → Option Value
hour_after lines = variable (declaring [] (hour 9 ∷ [])) (trace (declaring [] (hour 9 ∷ [])) lines) (codes "hour")

abbrev fifteen : Entry
fifteen = by 0 (commands.Env (codes "hour") (values.Int (pos 15)))

abbrev starts_at_11 : Entry
starts_at_11 = amended (codes "env hour : int 0..23 = 11;") (declaring [] (hour 11 ∷ []))

abbrev drops_all : Entry
drops_all = amended [] (declaring [] [])

variable_back : map hour_after ([] ∷ (fifteen ∷ []) ∷ (starts_at_11 ∷ []) ∷ (fifteen ∷ starts_at_11 ∷ []) ∷ (fifteen ∷ drops_all ∷ [])
    ∷ (fifteen ∷ drops_all ∷ starts_at_11 ∷ []) ∷ [])
    ≡ Some (values.Int (pos 9)) ∷ Some (values.Int (pos 15)) ∷ Some (values.Int (pos 9)) ∷ Some (values.Int (pos 15)) ∷ None ∷ Some (values.Int (pos 11)) ∷ []
variable_back = refl
