-- First faults of some policies that are not well typed.
use Rattle.std.proofs.Common.{◌≡◌, List, [], ◌∷◌, refl}
use Rattle.std.specs.Prelude.{pos, codes, Some, None}
use Rattle.ucon_base.specs.declared.value.Side.TheVariants.{Subject, Object}
use Rattle.ucon_base.specs.declared.value.Kind.TheVariants as kinds
use Rattle.ucon_base.specs.declared.value.Value.TheVariants as values
use Rattle.ucon_model.specs.declared.formula.Op.TheVariants.{Eq, Lt}
use Rattle.ucon_model.specs.declared.formula.Ref.TheVariants as refs
use Rattle.ucon_model.specs.declared.policy.Phase.TheVariants.{Pre}
use Rattle.ucon_model.specs.declared.policy.When.TheVariants.{Before, During}
use Rattle.ucon_model.specs.Plain.{PlainExpr, lit, read, plus, size, PlainFormula, compare, lasts, authorisation, condition, PlainPredicate, PlainUpdate, PlainPolicy}
use Rattle.ucon_model.specs.Typing.{twice, no_name, wrong_reader, wrong_kind, not_core, type_fault}
use Rattle.ucon_model.proofs.Scenes.{int_attr, int, subject's}

-- a policy with one right `r`, an integer attribute `n`, a set attribute `tags` and a text variable `n`
abbrev policy : List PlainPredicate → List PlainUpdate → PlainPolicy
policy preds updates = record {
  attrs = int_attr Subject (codes "n") 0 9 0 ∷ record { side = Subject; name = codes "tags"; kind = kinds.Set; start = values.Set [] } ∷ [];
  envs = record { name = codes "n"; kind = kinds.Text; start = values.Text [] } ∷ [];
  rights = record { name = codes "n"; preds = preds; updates = updates } ∷ [];
}

abbrev one_pre : PlainFormula → List PlainPredicate
one_pre f = record { phase = Pre; label = codes "l"; test = authorisation f } ∷ []

abbrev tagged : PlainExpr
tagged = plus (subject's (codes "tags")) (lit (values.Text []))

-- an attribute, a variable and a right may have one name
same_name : type_fault (policy [] []) ≡ None
unfolding type_fault
same_name = refl

-- the missing name stands before the wrong kind
missing_first : type_fault (policy (one_pre (compare Lt (subject's (codes "m")) (lit (values.Text [])))) []) ≡ Some (no_name (codes "m") 5)
unfolding type_fault
missing_first = refl

variable_in_an_authorisation : type_fault (policy (one_pre (compare Lt (int 1) (read (refs.Env (codes "n"))))) []) ≡ Some (wrong_reader 5)
unfolding type_fault
variable_in_an_authorisation = refl

lasts_in_an_authorisation : type_fault (policy (one_pre (lasts (pos 1))) []) ≡ Some (wrong_reader 5)
unfolding type_fault
lasts_in_an_authorisation = refl

-- a set and a text have a sum in an update alone, also inside a size
tags_in_a_predicate : type_fault (policy (one_pre (compare Eq (size tagged) (int 1))) []) ≡ Some (wrong_kind 5)
unfolding type_fault
tags_in_a_predicate = refl

tags_in_an_update : type_fault (policy (one_pre (compare Eq (int 1) (int 1))) (record { when = Before; side = Subject; attr = codes "n"; value = size tagged } ∷ [])) ≡ None
unfolding type_fault
tags_in_an_update = refl

-- an update beside a condition alone
no_decider : type_fault (policy (record { phase = Pre; label = codes "l"; test = condition (compare Eq (int 1) (int 1)) } ∷ [])
    (record { when = Before; side = Subject; attr = codes "n"; value = int 1 } ∷ [])) ≡ Some (not_core (codes "n"))
unfolding type_fault
no_decider = refl

-- an update during the usage without an ongoing authorisation or obligation
nothing_ongoing : type_fault (policy (one_pre (compare Eq (int 1) (int 1)))
    (record { when = During; side = Subject; attr = codes "n"; value = int 1 } ∷ [])) ≡ Some (not_core (codes "n"))
unfolding type_fault
nothing_ongoing = refl

-- the second attribute of a name and the default outside its range: the name decides
twice_first : type_fault (record { attrs = int_attr Object (codes "n") 0 9 0 ∷ int_attr Object (codes "n") 0 9 10 ∷ []; envs = []; rights = [] })
    ≡ Some (twice (codes "n") 2)
unfolding type_fault
twice_first = refl
