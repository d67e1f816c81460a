-- What is sought in two lists of places, one behind the other.
use Rattle.std.proofs.Common.{◌≡◌, Bool, List, [], ◌∷◌, ◌++◌, inl, inr, refl, sym}
use Rattle.std.specs.Prelude.{◌||◌}
use Rattle.std.specs.List.{list_any}
use Rattle.std.specs.Option.{option_or}
use Rattle.std.proofs.lemmas.Bool.{cases_Bool}
use Rattle.std.proofs.lemmas.List.Folds.{list_any-append}
use Rattle.ucon_model.specs.declared.formula.Ref.{Ref}
use Rattle.ucon_model.specs.Plain.{PlainPolicy}
use Rattle.ucon_model.specs.Typing.{is_declared, undeclared}

pub any_of_one : (p : Ref → Bool) (x : Ref) → p x ≡ list_any p (x ∷ [])
any_of_one p x =
    elim (cases_Bool (p x)) [
      | inl is ↦ rw is refl
      | inr isnt ↦ rw isnt refl
    ]

pub any_of_both : (p : Ref → Bool) (xs ys : List Ref) → (list_any p xs || list_any p ys) ≡ list_any p (xs ++ ys)
any_of_both p xs ys = sym (list_any-append p xs ys)

pub unknown_in_both : (P : PlainPolicy) (xs ys : List Ref) → option_or (undeclared P xs) (undeclared P ys) ≡ undeclared P (xs ++ ys)
unknown_in_both P [] ys = refl
unknown_in_both P (x ∷ xs) ys =
    elim (cases_Bool (is_declared P x)) [
      | inl is ↦ rw is (unknown_in_both P xs ys)
      | inr isnt ↦ rw isnt refl
    ]
