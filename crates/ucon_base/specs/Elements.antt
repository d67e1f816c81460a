-- What is said of each element of a list, and what follows for lists that are made of lists. No clause can range over what is said,
-- so these laws stand here and not as functions.
use Rattle.std.specs.Prelude.{◌≡◌, Bool, true, false, List, [], ◌∷◌, ◌++◌, filter, if◌then◌else◌}
use Rattle.std.specs.List.{AllByRecursion}
use Rattle.std.proofs.Common.{refl, ap, ◌∙◌}

-- P holds of each element
abbrev pub Each : {A : Type 0} → (A → Type 0) → List A → Type 0
Each P xs = AllByRecursion P xs

module _ {A : Type 0} where
  pub each_append : (P : A → Type 0) (xs ys : List A) → Each P xs → Each P ys → Each P (xs ++ ys)
  each_append P [] ys p q = q
  each_append P (x ∷ xs) ys p q = (p.0, each_append P xs ys p.1 q)

  pub each_parts : (P : A → Type 0) (xs ys : List A) → Each P (xs ++ ys) → Each P xs × Each P ys
  each_parts P [] ys p = (tt, p)
  each_parts P (x ∷ xs) ys p = let q = each_parts P xs ys p.1 in ((p.0, q.0), q.1)

  pub each_both : (P Q R : A → Type 0) → ((x : A) → P x → Q x → R x) → (xs : List A) → Each P xs → Each Q xs → Each R xs
  each_both P Q R f [] p q = tt
  each_both P Q R f (x ∷ xs) p q = (f x p.0 q.0, each_both P Q R f xs p.1 q.1)

  pub each_map : (P Q : A → Type 0) → ((x : A) → P x → Q x) → (xs : List A) → Each P xs → Each Q xs
  each_map P Q f xs p = each_both P P Q (λ x h _. f x h) xs p p

  pub each_always : (P : A → Type 0) → ((x : A) → P x) → (xs : List A) → Each P xs
  each_always P f [] = tt
  each_always P f (x ∷ xs) = (f x, each_always P f xs)

  -- a list whose elements meet no fact is empty
  pub each_none : (xs : List A) → Each (λ _. ⊥) xs → xs ≡ []
  each_none [] p = refl
  each_none (x ∷ xs) p = absurd p.0

  each_kept : (P : A → Type 0) (b : Bool) (x : A) (xs : List A) → P x → Each P xs → Each P (if b then x ∷ xs else xs)
  each_kept P true x xs p q = (p, q)
  each_kept P false x xs p q = q

  pub each_filter : (P : A → Type 0) (test : A → Bool) (xs : List A) → Each P xs → Each P (filter test xs)
  each_filter P test [] p = tt
  each_filter P test (x ∷ xs) p = each_kept P (test x) x (filter test xs) p.0 (each_filter P test xs p.1)

  pub filter_none : (test : A → Bool) (xs : List A) → Each (λ x. test x ≡ false) xs → filter test xs ≡ []
  filter_none test [] h = refl
  filter_none test (x ∷ xs) h = ap (λ b. if b then x ∷ filter test xs else filter test xs) h.0 ∙ filter_none test xs h.1

  pub filter_all : (test : A → Bool) (xs : List A) → Each (λ x. test x ≡ true) xs → filter test xs ≡ xs
  filter_all test [] h = refl
  filter_all test (x ∷ xs) h = ap (λ b. if b then x ∷ filter test xs else filter test xs) h.0 ∙ ap (λ l. x ∷ l) (filter_all test xs h.1)
