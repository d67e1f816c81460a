-- Lists that are gone through by number.
use Rattle.std.proofs.Common.{◌≡◌, ◌∙◌, ◌+◌, ℕ, List, [], ◌∷◌, ◌++◌, ◌≤◌, length, drop, map, append_assoc, append-nil, Some, sym, ap}
use Rattle.std.specs.Prelude.{slice_get}
use Rattle.std.proofs.lemmas.List.{drop_more, drop_all}
use Rattle.std.proofs.lemmas.Option.{slice_get_within, get_or_from_slice_get}

module _ {A : Type 0} where
  pub drop_there : (xs : List A) (n : ℕ) (x : A) → slice_get xs n ≡ Some x → drop n xs ≡ x ∷ drop (n + 1) xs
  drop_there xs n x at = drop_more xs n x (slice_get_within xs n x at) ∙ ap (λ y. y ∷ drop (n + 1) xs) (get_or_from_slice_get xs n x x at)

module _ {A B : Type 0} (f : A → B) where
  -- what was made of the first n, with what is made of the next one
  pub one_more : (done : List B) (b : B) (xs : List A) (n : ℕ) (x : A) → slice_get xs n ≡ Some x → b ≡ f x → done ++ map f (drop n xs) ≡ map f xs
      → (done ++ b ∷ []) ++ map f (drop (n + 1) xs) ≡ map f xs
  one_more done b xs n x at is h =
      append_assoc done (b ∷ []) (map f (drop (n + 1) xs))
      ∙ ap (λ y. done ++ y ∷ map f (drop (n + 1) xs)) is
      ∙ ap (λ l. done ++ map f l) (sym (drop_there xs n x at))
      ∙ h

  -- once all are done
  pub all_done : (done : List B) (xs : List A) (n : ℕ) → length xs ≤ n → done ++ map f (drop n xs) ≡ map f xs → done ≡ map f xs
  all_done done xs n past h = sym (append-nil done) ∙ ap (λ l. done ++ map f l) (sym (drop_all n xs past)) ∙ h
