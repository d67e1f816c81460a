-- Lists that are gone through by number.
use Rattle.std.proofs.Common.{◌≡◌, ◌∙◌, ◌+◌, ℕ, List, ◌∷◌, ◌++◌, drop, Some, ap, sym, append_assoc}
use Rattle.std.specs.List.{flat_map}
use Rattle.std.specs.Prelude.{slice_get}
use Rattle.std.proofs.lemmas.List.{drop_more}
use Rattle.std.proofs.lemmas.Option.{slice_get_within, get_or_from_slice_get}

module _ {A : Type 0} where
  drop_there : (xs : List A) (n : ℕ) (x : A) → slice_get xs n ≡ Some x → drop n xs ≡ x ∷ drop (n + 1) xs
  drop_there xs n x at = drop_more xs n x (slice_get_within xs n x at) ∙ ap (λ y. y ∷ drop (n + 1) xs) (get_or_from_slice_get xs n x x at)

module _ {A : Type 0} (f : A → List ℕ) where
  -- the lines of one more, and then those of the rest
  pub one_more : (done lines all : List ℕ) (xs : List A) (n : ℕ) (x : A) → slice_get xs n ≡ Some x → lines ≡ f x → done ++ flat_map f (drop n xs) ≡ all
      → (done ++ lines) ++ flat_map f (drop (n + 1) xs) ≡ all
  one_more done lines all xs n x at is h =
      append_assoc done lines (flat_map f (drop (n + 1) xs))
      ∙ ap (λ l. done ++ (l ++ flat_map f (drop (n + 1) xs))) is
      ∙ ap (λ l. done ++ flat_map f l) (sym (drop_there xs n x at))
      ∙ h
