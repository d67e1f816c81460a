-- What is found in lists, and what isn't.
use Rattle.std.proofs.Common.{◌≡◌, ◌∙◌, ℕ, zero, suc, Bool, true, false, cond, List, [], ◌∷◌, ◌++◌, take, Some, None, is_some, refl, sym, ap, ap₂}
use Rattle.std.specs.Prelude.{◌&&◌, Option, slice_get, find, filter}
use Rattle.std.specs.List.{flat_map}
use Rattle.std.proofs.lemmas.Bool.{false≢true}
use Rattle.ucon_point.proofs.Results.{nothing, same}

pub none_of : {A : Type 0} (o : Option A) → is_some o ≡ false → o ≡ None
none_of None h = refl
none_of (Some x) h = absurd (false≢true (sym h))

-- the first that passes, where none before it does
pub found_at : {X : Type 0} (p : X → Bool) (xs : List X) (i : ℕ) (x : X) → find p (take i xs) ≡ None → slice_get xs i ≡ Some x → p x ≡ true → find p xs ≡ Some x
found_at p [] i x none at is = absurd (nothing at)
found_at p (y ∷ xs) zero x none at is = let e : y ≡ x = same y x at in rw (ap p e ∙ is) (ap (λ z. Some z) e)
found_at {X} p (y ∷ xs) (suc i) x none at is = by (λ k. found_at p xs i x k at is) (p y) none
  where
    by : (find p (take i xs) ≡ None → find p xs ≡ Some x) → (b : Bool) → cond {A = Option X} b (Some y) (find p (take i xs)) ≡ None → cond {A = Option X} b (Some y) (find p xs) ≡ Some x
    by rest true k = absurd (nothing (sym k))
    by rest false k = rest k

-- what is alike where the test fails
pub same_but : {X A : Type 0} (p : X → Bool) (f g : X → List A) (xs : List X) → find p xs ≡ None → ((x : X) → p x ≡ false → f x ≡ g x) → flat_map f xs ≡ flat_map g xs
same_but p f g [] none h = refl
same_but {X} {A} p f g (x ∷ xs) none h = by (λ k. same_but p f g xs k h) (p x) refl none
  where
    by : (find p xs ≡ None → flat_map f xs ≡ flat_map g xs) → (b : Bool) → p x ≡ b → cond {A = Option X} b (Some x) (find p xs) ≡ None → flat_map f (x ∷ xs) ≡ flat_map g (x ∷ xs)
    by rest true is k = absurd (nothing (sym k))
    by rest false is k = ap₂ (λ (a b : List A). a ++ b) (h x is) (rest k)

pub found_filtered : {X : Type 0} (p q : X → Bool) (xs : List X) → find q (filter p xs) ≡ find (λ x. p x && q x) xs
found_filtered p q [] = refl
found_filtered {X} p q (x ∷ xs) = by (found_filtered p q xs) (p x)
  where
    by : find q (filter p xs) ≡ find (λ x. p x && q x) xs → (b : Bool) → find q (cond b (x ∷ filter p xs) (filter p xs)) ≡ cond {A = Option X} (b && q x) (Some x) (find (λ x. p x && q x) xs)
    by rest true = ap (λ o. cond {A = Option X} (q x) (Some x) o) rest
    by rest false = rest

-- where one of those that pass stands among all
pub record StandsAt {X : Type 0} (p : X → Bool) (xs : List X) (i : ℕ) (x : X) : Type 0 where
  pub place : ℕ
  pub at : slice_get xs place ≡ Some x
  pub before : filter p (take place xs) ≡ take i (filter p xs)
  pub passes : p x ≡ true

pub filtered_at : {X : Type 0} (p : X → Bool) (xs : List X) (i : ℕ) (x : X) → slice_get (filter p xs) i ≡ Some x → StandsAt p xs i x
filtered_at p [] i x at = absurd (nothing at)
filtered_at {X} p (y ∷ xs) i x at = by (λ i at. filtered_at p xs i x at) (p y) refl i at
  where
    by : ((i : ℕ) → slice_get (filter p xs) i ≡ Some x → StandsAt p xs i x) → (b : Bool) → p y ≡ b → (i : ℕ) → slice_get (cond b (y ∷ filter p xs) (filter p xs)) i ≡ Some x → StandsAt p (y ∷ xs) i x
    by next true is zero k = record { place = zero; at = k; before = refl; passes = ap p (sym (same y x k)) ∙ is }
    by next true is (suc i) k =
        let rest = next i k in
        record { place = suc rest.place; at = rest.at; before = rw is (ap (λ (l : List X). y ∷ l) rest.before); passes = rest.passes }
    by next false is i k =
        let rest = next i k in
        record { place = suc rest.place; at = rest.at; before = rw is rest.before; passes = rest.passes }
