-- What is read after a write.
use Rattle.std.proofs.Common.{◌≡◌, ◌≢◌, ◌∙◌, ◌<◌, ℕ, zero, suc, List, [], ◌∷◌, length, length-set, refl, ap, arith}
use Rattle.std.specs.Prelude.{Option, Some, None, option_map, slice_get, slice_set}
use Rattle.std.specs.Option.{option_map_or}
use Rattle.ucon_collections.specs.Table.{changed, put_at}

module _ {X : Type 0} (d : X) where
  -- the one at a place, or a default
  abbrev pub at_or : List X → ℕ → X
  at_or xs i = option_map_or (λ x. x) (slice_get xs i) d

  pub set_here : (xs : List X) (i : ℕ) (x : X) → i < length xs → at_or (slice_set xs i x) i ≡ x
  set_here [] i x within = absurd (omega (arith, within))
  set_here (y ∷ ys) zero x within = refl
  set_here (y ∷ ys) (suc i) x within = set_here ys i x (omega (arith, within))

  pub set_other : (xs : List X) (i j : ℕ) (x : X) → j ≢ i → at_or (slice_set xs i x) j ≡ at_or xs j
  set_other [] i j x other = refl
  set_other (y ∷ ys) zero zero x other = absurd (other refl)
  set_other (y ∷ ys) zero (suc j) x other = refl
  set_other (y ∷ ys) (suc i) zero x other = refl
  set_other (y ∷ ys) (suc i) (suc j) x other = set_other ys i j x (λ same. other (ap suc same))

  pub within_if : (xs : List X) (i : ℕ) → at_or xs i ≢ d → i < length xs
  within_if [] i other = absurd (other refl)
  within_if (x ∷ xs) zero other = omega arith
  within_if (x ∷ xs) (suc i) other = let rest = within_if xs i other in omega (arith, rest)

  module _ (change : X → X) where
    changed_later : (x : X) (xs : List X) (i : ℕ) → changed change (x ∷ xs) (suc i) ≡ x ∷ changed change xs i
    changed_later x xs i = by (slice_get xs i)
      where
        by : (o : Option X) → put_at (x ∷ xs) (suc i) (option_map change o) ≡ x ∷ put_at xs i (option_map change o)
        by None = refl
        by (Some y) = refl

    pub changed_here : (xs : List X) (i : ℕ) → i < length xs → at_or (changed change xs i) i ≡ change (at_or xs i)
    changed_here [] i within = absurd (omega (arith, within))
    changed_here (x ∷ xs) zero within = refl
    changed_here (x ∷ xs) (suc i) within = ap (λ (ys : List X). at_or ys (suc i)) (changed_later x xs i) ∙ changed_here xs i (omega (arith, within))

    pub changed_other : (xs : List X) (i j : ℕ) → j ≢ i → at_or (changed change xs i) j ≡ at_or xs j
    changed_other [] i j other = refl
    changed_other (x ∷ xs) zero zero other = absurd (other refl)
    changed_other (x ∷ xs) zero (suc j) other = refl
    changed_other (x ∷ xs) (suc i) zero other = ap (λ (ys : List X). at_or ys zero) (changed_later x xs i)
    changed_other (x ∷ xs) (suc i) (suc j) other = ap (λ (ys : List X). at_or ys (suc j)) (changed_later x xs i) ∙ changed_other xs i j (λ same. other (ap suc same))

    -- what the change keeps
    pub kept : {Y : Type 0} (part : X → Y) → ((x : X) → part (change x) ≡ part x) → (xs : List X) (i j : ℕ) → part (at_or (changed change xs i) j) ≡ part (at_or xs j)
    kept part keeps [] i j = refl
    kept part keeps (x ∷ xs) zero zero = keeps x
    kept part keeps (x ∷ xs) zero (suc j) = refl
    kept part keeps (x ∷ xs) (suc i) zero = ap (λ (ys : List X). part (at_or ys zero)) (changed_later x xs i)
    kept part keeps (x ∷ xs) (suc i) (suc j) = ap (λ (ys : List X). part (at_or ys (suc j))) (changed_later x xs i) ∙ kept part keeps xs i j

    pub length-changed : (xs : List X) (i : ℕ) → length (changed change xs i) ≡ length xs
    length-changed xs i = by (slice_get xs i)
      where
        by : (o : Option X) → length (put_at xs i (option_map change o)) ≡ length xs
        by None = refl
        by (Some y) = length-set xs i (change y)
