-- The images that filling bytes give.
use Rattle.std.proofs.Common.{◌≡◌, inl, inr, ℕ, zero, suc, ◌+◌, ◌<◌, ◌≤◌, true, false, cond, List, [], ◌∷◌, length, get_or, drop, Option, None, Some, IfSome, Vec, nat_le, ◌&&◌, refl, sym, ◌∙◌, ap, subst, arith, add-zero}
use Rattle.std.proofs.lemmas.Bool.{cases_Bool, le-leb, leb-true, and_from, and_parts}
use Rattle.std.specs.Option.{option_map}
use Rattle.std.specs.declared.alloc.Global.{Global}
use Rattle.ucon_disk.specs.Image.{State, IsImage, is_settled, filled, image_of}

first_settled : (s : State) (k n : ℕ) (fill : List ℕ) → is_settled s k ≡ true → filled s k (suc n) fill ≡ get_or s.synced k 0 ∷ filled s (k + 1) n fill
first_settled s k n fill e = ap (λ b. cond b (get_or s.synced k 0 ∷ filled s (k + 1) n fill) (get_or fill 0 0 ∷ filled s (k + 1) n (drop 1 fill))) e

first_open : (s : State) (k n : ℕ) (fill : List ℕ) → is_settled s k ≡ false → filled s k (suc n) fill ≡ get_or fill 0 0 ∷ filled s (k + 1) n (drop 1 fill)
first_open s k n fill e = ap (λ b. cond b (get_or s.synced k 0 ∷ filled s (k + 1) n fill) (get_or fill 0 0 ∷ filled s (k + 1) n (drop 1 fill))) e

length-filled : (s : State) (k n : ℕ) (fill : List ℕ) → length (filled s k n fill) ≡ n
length-filled s k zero fill = refl
length-filled s k (suc n) fill = elim (cases_Bool (is_settled s k)) [
  | inl e ↦ ap length (first_settled s k n fill e) ∙ ap suc (length-filled s (k + 1) n fill)
  | inr e ↦ ap length (first_open s k n fill e) ∙ ap suc (length-filled s (k + 1) n (drop 1 fill))
]

-- a settled place is filled as synced
filled_settled : (s : State) (k n : ℕ) (fill : List ℕ) (i : ℕ) → i < n → is_settled s (k + i) ≡ true → get_or (filled s k n fill) i 0 ≡ get_or s.synced (k + i) 0
filled_settled s k zero fill i lt e = absurd (omega arith)
filled_settled s k (suc n) fill zero lt e =
    let here : is_settled s k ≡ true = ap (λ j. is_settled s j) (sym (add-zero k)) ∙ e in
    ap (λ (l : List ℕ). get_or l 0 0) (first_settled s k n fill here) ∙ ap (λ j. get_or s.synced j 0) (sym (add-zero k))
filled_settled s k (suc n) fill (suc i) lt e =
    let place : k + suc i ≡ k + 1 + i = omega arith in
    let later : is_settled s (k + 1 + i) ≡ true = ap (λ j. is_settled s j) (sym place) ∙ e in
    elim (cases_Bool (is_settled s k)) [
      | inl first ↦ ap (λ (l : List ℕ). get_or l (suc i) 0) (first_settled s k n fill first) ∙ filled_settled s (k + 1) n fill i (omega arith) later ∙ ap (λ j. get_or s.synced j 0) (sym place)
      | inr first ↦ ap (λ (l : List ℕ). get_or l (suc i) 0) (first_open s k n fill first) ∙ filled_settled s (k + 1) n (drop 1 fill) i (omega arith) later ∙ ap (λ j. get_or s.synced j 0) (sym place)
    ]

-- what is filled is an image
filled_image : (s : State) (n : ℕ) (fill : List ℕ) → s.least ≤ n → n ≤ s.greatest → IsImage s (filled s 0 n fill)
filled_image s n fill low high = record {
  least = omega (arith, length-filled s 0 n fill, low);
  greatest = omega (arith, length-filled s 0 n fill, high);
  settled = λ k lt e.
      let place : 0 + k ≡ k = omega arith in
      filled_settled s 0 n fill k (omega (arith, length-filled s 0 n fill, lt)) (ap (λ j. is_settled s j) place ∙ e) ∙ ap (λ j. get_or s.synced j 0) place;
}

image_of_is_image : (s : State) (n : ℕ) (fill c : List ℕ) → image_of s n fill ≡ Some c → IsImage s c × (length c ≡ n)
image_of_is_image s n fill c is = elim (cases_Bool (nat_le s.least n && nat_le n s.greatest)) [
  | inl e ↦
      let tests : (nat_le s.least n ≡ true) × (nat_le n s.greatest ≡ true) = and_parts _ _ e in
      let same : filled s 0 n fill ≡ c = cc (ap (λ b. cond b (Some (filled s 0 n fill)) None) e, is) in
      (subst (λ (l : List ℕ). IsImage s l) same (filled_image s n fill (leb-true _ _ tests.0) (leb-true _ _ tests.1)), ap length (sym same) ∙ length-filled s 0 n fill)
  | inr e ↦ absurd (cc (ap (λ b. cond b (Some (filled s 0 n fill)) None) e, is))
]

pub made_is_image : (s : State) (n : ℕ) (fill : List ℕ) (made : Option (Vec ℕ Global)) → option_map (λ v. v.items) made ≡ image_of s n fill → IfSome made (λ v. IsImage s v.items × (length v.items ≡ n))
made_is_image s n fill None is = tt
made_is_image s n fill (Some v) is = image_of_is_image s n fill v.items (sym is)

-- the bytes of an image's open places, from place k on
opened : State → ℕ → List ℕ → List ℕ
opened s k [] = []
opened s k (x ∷ xs) = cond (is_settled s k) (opened s (k + 1) xs) (x ∷ opened s (k + 1) xs)

filled-opened : (s : State) (k : ℕ) (xs : List ℕ) → ((i : ℕ) → i < length xs → is_settled s (k + i) ≡ true → get_or xs i 0 ≡ get_or s.synced (k + i) 0) → filled s k (length xs) (opened s k xs) ≡ xs
unfolding opened
filled-opened s k [] settled = refl
filled-opened s k (x ∷ xs) settled =
    let place : (i : ℕ) → k + 1 + i ≡ k + suc i = λ i. omega arith in
    let rest = filled-opened s (k + 1) xs (λ i lt e. settled (suc i) (omega arith) (ap (λ j. is_settled s j) (sym (place i)) ∙ e) ∙ ap (λ j. get_or s.synced j 0) (sym (place i))) in
    elim (cases_Bool (is_settled s k)) [
      | inl e ↦
          let here : x ≡ get_or s.synced k 0 = settled 0 (omega arith) (ap (λ j. is_settled s j) (add-zero k) ∙ e) ∙ ap (λ j. get_or s.synced j 0) (add-zero k) in
          first_settled s k (length xs) (opened s k (x ∷ xs)) e ∙ (λ i. sym here i ∷ filled s (k + 1) (length xs) (cond (e i) (opened s (k + 1) xs) (x ∷ opened s (k + 1) xs))) ∙ ap (λ (l : List ℕ). x ∷ l) rest
      | inr e ↦
          first_open s k (length xs) (opened s k (x ∷ xs)) e
          ∙ ap (λ b. get_or (cond b (opened s (k + 1) xs) (x ∷ opened s (k + 1) xs)) 0 0 ∷ filled s (k + 1) (length xs) (drop 1 (cond b (opened s (k + 1) xs) (x ∷ opened s (k + 1) xs)))) e
          ∙ ap (λ (l : List ℕ). x ∷ l) rest
    ]

-- each image is filled so by its own bytes
pub some_filling : (s : State) (c : List ℕ) → IsImage s c → (f : List ℕ) × (image_of s (length c) f ≡ Some c)
some_filling s c image =
    let allowed = and_from _ _ (le-leb _ _ image.least) (le-leb _ _ image.greatest) in
    let place : (i : ℕ) → 0 + i ≡ i = λ i. omega arith in
    let same = filled-opened s 0 c (λ i lt e. image.settled i lt (ap (λ j. is_settled s j) (sym (place i)) ∙ e) ∙ ap (λ j. get_or s.synced j 0) (sym (place i))) in
    (opened s 0 c, ap (λ b. cond b (Some (filled s 0 (length c) (opened s 0 c))) None) allowed ∙ ap Some same)
