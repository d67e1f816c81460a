-- Two lists of one length are the same where no lane differs.
use Rattle.std.specs.Prelude.{◌≡◌, ℕ, ◌+◌, ◌-◌, ◌*◌, ◌%◌, ◌^◌, ◌≤◌, ◌&&◌, Bool, true, false, not, List, [], ◌∷◌, length, map}
use Rattle.std.specs.Str.{bytes_eq}
use Rattle.std.proofs.Common.{nat_eq, cond, refl, ◌∙◌, arith, w8}
use Rattle.std.proofs.lemmas.Simd.{length-zip2, mask_l-mod, tops_compared}
use lib.Lanes.{mask_l, top, zip2}

abbrev differ : ℕ → ℕ → Bool
differ x y = not (nat_eq x y)

-- a mask is 0 where its first bit isn't set and the others are 0
one_more : (same : Bool) (m : ℕ) (rest : Bool) → nat_eq m 0 ≡ rest → nat_eq (cond (not same) 1 0 + 2 * m) 0 ≡ (same && rest)
one_more true m rest e = grind (arith, e)
one_more false m rest e = grind (arith)

none_differs : (xs ys : List ℕ) → length xs ≡ length ys → nat_eq (mask_l (zip2 differ xs ys)) 0 ≡ bytes_eq xs ys
none_differs [] [] long = refl
none_differs [] (y ∷ ys) long = absurd cc
none_differs (x ∷ xs) [] long = absurd cc
none_differs (x ∷ xs) (y ∷ ys) long =
    let less : length xs ≡ length ys = omega (arith, long) in
    one_more (nat_eq x y) (mask_l (zip2 differ xs ys)) (bytes_eq xs ys) (none_differs xs ys less)

both_nots : (b : Bool) → not (not b) ≡ b
both_nots true = refl
both_nots false = refl

-- as a comparison of two vectors of at most 64 bytes gives it
pub no_lane_differs : (xs ys : List ℕ) → length xs ≡ length ys → length xs ≤ 64
    → not (not (nat_eq (mask_l (map (top 7) (zip2 (λ x y. cond (differ x y) (2 ^ 8 - 1) 0) xs ys)) % 2 ^ 64) 0)) ≡ bytes_eq xs ys
no_lane_differs xs ys long few =
    let short : length (zip2 differ xs ys) ≤ 64 = rw (length-zip2 differ xs ys long) few in
    both_nots _ ∙ rw (tops_compared w8 differ xs ys, mask_l-mod (zip2 differ xs ys) 64 short) (none_differs xs ys long)
