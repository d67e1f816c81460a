-- The cut at a byte as the code finds it.
use Rattle.std.proofs.Common.{◌≡◌, ℕ, suc, ◌+◌, ◌-◌, ◌<◌, ◌≤◌, Bool, true, false, cond, [], ◌∷◌, length, take, drop, Some, None, refl, sym, ap, ◌∙◌, arith, length-drop}
use Rattle.std.specs.Prelude.{not, Option, option_map, nat_lt, ◌==◌, position}
use Rattle.std.specs.List.{position_or_len}
use Rattle.std.proofs.lemmas.Bool.{ltb-true, ltb-false}
use Rattle.std.proofs.lemmas.List.{take_all}
use Rattle.ucon_model.specs.Output.{cut_at}
use Rattle.ucon_model.specs.Plain.{Bytes}

-- where the first of these bytes stands, and the cut there
abbrev first_at : ℕ → Bytes → ℕ
first_at byte bs = position_or_len (λ b. b == byte) bs

cut_next : (byte b : ℕ) (bs : Bytes) (same : Bool) → (b == byte) ≡ same
    → (first_at byte bs < length bs → cut_at byte bs ≡ Some (take (first_at byte bs) bs, drop (first_at byte bs + 1) bs))
    → (length bs ≤ first_at byte bs → cut_at byte bs ≡ None)
    → (cond (not same) (1 + first_at byte bs) 0 < suc (length bs)
    → cond {A = Option (Bytes × Bytes)} same (Some ([], bs)) (option_map (λ q. (b ∷ q.0, q.1)) (cut_at byte bs))
    ≡ Some (take (cond (not same) (1 + first_at byte bs) 0) (b ∷ bs), drop (cond (not same) (1 + first_at byte bs) 0 + 1) (b ∷ bs)))
    × (suc (length bs) ≤ cond (not same) (1 + first_at byte bs) 0 → cond {A = Option (Bytes × Bytes)} same (Some ([], bs)) (option_map (λ q. (b ∷ q.0, q.1)) (cut_at byte bs)) ≡ None)
cut_next byte b bs true is found none = (λ lt. refl, λ le. absurd (omega (arith, le)))
cut_next byte b bs false is found none =
    let one : 1 + first_at byte bs ≡ suc (first_at byte bs) = omega arith in
    let two : suc (first_at byte bs) + 1 ≡ suc (first_at byte bs + 1) = omega arith in (
      λ lt. rw (one, two, found (omega (arith, lt))) refl,
      λ le. rw (none (omega (arith, le))) refl,
    )

cut_first : (byte : ℕ) (bs : Bytes)
    → (first_at byte bs < length bs → cut_at byte bs ≡ Some (take (first_at byte bs) bs, drop (first_at byte bs + 1) bs)) × (length bs ≤ first_at byte bs → cut_at byte bs ≡ None)
cut_first byte [] = (λ lt. absurd (omega (arith, lt)), λ le. refl)
cut_first byte (b ∷ bs) = let next = cut_first byte bs in cut_next byte b bs (b == byte) refl next.0 next.1

place_found : (b : Bool) (n i : ℕ) → cond b (Some n) None ≡ Some i → (b ≡ true) × (n ≡ i)
place_found true n i e = (refl, cc)
place_found false n i e = absurd cc

no_place : (b : Bool) (n : ℕ) → cond b (Some n) None ≡ None → b ≡ false
no_place true n e = absurd cc
no_place false n e = refl

pub cut_here : (byte : ℕ) (bs : Bytes) (i : ℕ) → position (λ b. b == byte) bs ≡ Some i → cut_at byte bs ≡ Some (take i bs, take (length bs - (i + 1)) (drop (i + 1) bs))
cut_here byte bs i e =
    let h = place_found (nat_lt (first_at byte bs) (length bs)) (first_at byte bs) i e in
    (cut_first byte bs).0 (ltb-true _ _ h.0) ∙ ap (λ (n : ℕ). Some (take n bs, drop (n + 1) bs)) h.1
    ∙ ap (λ (r : Bytes). Some (take i bs, r)) (sym (take_all (length bs - (i + 1)) (drop (i + 1) bs) (omega (arith, length-drop (i + 1) bs))))

pub cut_nowhere : (byte : ℕ) (bs : Bytes) → position (λ b. b == byte) bs ≡ None → cut_at byte bs ≡ None
cut_nowhere byte bs e = (cut_first byte bs).1 (ltb-false _ _ (no_place (nat_lt (first_at byte bs) (length bs)) (first_at byte bs) e))
