-- Places that keep what was synced.
use Rattle.std.proofs.Common.{◌≡◌, ◌⊎◌, inl, inr, ℕ, ◌+◌, ◌<◌, ◌≤◌, Bool, true, false, not, ◌&&◌, ◌||◌, cond, nat_le, nat_lt, List, [], ◌∷◌, length, get_or, map, refl, sym, ◌∙◌, ap, arith}
use Rattle.std.specs.List.{range_with_len}
use Rattle.std.proofs.lemmas.Bool.{true≢false, false≢true, ltb-true, ltb-false, leb-false, lt-leb, le-ltb, and_parts, cases_Bool}
use Rattle.std.proofs.lemmas.List.Folds.{list_any-append}
use Rattle.std.proofs.lemmas.List.FromFn.{length-map-range_with_len, get_or-map-range_with_len}
use Rattle.ucon_disk.specs.Image.{State, IsImage, step, wrote, covers, is_settled, is_touched}

both_tests : (l t a b : Bool) → (l && not (t || ((a && b) || false))) ≡ true → ((l && not t) ≡ true) × ((a ≡ false) ⊎ (b ≡ false))
both_tests true false true true e = absurd (false≢true e)
both_tests true false true false e = (e, inr refl)
both_tests true false false b e = (e, inl refl)
both_tests true true a b e = absurd (false≢true e)
both_tests false t a b e = absurd (false≢true e)

other_tests : (l t a b : Bool) → (l && not t) ≡ true → (a ≡ false) ⊎ (b ≡ false) → (l && not (t || ((a && b) || false))) ≡ true
other_tests false t a b e shut = absurd (false≢true e)
other_tests true true a b e shut = absurd (false≢true e)
other_tests true false true true e (inl shut) = absurd (true≢false shut)
other_tests true false true true e (inr shut) = absurd (true≢false shut)
other_tests true false true false e shut = refl
other_tests true false false b e shut = refl

-- the test of a place after a write
settled_then : (s : State) (at : ℕ) (bytes : List ℕ) (done : Bool) (k : ℕ)
    → is_settled (step s (wrote at bytes done)) k ≡ (nat_lt k (length s.synced) && not (is_touched s.touched k || ((nat_le at k && nat_lt k (at + length bytes)) || false)))
settled_then s at bytes done k = ap (λ t. nat_lt k (length s.synced) && not t) (list_any-append (λ range. covers k range) s.touched ((at, length bytes) ∷ []))

-- a place outside n bytes from a place on
abbrev pub IsOutside : ℕ → ℕ → ℕ → Type 0
IsOutside at n k = (k < at) ⊎ (at + n ≤ k)

-- what is settled after a write was settled before, and lies outside its range
pub settled_before : (s : State) (at : ℕ) (bytes : List ℕ) (done : Bool) (k : ℕ) → is_settled (step s (wrote at bytes done)) k ≡ true → (is_settled s k ≡ true) × IsOutside at (length bytes) k
settled_before s at bytes done k e =
    let tests = both_tests _ _ _ _ (sym (settled_then s at bytes done k) ∙ e) in
    (tests.0, elim tests.1 [ inl shut ↦ inl (leb-false at k shut) | inr shut ↦ inr (ltb-false k (at + length bytes) shut) ])

-- what was settled before a write and lies outside its range is so after it
pub settled_after : (s : State) (at : ℕ) (bytes : List ℕ) (done : Bool) (k : ℕ) → is_settled s k ≡ true → IsOutside at (length bytes) k → is_settled (step s (wrote at bytes done)) k ≡ true
settled_after s at bytes done k e (inl below) = settled_then s at bytes done k ∙ other_tests _ _ _ _ e (inl (lt-leb at k below))
settled_after s at bytes done k e (inr above) = settled_then s at bytes done k ∙ other_tests _ _ _ _ e (inr (le-ltb k (at + length bytes) above))

pub settled_within : (s : State) (k : ℕ) → is_settled s k ≡ true → k < length s.synced
settled_within s k e = ltb-true k (length s.synced) (and_parts _ _ e).0

-- a settled place as synced, any other from these bytes
abbrev settled_byte : State → List ℕ → ℕ → ℕ
settled_byte s c k = cond (is_settled s k) (get_or s.synced k 0) (get_or c k 0)

-- m bytes of these, with each settled place as synced
pub settle : State → ℕ → List ℕ → List ℕ
settle s m c = map (settled_byte s c) (range_with_len 0 m)

pub length-settle : (s : State) (m : ℕ) (c : List ℕ) → length (settle s m c) ≡ m
unfolding settle
length-settle s m c = length-map-range_with_len (settled_byte s c) 0 m

get_or-settle : (s : State) (m : ℕ) (c : List ℕ) (k : ℕ) → k < m → get_or (settle s m c) k 0 ≡ settled_byte s c k
unfolding settle
get_or-settle s m c k lt = get_or-map-range_with_len (settled_byte s c) 0 m k k 0 lt (omega arith)

pub settle_as_synced : (s : State) (m : ℕ) (c : List ℕ) (k : ℕ) → k < m → is_settled s k ≡ true → get_or (settle s m c) k 0 ≡ get_or s.synced k 0
settle_as_synced s m c k lt e = get_or-settle s m c k lt ∙ ap (λ b. cond b (get_or s.synced k 0) (get_or c k 0)) e

-- where these bytes have the settled place as synced, or the place is open, it is theirs
pub settle_same : (s : State) (m : ℕ) (c : List ℕ) (k : ℕ) → k < m → (is_settled s k ≡ true → get_or c k 0 ≡ get_or s.synced k 0) → get_or (settle s m c) k 0 ≡ get_or c k 0
settle_same s m c k lt as_synced = elim (cases_Bool (is_settled s k)) [
  | inl e ↦ settle_as_synced s m c k lt e ∙ sym (as_synced e)
  | inr e ↦ get_or-settle s m c k lt ∙ ap (λ b. cond b (get_or s.synced k 0) (get_or c k 0)) e
]

pub settle_image : (s : State) (m : ℕ) (c : List ℕ) → s.least ≤ m → m ≤ s.greatest → IsImage s (settle s m c)
settle_image s m c low high = record {
  least = omega (arith, length-settle s m c);
  greatest = omega (arith, length-settle s m c);
  settled = λ k lt e. settle_as_synced s m c k (omega (arith, length-settle s m c, lt)) e;
}
