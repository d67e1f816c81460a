-- The table of the bytes that may stand in a name.
use Rattle.std.proofs.Common.{◌≡◌, ℕ, zero, suc, ◌-◌, ◌<◌, Bool, true, false, not, ◌&&◌, T, slice_index_or, refl, inl, inr, arith, eq-zero-or-pos}
use lib.Ieee.Fits.{and_l, and_r}
use Rattle.std.specs.Prelude.{◌==◌}
use Rattle.ucon_base.specs.NameBytes.{is_word_byte}
use Rattle.ucon_base.specs.declared.bytes.TheConstants.{WORD_BYTES}

abbrev are_same : Bool → Bool → Bool
are_same true b = b
are_same false b = not b

same : (a b : Bool) → T (are_same a b) → a ≡ b
same true true t = refl
same true false t = absurd t
same false true t = absurd t
same false false t = refl

abbrev are_right : ℕ → Bool
are_right zero = true
are_right (suc n) = are_same (slice_index_or WORD_BYTES n 0 == 119) (is_word_byte n) && are_right n

below : (n b : ℕ) → T (are_right n) → b < n → (slice_index_or WORD_BYTES b 0 == 119) ≡ is_word_byte b
below zero b t h = absurd (omega arith)
below (suc n) b t h =
    elim (eq-zero-or-pos (n - b)) [
      | inl z ↦ let e : b ≡ n = omega arith in rw e (same (slice_index_or WORD_BYTES n 0 == 119) (is_word_byte n) (and_l _ (are_right n) t))
      | inr g ↦ below n b (and_r _ (are_right n) t) (omega arith)
    ]

-- each byte's place tells whether it is one
pub told : (b : ℕ) → b < 256 → (slice_index_or WORD_BYTES b 0 == 119) ≡ is_word_byte b
told b h = below 256 b tt h
