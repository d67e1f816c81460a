-- Comparing lists of texts place by place.
use Rattle.std.proofs.Common.{◌≡◌, ◌∙◌, sym, ℕ, zero, suc, ◌+◌, ◌<◌, false, true, List, [], ◌∷◌, length, drop, refl, arith, add-one, if◌then◌else◌}
use Rattle.std.specs.List.{slice_get}
use Rattle.std.specs.Str.{bytes_eq}
use Rattle.ucon_base.specs.Arithmetic.{same_texts}
use Rattle.ucon_model.specs.Sums.{is_same_text}

-- lists that are not as long are not the same
pub same_texts-lengths : (s t : List (List ℕ)) → (length s ≡ length t → ⊥) → same_texts s t ≡ false
same_texts-lengths [] [] differ = absurd (differ refl)
same_texts-lengths [] (u ∷ us) differ = refl
same_texts-lengths (t ∷ ts) [] differ = refl
same_texts-lengths (t ∷ ts) (u ∷ us) differ =
    elim (bytes_eq t u) as (λ same. (if same then same_texts ts us else false) ≡ false)
    [ true ↦ same_texts-lengths ts us (λ e. differ (omega arith)) | false ↦ refl ]

-- from a place on, the comparison goes by the texts there
same_texts-drop : (s t : List (List ℕ)) (i : ℕ) → i < length s → i < length t → same_texts (drop i s) (drop i t) ≡ (if is_same_text (slice_get s i) (slice_get t i) then same_texts (drop (suc i) s) (drop (suc i) t) else false)
same_texts-drop [] t i in_s in_t = absurd (omega arith)
same_texts-drop (x ∷ s) [] i in_s in_t = absurd (omega arith)
same_texts-drop (x ∷ s) (y ∷ t) zero in_s in_t = refl
same_texts-drop (x ∷ s) (y ∷ t) (suc i) in_s in_t = same_texts-drop s t i (omega arith) (omega arith)

-- past two texts that are the same it goes on
pub same_texts-on : (s t : List (List ℕ)) (i : ℕ) → i < length s → i < length t → is_same_text (slice_get s i) (slice_get t i) ≡ true → same_texts (drop (i + 1) s) (drop (i + 1) t) ≡ same_texts (drop i s) (drop i t)
same_texts-on s t i in_s in_t same = rw add-one (sym (same_texts-drop s t i in_s in_t ∙ rw same refl))

-- at two that are not, the lists are not the same
pub same_texts-off : (s t : List (List ℕ)) (i : ℕ) → i < length s → i < length t → is_same_text (slice_get s i) (slice_get t i) ≡ false → same_texts (drop i s) (drop i t) ≡ false
same_texts-off s t i in_s in_t other = same_texts-drop s t i in_s in_t ∙ rw other refl
