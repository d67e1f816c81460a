-- The writes of updates, one after the other.
use Rattle.std.proofs.Common.{◌≡◌, ℕ, ◌+◌, Bool, true, false, cond, List, [], ◌∷◌, ◌++◌, take, zero, suc, refl, ap, arith, ◌∙◌}
use Rattle.std.specs.Prelude.{slice_get}
use Rattle.std.specs.Option.{option_to_list}
use Rattle.ucon_model.specs.declared.policy.When.{When}
use Rattle.ucon_model.specs.declared.session.SessionRow.{SessionRow}
use Rattle.ucon_model.specs.Plain.{PlainPolicy, PlainUpdate}
use Rattle.ucon_model.specs.Action.{Trace, extended, followed_by}
use Rattle.ucon_model.specs.Updates.{same_when, write_of, writes}
use Rattle.ucon_actions.specs.Updating.{written_out}

behind : (P : PlainPolicy) (row : SessionRow) (when : When) (u : PlainUpdate) (us vs : List PlainUpdate) (T : Trace) (b : Bool)
    → ((U : Trace) → written_out P row when (us ++ vs) U ≡ written_out P row when vs (written_out P row when us U))
    → extended T (cond b (followed_by (write_of P row u T ∷ []) (writes P row when (us ++ vs)) T) (writes P row when (us ++ vs) T))
    ≡ written_out P row when vs (extended T (cond b (followed_by (write_of P row u T ∷ []) (writes P row when us) T) (writes P row when us T)))
behind P row when u us vs T true rest = rest (write_of P row u T ∷ T)
behind P row when u us vs T false rest = rest T

-- some updates and then others
pub written_out-append : (P : PlainPolicy) (row : SessionRow) (when : When) (us vs : List PlainUpdate) (T : Trace)
    → written_out P row when (us ++ vs) T ≡ written_out P row when vs (written_out P row when us T)
written_out-append P row when [] vs T = refl
written_out-append P row when (u ∷ us) vs T = behind P row when u us vs T (same_when when u.when) (written_out-append P row when us vs)

take-next : {A : Type 0} (xs : List A) (i : ℕ) → take (suc i) xs ≡ take i xs ++ option_to_list (slice_get xs i)
take-next [] zero = refl
take-next [] (suc i) = refl
take-next (x ∷ xs) zero = refl
take-next (x ∷ xs) (suc i) = ap (λ (ys : List _). x ∷ ys) (take-next xs i)

-- one update more
pub written_out-more : (P : PlainPolicy) (row : SessionRow) (when : When) (us : List PlainUpdate) (i : ℕ) (T : Trace)
    → written_out P row when (take (i + 1) us) T ≡ written_out P row when (option_to_list (slice_get us i)) (written_out P row when (take i us) T)
written_out-more P row when us i T =
    let next : i + 1 ≡ suc i = omega arith in
    ap (λ (k : ℕ). written_out P row when (take k us) T) next ∙ ap (λ (xs : List PlainUpdate). written_out P row when xs T) (take-next us i)
    ∙ written_out-append P row when (take i us) (option_to_list (slice_get us i)) T
