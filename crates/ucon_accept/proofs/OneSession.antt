-- Tables with one session more.
use Rattle.std.proofs.Common.{◌≡◌, ℕ, zero, suc, ◌+◌, List, [], ◌∷◌, ◌++◌, length, refl, sym, subst, arith}
use Rattle.std.specs.Prelude.{Some}
use Rattle.std.specs.List.{slice_get}
use Rattle.ucon_model.specs.declared.session.SessionRow.{SessionRow}
use Rattle.ucon_state.specs.Applied.{with_new_session}
use Rattle.ucon_state.specs.Tables.{Tables, session_in}
use Rattle.ucon_accept.proofs.Reading.{slice_get-seam}

slice_get-before : {X : Type 0} (xs : List X) (y : X) (k : ℕ) → (k ≡ length xs → ⊥) → slice_get (xs ++ y ∷ []) k ≡ slice_get xs k
slice_get-before [] y zero other = absurd (other refl)
slice_get-before [] y (suc k) other = refl
slice_get-before (x ∷ xs) y zero other = refl
slice_get-before (x ∷ xs) y (suc k) other = slice_get-before xs y k (λ e. other (omega arith))

-- it has the next number
pub session_new : (t : Tables) (row : SessionRow) (n : ℕ) → n ≡ length t.sessions + 1 → session_in (with_new_session t row) n ≡ Some row
session_new t row n is =
    let next : n ≡ suc (length t.sessions) = omega arith in
    subst (λ (k : ℕ). session_in (with_new_session t row) k ≡ Some row) (sym next) (slice_get-seam t.sessions row [])

-- and the others stay
pub session_old : (t : Tables) (row : SessionRow) (n : ℕ) → (n ≡ length t.sessions + 1 → ⊥) → session_in (with_new_session t row) n ≡ session_in t n
session_old t row zero other = refl
session_old t row (suc k) other = slice_get-before t.sessions row k (λ e. other (omega arith))
