-- The least session that fails is found by asking one after the other.
use Rattle.std.proofs.Common.{◌≡◌, ℕ, suc, ◌+◌, ◌-◌, ◌<◌, refl, arith}
use Rattle.std.specs.Prelude.{Option, Some, None, option_map}
use Rattle.ucon_model.specs.declared.session.SessionRow.{SessionRow}
use Rattle.ucon_model.specs.declared.session.SessionState.{SessionState}
use Rattle.ucon_model.specs.Plain.{Bytes, PlainPolicy}
use Rattle.ucon_model.specs.Action.{Trace}
use Rattle.ucon_model.specs.Settle.{fails_at, least_from}

-- a session that holds is passed over
pub passed_over : (P : PlainPolicy) (T : Trace) (before count : ℕ) → before < count → fails_at P T (before + 1) ≡ None
    → least_from P T (before + 1 + 1) (count - (before + 1)) ≡ least_from P T (before + 1) (count - before)
passed_over P T before count lt none =
    let k : count - before ≡ suc (count - (before + 1)) = omega arith in
    rw (k, none) refl

-- the first that fails is found
pub found_here : (P : PlainPolicy) (T : Trace) (before count : ℕ) (label : Bytes) → before < count → fails_at P T (before + 1) ≡ Some label
    → least_from P T (before + 1) (count - before) ≡ Some (before + 1, label)
found_here P T before count label lt fails =
    let k : count - before ≡ suc (count - (before + 1)) = omega arith in
    rw (k, fails) refl

-- a session whose state is told is there
pub told_is_there : (o : Option SessionRow) (state : SessionState) → option_map (λ row. row.state) o ≡ Some state → (row : SessionRow) × (o ≡ Some row) × (row.state ≡ state)
told_is_there None state is = absurd cc
told_is_there (Some row) state is = (row, refl, let same : row.state ≡ state = cc in same)
