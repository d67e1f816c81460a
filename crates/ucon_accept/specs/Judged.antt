-- What is asked of a session that is explained.
use Rattle.std.specs.Prelude.{◌≡◌, ℕ, pos, true, Some}
use Rattle.ucon_model.specs.declared.session.SessionRow.{SessionRow}
use Rattle.ucon_model.specs.Plain.{PlainPolicy}
use Rattle.ucon_model.specs.Truth.{Readings}
use Rattle.ucon_model.specs.Asked.{makes_no_set_at}
use Rattle.ucon_model.specs.Sums.{tests_make_no_set}

-- session n has this row, its usage hasn't begun, and no predicate of its right makes a set: none does if the policy is well typed
pub record MayBeJudged (P : PlainPolicy) (R : Readings) (n : ℕ) (row : SessionRow) : Type 0 where
  pub there : R.row n ≡ Some row
  pub fresh : row.start ≡ pos 0
  pub all : tests_make_no_set P R n ≡ true
  pub each : (i : ℕ) → makes_no_set_at P R n i ≡ true
