-- What is read of a session that is there.
use Rattle.std.proofs.Common.{◌≡◌, ℕ, refl, ap, Option, Some, None, IsSome, option_and_then, unwrap_or}
use Rattle.ucon_model.specs.declared.session.SessionRow.{SessionRow}
use Rattle.ucon_model.specs.Plain.{PlainPolicy}
use Rattle.ucon_model.specs.Decision.{right_named}
use Rattle.ucon_model.specs.Lookup.{right_read}
use Rattle.ucon_model.specs.Truth.{Readings}
use Rattle.ucon_model.specs.Asked.{no_session, row_at}

there_is : (o : Option SessionRow) → IsSome o → o ≡ Some (unwrap_or o no_session)
there_is None there = absurd cc
there_is (Some row) there = refl

-- the right of a session that is there is the one that its row names
pub right_at : (P : PlainPolicy) (R : Readings) (n : ℕ) → IsSome (R.row n) → right_read P R n ≡ right_named P.rights (row_at R n).right
right_at P R n there = ap (option_and_then (λ row. right_named P.rights row.right)) (there_is (R.row n) there)
