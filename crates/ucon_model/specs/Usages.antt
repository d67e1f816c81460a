-- The usages of sessions, and what the head of a reply tells of them.
use Rattle.std.specs.Prelude.{◌≡◌, ◌≢◌, ℕ, Option, Some, None, IsSome, if◌then◌else◌}
use Rattle.ucon_model.specs.declared.reply.Head.{Head}
use Rattle.ucon_model.specs.declared.reply.Head.TheVariants as heads
use Rattle.ucon_model.specs.declared.session.SessionRow.{SessionRow}
use Rattle.ucon_model.specs.Readings.{is_accessing_state}

-- a session while its usage goes on
abbrev pub going_on : Option SessionRow → Option SessionRow
going_on None = None
going_on (Some row) = if is_accessing_state row.state then Some row else None

-- The head tells of session n, before and after. Its usage begins if it is permitted, is over if it is ended, and is otherwise as it was.
pub record IsUsageTold (head : Head) (n : ℕ) (old new : Option SessionRow) : Type 0 where
  pub begun : head ≡ heads.Permitted n → (going_on old ≡ None) × IsSome (going_on new)
  pub over : head ≡ heads.Ended n → going_on new ≡ None
  pub same : head ≢ heads.Permitted n → head ≢ heads.Ended n → going_on new ≡ going_on old
