-- Looking up what a decision on a session reads.
use Rattle.std.specs.Prelude.{ℕ, ℤ, Option, option_and_then, option_map, unwrap_or}
use Rattle.ucon_base.specs.declared.value.Value.{Value}
use Rattle.ucon_model.specs.declared.formula.Obligation.{Obligation}
use Rattle.ucon_model.specs.declared.formula.Ref.{Ref}
use Rattle.ucon_model.specs.Decision.{right_named}
use Rattle.ucon_model.specs.Plain.{PlainPolicy, PlainRight}
use Rattle.ucon_model.specs.Truth.{Readings}

-- the value of a place for session n
abbrev pub value_read : Readings → ℕ → Ref → Option Value
value_read R n place = option_and_then (λ row. R.at row place) (R.row n)

-- the right of session n
abbrev pub right_read : PlainPolicy → Readings → ℕ → Option PlainRight
right_read P R n = option_and_then (λ row. right_named P.rights row.right) (R.row n)

-- the start of session n
abbrev pub start_read : Readings → ℕ → Option ℤ
start_read R n = option_map (λ row. row.start) (R.row n)

-- the moment of the act that an obligation asks for; without a name of its own it means session n's subject or object
abbrev pub done_read : Readings → ℕ → Obligation → Option ℤ
done_read R n o =
    option_and_then (λ row. R.done_at (unwrap_or o.by_subject row.subject) o.action (unwrap_or o.on_object row.object)) (R.row n)
