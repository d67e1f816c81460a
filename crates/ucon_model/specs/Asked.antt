-- What is asked of a session: a predicate, all predicates or an update of its right.
use Rattle.std.specs.Prelude.{ℕ, pos, Bool, true, [], Option, option_and_then, option_map, slice_get, unwrap_or}
use Rattle.std.specs.Option.{option_map_or}
use Rattle.ucon_base.specs.declared.value.Value.{Value}
use Rattle.ucon_model.specs.declared.session.SessionRow.{SessionRow}
use Rattle.ucon_model.specs.declared.session.SessionState.TheVariants.{Requesting}
use Rattle.ucon_model.specs.Plain.{PlainPolicy, PlainRight, PlainPredicate, PlainUpdate}
use Rattle.ucon_model.specs.Readings.{declared_attr}
use Rattle.ucon_model.specs.Truth.{Readings, value_of, truth}
use Rattle.ucon_model.specs.Decision.{right_named}
use Rattle.ucon_model.specs.Updates.{fitted_to}
use Rattle.ucon_model.specs.Sums.{test_makes_no_set}

-- a session without names
abbrev pub no_session : SessionRow
no_session = record { caller = record { 0 = 0 }; right = []; subject = []; object = []; state = Requesting; start = pos 0 }

-- session n; if it isn't there, a session without names
abbrev pub row_at : Readings → ℕ → SessionRow
row_at R n = unwrap_or (R.row n) no_session

-- the right of session n
abbrev pub right_of_session : PlainPolicy → Readings → ℕ → Option PlainRight
right_of_session P R n = option_and_then (λ row. right_named P.rights row.right) (R.row n)

-- the predicate at a position, from 0, of a right by its name
abbrev pub predicate_at : PlainPolicy → SessionRow → ℕ → Option PlainPredicate
predicate_at P row i = option_and_then (λ right. slice_get right.preds i) (right_named P.rights row.right)

-- the truth of the predicate at a place of session n's right; none if one of them isn't there
abbrev pub truth_at : PlainPolicy → Readings → ℕ → ℕ → Option Bool
truth_at P R n i = option_and_then (λ row. option_map (λ p. truth R row p.test) (predicate_at P row i)) (R.row n)

-- whether that predicate makes no set
abbrev pub makes_no_set_at : PlainPolicy → Readings → ℕ → ℕ → Bool
makes_no_set_at P R n i =
    option_map_or (λ row. option_map_or (λ p. test_makes_no_set (R.at row) p.test) (predicate_at P row i) true) (R.row n) true

-- an update's result as it is read; after a trace it is the trace's result
abbrev pub result_read : PlainPolicy → Readings → SessionRow → PlainUpdate → Value
result_read P R row u = fitted_to (declared_attr P.attrs u.side u.attr) (value_of (R.at row) u.value)

-- the update at a position, from 0, of a right by its name
abbrev pub update_at : PlainPolicy → SessionRow → ℕ → Option PlainUpdate
update_at P row i = option_and_then (λ right. slice_get right.updates i) (right_named P.rights row.right)

-- the result of the update at a place of session n's right; none if one of them isn't there
abbrev pub result_at : PlainPolicy → Readings → ℕ → ℕ → Option Value
result_at P R n i = option_and_then (λ row. option_map (λ u. result_read P R row u) (update_at P row i)) (R.row n)
