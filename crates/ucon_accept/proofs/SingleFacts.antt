-- What the tests of single facts tell.
use Rattle.std.proofs.Common.{◌≡◌, Bool, true, false, List, [], ◌∷◌, refl, ap}
use Rattle.std.specs.Prelude.{ℤ, ◌&&◌, unwrap_or}
use Rattle.std.specs.Str.{bytes_eq}
use Rattle.std.proofs.lemmas.Bool.{and_parts}
use Rattle.ucon_base.specs.Arithmetic.{same_value}
use Rattle.ucon_model.specs.declared.formula.Obligation.{Obligation}
use Rattle.ucon_model.specs.declared.formula.Ref.{Ref}
use Rattle.ucon_model.specs.declared.session.SessionRow.{SessionRow}
use Rattle.ucon_model.specs.Places.{same_place}
use Rattle.ucon_model.specs.Plain.{Bytes}
use Rattle.ucon_model.specs.Truth.{Readings, read_or_zero}
use Rattle.ucon_accept.specs.declared.explanation.Fact.{Fact}
use Rattle.ucon_accept.specs.declared.explanation.Fact.TheVariants.{Value, Moment, Tick}
use Rattle.ucon_accept.specs.Checking.{same_moment, tell_tick, tells_act, tells_moment, tells_value}
use Rattle.ucon_accept.specs.Facts.{act_fact, moment_fact, tick_fact, value_fact}
use Rattle.ucon_accept.proofs.Same.{bytes_same, bytes_self, int_same, int_self, moment_same, moment_self, place_same, place_self, value_same, value_self}

-- ---- values

pub value_told_right : (R : Readings) (row : SessionRow) (place : Ref) (f : Fact) → tells_value R row place f ≡ true → f ≡ value_fact R row place
value_told_right R row place (Value p v) h =
    let parts = and_parts (same_place place p) (same_value (read_or_zero (R.at row place)) v) h in
    let here = place_same place p parts.0 in
    let holds = value_same (read_or_zero (R.at row place)) v parts.1 in
    cc
value_told_right R row place (Moment s a o m) h = absurd cc
value_told_right R row place (Tick t) h = absurd cc

pub value_fact_told : (R : Readings) (row : SessionRow) (place : Ref) → tells_value R row place (value_fact R row place) ≡ true
value_fact_told R row place = rw (place_self place, value_self (read_or_zero (R.at row place))) refl

-- ---- moments

moment_told_right : (R : Readings) (s a o : Bytes) (f : Fact) → tells_moment R s a o f ≡ true → f ≡ moment_fact R s a o
moment_told_right R s a o (Moment s' a' o' m) h =
    let last = and_parts (bytes_eq s s' && bytes_eq a a' && bytes_eq o o') (same_moment (R.done_at s a o) m) h in
    let third = and_parts (bytes_eq s s' && bytes_eq a a') (bytes_eq o o') last.0 in
    let both = and_parts (bytes_eq s s') (bytes_eq a a') third.0 in
    let same_s = bytes_same s s' both.0 in
    let same_a = bytes_same a a' both.1 in
    let same_o = bytes_same o o' third.1 in
    let same_m = moment_same (R.done_at s a o) m last.1 in
    cc
moment_told_right R s a o (Value p v) h = absurd cc
moment_told_right R s a o (Tick t) h = absurd cc

pub act_told_right : (R : Readings) (row : SessionRow) (duty : Obligation) (f : Fact) → tells_act R row duty f ≡ true → f ≡ act_fact R row duty
act_told_right R row duty f h = moment_told_right R (unwrap_or duty.by_subject row.subject) duty.action (unwrap_or duty.on_object row.object) f h

moment_fact_told : (R : Readings) (s a o : Bytes) → tells_moment R s a o (moment_fact R s a o) ≡ true
moment_fact_told R s a o = rw (bytes_self s, bytes_self a, bytes_self o, moment_self (R.done_at s a o)) refl

pub act_fact_told : (R : Readings) (row : SessionRow) (duty : Obligation) → tells_act R row duty (act_fact R row duty) ≡ true
act_fact_told R row duty = moment_fact_told R (unwrap_or duty.by_subject row.subject) duty.action (unwrap_or duty.on_object row.object)

-- ---- the tick

pub tick_told_right : (R : Readings) (asked : Bool) (fs : List Fact) → tell_tick R asked fs ≡ true → fs ≡ tick_fact R asked
tick_told_right R true [] h = absurd cc
tick_told_right R false [] h = refl
tick_told_right R true (Tick t ∷ []) h = ap (λ (t : ℤ). Tick t ∷ []) (int_same t R.now h)
tick_told_right R false (Tick t ∷ []) h = absurd cc
tick_told_right R asked fs h = absurd cc

pub tick_fact_told : (R : Readings) (asked : Bool) → tell_tick R asked (tick_fact R asked) ≡ true
tick_fact_told R true = int_self R.now
tick_fact_told R false = refl
