-- When time alone changes what a decision during the usage reads: the last tick at which a timed part holds, and the ticks after which one may
-- stop holding.
use Rattle.std.specs.Prelude.{ℕ, ℤ, ◌+ℤ◌, int_le, int_lt, Bool, false, ◌&&◌, map, List, [], ◌∷◌, Option, Some, None, option_map, unwrap_or}
use Rattle.std.specs.Prelude.{if◌then◌else◌}
use Rattle.std.specs.Int.{int_max}
use Rattle.std.specs.Option.{option_map_or}
use Rattle.std.specs.List.{list_any}
use Rattle.std.specs.Str.{bytes_eq}
use Rattle.ucon_model.specs.declared.formula.Form.{Form}
use Rattle.ucon_model.specs.declared.formula.Form.TheVariants.{Done, Within, Every}
use Rattle.ucon_model.specs.declared.session.SessionRow.{SessionRow}
use Rattle.ucon_model.specs.Plain.{Bytes, PlainPolicy}
use Rattle.ucon_model.specs.Action.{Trace, act}
use Rattle.ucon_model.specs.Readings.{in_force, tick_of, session}
use Rattle.ucon_model.specs.Truth.{Readings, readings}
use Rattle.ucon_model.specs.Reach.{Timed, lasting, owed, timed_of}

-- whether the tick, on its way from the one to the other, passes a deadline
abbrev pub is_between : ℤ → ℤ → ℤ → Bool
is_between now next d = int_le now d && int_lt d next

-- ---- the last tick

-- up to which tick an obligation is met, by the moment of its act; none if the tick doesn't decide over it
abbrev pub form_limit : ℤ → Form → Option ℤ → Option ℤ
form_limit start Done last = None
form_limit start (Within n) last = option_map (λ m. m +ℤ n) last
form_limit start (Every n) last = Some (int_max start (unwrap_or last start) +ℤ n)

-- the last tick at which a timed part holds for a session; none if the tick doesn't decide over it
abbrev pub limit_of : Readings → SessionRow → Timed → Option ℤ
limit_of R row (lasting n) = Some (row.start +ℤ n)
limit_of R row (owed o) =
    form_limit row.start o.form (R.done_at (unwrap_or o.by_subject row.subject) o.action (unwrap_or o.on_object row.object))

-- whether the tick passes a limit on its way, if there is one
abbrev pub passes : ℤ → ℤ → Option ℤ → Bool
passes now next None = false
passes now next (Some limit) = is_between now next limit

-- whether a timed part of session n's right stops holding when the tick goes to t
abbrev pub is_due : PlainPolicy → Trace → ℤ → ℕ → Bool
is_due P T t n =
    option_map_or (λ row. list_any (λ part. passes (tick_of T) t (limit_of (readings P T) row part)) (timed_of (in_force P T) row))
    (session T n) false

-- ---- all deadlines

-- the ticks at which an act was done, the last one first
abbrev pub moments : Bytes → Bytes → Bytes → Trace → List ℤ
moments s a o [] = []
moments s a o (act s' a' o' ∷ T) =
    if bytes_eq s s' && bytes_eq a a' && bytes_eq o o' then tick_of T ∷ moments s a o T else moments s a o T
moments s a o (b ∷ T) = moments s a o T

-- n ticks after the session's start, and after each act that is meant
abbrev pub form_deadlines : ℤ → Form → List ℤ → List ℤ
form_deadlines start Done done_at = []
form_deadlines start (Within n) done_at = map (λ m. m +ℤ n) (start ∷ done_at)
form_deadlines start (Every n) done_at = map (λ m. m +ℤ n) (start ∷ done_at)

-- the deadlines of a timed part of a session
abbrev pub deadlines : Trace → SessionRow → Timed → List ℤ
deadlines T row (lasting n) = (row.start +ℤ n) ∷ []
deadlines T row (owed d) =
    form_deadlines row.start d.form (moments (unwrap_or d.by_subject row.subject) d.action (unwrap_or d.on_object row.object) T)

-- whether the tick passes one of the deadlines on its way
abbrev pub has_between : ℤ → ℤ → List ℤ → Bool
has_between now next ds = list_any (is_between now next) ds
