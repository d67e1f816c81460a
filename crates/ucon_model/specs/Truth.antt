-- Whether a predicate holds, over what can be read. Decisions are over attributes (A), obligations (B) and conditions (C), as in Park
-- and Sandhu, The UCON-ABC usage control model, ACM TISSEC 7(1), 2004; the language of the predicates is this project's own.
use Rattle.std.specs.Prelude.{ℕ, ℤ, pos, ◌+ℤ◌, int_le, Bool, false, ◌&&◌, ◌||◌, not, Option, unwrap_or, is_some}
use Rattle.std.specs.Int.{int_max}
use Rattle.std.specs.Option.{option_map_or}
use Rattle.ucon_base.specs.declared.value.Side.TheVariants as sides
use Rattle.ucon_base.specs.declared.value.Value.{Value}
use Rattle.ucon_base.specs.declared.value.Value.TheVariants as values
use Rattle.ucon_model.specs.declared.formula.Ref.{Ref}
use Rattle.ucon_model.specs.declared.formula.Ref.TheVariants.{Subject, Object, Env}
use Rattle.ucon_model.specs.declared.formula.Form.{Form}
use Rattle.ucon_model.specs.declared.formula.Form.TheVariants.{Done, Within, Every}
use Rattle.ucon_model.specs.declared.formula.Obligation.{Obligation}
use Rattle.ucon_model.specs.declared.session.SessionRow.{SessionRow}
use Rattle.ucon_model.specs.Plain.{Bytes, PlainExpr, lit, read, plus, minus, times, size, PlainFormula, both, either, negation, compare, lasts}
use Rattle.ucon_model.specs.Plain.{PlainTest, authorisation, duty, condition, PlainPolicy}
use Rattle.ucon_base.specs.Arithmetic.{sum_of, difference_of, product_of, size_of}
use Rattle.ucon_model.specs.Comparison.{compares}
use Rattle.ucon_model.specs.Action.{Trace}
use Rattle.ucon_model.specs.Readings.{tick_of, attribute, variable, moment, session}

-- what a decision may read: the tick, a session, the value of a place for a session, the moment of an act
pub record Readings : Type 0 where
  pub now : ℤ
  pub row : ℕ → Option SessionRow
  pub at : SessionRow → Ref → Option Value
  pub done_at : Bytes → Bytes → Bytes → Option ℤ

-- the value of a place for a session: of its own subject or object, or of a variable
abbrev pub place_of : PlainPolicy → Trace → SessionRow → Ref → Option Value
place_of P T row (Subject attr) = attribute P T sides.Subject row.subject attr
place_of P T row (Object attr) = attribute P T sides.Object row.object attr
place_of P T row (Env name) = variable P T name

-- what a trace gives to read
abbrev pub readings : PlainPolicy → Trace → Readings
readings P T = record { now = tick_of T; row = session T; at = place_of P T; done_at = λ s a o. moment s a o T }

-- a place that isn't there reads as 0; no policy that is well typed reads one
abbrev pub read_or_zero : Option Value → Value
read_or_zero v = unwrap_or v (values.Int (pos 0))

-- an expression's value, by what its places hold
abbrev pub value_of : (Ref → Option Value) → PlainExpr → Value
value_of at (lit v) = v
value_of at (read place) = read_or_zero (at place)
value_of at (plus a b) = sum_of (value_of at a) (value_of at b)
value_of at (minus a b) = difference_of (value_of at a) (value_of at b)
value_of at (times a b) = product_of (value_of at a) (value_of at b)
value_of at (size a) = size_of (value_of at a)

-- whether a formula holds for a session; `lasts n` holds while the tick is at most the session's start and n
abbrev pub holds : Readings → SessionRow → PlainFormula → Bool
holds R row (both f g) = holds R row f && holds R row g
holds R row (either f g) = holds R row f || holds R row g
holds R row (negation f) = not (holds R row f)
holds R row (compare op a b) = compares op (value_of (R.at row) a) (value_of (R.at row) b)
holds R row (lasts n) = int_le R.now (row.start +ℤ n)

-- Whether an act is done in time, by the moment at which it was last done: once; within n ticks; or, if it recurs, within n ticks
-- of the later of the session's start and that moment. These sums are plain and not clamped.
abbrev pub in_time : ℤ → ℤ → Form → Option ℤ → Bool
in_time now start Done last = is_some last
in_time now start (Within n) last = option_map_or (λ m. int_le now (m +ℤ n)) last false
in_time now start (Every n) last = int_le now (int_max start (unwrap_or last start) +ℤ n)

-- whether an obligation is met; without a name of its own it means the session's subject or object
abbrev pub is_done : Readings → SessionRow → Obligation → Bool
is_done R row o =
    in_time R.now row.start o.form (R.done_at (unwrap_or o.by_subject row.subject) o.action (unwrap_or o.on_object row.object))

-- whether a predicate's test is true for a session
abbrev pub truth : Readings → SessionRow → PlainTest → Bool
truth R row (authorisation f) = holds R row f
truth R row (duty o) = is_done R row o
truth R row (condition f) = holds R row f
