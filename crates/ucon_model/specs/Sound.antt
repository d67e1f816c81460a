-- What holds of the traces of histories under a well typed policy, as far as it can be read off a trace.
use Rattle.std.specs.Prelude.{◌≡◌, ℕ, ℤ, ◌<◌, ◌≤ℤ◌, Option, Some, None, IsTrue, ⊤}
use Rattle.ucon_base.specs.declared.value.Side.TheVariants.{Subject, Object}
use Rattle.ucon_model.specs.declared.session.SessionRow.{SessionRow}
use Rattle.ucon_model.specs.Plain.{Bytes, PlainPolicy}
use Rattle.ucon_model.specs.Action.{Trace}
use Rattle.ucon_model.specs.Readings.{tick_of, has_entity, moment, session, sessions}
use Rattle.ucon_model.specs.Fitting.{ValuesFit}

-- no session has the number 0, or one above the number of sessions
pub record IsNumbered (T : Trace) : Type 0 where
  pub zeroth : session T 0 ≡ None
  pub beyond : (n : ℕ) → sessions T < n → session T n ≡ None

-- the session's subject and object are there, if it is there itself
abbrev pub IsGrounded : Trace → Option SessionRow → Type 0
IsGrounded T None = ⊤
IsGrounded T (Some row) = IsTrue (has_entity Subject row.subject T) × IsTrue (has_entity Object row.object T)

-- no act was done after the tick
abbrev pub IsTimely : Trace → Type 0
IsTimely T = (s a o : Bytes) (m : ℤ) → moment s a o T ≡ Some m → m ≤ℤ tick_of T

-- sessions are numbered from 1, their entities are there, no act is of the future, and all values fit
pub record IsSound (P : PlainPolicy) (T : Trace) : Type 0 where
  pub numbered : IsNumbered T
  pub grounded : (n : ℕ) → IsGrounded T (session T n)
  pub timely : IsTimely T
  pub fit : ValuesFit P T
