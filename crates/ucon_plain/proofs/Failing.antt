-- Who fails, as it is read off a state.
use Rattle.std.proofs.Common.{◌≡◌, ◌∙◌, sym, ap, subst, ℕ, true}
use Rattle.std.specs.Prelude.{Option, Some}
use Rattle.ucon_model.specs.declared.session.SessionRow.{SessionRow}
use Rattle.ucon_model.specs.Plain.{Bytes, PlainPolicy}
use Rattle.ucon_model.specs.Action.{Trace}
use Rattle.ucon_model.specs.Readings.{in_force, session, is_accessing, is_accessing_state}
use Rattle.ucon_model.specs.Truth.{Readings, readings}
use Rattle.ucon_model.specs.Decision.{failing}
use Rattle.ucon_model.specs.Fitting.{ValuesFit}
use Rattle.ucon_model.specs.History.{Agree}
use Rattle.ucon_model.specs.Settle.{fails_at}
use Rattle.ucon_model.specs.Typing.{IsTyped}
use Rattle.ucon_model.specs.Sums.{tests_make_no_set}
use Rattle.ucon_state.specs.Following.{Follows, Keeps}
use Rattle.ucon_state.specs.Shown.{Shown}
use Rattle.ucon_state.specs.Tables.{session_in, readings_in}

-- tables keep what is followed
abbrev pub AreKept : Type 0
AreKept = (s : Shown) (P : PlainPolicy) (T : Trace) → Follows s P T → Keeps s.policy s.tables P T

-- over readings that agree with those of a trace, where all values fit, no test of a well typed policy makes a set
abbrev pub TestsMakeNoSet : Type 0
TestsMakeNoSet = (P : PlainPolicy) (T : Trace) (R : Readings) → IsTyped (in_force P T) → ValuesFit P T → Agree R (readings P T)
    → (n : ℕ) → tests_make_no_set (in_force P T) R n ≡ true

-- over readings that agree the same sessions fail
abbrev pub FailAlike : Type 0
FailAlike = (P : PlainPolicy) (R S : Readings) (n : ℕ) → Agree R S → failing P R n ≡ failing P S n

-- the tests of a session make no set
pub no_sets_there : TestsMakeNoSet → AreKept → (s : Shown) (P : PlainPolicy) (T : Trace) → Follows s P T → (n : ℕ) → tests_make_no_set s.policy (readings_in s.policy s.tables) n ≡ true
no_sets_there no_set kept s P T h n =
    subst (λ (Q : PlainPolicy). tests_make_no_set Q (readings_in s.policy s.tables) n ≡ true) (sym h.policy)
    (no_set P T (readings_in s.policy s.tables) h.typed h.sound.fit (kept s P T h).readings_agree n)

-- an accessing session fails by its first ongoing predicate that is false
pub fails_told : FailAlike → AreKept → (s : Shown) (P : PlainPolicy) (T : Trace) → Follows s P T → (n : ℕ) (row : SessionRow) (told : Option Bytes) → session_in s.tables n ≡ Some row
    → is_accessing_state row.state ≡ true → told ≡ failing s.policy (readings_in s.policy s.tables) n → fails_at P T n ≡ told
fails_told alike kept s P T h n row told is on said =
    let accessing : is_accessing (session T n) ≡ true = ap is_accessing (sym (h.tables.sessions.rows n) ∙ is) ∙ on in
    rw accessing
    (ap (λ (Q : PlainPolicy). failing Q (readings P T) n) (sym h.policy)
    ∙ sym (alike s.policy (readings_in s.policy s.tables) (readings P T) n (kept s P T h).readings_agree) ∙ sym said)
