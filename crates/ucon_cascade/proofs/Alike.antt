-- Who fails is told by the tables: it is the same after each trace that a state follows.
use Rattle.std.proofs.Common.{◌≡◌, ◌∙◌, ℕ, Bool, true, ap, refl, subst, sym}
use Rattle.std.specs.Prelude.{Option, Some, None, cond, option_map}
use Rattle.ucon_model.specs.Sums.{tests_make_no_set}
use Rattle.ucon_model.specs.declared.session.SessionRow.{SessionRow}
use Rattle.ucon_model.specs.declared.session.SessionState.{SessionState}
use Rattle.ucon_model.specs.Fitting.{ValuesFit}
use Rattle.ucon_model.specs.History.{Agree}
use Rattle.ucon_model.specs.Plain.{Bytes, PlainPolicy}
use Rattle.ucon_model.specs.Action.{Trace}
use Rattle.ucon_model.specs.Readings.{in_force, is_accessing, is_accessing_state}
use Rattle.ucon_model.specs.Truth.{Readings, readings}
use Rattle.ucon_model.specs.Decision.{failing}
use Rattle.ucon_model.specs.Settle.{fails_at}
use Rattle.ucon_model.specs.Work.{Covers, Work}
use Rattle.ucon_model.specs.Typing.{IsTyped}
use Rattle.ucon_state.specs.Following.{Follows, Keeps}
use Rattle.ucon_state.specs.Shown.{Shown}
use Rattle.ucon_state.specs.Tables.{readings_in, session_in}

-- the tables keep what is followed
abbrev pub KeepsAll : Type 0
KeepsAll = (s : Shown) (P : PlainPolicy) (T : Trace) → Follows s P T → Keeps s.policy s.tables P T

-- readings that agree are one
abbrev pub AreOne : Type 0
AreOne = (R S : Readings) → Agree R S → R ≡ S

-- the label by which session n fails, read off the tables
abbrev pub fails_in : Shown → ℕ → Option Bytes
fails_in s n = cond (is_accessing (session_in s.tables n)) (failing s.policy (readings_in s.policy s.tables) n) None

pub fails_told : KeepsAll → AreOne → (s : Shown) (P : PlainPolicy) (T : Trace) → Follows s P T → (n : ℕ) → fails_at P T n ≡ fails_in s n
fails_told keeps one s P T h n =
    let same : readings P T ≡ readings_in s.policy s.tables = sym (one (readings_in s.policy s.tables) (readings P T) (keeps s P T h).readings_agree) in
    ap (λ (o : Option SessionRow). cond (is_accessing o) (failing (in_force P T) (readings P T) n) None) (sym (h.tables.sessions.rows n))
    ∙ ap (λ (Q : PlainPolicy). cond (is_accessing (session_in s.tables n)) (failing Q (readings P T) n) None) (sym h.policy)
    ∙ ap (λ (R : Readings). cond (is_accessing (session_in s.tables n)) (failing s.policy R n) None) same

-- so work that covers after one covers after each
pub covers_each : KeepsAll → AreOne → (s : Shown) (P : PlainPolicy) (T : Trace) → Follows s P T → (work : Work) → Covers P T work
    → (Q : PlainPolicy) (U : Trace) → Follows s Q U → Covers Q U work
covers_each keeps one s P T h work covers Q U g n label fails =
    covers n label (fails_told keeps one s P T h n ∙ sym (fails_told keeps one s Q U g n) ∙ fails)

-- ---- asking one session

told_row : (o : Option SessionRow) (state : SessionState) → option_map (λ row. row.state) o ≡ Some state → (row : SessionRow) × (o ≡ Some row) × (row.state ≡ state)
told_row None state is = absurd cc
told_row (Some row) state is = (row, refl, let same : row.state ≡ state = cc in same)

-- an accessing session fails by what its right tells
pub asked : KeepsAll → AreOne → (s : Shown) (P : PlainPolicy) (T : Trace) → Follows s P T → (n : ℕ) (state : SessionState) (said : Option Bytes)
    → option_map (λ row. row.state) (session_in s.tables n) ≡ Some state → is_accessing_state state ≡ true → said ≡ failing s.policy (readings_in s.policy s.tables) n
    → fails_at P T n ≡ said
asked keeps one s P T h n state said is on said_is =
    let told = told_row (session_in s.tables n) state is in
    fails_told keeps one s P T h n
    ∙ ap (λ (o : Option SessionRow). cond (is_accessing o) (failing s.policy (readings_in s.policy s.tables) n) None) told.1
    ∙ ap (λ (b : Bool). cond b (failing s.policy (readings_in s.policy s.tables) n) None) (ap is_accessing_state told.2 ∙ on)
    ∙ sym said_is

-- over readings that agree with those of a trace, where all values fit, no test of a well typed policy makes a set
abbrev pub TestsMakeNoSet : Type 0
TestsMakeNoSet = (P : PlainPolicy) (T : Trace) (R : Readings) → IsTyped (in_force P T) → ValuesFit P T → Agree R (readings P T)
    → (n : ℕ) → tests_make_no_set (in_force P T) R n ≡ true

pub no_set_is_made : KeepsAll → TestsMakeNoSet → (s : Shown) (P : PlainPolicy) (T : Trace) → Follows s P T → (n : ℕ)
    → tests_make_no_set s.policy (readings_in s.policy s.tables) n ≡ true
no_set_is_made keeps no_set s P T h n =
    subst (λ (Q : PlainPolicy). tests_make_no_set Q (readings_in s.policy s.tables) n ≡ true) (sym h.policy)
    (no_set P T (readings_in s.policy s.tables) h.typed h.sound.fit (keeps s P T h).readings_agree n)
