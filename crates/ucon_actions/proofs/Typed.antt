-- Under a policy that is well typed.
use Rattle.std.proofs.Common.{◌≡◌, ℕ, true, sym, subst}
use Rattle.ucon_model.specs.Sums.{tests_make_no_set}
use Rattle.ucon_model.specs.Plain.{PlainPolicy}
use Rattle.ucon_model.specs.Action.{Trace}
use Rattle.ucon_model.specs.Fitting.{ValuesFit}
use Rattle.ucon_model.specs.History.{Agree}
use Rattle.ucon_model.specs.Readings.{in_force}
use Rattle.ucon_model.specs.Truth.{Readings, readings}
use Rattle.ucon_model.specs.Typing.{IsTyped}
use Rattle.ucon_state.specs.Following.{Follows}
use Rattle.ucon_state.specs.Shown.{Shown}
use Rattle.ucon_state.specs.Tables.{readings_in}
use Rattle.ucon_engine.specs.ReadOff.{TablesKeep}

-- over readings that agree with those of a trace, where all values fit, no test of a well typed policy makes a set
abbrev pub TestsMakeNoSet : Type 0
TestsMakeNoSet = (P : PlainPolicy) (T : Trace) (R : Readings) → IsTyped (in_force P T) → ValuesFit P T → Agree R (readings P T)
    → (n : ℕ) → tests_make_no_set (in_force P T) R n ≡ true

-- the tests of a session make no set
pub no_sets_there : TablesKeep → TestsMakeNoSet → (s : Shown) (P : PlainPolicy) (T : Trace) → Follows s P T → (n : ℕ) → tests_make_no_set s.policy (readings_in s.policy s.tables) n ≡ true
no_sets_there keep no_set s P T h n =
    subst (λ (Q : PlainPolicy). tests_make_no_set Q (readings_in s.policy s.tables) n ≡ true) (sym h.policy)
    (no_set P T (readings_in s.policy s.tables) h.typed h.sound.fit (keep s P T h).readings_agree n)
