-- What a recheck of a state asks.
use Rattle.std.proofs.Common.{◌≡◌, ◌∙◌, ℕ, true, Option, ap, sym, subst}
use Rattle.std.specs.Prelude.{option_and_then}
use Rattle.std.specs.Option.{option_map_or}
use Rattle.ucon_model.specs.Sums.{tests_make_no_set}
use Rattle.ucon_model.specs.declared.session.SessionRow.{SessionRow}
use Rattle.ucon_model.specs.declared.session.Verdict.{Verdict}
use Rattle.ucon_model.specs.declared.session.Verdict.TheVariants.{Deny}
use Rattle.ucon_model.specs.Plain.{PlainPolicy}
use Rattle.ucon_model.specs.Action.{Trace}
use Rattle.ucon_model.specs.Decision.{no_right, right_named, verdict}
use Rattle.ucon_model.specs.Fitting.{ValuesFit}
use Rattle.ucon_model.specs.History.{Agree}
use Rattle.ucon_model.specs.Lookup.{right_read}
use Rattle.ucon_model.specs.Readings.{in_force}
use Rattle.ucon_model.specs.Truth.{Readings, readings}
use Rattle.ucon_model.specs.Typing.{IsTyped}
use Rattle.ucon_state.specs.Following.{Follows, Keeps}
use Rattle.ucon_state.specs.Shown.{Shown}
use Rattle.ucon_state.specs.Tables.{readings_in}
use Rattle.ucon_audit.specs.Recheck.{verdict_now}

-- what `typed_tests_make_no_set` says
abbrev pub TestsMakeNoSet : Type 0
TestsMakeNoSet = (P : PlainPolicy) (T : Trace) (R : Readings) → IsTyped (in_force P T) → ValuesFit P T → Agree R (readings P T)
    → (n : ℕ) → tests_make_no_set (in_force P T) R n ≡ true

-- what `tables_keep_what_is_followed` says
abbrev pub TablesKeep : Type 0
TablesKeep = (s : Shown) (P : PlainPolicy) (T : Trace) → Follows s P T → Keeps s.policy s.tables P T

-- the tests of a session of a state that follows a trace make no set
pub no_sets_there : TestsMakeNoSet → TablesKeep → (s : Shown) (P : PlainPolicy) (T : Trace) → Follows s P T
    → (n : ℕ) → tests_make_no_set s.policy (readings_in s.policy s.tables) n ≡ true
no_sets_there no_set keep s P T h n =
    subst (λ (Q : PlainPolicy). tests_make_no_set Q (readings_in s.policy s.tables) n ≡ true) (sym h.policy)
    (no_set P T (readings_in s.policy s.tables) h.typed h.sound.fit (keep s P T h).readings_agree n)

-- a session that is read alike, with one verdict, is judged alike now
pub judged_alike : (Q : PlainPolicy) (R S : Readings) (n : ℕ) → R.row n ≡ S.row n → verdict Q R n ≡ verdict Q S n → verdict_now Q R n ≡ verdict_now Q S n
judged_alike Q R S n row same =
    ap (λ (o : Option SessionRow). option_map_or (λ right. verdict Q R n) (option_and_then (λ r. right_named Q.rights r.right) o) (Deny no_right)) row
    ∙ ap (λ (v : Verdict). option_map_or (λ right. v) (right_read Q S n) (Deny no_right)) same
