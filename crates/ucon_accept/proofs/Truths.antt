-- What follows from the facts of a test is its truth.
use Rattle.std.proofs.Common.{◌≡◌, ◌∙◌, ℕ, Bool, true, List, ◌∷◌, ◌++◌, map, refl, sym, ap}
use Rattle.std.specs.Prelude.{ℤ, pos, Option, unwrap_or}
use Rattle.ucon_model.specs.declared.formula.Form.{Form}
use Rattle.ucon_model.specs.declared.formula.Form.TheVariants.{Done, Within, Every}
use Rattle.ucon_model.specs.declared.session.SessionRow.{SessionRow}
use Rattle.ucon_model.specs.Places.{distinct, formula_places}
use Rattle.ucon_model.specs.Plain.{PlainFormula, PlainTest, authorisation, duty, condition}
use Rattle.ucon_model.specs.Truth.{Readings, holds, in_time, read_or_zero, truth}
use Rattle.ucon_model.specs.Asked.{no_session}
use Rattle.ucon_model.specs.Sums.{test_makes_no_set}
use Rattle.ucon_accept.specs.declared.explanation.Fact.{Fact}
use Rattle.ucon_accept.specs.declared.explanation.Fact.TheVariants.{Moment}
use Rattle.ucon_accept.specs.Facts.{asks_tick, formula_facts, is_timed, test_facts, tick_fact, value_fact}
use Rattle.ucon_accept.specs.Told.{tick_told, told, truth_told, value_told}
use Rattle.ucon_accept.proofs.Agreeing.{AgreeOn, formula_sets_agree, truths_agree}
use Rattle.ucon_accept.proofs.Lookup.{distinct-has, tick_told-facts, value_told-facts}

-- the facts of a formula tell of its places what is read there
facts_agree : (R : Readings) (row : SessionRow) (f : PlainFormula) → AgreeOn (value_told (formula_facts R row f)) (R.at row) (formula_places f)
facts_agree R row f p there =
    ap read_or_zero (value_told-facts R row (distinct (formula_places f)) (tick_fact R (asks_tick f)) p (distinct-has p (formula_places f) there))

tick_agrees : (R : Readings) (row : SessionRow) (f : PlainFormula) → asks_tick f ≡ true → tick_told (formula_facts R row f) ≡ R.now
tick_agrees R row f asked =
    ap (λ (b : Bool). tick_told (map (value_fact R row) (distinct (formula_places f)) ++ tick_fact R b)) asked ∙ tick_told-facts R row (distinct (formula_places f))

formula_truth : (R : Readings) (row : SessionRow) (f : PlainFormula) → row.start ≡ pos 0
    → holds (told (formula_facts R row f)) no_session f ≡ holds R row f
formula_truth R row f fresh = truths_agree (told (formula_facts R row f)) no_session R row f (facts_agree R row f) (sym fresh) (tick_agrees R row f)

duty_truth : (now start : ℤ) (form : Form) (s a o : List ℕ) (m : Option ℤ) (R : Readings) → start ≡ pos 0 → R.now ≡ now
    → in_time (tick_told (Moment s a o m ∷ tick_fact R (is_timed form))) (pos 0) form m ≡ in_time now start form m
duty_truth now start Done s a o m R fresh is = refl
duty_truth now start (Within n) s a o m R fresh is = rw is refl
duty_truth now start (Every n) s a o m R fresh is = rw (is, fresh) refl

test_truth : (R : Readings) (row : SessionRow) (t : PlainTest) → row.start ≡ pos 0 → truth_told (test_facts R row t) t ≡ truth R row t
test_truth R row (authorisation f) fresh = formula_truth R row f fresh
test_truth R row (condition f) fresh = formula_truth R row f fresh
test_truth R row (duty o) fresh =
    duty_truth R.now row.start o.form (unwrap_or o.by_subject row.subject) o.action (unwrap_or o.on_object row.object)
    (R.done_at (unwrap_or o.by_subject row.subject) o.action (unwrap_or o.on_object row.object)) R fresh refl

-- the truth that follows from the facts of a test
pub told_is_true : (R : Readings) (row : SessionRow) (fs : List Fact) (t : PlainTest) → row.start ≡ pos 0 → fs ≡ test_facts R row t
    → truth_told fs t ≡ truth R row t
told_is_true R row fs t fresh is = ap (λ (x : List Fact). truth_told x t) is ∙ test_truth R row t fresh

test_sets : (R : Readings) (row : SessionRow) (t : PlainTest) → test_makes_no_set (value_told (test_facts R row t)) t ≡ test_makes_no_set (R.at row) t
test_sets R row (authorisation f) = formula_sets_agree (value_told (formula_facts R row f)) (R.at row) f (facts_agree R row f)
test_sets R row (condition f) = formula_sets_agree (value_told (formula_facts R row f)) (R.at row) f (facts_agree R row f)
test_sets R row (duty o) = refl

-- by its facts a test makes no set, where it makes none
pub told_makes_no_set : (R : Readings) (row : SessionRow) (fs : List Fact) (t : PlainTest) → fs ≡ test_facts R row t
    → test_makes_no_set (R.at row) t ≡ true → test_makes_no_set (value_told fs) t ≡ true
told_makes_no_set R row fs t is none = ap (λ (x : List Fact). test_makes_no_set (value_told x) t) is ∙ test_sets R row t ∙ none
