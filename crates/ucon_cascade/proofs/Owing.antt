-- A session that doesn't fail has met the obligations that its right has during the usage.
use Rattle.std.proofs.Common.{◌≡◌, ◌∙◌, inl, inr, ℕ, zero, suc, Bool, true, false, cond, List, [], ◌∷◌, filter, refl, sym, ap, subst, arith}
use Rattle.std.specs.Prelude.{◌&&◌, not, Option, Some, None, option_and_then}
use Rattle.std.specs.List.{Contains, flat_map}
use Rattle.std.specs.Option.{option_map_or}
use Rattle.std.proofs.lemmas.List.Elements.{Contains-append_cases}
use Rattle.ucon_model.specs.declared.formula.Obligation.{Obligation}
use Rattle.ucon_model.specs.declared.session.SessionRow.{SessionRow}
use Rattle.ucon_model.specs.Action.{Trace}
use Rattle.ucon_model.specs.Decision.{failing, failing_of, first_false, no_right, ongoing, right_named}
use Rattle.ucon_model.specs.Plain.{PlainFormula, both, either, negation, compare, lasts, PlainPolicy, PlainPredicate, PlainRight, PlainTest, authorisation, duty, condition}
use Rattle.ucon_model.specs.Reach.{lasting, owed, formula_timed, right_timed, test_timed, timed_of, timed_truth}
use Rattle.ucon_model.specs.Readings.{in_force, is_accessing, is_accessing_state, session}
use Rattle.ucon_model.specs.Settle.{fails_at}
use Rattle.ucon_model.specs.Truth.{Readings, is_done, readings, truth}
use Rattle.ucon_model.specs.Usages.{going_on}

none_in_formula : (f : PlainFormula) (o : Obligation) → Contains (formula_timed f) (owed o) → ⊥
none_in_formula (both f g) o has = elim (Contains-append_cases (formula_timed f) (formula_timed g) (owed o) has) [
  | inl left ↦ none_in_formula f o left
  | inr right ↦ none_in_formula g o right
]
none_in_formula (either f g) o has = elim (Contains-append_cases (formula_timed f) (formula_timed g) (owed o) has) [
  | inl left ↦ none_in_formula f o left
  | inr right ↦ none_in_formula g o right
]
none_in_formula (negation f) o has = none_in_formula f o has
none_in_formula (compare op a b) o (i, within, is) = omega (arith, within)
none_in_formula (lasts n) o (zero, within, is) = let no : lasting n ≡ owed o = is in cc
none_in_formula (lasts n) o (suc i, within, is) = omega (arith, within)

test_met : (R : Readings) (row : SessionRow) (t : PlainTest) (o : Obligation) → truth R row t ≡ true → Contains (test_timed t) (owed o) → is_done R row o ≡ true
test_met R row (authorisation f) o holds has = absurd (none_in_formula f o has)
test_met R row (duty d) o holds (zero, within, is) =
    let both : owed d ≡ owed o = is in
    let same : d ≡ o = cc in
    subst (λ (x : Obligation). is_done R row x ≡ true) same holds
test_met R row (duty d) o holds (suc i, within, is) = absurd (omega (arith, within))
test_met R row (condition f) o holds has = absurd (none_in_formula f o has)

all_met : (R : Readings) (row : SessionRow) (ps : List PlainPredicate) (o : Obligation) → first_false R row ongoing ps ≡ None
    → Contains (flat_map (λ p. test_timed p.test) (filter ongoing ps)) (owed o) → is_done R row o ≡ true
all_met R row [] o none (i, within, is) = absurd (omega (arith, within))
all_met R row (p ∷ ps) o none has = by (ongoing p) (truth R row p.test) refl none has (all_met R row ps o)
  where
    by : (b t : Bool) → truth R row p.test ≡ t → cond (b && not t) (Some p.label) (first_false R row ongoing ps) ≡ None
        → Contains (flat_map (λ p. test_timed p.test) (cond b (p ∷ filter ongoing ps) (filter ongoing ps))) (owed o)
        → (first_false R row ongoing ps ≡ None → Contains (flat_map (λ p. test_timed p.test) (filter ongoing ps)) (owed o) → is_done R row o ≡ true) → is_done R row o ≡ true
    by false t is none has rest = rest none has
    by true false is none has rest = absurd (let no : Some p.label ≡ None = none in cc)
    by true true is none has rest = elim (Contains-append_cases (test_timed p.test) (flat_map (λ p. test_timed p.test) (filter ongoing ps)) (owed o) has) [
      | inl here ↦ test_met R row p.test o is here
      | inr later ↦ rest none later
    ]

right_met : (R : Readings) (row : SessionRow) (right : Option PlainRight) (o : Obligation)
    → option_map_or (λ right. first_false R row ongoing right.preds) right (Some no_right) ≡ None → Contains (option_map_or right_timed right []) (owed o)
    → is_done R row o ≡ true
right_met R row None o none (i, within, is) = absurd (omega (arith, within))
right_met R row (Some right) o none has = all_met R row right.preds o none has

going_row : (o : Option SessionRow) (row : SessionRow) → going_on o ≡ Some row → (o ≡ Some row) × (is_accessing o ≡ true)
going_row None row is = absurd (let no : None ≡ Some row = is in cc)
going_row (Some other) row is = by (is_accessing_state other.state) refl is
  where
    by : (b : Bool) → is_accessing_state other.state ≡ b → cond b (Some other) None ≡ Some row → (Some other ≡ Some row) × (is_accessing_state other.state ≡ true)
    by true on is = (is, on)
    by false off is = absurd (let no : None ≡ Some row = is in cc)

pub obligations_are_met : (P : PlainPolicy) (T : Trace) (n : ℕ) (row : SessionRow) (o : Obligation) → fails_at P T n ≡ None → going_on (session T n) ≡ Some row
    → Contains (timed_of (in_force P T) row) (owed o) → timed_truth (readings P T) row (owed o) ≡ true
obligations_are_met P T n row o none on has =
    let there = going_row (session T n) row on in
    let R = readings P T in
    let of_row : failing_of (in_force P T) R row ≡ None =
    sym (ap (λ (o : Option SessionRow). option_and_then (failing_of (in_force P T) R) o) there.0)
    ∙ sym (ap (λ (b : Bool). cond b (failing (in_force P T) R n) None) there.1) ∙ none in
    right_met R row (right_named (in_force P T).rights row.right) o of_row has
