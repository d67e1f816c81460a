-- The lines on a session don't depend on the other sessions.
use Rattle.std.proofs.Common.{◌≡◌, ◌∙◌, ℕ, ◌+◌, List, [], ◌∷◌, refl, sym, ap}
use Rattle.std.specs.Prelude.{not, Option, Some, None}
use Rattle.std.specs.Option.{option_map_or}
use Rattle.std.proofs.lemmas.Bool.{eq-eqb}
use Rattle.ucon_model.specs.declared.formula.Ref.{Ref}
use Rattle.ucon_model.specs.declared.formula.Ref.TheVariants.{Subject, Object, Env}
use Rattle.ucon_model.specs.declared.session.SessionRow.{SessionRow}
use Rattle.ucon_model.specs.declared.session.Verdict.{Verdict}
use Rattle.ucon_model.specs.Action.{Trace}
use Rattle.ucon_model.specs.Decision.{right_named, verdict}
use Rattle.ucon_model.specs.History.{Agree}
use Rattle.ucon_model.specs.Plain.{Bytes, PlainFormula, both, either, negation, compare, lasts, PlainTest, authorisation, duty, condition, PlainPredicate, PlainRight, PlainPolicy}
use Rattle.ucon_model.specs.Readings.{in_force, session, sessions}
use Rattle.ucon_model.specs.Truth.{Readings, holds, place_of, readings, truth}
use Rattle.ucon_state.specs.Applied.{tried}
use Rattle.ucon_accept.specs.Checking.{verdict_told}
use Rattle.ucon_accept.specs.Explanation.{PlainWhy, line, lines, lines_from}
use Rattle.ucon_accept.specs.Trying.{admin, explanation, with_try}

-- ---- what the laws say that these stand on

abbrev pub AgreeingAreOne : Type 0
AgreeingAreOne = (R S : Readings) → Agree R S → R ≡ S

abbrev pub LinesLeadToVerdicts : Type 0
LinesLeadToVerdicts = (P : PlainPolicy) (R : Readings) (n : ℕ) (row : SessionRow) → R.row n ≡ Some row → verdict_told (lines P R row) ≡ verdict P R n

-- ---- without the sessions

abbrev Rows : Type 0
Rows = ℕ → Option SessionRow

-- the same to read but for the sessions
abbrev pub with_rows : Readings → Rows → Readings
with_rows R rows = record { now = R.now; row = rows; at = R.at; done_at = R.done_at }

formula_alike : (R : Readings) (rows : Rows) (row : SessionRow) (f : PlainFormula) → holds (with_rows R rows) row f ≡ holds R row f
formula_alike R rows row (both f g) = rw (formula_alike R rows row f, formula_alike R rows row g) refl
formula_alike R rows row (either f g) = rw (formula_alike R rows row f, formula_alike R rows row g) refl
formula_alike R rows row (negation f) = ap not (formula_alike R rows row f)
formula_alike R rows row (compare op a b) = refl
formula_alike R rows row (lasts n) = refl

test_alike : (R : Readings) (rows : Rows) (row : SessionRow) (t : PlainTest) → truth (with_rows R rows) row t ≡ truth R row t
test_alike R rows row (authorisation f) = formula_alike R rows row f
test_alike R rows row (duty o) = refl
test_alike R rows row (condition f) = formula_alike R rows row f

facts_alike : (R : Readings) (rows : Rows) (row : SessionRow) (i : ℕ) (p : PlainPredicate) (t : PlainTest) → p.test ≡ t
    → line (with_rows R rows) row i p ≡ line R row i p
facts_alike R rows row i p (authorisation f) is = rw (is, formula_alike R rows row f) refl
facts_alike R rows row i p (duty o) is = rw is refl
facts_alike R rows row i p (condition f) is = rw (is, formula_alike R rows row f) refl

lines_from_alike : (R : Readings) (rows : Rows) (row : SessionRow) (i : ℕ) (ps : List PlainPredicate) → lines_from (with_rows R rows) row i ps ≡ lines_from R row i ps
lines_from_alike R rows row i [] = refl
lines_from_alike R rows row i (p ∷ ps) = rw (facts_alike R rows row i p p.test refl, lines_from_alike R rows row (i + 1) ps) refl

lines_alike : (P : PlainPolicy) (R : Readings) (rows : Rows) (row : SessionRow) → lines P (with_rows R rows) row ≡ lines P R row
lines_alike P R rows row = by_right (right_named P.rights row.right)
  where
    by_right : (o : Option PlainRight) → option_map_or (λ right. lines_from (with_rows R rows) row 0 right.preds) o []
        ≡ option_map_or (λ right. lines_from R row 0 right.preds) o []
    by_right None = refl
    by_right (Some right) = lines_from_alike R rows row 0 right.preds

-- a try changes no place
place_stays : (P : PlainPolicy) (T : Trace) (s r o : Bytes) (row : SessionRow) (place : Ref) → place_of P (with_try T s r o) row place ≡ place_of P T row place
place_stays P T s r o row (Subject attr) = refl
place_stays P T s r o row (Object attr) = refl
place_stays P T s r o row (Env name) = refl

no_rows : Rows
no_rows n = None

tried_there : (T : Trace) (s r o : Bytes) → session (with_try T s r o) (sessions T + 1) ≡ Some (tried admin s r o)
tried_there T s r o = rw (eq-eqb (sessions T + 1) (sessions T + 1) refl) refl

-- an explanation by its lines
by_lines : LinesLeadToVerdicts → (P : PlainPolicy) (T : Trace) (s r o : Bytes) → explanation P T s r o
    ≡ record {
      subject = s;
      right = r;
      object = o;
      whys = lines (in_force P T) (readings P (with_try T s r o)) (tried admin s r o);
      verdict = verdict_told (lines (in_force P T) (readings P (with_try T s r o)) (tried admin s r o));
    }
by_lines leads P T s r o =
    let row = tried admin s r o in
    let R = readings P (with_try T s r o) in
    ap (λ (v : Verdict). record { subject = s; right = r; object = o; whys = lines (in_force P T) R row; verdict = v })
    (sym (leads (in_force P T) R (sessions T + 1) row (tried_there T s r o)))

-- what is read alike is explained alike
pub explained_alike : AgreeingAreOne → LinesLeadToVerdicts → (P : PlainPolicy) (T : Trace) (Q : PlainPolicy) (U : Trace)
    → in_force P T ≡ in_force Q U → Agree (readings P T) (readings Q U) → (s r o : Bytes) → explanation P T s r o ≡ explanation Q U s r o
explained_alike one leads P T Q U policy agree s r o =
    let row = tried admin s r o in
    let R = readings P (with_try T s r o) in
    let S = readings Q (with_try U s r o) in
    let alike : Agree (with_rows R no_rows) (with_rows S no_rows) = record {
      now = agree.now;
      row = λ n. refl;
      at = λ row place. place_stays P T s r o row place ∙ agree.at row place ∙ sym (place_stays Q U s r o row place);
      done_at = agree.done_at;
    } in
    let same : lines (in_force P T) R row ≡ lines (in_force Q U) S row =
    sym (lines_alike (in_force P T) R no_rows row)
    ∙ ap (λ (X : Readings). lines (in_force P T) X row) (one (with_rows R no_rows) (with_rows S no_rows) alike)
    ∙ lines_alike (in_force P T) S no_rows row
    ∙ ap (λ (X : PlainPolicy). lines X S row) policy in
    by_lines leads P T s r o
    ∙ ap (λ (ws : List PlainWhy). record { subject = s; right = r; object = o; whys = ws; verdict = verdict_told ws }) same
    ∙ sym (by_lines leads Q U s r o)
