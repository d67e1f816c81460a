-- The firsts of lists after a trace that a state follows.
use Rattle.std.proofs.Common.{◌≡◌, ◌⊎◌, ◌∙◌, inl, inr, ℕ, Bool, true, false, cond, List, [], ◌∷◌, refl, sym, ap, subst}
use Rattle.std.specs.Prelude.{Option, Some, None, IsSome}
use Rattle.std.specs.List.{list_any}
use Rattle.ucon_model.specs.declared.session.SessionRow.{SessionRow}
use Rattle.ucon_model.specs.Action.{Trace}
use Rattle.ucon_model.specs.Groups.{AreLike, FirstsCover, IsLed, JudgedAlike}
use Rattle.ucon_model.specs.Plain.{PlainPolicy}
use Rattle.ucon_model.specs.Reach.{Location, reads_at}
use Rattle.ucon_model.specs.Readings.{is_accessing, is_accessing_state, session}
use Rattle.ucon_model.specs.Usages.{going_on}
use Rattle.ucon_model.specs.Work.{Covers, Work}
use Rattle.ucon_state.specs.Following.{Follows}
use Rattle.ucon_state.specs.Shown.{Shown}
use Rattle.ucon_state.specs.Tables.{session_in}
use Rattle.ucon_cascade.specs.Grouping.{AreAlike, AreGrouped}
use Rattle.ucon_cascade.specs.Putting.{GoesOn}

-- ---- whose usages go on

pub goes_on : (o : Option SessionRow) → is_accessing o ≡ true → IsSome (going_on o)
goes_on None on = absurd cc
goes_on (Some row) on = let told : is_accessing_state row.state ≡ true = on in rw told refl

is_on : (o : Option SessionRow) → IsSome (going_on o) → is_accessing o ≡ true
is_on None some = absurd (let no : false ≡ true = some in cc)
is_on (Some row) some = by (is_accessing_state row.state) some
  where
    by : (b : Bool) → IsSome (cond b (Some row) None) → b ≡ true
    by true some = refl
    by false some = absurd (let no : false ≡ true = some in cc)

-- the row of an accessing session
pub going_row : (o : Option SessionRow) → is_accessing o ≡ true → (row : SessionRow) × (o ≡ Some row) × (going_on o ≡ Some row)
going_row None on = absurd (let no : false ≡ true = on in cc)
going_row (Some row) on = (row, refl, let told : is_accessing_state row.state ≡ true = on in rw told refl)

going_is : (o : Option SessionRow) (row : SessionRow) → going_on o ≡ Some row → o ≡ Some row
going_is None row is = absurd (let no : None ≡ Some row = is in cc)
going_is (Some other) row is = by (is_accessing_state other.state) is
  where
    by : (b : Bool) → cond b (Some other) None ≡ Some row → Some other ≡ Some row
    by true is = is
    by false is = absurd (let no : None ≡ Some row = is in cc)

-- the tables tell of each session what the trace does
pub goes_after : (s : Shown) (P : PlainPolicy) (T : Trace) → Follows s P T → (n : ℕ) → is_accessing (session T n) ≡ true → GoesOn s n
goes_after s P T h n on = goes_on (session_in s.tables n) (ap is_accessing (h.tables.sessions.rows n) ∙ on)

pub accessing_after : (s : Shown) (P : PlainPolicy) (T : Trace) → Follows s P T → (n : ℕ) → GoesOn s n → is_accessing (session T n) ≡ true
accessing_after s P T h n goes = ap is_accessing (sym (h.tables.sessions.rows n)) ∙ is_on (session_in s.tables n) goes

-- ---- firsts lead

like_after : (s : Shown) (P : PlainPolicy) (T : Trace) → Follows s P T → (m n : ℕ) → AreAlike s m n → AreLike P T m n
like_after s P T h m n alike = record {
  row = alike.row;
  other = alike.other;
  is = sym (h.tables.sessions.rows m) ∙ alike.is;
  other_is = sym (h.tables.sessions.rows n) ∙ alike.other_is;
  alike = subst (λ (Q : PlainPolicy). JudgedAlike Q alike.row alike.other) h.policy alike.alike;
}

pub led : (s : Shown) (first : ℕ → ℕ) (P : PlainPolicy) (T : Trace) → Follows s P T → AreGrouped s first → IsLed P T first
led s first P T h grouped = record {
  on = λ n on. accessing_after s P T h (first n) (grouped.on n (goes_after s P T h n on));
  low = λ n on. grouped.low n (goes_after s P T h n on);
  like = λ n on. elim (grouped.like n (goes_after s P T h n on)) [
    | inl itself ↦ inl itself
    | inr alike ↦ inr (like_after s P T h (first n) n alike)
  ];
}

-- work that covers by firsts begins so
abbrev pub FirstsBegin : Type 0
FirstsBegin = (P : PlainPolicy) (T : Trace) (first : ℕ → ℕ) (work next : Work) → Covers P T work → IsLed P T first
    → ((n : ℕ) → is_accessing (session T n) ≡ true → work (first n) ≡ true → next (first n) ≡ true) → FirstsCover P T first next

-- ---- what a first reads

-- sessions that are judged alike read the same
abbrev pub LikeReadAlike : Type 0
LikeReadAlike = (Q : PlainPolicy) (row other : SessionRow) (location : Location) → JudgedAlike Q row other → reads_at Q row location ≡ reads_at Q other location

one_row : (o : Option SessionRow) (row other : SessionRow) → o ≡ Some row → o ≡ Some other → row ≡ other
one_row o row other is told = let both : Some row ≡ Some other = sym is ∙ told in cc

-- the row of a session and that of the first of its list are one, or judged alike
pub rows_alike : (s : Shown) (first : ℕ → ℕ) → AreGrouped s first → (n : ℕ) (row first_row : SessionRow) → going_on (session_in s.tables n) ≡ Some row
    → going_on (session_in s.tables (first n)) ≡ Some first_row → (first_row ≡ row) ⊎ JudgedAlike s.policy first_row row
rows_alike s first grouped n row first_row is first_is = elim (grouped.like n (subst (λ (o : Option SessionRow). IsSome o) (sym is) refl)) [
  | inl itself ↦
      inl (one_row (going_on (session_in s.tables n)) first_row row (ap (λ (m : ℕ). going_on (session_in s.tables m)) (sym itself) ∙ first_is) is)
  | inr alike ↦
      let same = one_row (session_in s.tables (first n)) alike.row first_row alike.is (going_is (session_in s.tables (first n)) first_row first_is) in
      let same' = one_row (session_in s.tables n) alike.other row alike.other_is (going_is (session_in s.tables n) row is) in
      inr (subst (λ (r : SessionRow). JudgedAlike s.policy first_row r) same' (subst (λ (r : SessionRow). JudgedAlike s.policy r alike.other) same alike.alike))
]

alike_at_one : LikeReadAlike → (Q : PlainPolicy) (row other : SessionRow) → JudgedAlike Q row other → (locations : List Location)
    → list_any (reads_at Q row) locations ≡ list_any (reads_at Q other) locations
alike_at_one law Q row other alike [] = refl
alike_at_one law Q row other alike (location ∷ rest) = rw (law Q row other location alike, alike_at_one law Q row other alike rest) refl

-- the first of a list reads at one of these locations exactly where the others do
pub reads_as_first : LikeReadAlike → (s : Shown) (first : ℕ → ℕ) → AreGrouped s first → (n : ℕ) (row first_row : SessionRow) → going_on (session_in s.tables n) ≡ Some row
    → going_on (session_in s.tables (first n)) ≡ Some first_row → (locations : List Location)
    → list_any (reads_at s.policy first_row) locations ≡ list_any (reads_at s.policy row) locations
reads_as_first law s first grouped n row first_row is first_is locations = elim (rows_alike s first grouped n row first_row is first_is) [
  | inl same ↦ ap (λ (r : SessionRow). list_any (reads_at s.policy r) locations) same
  | inr alike ↦ alike_at_one law s.policy first_row row alike locations
]
