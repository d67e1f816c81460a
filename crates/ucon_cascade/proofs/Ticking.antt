-- A tick passes deadlines, one after the other.
use Rattle.std.proofs.Common.{◌≡◌, ◌≢◌, ◌∙◌, ◌⊎◌, ◌↔◌, ◌≤◌, inl, inr, ℕ, ℤ, zero, suc, Bool, true, false, cond, List, [], ◌∷◌, filter, length, refl, sym, ap, subst, arith}
use Rattle.std.specs.Prelude.{◌||◌, ◌≤ℤ◌, ◌<ℤ◌, Option, Some, None}
use Rattle.std.specs.List.{Contains, list_any}
use Rattle.std.specs.Option.{option_map_or}
use Rattle.std.proofs.lemmas.Bool.Decides.{eqb_tells}
use Rattle.std.proofs.lemmas.Int.{ints}
use Rattle.ucon_model.specs.declared.session.SessionRow.{SessionRow}
use Rattle.ucon_model.specs.Action.{Trace, tick}
use Rattle.ucon_model.specs.Deadlines.{deadlines, has_between, is_between, is_due, limit_of, passes}
use Rattle.ucon_model.specs.Plain.{PlainPolicy}
use Rattle.ucon_model.specs.Reach.{Timed, lasting, owed, timed_of}
use Rattle.ucon_model.specs.Readings.{in_force, is_accessing, is_accessing_state, session, tick_of}
use Rattle.ucon_model.specs.Touches.{touches, touches_row}
use Rattle.ucon_model.specs.Truth.{readings}
use Rattle.ucon_model.specs.Usages.{going_on}
use Rattle.ucon_collections.specs.Deadlines.{AreAlike, deadline_of}
use Rattle.ucon_cascade.proofs.Covering.{or_left, or_right}
use Rattle.ucon_cascade.specs.Passing.{HasPassed, IsPassing}
use Rattle.ucon_cascade.specs.Timely.{AreTimed, AreTimely, HasDeadline}

pub between : (now next d : ℤ) → is_between now next d ≡ true → (now ≤ℤ d) × (d <ℤ next)
between now next d h = (grind (arith, ints), grind (arith, ints))

is_between_so : (now next d : ℤ) → now ≤ℤ d → d <ℤ next → is_between now next d ≡ true
is_between_so now next d le lt = grind (arith, ints)

same_limit : (P : PlainPolicy) (T : Trace) (t : ℤ) (row : SessionRow) (part : Timed) → limit_of (readings P (tick t ∷ T)) row part ≡ limit_of (readings P T) row part
same_limit P T t row (lasting n) = refl
same_limit P T t row (owed o) = refl

same_deadlines : (T : Trace) (t : ℤ) (row : SessionRow) (part : Timed) → deadlines (tick t ∷ T) row part ≡ deadlines T row part
same_deadlines T t row (lasting n) = refl
same_deadlines T t row (owed o) = refl

-- ---- whose limit is passed

one_of : {A : Type 0} (p : A → Bool) (x : A) (xs : List A) (b : Bool) → p x ≡ b → (b || list_any p xs) ≡ true
    → (list_any p xs ≡ true → (y : A) × Contains xs y × (p y ≡ true)) → (y : A) × Contains (x ∷ xs) y × (p y ≡ true)
one_of p x xs true is any rest = (x, (0, omega arith, refl), is)
one_of p x xs false is any rest =
    let found = rest any in
    let at = found.1 in
    (found.0, (suc at.0, omega (arith, at.1), at.2), found.2)

some_one : {A : Type 0} (p : A → Bool) (xs : List A) → list_any p xs ≡ true → (x : A) × Contains xs x × (p x ≡ true)
some_one p [] any = absurd (let no : false ≡ true = any in cc)
some_one p (x ∷ xs) any = one_of p x xs (p x) refl any (some_one p xs)

passed_limit : (now next : ℤ) (limit : Option ℤ) → passes now next limit ≡ true → (d : ℤ) × (limit ≡ Some d) × (is_between now next d ≡ true)
passed_limit now next None h = absurd (let no : false ≡ true = h in cc)
passed_limit now next (Some d) h = (d, refl, h)

going_row : (o : Option SessionRow) → is_accessing o ≡ true → (row : SessionRow) × (o ≡ Some row) × (going_on o ≡ Some row)
going_row None on = absurd (let no : false ≡ true = on in cc)
going_row (Some row) on = (row, refl, let told : is_accessing_state row.state ≡ true = on in rw told refl)

both_at_most : (a b c : ℤ) → a ≤ℤ b → b ≤ℤ c → a ≤ℤ c
both_at_most a b c le more = omega (arith, ints, le, more)

below_too : (a b c : ℤ) → a ≤ℤ b → b <ℤ c → a <ℤ c
below_too a b c le lt = omega (arith, ints, le, lt)

has_passed : (ds : List (Option ℤ)) (P : PlainPolicy) (T : Trace) (t : ℤ) → AreTimely ds P T → (n : ℕ) → is_accessing (session T n) ≡ true → is_due P T t n ≡ true → HasPassed ds (tick_of T) t n
has_passed ds P T t timely n on due =
    let there = going_row (session T n) on in
    let row = there.0 in
    let any : list_any (λ part. passes (tick_of T) t (limit_of (readings P T) row part)) (timed_of (in_force P T) row) ≡ true =
    sym (ap (λ (o : Option SessionRow). option_map_or (λ row. list_any (λ part. passes (tick_of T) t (limit_of (readings P T) row part)) (timed_of (in_force P T) row)) o false) there.1) ∙ due in
    let one = some_one (λ part. passes (tick_of T) t (limit_of (readings P T) row part)) (timed_of (in_force P T) row) any in
    let limit = passed_limit (tick_of T) t (limit_of (readings P T) row one.0) one.2 in
    let at = between (tick_of T) t limit.0 limit.2 in
    let has = timely.timed.held n row one.0 limit.0 there.2 one.1 limit.1 at.0 in
    record {
      deadline = has.deadline;
      there = has.there;
      passed = is_between_so (tick_of T) t has.deadline (timely.ahead n has.deadline has.there) (below_too has.deadline limit.0 t has.up_to at.1);
    }

-- at first it passes all deadlines that are below it
pub begins_to_pass : (ds : List (Option ℤ)) (P : PlainPolicy) (T : Trace) (t : ℤ) → tick_of T ≤ℤ t → AreTimely ds P T → IsPassing ds [] P T t
begins_to_pass ds P T t forward timely = record {
  forward = forward;
  timed = record {
    held = λ n row part limit on of_right told ahead.
        timely.timed.held n row part limit on of_right (sym (same_limit P T t row part) ∙ told) (both_at_most (tick_of T) t limit forward ahead);
    theirs = λ n d has. (let is = timely.timed.theirs n d has in record {
      row = is.row;
      part = is.part;
      is = is.is;
      of_right = is.of_right;
      among = subst (λ (all : List ℤ). Contains all d) (sym (same_deadlines T t is.row is.part)) is.among;
    });
  };
  ahead = timely.ahead;
  due = λ n on due. inr (has_passed ds P T t timely n on due);
  touched = λ n has. absurd (nothing_in n has);
}
  where
    nothing_in : (n : ℕ) → Contains [] n → ⊥
    nothing_in n (i, within, is) = omega (arith, within)

-- ---- whose deadline is passed

any_with : {A : Type 0} (p : A → Bool) (xs : List A) (x : A) → Contains xs x → p x ≡ true → list_any p xs ≡ true
any_with p [] x (i, within, is) h = absurd (omega (arith, within))
any_with p (y ∷ ys) x (zero, within, is) h = or_left (p y) (list_any p ys) (ap p is ∙ h)
any_with p (y ∷ ys) x (suc i, within, is) h = or_right (p y) (list_any p ys) (any_with p ys x (i, omega (arith, within), is) h)

count_with : {A : Type 0} (p : A → Bool) (xs : List A) (x : A) → Contains xs x → p x ≡ true → 1 ≤ length (filter p xs)
count_with p [] x (i, within, is) h = absurd (omega (arith, within))
count_with p (y ∷ ys) x (zero, within, is) h = by (p y) (ap p is ∙ h)
  where
    by : (b : Bool) → b ≡ true → 1 ≤ length (cond b (y ∷ filter p ys) (filter p ys))
    by true h = omega arith
    by false h = absurd (let no : false ≡ true = h in cc)
count_with p (y ∷ ys) x (suc i, within, is) h = by (p y) (count_with p ys x (i, omega (arith, within), is) h)
  where
    by : (b : Bool) → 1 ≤ length (filter p ys) → 1 ≤ length (cond b (y ∷ filter p ys) (filter p ys))
    by true h = omega arith
    by false h = h

pub accessing_row : (o : Option SessionRow) (row : SessionRow) → going_on o ≡ Some row → (o ≡ Some row) × (is_accessing o ≡ true)
accessing_row None row is = absurd (let no : None ≡ Some row = is in cc)
accessing_row (Some other) row is = by (is_accessing_state other.state) refl is
  where
    by : (b : Bool) → is_accessing_state other.state ≡ b → cond b (Some other) None ≡ Some row → (Some other ≡ Some row) × (is_accessing_state other.state ≡ true)
    by true on is = (is, on)
    by false off is = absurd (let no : None ≡ Some row = is in cc)

-- the tick touches the session of a deadline that it passes
pub passed_is_touched : (ds : List (Option ℤ)) (P : PlainPolicy) (T : Trace) (t : ℤ) (members : List ℕ) → IsPassing ds members P T t → (n : ℕ) (d : ℤ) → HasDeadline ds n d → d <ℤ t
    → 1 ≤ touches P T (tick t) n
passed_is_touched ds P T t members passing n d has below =
    let is = passing.timed.theirs n d has in
    let there = accessing_row (session T n) is.row is.is in
    let at : Contains (deadlines T is.row is.part) d = subst (λ (all : List ℤ). Contains all d) (same_deadlines T t is.row is.part) is.among in
    let passes_it = is_between_so (tick_of T) t d (passing.ahead n d has) below in
    let count = count_with (λ part. has_between (tick_of T) t (deadlines T is.row part)) (timed_of (in_force P T) is.row) is.part is.of_right
    (any_with (is_between (tick_of T) t) (deadlines T is.row is.part) d at passes_it) in
    let told : touches P T (tick t) n ≡ length (filter (λ part. has_between (tick_of T) t (deadlines T is.row part)) (timed_of (in_force P T) is.row)) =
    ap (λ (b : Bool). cond b (option_map_or (touches_row P T (tick t)) (session T n) 0) 0) there.1
    ∙ ap (λ (o : Option SessionRow). option_map_or (touches_row P T (tick t)) o 0) there.0 in
    omega (arith, told, count)

-- one deadline is passed, and its session is put into the work
pub passes_one : (ds es : List (Option ℤ)) (P : PlainPolicy) (T : Trace) (t : ℤ) (old new : List ℕ) (n : ℕ) (d : ℤ) → IsPassing ds old P T t → HasDeadline ds n d → d <ℤ t
    → AreTimed es P (tick t ∷ T) → ((m : ℕ) (e : ℤ) → HasDeadline es m e → HasDeadline ds m e ⊎ (t ≤ℤ e))
    → ((m : ℕ) → m ≢ n → deadline_of es m ≡ deadline_of ds m) → ((m : ℕ) → Contains new m ↔ ((m ≡ n) ⊎ Contains old m)) → IsPassing es new P T t
passes_one ds es P T t old new n d passing has below timed ahead others gains = record {
  forward = passing.forward;
  timed = timed;
  ahead = λ m e there. elim (ahead m e there) [ inl was ↦ passing.ahead m e was | inr later ↦ both_at_most (tick_of T) t e passing.forward later ];
  due = λ m on due. elim (passing.due m on due) [
    | inl was ↦ inl ((gains m).1 (inr was))
    | inr passed ↦ elim (eqb_tells m n) [
      | inl here ↦ inl ((gains m).1 (inl here.1))
      | inr apart ↦ inr (record { deadline = passed.deadline; there = others m apart.1 ∙ passed.there; passed = passed.passed })
    ]
  ];
  touched = λ m is. elim ((gains m).0 is) [
    | inl here ↦ subst (λ (k : ℕ). 1 ≤ touches P T (tick t) k) (sym here) (passed_is_touched ds P T t old passing n d has below)
    | inr was ↦ passing.touched m was
  ];
}

-- the same deadlines
pub passing_like : (ds es : List (Option ℤ)) (members : List ℕ) (P : PlainPolicy) (T : Trace) (t : ℤ) → AreAlike ds es → IsPassing ds members P T t → IsPassing es members P T t
passing_like ds es members P T t alike passing = record {
  forward = passing.forward;
  timed = record {
    held = λ m row part limit on of_right told ahead. (let was = passing.timed.held m row part limit on of_right told ahead in record {
      deadline = was.deadline;
      there = alike m ∙ was.there;
      up_to = was.up_to;
    });
    theirs = λ m d has. passing.timed.theirs m d (sym (alike m) ∙ has);
  };
  ahead = λ m d has. passing.ahead m d (sym (alike m) ∙ has);
  due = λ m on due. elim (passing.due m on due) [
    | inl was ↦ inl was
    | inr passed ↦ inr (record { deadline = passed.deadline; there = alike m ∙ passed.there; passed = passed.passed })
  ];
  touched = passing.touched;
}
