-- One judgement for sessions that are judged alike at all times, and the cascade by the first of each list of such.
use Rattle.std.proofs.Common.{◌≡◌, ◌⊎◌, inl, inr, ℕ, ◌≤◌, Bool, true, false, List, [], ◌∷◌, ◌++◌, refl, sym, ap, subst, ◌∙◌, append_assoc, arith}
use Rattle.std.specs.Prelude.{◌≢◌, nat_eq, not, Option, Some, None}
use Rattle.std.specs.Option.{option_map_or}
use Rattle.std.specs.List.{list_any}
use Rattle.std.proofs.lemmas.Bool.{cases_Bool, cases_eq, and_from, not_from_false, ne_eqb, or_left, or_right, or_parts}
use Rattle.std.proofs.lemmas.List.{append-nil}
use Rattle.ucon_base.specs.declared.value.Side.{Side}
use Rattle.ucon_base.specs.declared.value.Side.TheVariants as sides
use Rattle.ucon_model.specs.declared.formula.Ref.{Ref}
use Rattle.ucon_model.specs.declared.formula.Ref.TheVariants.{Subject, Object, Env}
use Rattle.ucon_model.specs.declared.session.SessionRow.{SessionRow}
use Rattle.ucon_model.specs.Plain.{Bytes, PlainPolicy}
use Rattle.ucon_model.specs.Action.{Action, Trace, extended}
use Rattle.ucon_model.specs.Readings.{in_force, session, sessions, is_accessing}
use Rattle.ucon_model.specs.Truth.{readings, place_of}
use Rattle.ucon_model.specs.Decision.{right_named, failing}
use Rattle.ucon_model.specs.Places.{places_read}
use Rattle.ucon_model.specs.Updates.{entity_of}
use Rattle.ucon_model.specs.Settle.{fails_at, least_failing, revocation, settle}
use Rattle.ucon_base.specs.Elements.{Each}
use Rattle.ucon_model.specs.Reach.{timed_truth, places_of, Location, attribute_of, same_location, location_of, reads_at, ReadAlike, permits, reached, readers}
use Rattle.ucon_model.specs.Sound.{IsNumbered}
use Rattle.ucon_model.specs.Work.{Work, without, IsEmpty, IsLeastOf, Covers, concerned}
use Rattle.ucon_model.specs.Groups.{is_of_side, JudgedAlike, AreLike, IsLed, IsExact, FirstsCover, IsNextWork, IsUnderway}
use Rattle.ucon_model.proofs.Extending.{extended-append}
use Rattle.ucon_model.proofs.LeastFailing.{accessing_row}
use Rattle.ucon_model.proofs.Cascades.{numbered_one, least_found, none_found}
use Rattle.ucon_model.proofs.Turns.{settle-over, settle-turn}
use Rattle.ucon_model.proofs.Alike.{alike_failing}
use Rattle.ucon_model.proofs.Frames.{fails_on, failed_before}
use Rattle.ucon_model.proofs.Readers.{concerned-revocation}
use Rattle.ucon_model.proofs.Revoking.{numbered-revocation}

-- ---- one judgement

-- one entity on each side of which these places are, so one value at each
places_same : (P : PlainPolicy) (T : Trace) (row other : SessionRow) (places : List Ref)
    → ((side : Side) → list_any (is_of_side side) places ≡ true → entity_of side row ≡ entity_of side other)
    → Each (λ place. place_of P T row place ≡ place_of P T other place) places
places_same P T row other [] same = tt
places_same P T row other (Subject attr ∷ places) same = (
  rw (same sides.Subject refl) refl,
  places_same P T row other places (λ side h. same side (or_right (is_of_side side (Subject attr)) (list_any (is_of_side side) places) h)),
)
places_same P T row other (Object attr ∷ places) same = (
  rw (same sides.Object refl) refl,
  places_same P T row other places (λ side h. same side (or_right (is_of_side side (Object attr)) (list_any (is_of_side side) places) h)),
)
places_same P T row other (Env name ∷ places) same = (
  refl,
  places_same P T row other places (λ side h. same side (or_right (is_of_side side (Env name)) (list_any (is_of_side side) places) h)),
)

-- sessions that are judged alike read alike after every trace
judged-read : (P : PlainPolicy) (T : Trace) (Q : PlainPolicy) (row other : SessionRow) → JudgedAlike Q row other
    → ReadAlike Q (readings P T) row (readings P T) other
judged-read P T Q row other h = record {
  right = h.right;
  places = places_same P T row other (places_of Q row) h.entities;
  timed = subst (Each (λ part. timed_truth (readings P T) row part ≡ timed_truth (readings P T) other part)) (sym h.untimed) tt;
}

-- and they read the same locations, since these are of the same entities
locations_same : (row other : SessionRow) (location : Location) (places : List Ref)
    → ((side : Side) → list_any (is_of_side side) places ≡ true → entity_of side row ≡ entity_of side other)
    → list_any (λ place. same_location (location_of row place) location) places ≡ list_any (λ place. same_location (location_of other place) location) places
locations_same row other location [] same = refl
locations_same row other location (place ∷ places) same =
    let rest = locations_same row other location places (λ side h. same side (or_right (is_of_side side place) (list_any (is_of_side side) places) h)) in
    rw (here place (λ side h. same side (or_left (is_of_side side place) (list_any (is_of_side side) places) h)), rest) refl
  where
    here : (place : Ref) → ((side : Side) → is_of_side side place ≡ true → entity_of side row ≡ entity_of side other) → location_of row place ≡ location_of other place
    here (Subject attr) same = ap (λ (name : Bytes). attribute_of sides.Subject name attr) (same sides.Subject refl)
    here (Object attr) same = ap (λ (name : Bytes). attribute_of sides.Object name attr) (same sides.Object refl)
    here (Env name) same = refl

pub judged-locations : (Q : PlainPolicy) (row other : SessionRow) (location : Location) → JudgedAlike Q row other → reads_at Q row location ≡ reads_at Q other location
judged-locations Q row other location h =
    locations_same row other location (places_of Q row) h.entities
    ∙ ap (λ (right : Bytes). list_any (λ place. same_location (location_of other place) location) (option_map_or places_read (right_named Q.rights right) [])) h.right

-- so they fail alike
pub likes_fail : (P : PlainPolicy) (T : Trace) (m n : ℕ) → AreLike P T m n
    → failing (in_force P T) (readings P T) m ≡ failing (in_force P T) (readings P T) n
likes_fail P T m n h =
    alike_failing (in_force P T) (readings P T) m h.row (readings P T) n h.other h.is h.other_is (judged-read P T (in_force P T) h.row h.other h.alike)

like_fails : (P : PlainPolicy) (T : Trace) (m n : ℕ) (label : Bytes) → is_accessing (session T m) ≡ true → (m ≡ n) ⊎ AreLike P T m n
    → fails_at P T n ≡ Some label → fails_at P T m ≡ Some label
like_fails P T m n label on (inl same) e = rw same e
like_fails P T m n label on (inr like) e =
    let there : is_accessing (session T n) ≡ true = fails_on P T n label e in
    let fails : failing (in_force P T) (readings P T) n ≡ Some label = rw there at e in
    rw on (likes_fail P T m n like ∙ fails)

-- where a session fails, the first of its list fails by the same label
pub first_fails : (P : PlainPolicy) (T : Trace) (first : ℕ → ℕ) (n : ℕ) (label : Bytes) → IsLed P T first → fails_at P T n ≡ Some label
    → fails_at P T (first n) ≡ Some label
first_fails P T first n label led e =
    let on : is_accessing (session T n) ≡ true = fails_on P T n label e in
    like_fails P T (first n) n label (led.on n on) (led.like n on) e

-- ---- the index

any_same : {A : Type 0} (p q : A → Bool) → ((x : A) → p x ≡ q x) → (xs : List A) → list_any p xs ≡ list_any q xs
any_same p q same [] = refl
any_same p q same (x ∷ xs) = rw (same x, any_same p q same xs) refl

-- an accessing session reads at one of these locations exactly where its leader stands at one
pub readers-exact : (P : PlainPolicy) (T : Trace) (leader : ℕ → ℕ) (stands : ℕ → Location → Bool) (locations : List Location) (n : ℕ) → IsExact P T leader stands
    → is_accessing (session T n) ≡ true → readers P T locations n ≡ list_any (stands (leader n)) locations
readers-exact P T leader stands locations n exact on = of_row (session T n) refl on
  where
    of_row : (o : Option SessionRow) → session T n ≡ o → is_accessing o ≡ true
        → option_map_or (λ row. list_any (reads_at (in_force P T) row) locations) o false ≡ list_any (stands (leader n)) locations
    of_row None is on = absurd cc
    of_row (Some row) is on = any_same (reads_at (in_force P T) row) (stands (leader n)) (λ location. exact n row location is on) locations

-- ---- what covers

pub in_without : (n m : ℕ) (work : Work) → m ≢ n → work m ≡ true → without n work m ≡ true
in_without n m work other h = and_from (not (nat_eq m n)) (work m) (not_from_false (nat_eq m n) (ne_eqb m n other)) h

-- where work covers, so do the firsts that are in it
pub firsts-from : (P : PlainPolicy) (T : Trace) (first : ℕ → ℕ) (work next : Work) → Covers P T work → IsLed P T first
    → ((n : ℕ) → is_accessing (session T n) ≡ true → work (first n) ≡ true → next (first n) ≡ true) → FirstsCover P T first next
firsts-from P T first work next h led firsts n label e =
    firsts n (fails_on P T n label e) (h (first n) label (first_fails P T first n label led e))

-- a first that doesn't fail may be left out
pub firsts-holds : (P : PlainPolicy) (T : Trace) (first : ℕ → ℕ) (work : Work) (n : ℕ) → IsLed P T first → FirstsCover P T first work → fails_at P T n ≡ None
    → FirstsCover P T first (without n work)
firsts-holds P T first work n led h none k label e =
    let fails : fails_at P T (first k) ≡ Some label = first_fails P T first k label led e in
    let other : first k ≢ n = λ same. (let there : fails_at P T n ≡ Some label = subst (λ (m : ℕ). fails_at P T m ≡ Some label) same fails in cc) in
    in_without n (first k) work other (h k label e)

-- after a revocation the next work covers
pub firsts-fails : (P : PlainPolicy) (T : Trace) (f : ℕ × Bytes) (first : ℕ → ℕ) (work : Work) (new_first : ℕ → ℕ) (next : Work)
    → FirstsCover P T first work → IsNextWork P T f first work new_first next → FirstsCover P (extended T (revocation P T f)) new_first next
firsts-fails P T f first work new_first next h goes k label e =
    by_test (fails_on P (extended T (revocation P T f)) k label e) (cases_Bool (concerned P T (revocation P T f) k)) (cases_eq (first k) f.0)
  where
    by_test : is_accessing (session (extended T (revocation P T f)) k) ≡ true
        → (concerned P T (revocation P T f) k ≡ true) ⊎ (concerned P T (revocation P T f) k ≡ false) → (first k ≡ f.0) ⊎ (first k ≡ f.0 → ⊥)
        → next (new_first k) ≡ true
    by_test on (inl is) who = goes.readers k on (sym (concerned-revocation P T f k) ∙ is)
    by_test on (inr not_one) (inl revoked) = goes.listed k on revoked
    by_test on (inr not_one) (inr other) =
        let both = or_parts (list_any (permits k) (revocation P T f)) (reached P T (revocation P T f) k) not_one in
        let there : work (first k) ≡ true = h k label (failed_before P T (revocation P T f) k label both.0 both.1 e) in
        ap next (goes.same k on other) ∙ goes.kept (first k) other there

-- ---- the least that fails

-- where the first of its list isn't in the work, a session doesn't fail
outside : (P : PlainPolicy) (T : Trace) (first : ℕ → ℕ) (work : Work) (n : ℕ) → IsLed P T first → FirstsCover P T first work
    → ((m : ℕ) → m ≤ n → work m ≡ false) → (o : Option Bytes) → fails_at P T n ≡ o → o ≡ None
outside P T first work n led h out None is = refl
outside P T first work n led h out (Some label) is =
    let there : work (first n) ≡ true = h n label is in
    let not_there : work (first n) ≡ false = out (first n) (led.low n (fails_on P T n label is)) in
    absurd cc

-- the least of the work, if it fails, is the least that fails
pub firsts-least : (P : PlainPolicy) (T : Trace) (first : ℕ → ℕ) (work : Work) (f : ℕ × Bytes) → IsNumbered T → IsLed P T first → FirstsCover P T first work
    → IsLeastOf work f.0 → fails_at P T f.0 ≡ Some f.1 → least_failing P T ≡ Some f
firsts-least P T first work f numbered led h least e =
    let one = numbered_one T f.0 numbered (accessing_row (session T f.0) (fails_on P T f.0 f.1 e)) in
    least_found P T 1 (sessions T) f one.0 (omega (arith, one.1)) e
    (λ m lt. outside P T first work m led h (λ k le. least.lower k (omega (arith, lt, le))) (fails_at P T m) refl)

-- where there is no work, nobody fails
pub firsts-empty : (P : PlainPolicy) (T : Trace) (first : ℕ → ℕ) (work : Work) → IsLed P T first → FirstsCover P T first work → IsEmpty work
    → least_failing P T ≡ None
firsts-empty P T first work led h empty =
    none_found P T 1 (sessions T) (λ n. outside P T first work n led h (λ m le. empty m) (fails_at P T n) refl)

-- ---- the loop

pub underway-begins : (P : PlainPolicy) (T : Trace) (first : ℕ → ℕ) (work : Work) → IsNumbered T → IsLed P T first → FirstsCover P T first work
    → IsUnderway P T [] T first work
underway-begins P T first work numbered led h = record { led_to = refl; left = refl; numbered = numbered; led = led; covers = h }

pub underway-holds : (P : PlainPolicy) (T : Trace) (made : List Action) (U : Trace) (first : ℕ → ℕ) (work : Work) (n : ℕ) → IsUnderway P T made U first work
    → fails_at P U n ≡ None → IsUnderway P T made U first (without n work)
underway-holds P T made U first work n h none =
    record { led_to = h.led_to; left = h.left; numbered = h.numbered; led = h.led; covers = firsts-holds P U first work n h.led h.covers none }

pub underway-fails : (P : PlainPolicy) (T : Trace) (made : List Action) (U : Trace) (first : ℕ → ℕ) (work : Work) (f : ℕ × Bytes) (new_first : ℕ → ℕ) (next : Work)
    → IsUnderway P T made U first work → IsLeastOf work f.0 → fails_at P U f.0 ≡ Some f.1 → IsNextWork P U f first work new_first next
    → IsUnderway P T (made ++ revocation P U f) (extended U (revocation P U f)) new_first next
underway-fails P T made U first work f new_first next h least e goes =
    let turn : settle P U ≡ revocation P U f ++ settle P (extended U (revocation P U f)) =
    settle-turn P U f (firsts-least P U first work f h.numbered h.led h.covers least e) in
    record {
      led_to = extended-append T made (revocation P U f) ∙ ap (λ (V : Trace). extended V (revocation P U f)) h.led_to;
      left = h.left ∙ ap (λ (xs : List Action). made ++ xs) turn ∙ sym (append_assoc made (revocation P U f) (settle P (extended U (revocation P U f))));
      numbered = numbered-revocation P U f h.numbered;
      led = goes.led;
      covers = firsts-fails P U f first work new_first next h.covers goes;
    }

pub underway-ends : (P : PlainPolicy) (T : Trace) (made : List Action) (U : Trace) (first : ℕ → ℕ) (work : Work) → IsUnderway P T made U first work → IsEmpty work
    → settle P T ≡ made
underway-ends P T made U first work h empty =
    h.left ∙ ap (λ (xs : List Action). made ++ xs) (settle-over P U (firsts-empty P U first work h.led h.covers empty)) ∙ append-nil made
