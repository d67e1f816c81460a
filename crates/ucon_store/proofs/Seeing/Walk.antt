-- The walk of what is found up to the last checkpoint, and behind it.
use Rattle.std.proofs.Common.{◌≡◌, ◌∙◌, ℕ, ◌+◌, Bool, true, false, cond, List, [], ◌∷◌, ◌++◌, length, Option, Some, None, refl, sym, ap, subst, arith}
use Rattle.std.specs.Prelude.{nat_lt, option_and_then, option_map, unwrap_or}
use Rattle.std.specs.Option.{option_or}
use Rattle.std.specs.Result.{result_ok}
use Rattle.std.specs.Str.{bytes_eq}
use Rattle.ucon_model.specs.Found.{Finding, Takes, damaged, holds, next_gate, gate_behind, found_behind, taken, with_step}
use Rattle.ucon_model.specs.History.{History, trace}
use Rattle.ucon_model.specs.Payload.{most_payload, payload_read}
use Rattle.ucon_model.specs.Plain.{Bytes, PlainPolicy}
use Rattle.ucon_syntax.specs.Policies.{accepted}
use Rattle.ucon_store.specs.Opened.{Parted, first_long, parted, parted_here, preceded_by, steps_after, steps_among}
use Rattle.ucon_store.specs.Points.{checkpoint, is_point, point_taken, steps_and_points, takes_with}
use Rattle.ucon_store.proofs.Places.{point_stays, step_longer}
use Rattle.ucon_store.proofs.Seeing.Histories.{IsGood, PayloadLaws, more_good, nothing, same_some, step_same}

-- ---- one record

-- what a payload that is taken leaves to be found
pub record GoesOn (takes : Takes) (text : Bytes) (P : PlainPolicy) (H : History) (number gate : ℕ) (payload : Bytes) (payloads : List Bytes) (found : Finding) : Type 0 where
  pub later : History
  pub takes_it : takes text P H payload ≡ Some later
  pub behind : found_behind takes text P later (number + 1) (next_gate gate payload) payloads ≡ found

pub goes_on : (takes : Takes) (text : Bytes) (P : PlainPolicy) (H : History) (number gate : ℕ) (payload : Bytes) (payloads : List Bytes) (t : Bytes) (Q : PlainPolicy) (F : History) (end : ℕ)
    → found_behind takes text P H number gate (payload ∷ payloads) ≡ holds t Q F end → GoesOn takes text P H number gate payload payloads (holds t Q F end)
goes_on takes text P H number gate payload payloads t Q F end h = by (takes text P H payload) refl h
  where
    by : (o : Option History) → takes text P H payload ≡ o
        → unwrap_or (option_map (λ later. found_behind takes text P later (number + 1) (next_gate gate payload) payloads) o) (damaged number gate) ≡ holds t Q F end
        → GoesOn takes text P H number gate payload payloads (holds t Q F end)
    by None is k = absurd (cc k)
    by (Some later) is k = record { later = later; takes_it = is; behind = k }

-- it is found under its own text and policy
pub same_told : (takes : Takes) (text : Bytes) (P : PlainPolicy) (payloads : List Bytes) (H : History) (number gate : ℕ) (t : Bytes) (Q : PlainPolicy) (F : History) (end : ℕ)
    → found_behind takes text P H number gate payloads ≡ holds t Q F end → (text ≡ t) × (P ≡ Q)
same_told takes text P [] H number gate t Q F end h =
    let e : holds text P H gate ≡ holds t Q F end = h in
    let texts : text ≡ t = cc e in
    let policies : P ≡ Q = cc e in
    (texts, policies)
same_told takes text P (payload ∷ payloads) H number gate t Q F end h =
    let on = goes_on takes text P H number gate payload payloads t Q F end h in
    same_told takes text P payloads on.later (number + 1) (next_gate gate payload) t Q F end on.behind

-- ---- no record is too long

abbrev pub IsShort : Bytes → Type 0
IsShort payload = nat_lt most_payload (length payload) ≡ false

short_if : {A : Type 0} (b : Bool) (o : Option A) (x : A) → cond b None o ≡ Some x → b ≡ false
short_if true o x h = absurd (nothing h)
short_if false o x h = refl

taken_short : (P : PlainPolicy) (H later : History) (payload : Bytes) → taken accepted P H payload ≡ Some later → IsShort payload
unfolding taken
taken_short P H later payload h = short_if (nat_lt most_payload (length payload)) (option_and_then (with_step P H) (result_ok (payload_read accepted payload))) later h

point_short : (text : Bytes) (P : PlainPolicy) (H later : History) (payload : Bytes) → point_taken text P H payload ≡ Some later → IsShort payload
unfolding point_taken
point_short text P H later payload h = short_if (nat_lt most_payload (length payload)) (cond (bytes_eq payload (checkpoint text P H)) (Some H) None) later h

either_short : (text : Bytes) (P : PlainPolicy) (H later : History) (payload : Bytes) (b : Bool) → cond b (point_taken text P H payload) (taken accepted P H payload) ≡ Some later → IsShort payload
either_short text P H later payload true h = point_short text P H later payload h
either_short text P H later payload false h = taken_short P H later payload h

pub takes_short : (points : Bool) (text : Bytes) (P : PlainPolicy) (H later : History) (payload : Bytes) → takes_with points text P H payload ≡ Some later → IsShort payload
takes_short true text P H later payload h = either_short text P H later payload (is_point payload) h
takes_short false text P H later payload h = taken_short P H later payload h

pub none_long : (points : Bool) (text : Bytes) (P : PlainPolicy) (payloads : List Bytes) (H : History) (number gate : ℕ) (t : Bytes) (Q : PlainPolicy) (F : History) (end m k : ℕ)
    → found_behind (takes_with points) text P H number gate payloads ≡ holds t Q F end → first_long m k payloads ≡ None
none_long points text P [] H number gate t Q F end m k h = refl
none_long points text P (payload ∷ payloads) H number gate t Q F end m k h =
    let on = goes_on (takes_with points) text P H number gate payload payloads t Q F end h in
    ap (λ (b : Bool). cond b (Some (m, k)) (first_long (m + 1) (next_gate k payload) payloads)) (takes_short points text P H on.later payload on.takes_it)
    ∙ none_long points text P payloads on.later (number + 1) (next_gate gate payload) t Q F end (m + 1) (next_gate k payload) on.behind

-- ---- up to the last checkpoint

-- so it is found at the last checkpoint
pub record AtPoint (text : Bytes) (P : PlainPolicy) (F : History) (end : ℕ) (H : History) (number gate : ℕ) (p : Parted) : Type 0 where
  pub before : History
  pub good : IsGood text P before
  pub point : p.point ≡ checkpoint text P before
  pub count : length before ≡ length H + steps_among p.before
  pub behind : found_behind (steps_and_points accepted) text P before (number + length p.before + 1) (next_gate (gate_behind gate p.before) p.point) p.behind ≡ holds text P F end
  pub none : parted p.behind ≡ None

module _ (laws : PayloadLaws) (text : Bytes) (P : PlainPolicy) (F : History) (end : ℕ) where
  kept_or_grown : (H later : History) (payload : Bytes) (b : Bool) → IsGood text P H → cond b (point_taken text P H payload) (taken accepted P H payload) ≡ Some later
      → IsGood text P later × ((s : ℕ) → length later + s ≡ length H + cond b s (s + 1))
  kept_or_grown H later payload true good h =
      let same = (point_stays text P H later payload h).0 in
      (subst (IsGood text P) (sym same) good, λ s. omega (arith, ap (λ (l : History). length l) same))
  kept_or_grown H later payload false good h = (more_good laws text P H later payload good h, λ s. omega (arith, step_longer P H later payload h))

  pub at_point : (payloads : List Bytes) (H : History) (number gate : ℕ) → IsGood text P H → found_behind (steps_and_points accepted) text P H number gate payloads ≡ holds text P F end
      → (p : Parted) → parted payloads ≡ Some p → AtPoint text P F end H number gate p
  at_point [] H number gate good h p is = absurd (nothing is)
  at_point (payload ∷ payloads) H number gate good h p is =
      let on = goes_on (steps_and_points accepted) text P H number gate payload payloads text P F end h in
      by on (parted payloads) refl is (λ good_later q at. at_point payloads on.later (number + 1) (next_gate gate payload) good_later on.behind q at)
    where
      further : (on : GoesOn (steps_and_points accepted) text P H number gate payload payloads (holds text P F end)) (q : Parted)
          → ((s : ℕ) → length on.later + s ≡ length H + cond (is_point payload) s (s + 1))
          → AtPoint text P F end on.later (number + 1) (next_gate gate payload) q → AtPoint text P F end H number gate (preceded_by payload q)
      further on q longer at = record {
        before = at.before;
        good = at.good;
        point = at.point;
        count = at.count ∙ longer (steps_among q.before);
        behind =
            let number_is : number + 1 + length q.before + 1 ≡ number + length (payload ∷ q.before) + 1 = omega arith in
            subst (λ (n : ℕ). found_behind (steps_and_points accepted) text P at.before n (next_gate (gate_behind (next_gate gate payload) q.before) q.point) q.behind ≡ holds text P F end) number_is at.behind;
        none = at.none;
      }

      here : (on : GoesOn (steps_and_points accepted) text P H number gate payload payloads (holds text P F end)) (b : Bool) → is_point payload ≡ b → parted payloads ≡ None
          → cond b (Some (record { before = []; point = payload; behind = payloads })) None ≡ Some p → AtPoint text P F end H number gate p
      here on false isnt none k = absurd (nothing k)
      here on true point none k =
          let taken_so : point_taken text P H payload ≡ Some on.later =
          ap (λ (b : Bool). cond b (point_taken text P H payload) (taken accepted P H payload)) (sym point) ∙ on.takes_it in
          let stays = point_stays text P H on.later payload taken_so in
          let number_is : number + 1 ≡ number + 0 + 1 = omega arith in
          let count_is : length H ≡ length H + 0 = omega arith in
          let behind_later : found_behind (steps_and_points accepted) text P H (number + 1) (next_gate gate payload) payloads ≡ holds text P F end =
          ap (λ (l : History). found_behind (steps_and_points accepted) text P l (number + 1) (next_gate gate payload) payloads) (sym stays.0) ∙ on.behind in
          subst (AtPoint text P F end H number gate) (same_some (record { before = []; point = payload; behind = payloads }) p k) (record {
            before = H;
            good = good;
            point = stays.1;
            count = count_is;
            behind = subst (λ (n : ℕ). found_behind (steps_and_points accepted) text P H n (next_gate gate payload) payloads ≡ holds text P F end) number_is behind_later;
            none = none;
          })

      by : (on : GoesOn (steps_and_points accepted) text P H number gate payload payloads (holds text P F end)) (o : Option Parted) → parted payloads ≡ o
          → option_or (option_map (preceded_by payload) o) (parted_here payload payloads) ≡ Some p
          → (IsGood text P on.later → (q : Parted) → parted payloads ≡ Some q → AtPoint text P F end on.later (number + 1) (next_gate gate payload) q)
          → AtPoint text P F end H number gate p
      by on None none k rest = here on (is_point payload) refl none k
      by on (Some q) at k rest =
          let both = kept_or_grown H on.later payload (is_point payload) good on.takes_it in
          subst (AtPoint text P F end H number gate) (same_some (preceded_by payload q) p k) (further on q both.1 (rest both.0 q at))

-- ---- behind it

-- no payload is a checkpoint
pub none_parts : (payload : Bytes) (payloads : List Bytes) → parted (payload ∷ payloads) ≡ None → (is_point payload ≡ false) × (parted payloads ≡ None)
none_parts payload payloads h = by (parted payloads) refl (is_point payload) refl h
  where
    by : (o : Option Parted) → parted payloads ≡ o → (b : Bool) → is_point payload ≡ b
        → option_or (option_map (preceded_by payload) o) (cond b (Some (record { before = []; point = payload; behind = payloads })) None) ≡ None
        → (is_point payload ≡ false) × (parted payloads ≡ None)
    by None none false isnt k = (isnt, none)
    by None none true is k = absurd (nothing (sym k))
    by (Some q) at b is k = absurd (nothing (sym k))

-- what is found behind a part of the entries, after the trace of that part
pub record Behind (text : Bytes) (P : PlainPolicy) (G F H : History) (number gate end : ℕ) (payloads : List Bytes) : Type 0 where
  pub more : History
  pub found : found_behind (steps_after (trace P G)) text P H number gate payloads ≡ holds text P more end
  pub all : F ≡ G ++ more

mapped_some : (G later : History) (o : Option History) → option_map (λ (l : History). G ++ l) o ≡ Some later → (l : History) × ((o ≡ Some l) × (later ≡ G ++ l))
mapped_some G later None h = absurd (nothing h)
mapped_some G later (Some l) h = (l, (refl, sym (same_some (G ++ l) later h)))

pub found_after : (text : Bytes) (P : PlainPolicy) (G F : History) (end : ℕ) (payloads : List Bytes) → parted payloads ≡ None → (H : History) (number gate : ℕ)
    → found_behind (steps_and_points accepted) text P (G ++ H) number gate payloads ≡ holds text P F end → Behind text P G F H number gate end payloads
found_after text P G F end [] none H number gate h =
    let e : holds text P (G ++ H) gate ≡ holds text P F end = h in
    let histories : G ++ H ≡ F = cc e in
    let gates : gate ≡ end = cc e in
    record { more = H; found = ap (λ (n : ℕ). holds text P H n) gates; all = sym histories }
found_after text P G F end (payload ∷ payloads) none H number gate h =
    let parts = none_parts payload payloads none in
    let on = goes_on (steps_and_points accepted) text P (G ++ H) number gate payload payloads text P F end h in
    let taken_so : taken accepted P (G ++ H) payload ≡ Some on.later =
    ap (λ (b : Bool). cond b (point_taken text P (G ++ H) payload) (taken accepted P (G ++ H) payload)) (sym parts.0) ∙ on.takes_it in
    let step = mapped_some G on.later (steps_after (trace P G) text P H payload) (sym (step_same text P G H payload) ∙ taken_so) in
    let rest = found_after text P G F end payloads parts.1 step.0 (number + 1) (next_gate gate payload)
    (ap (λ (l : History). found_behind (steps_and_points accepted) text P l (number + 1) (next_gate gate payload) payloads) (sym step.1.1) ∙ on.behind) in
    record {
      more = rest.more;
      found =
          ap (λ (o : Option History). unwrap_or (option_map (λ later. found_behind (steps_after (trace P G)) text P later (number + 1) (next_gate gate payload) payloads) o) (damaged number gate)) step.1.0
          ∙ rest.found;
      all = rest.all;
    }
