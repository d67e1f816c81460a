-- The deadlines stay timely where usages begin and end.
use Rattle.std.proofs.Common.{◌≡◌, ◌≢◌, ◌∙◌, inl, inr, ℕ, ℤ, Bool, true, false, List, [], ◌∷◌, refl, sym, ap, subst, arith}
use Rattle.std.specs.Prelude.{◌≤ℤ◌, int_le, Option, Some, None, cond}
use Rattle.std.specs.List.{Contains}
use Rattle.std.specs.Option.{option_map_or}
use Rattle.std.proofs.lemmas.Bool.Decides.{eqb_tells}
use Rattle.std.proofs.lemmas.Int.{ints}
use Rattle.ucon_model.specs.declared.policy.When.{When}
use Rattle.ucon_model.specs.declared.policy.When.TheVariants.{AfterRevoke}
use Rattle.ucon_model.specs.declared.session.SessionRow.{SessionRow}
use Rattle.ucon_model.specs.declared.formula.Obligation.{Obligation}
use Rattle.ucon_model.specs.Action.{Trace, act, extended, revoke}
use Rattle.ucon_model.specs.Deadlines.{deadlines, form_deadlines, form_limit, limit_of, moments}
use Rattle.ucon_model.specs.Plain.{Bytes, PlainPolicy, PlainUpdate}
use Rattle.ucon_model.specs.Reach.{Timed, lasting, owed, timed_of, timed_truth}
use Rattle.ucon_model.specs.Sound.{IsTimely}
use Rattle.ucon_model.specs.Work.{NobodyFails}
use Rattle.ucon_model.specs.Readings.{in_force, moment, session, tick_of}
use Rattle.ucon_model.specs.Settle.{fails_at, revocation}
use Rattle.ucon_model.specs.Truth.{readings}
use Rattle.ucon_model.specs.Updates.{same_when, session_writes, updates_of, write_of, writes}
use Rattle.ucon_model.specs.Usages.{going_on}
use Rattle.ucon_readers.specs.Limits.{IsFirstLimit}
use Rattle.ucon_collections.specs.Deadlines.{AreAlike, Gives, deadline_of}
use Rattle.ucon_cascade.specs.Timely.{AreTimed, AreTimely, HasDeadline, HasDeadlineUpTo, IsDeadlineOf}
use Rattle.ucon_cascade.proofs.Giving.{ahead_given, as_before, given_or_before, held_given, theirs_given}
use Rattle.ucon_cascade.proofs.Lasting.{acts_make_limits_later, deadlines_stay, holds_to_limit}

-- ---- no time passes, and no act is done

-- the policy in force, the tick and the acts of one trace are those of another
pub record SameTime (P : PlainPolicy) (T U : Trace) : Type 0 where
  pub policy : in_force P U ≡ in_force P T
  pub tick : tick_of U ≡ tick_of T
  pub last : (s a o : Bytes) → moment s a o U ≡ moment s a o T
  pub all : (s a o : Bytes) → moments s a o U ≡ moments s a o T

pub no_time : (P : PlainPolicy) (T : Trace) → SameTime P T T
no_time P T = record { policy = refl; tick = refl; last = λ s a o. refl; all = λ s a o. refl }

pub time_on : (P : PlainPolicy) (T U V : Trace) → SameTime P T U → SameTime P U V → SameTime P T V
time_on P T U V first then = record {
  policy = then.policy ∙ first.policy;
  tick = then.tick ∙ first.tick;
  last = λ s a o. then.last s a o ∙ first.last s a o;
  all = λ s a o. then.all s a o ∙ first.all s a o;
}

one_write : (P : PlainPolicy) (row : SessionRow) (when : When) (u : PlainUpdate) (us : List PlainUpdate) (T : Trace) (b : Bool)
    → ((V : Trace) → SameTime P V (extended V (writes P row when us V)))
    → SameTime P T (extended T (cond b (write_of P row u T ∷ writes P row when us (write_of P row u T ∷ T)) (writes P row when us T)))
one_write P row when u us T true rest =
    let W : Trace = write_of P row u T ∷ T in
    time_on P T W _ (record { policy = refl; tick = refl; last = λ s a o. refl; all = λ s a o. refl }) (rest W)
one_write P row when u us T false rest = rest T

pub writes_take_no_time : (P : PlainPolicy) (row : SessionRow) (when : When) (us : List PlainUpdate) (T : Trace) → SameTime P T (extended T (writes P row when us T))
writes_take_no_time P row when [] T = no_time P T
writes_take_no_time P row when (u ∷ us) T = one_write P row when u us T (same_when when u.when) (λ V. writes_take_no_time P row when us V)

pub updates_take_no_time : (P : PlainPolicy) (n : ℕ) (when : When) (T : Trace) → SameTime P T (extended T (session_writes P n when T))
updates_take_no_time P n when T = by (session T n)
  where
    by : (o : Option SessionRow) → SameTime P T (extended T (option_map_or (λ row. writes P row when (updates_of (in_force P T) row) T) o []))
    by None = no_time P T
    by (Some row) = writes_take_no_time P row when (updates_of (in_force P T) row) T

pub revocations_take_no_time : (P : PlainPolicy) (T : Trace) (f : ℕ × Bytes) → SameTime P T (extended T (revocation P T f))
revocations_take_no_time P T f =
    let V : Trace = revoke f.0 f.1 ∷ T in
    time_on P T V _ (record { policy = refl; tick = refl; last = λ s a o. refl; all = λ s a o. refl }) (updates_take_no_time P f.0 AfterRevoke V)

pub limit_same : (P : PlainPolicy) (T U : Trace) → SameTime P T U → (row : SessionRow) (part : Timed) → limit_of (readings P U) row part ≡ limit_of (readings P T) row part
limit_same P T U time row (lasting n) = refl
limit_same P T U time row (owed o) = ap (form_limit row.start o.form) (time.last _ _ _)

pub deadlines_same : (P : PlainPolicy) (T U : Trace) → SameTime P T U → (row : SessionRow) (part : Timed) → deadlines U row part ≡ deadlines T row part
deadlines_same P T U time row (lasting n) = refl
deadlines_same P T U time row (owed o) = ap (form_deadlines row.start o.form) (time.all _ _ _)

-- ---- one session as before

module _ (ds es : List (Option ℤ)) (P : PlainPolicy) (T U : Trace) (time : SameTime P T U) where
  held_still : (m : ℕ) (row : SessionRow) (part : Timed) (limit : ℤ) → going_on (session U m) ≡ going_on (session T m)
      → deadline_of es m ≡ deadline_of ds m → AreTimed ds P T → going_on (session U m) ≡ Some row → Contains (timed_of (in_force P U) row) part
      → limit_of (readings P U) row part ≡ Some limit → tick_of U ≤ℤ limit → HasDeadlineUpTo es m limit
  held_still m row part limit same kept timed on of_right is ahead =
      let was = timed.held m row part limit (sym same ∙ on) (subst (λ (Q : PlainPolicy). Contains (timed_of Q row) part) time.policy of_right)
      (sym (limit_same P T U time row part) ∙ is) (subst (λ (t : ℤ). t ≤ℤ limit) time.tick ahead) in
      record { deadline = was.deadline; there = kept ∙ was.there; up_to = was.up_to }

  theirs_still : (m : ℕ) (d : ℤ) → going_on (session U m) ≡ going_on (session T m) → IsDeadlineOf P T m d → IsDeadlineOf P U m d
  theirs_still m d same is = record {
    row = is.row;
    part = is.part;
    is = same ∙ is.is;
    of_right = subst (λ (Q : PlainPolicy). Contains (timed_of Q is.row) is.part) (sym time.policy) is.of_right;
    among = subst (λ (all : List ℤ). Contains all d) (sym (deadlines_same P T U time is.row is.part)) is.among;
  }

  ahead_still : (m : ℕ) (d : ℤ) → AreTimely ds P T → HasDeadline ds m d → tick_of U ≤ℤ d
  ahead_still m d timely has = subst (λ (t : ℤ). t ≤ℤ d) (sym time.tick) (timely.ahead m d has)

  -- where each usage goes on as before
  pub timely_still : ((m : ℕ) → going_on (session U m) ≡ going_on (session T m)) → AreAlike ds es → AreTimely ds P T → AreTimely es P U
  timely_still same alike timely = record {
    timed = record {
      held = λ m row part limit on of_right told ahead. held_still m row part limit (same m) (alike m) timely.timed on of_right told ahead;
      theirs = λ m d has. theirs_still m d (same m) (timely.timed.theirs m d (sym (alike m) ∙ has));
    };
    ahead = λ m d has. ahead_still m d timely (sym (alike m) ∙ has);
  }

  -- where session n's is over, which loses its deadline
  pub timely_without : (n : ℕ) → Gives ds es n None → going_on (session U n) ≡ None → ((m : ℕ) → m ≢ n → going_on (session U m) ≡ going_on (session T m)) → AreTimely ds P T
      → AreTimely es P U
  timely_without n gives over same timely = record {
    timed = record {
      held = λ m row part limit on of_right told ahead.
          let other : m ≢ n = λ here. (let no : None ≡ Some row = sym over ∙ ap (λ (k : ℕ). going_on (session U k)) (sym here) ∙ on in cc) in
          held_still m row part limit (same m other) (as_before ds es n None gives m other) timely.timed on of_right told ahead;
      theirs = λ m d has. (let was = before m d has in theirs_still m d (same m was.0) (timely.timed.theirs m d was.1));
    };
    ahead = λ m d has. ahead_still m d timely (before m d has).1;
  }
    where
      before : (m : ℕ) (d : ℤ) → HasDeadline es m d → (m ≢ n) × HasDeadline ds m d
      before m d has = elim (given_or_before ds es n None gives m d has) [ inl here ↦ absurd (let no : None ≡ Some d = here.1 in cc) | inr was ↦ was ]

  -- where session n's begins, which gets the first limit of what holds
  pub timely_with : (n : ℕ) (row : SessionRow) (first : Option ℤ) → IsFirstLimit (readings P U) row (timed_of (in_force P U) row) first → Gives ds es n first
      → going_on (session U n) ≡ Some row → ((m : ℕ) → m ≢ n → going_on (session U m) ≡ going_on (session T m)) → AreTimely ds P T → AreTimely es P U
  timely_with n row first is gives begun same timely = record {
    timed = record {
      held = λ m other part limit on of_right told ahead. elim (eqb_tells m n) [
        | inl here ↦ held_given ds es P U n row first is gives begun m other part limit here.1 on of_right told ahead
        | inr apart ↦ held_still m other part limit (same m apart.1) (as_before ds es n first gives m apart.1) timely.timed on of_right told ahead
      ];
      theirs = λ m d has. elim (given_or_before ds es n first gives m d has) [
        | inl here ↦ theirs_given ds es P U n row first is gives begun m d here.0 here.1
        | inr was ↦ theirs_still m d (same m was.0) (timely.timed.theirs m d was.1)
      ];
    };
    ahead = λ m d has. elim (given_or_before ds es n first gives m d has) [
      | inl here ↦ ahead_given ds es P U n row first is gives begun d here.1
      | inr was ↦ ahead_still m d timely was.1
    ];
  }

-- ---- an act

-- a session that doesn't fail has met what it owes
abbrev pub ObligationsAreMet : Type 0
ObligationsAreMet = (P : PlainPolicy) (T : Trace) (n : ℕ) (row : SessionRow) (o : Obligation) → fails_at P T n ≡ None → going_on (session T n) ≡ Some row
    → Contains (timed_of (in_force P T) row) (owed o) → timed_truth (readings P T) row (owed o) ≡ true

at_most : (a b : ℤ) → int_le a b ≡ true → a ≤ℤ b
at_most a b h = grind (arith, ints)

both_at_most : (a b c : ℤ) → a ≤ℤ b → b ≤ℤ c → a ≤ℤ c
both_at_most a b c le more = omega (arith, ints, le, more)

-- an act gives no deadline: what it makes hold longer held before
pub timely_act : ObligationsAreMet → (ds : List (Option ℤ)) (P : PlainPolicy) (T : Trace) (s a o : Bytes) → IsTimely T → NobodyFails P T → AreTimely ds P T
    → AreTimely ds P (act s a o ∷ T)
timely_act met ds P T s a o in_order nobody timely = record {
  timed = record {
    held = held;
    theirs = λ m d has. (let is = timely.timed.theirs m d has in record {
      row = is.row;
      part = is.part;
      is = is.is;
      of_right = is.of_right;
      among = deadlines_stay T (act s a o) is.row is.part d is.among;
    });
  };
  ahead = timely.ahead;
}
  where
    held : (m : ℕ) (row : SessionRow) (part : Timed) (limit : ℤ) → going_on (session T m) ≡ Some row → Contains (timed_of (in_force P T) row) part
        → limit_of (readings P (act s a o ∷ T)) row part ≡ Some limit → tick_of T ≤ℤ limit → HasDeadlineUpTo ds m limit
    held m row (lasting n) limit on of_right told ahead = timely.timed.held m row (lasting n) limit on of_right told ahead
    held m row (owed w) limit on of_right told ahead =
        let holds : timed_truth (readings P T) row (owed w) ≡ true = met P T m row w (nobody m) on of_right in
        let before = acts_make_limits_later P T s a o row (owed w) limit in_order holds told in
        let now : int_le (tick_of T) before.0 ≡ true = sym (holds_to_limit (readings P T) row (owed w) before.0 before.1) ∙ holds in
        let was = timely.timed.held m row (owed w) before.0 on of_right before.1 (at_most (tick_of T) before.0 now) in
        record { deadline = was.deadline; there = was.there; up_to = both_at_most was.deadline before.0 limit was.up_to before.2 }
