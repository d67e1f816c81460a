-- The deadlines are set anew, session by session.
use Rattle.std.proofs.Common.{◌≡◌, ◌∙◌, ◌+◌, ◌<◌, ◌≤◌, inl, inr, ℕ, ℤ, zero, suc, List, sym, ap, arith}
use Rattle.std.specs.Prelude.{Option, Some, None}
use Rattle.std.proofs.lemmas.Bool.{cases_lt}
use Rattle.ucon_model.specs.declared.session.SessionRow.{SessionRow}
use Rattle.ucon_model.specs.Action.{Trace}
use Rattle.ucon_model.specs.Plain.{PlainPolicy}
use Rattle.ucon_model.specs.Reach.{timed_of}
use Rattle.ucon_model.specs.Readings.{in_force, session, sessions}
use Rattle.ucon_model.specs.Sound.{IsNumbered}
use Rattle.ucon_model.specs.Truth.{readings}
use Rattle.ucon_model.specs.Usages.{going_on}
use Rattle.ucon_readers.specs.Limits.{IsFirstLimit}
use Rattle.ucon_collections.specs.Deadlines.{Gives, deadline_of}
use Rattle.ucon_cascade.specs.Timely.{AreTimedBelow, AreTimely}
use Rattle.ucon_cascade.proofs.Anew.{last_or_before}
use Rattle.ucon_cascade.proofs.Giving.{ahead_given, as_before, given_or_before, held_given, theirs_given}

-- ---- at first

pub none_timed : (ds : List (Option ℤ)) (P : PlainPolicy) (T : Trace) → IsNumbered T → ((n : ℕ) → deadline_of ds n ≡ None) → AreTimedBelow 1 ds P T
none_timed ds P T numbered none = record {
  held = λ n row part last below on of_right told ahead. absurd (nobody n row below on);
  theirs = λ n d has. (let no : None ≡ Some d = sym (none n) ∙ has in cc);
}
  where
    nobody : (n : ℕ) (row : SessionRow) → n < 1 → going_on (session T n) ≡ Some row → ⊥
    nobody zero row below on = let no : None ≡ Some row = sym (ap going_on numbered.zeroth) ∙ on in cc
    nobody (suc n) row below on = omega (arith, below)

-- ---- one session more

-- one that is accessing, which gets the first limit of what holds
pub one_more_timed : (ds es : List (Option ℤ)) (P : PlainPolicy) (T : Trace) (n : ℕ) (row : SessionRow) (first : Option ℤ) → AreTimedBelow n ds P T
    → going_on (session T n) ≡ Some row → IsFirstLimit (readings P T) row (timed_of (in_force P T) row) first → Gives ds es n first → AreTimedBelow (n + 1) es P T
one_more_timed ds es P T n row first timed on is gives = record {
  held = λ m other part last below goes of_right told ahead. elim (last_or_before n m below) [
    | inl here ↦ held_given ds es P T n row first is gives on m other part last here goes of_right told ahead
    | inr before ↦ (
        let was = timed.held m other part last before goes of_right told ahead in
        record { deadline = was.deadline; there = as_before ds es n first gives m (λ same. omega (arith, before, same)) ∙ was.there; up_to = was.up_to })
  ];
  theirs = λ m d has. elim (given_or_before ds es n first gives m d has) [
    | inl here ↦ (
        let same : m ≡ n = here.0 in
        (omega (arith, same), theirs_given ds es P T n row first is gives on m d here.0 here.1, ahead_given ds es P T n row first is gives on d here.1))
    | inr was ↦ (
        let before = timed.theirs m d was.1 in
        let below = before.0 in
        (omega (arith, below), before.1, before.2))
  ];
}

-- one that isn't
pub none_more_timed : (ds : List (Option ℤ)) (P : PlainPolicy) (T : Trace) (n : ℕ) → AreTimedBelow n ds P T → going_on (session T n) ≡ None → AreTimedBelow (n + 1) ds P T
none_more_timed ds P T n timed over = record {
  held = λ m other part last below goes of_right told ahead. elim (last_or_before n m below) [
    | inl here ↦ absurd (let no : None ≡ Some other = sym over ∙ sym (ap (λ (k : ℕ). going_on (session T k)) here) ∙ goes in cc)
    | inr before ↦ timed.held m other part last before goes of_right told ahead
  ];
  theirs = λ m d has. (let before = timed.theirs m d has in let below = before.0 in (omega (arith, below), before.1, before.2));
}

-- ---- all of them

going_on_within : (T : Trace) → IsNumbered T → (n : ℕ) (row : SessionRow) → going_on (session T n) ≡ Some row → n ≤ sessions T
going_on_within T numbered n row on = elim (cases_lt (sessions T) n) [
  | inl beyond ↦ absurd (let no : None ≡ Some row = sym (ap going_on (numbered.beyond n beyond)) ∙ on in cc)
  | inr within ↦ within
]

pub all_timed : (ds : List (Option ℤ)) (P : PlainPolicy) (T : Trace) (limit : ℕ) → IsNumbered T → sessions T < limit → AreTimedBelow limit ds P T → AreTimely ds P T
all_timed ds P T limit numbered all timed = record {
  timed = record {
    held = λ n row part last on of_right told ahead.
        let within = going_on_within T numbered n row on in
        timed.held n row part last (omega (arith, within, all)) on of_right told ahead;
    theirs = λ n d has. (timed.theirs n d has).1;
  };
  ahead = λ n d has. (timed.theirs n d has).2;
}
