-- A deadline that the tick has passed gives way to the first limit of what still holds.
use Rattle.std.proofs.Common.{◌≡◌, ◌∙◌, ◌⊎◌, ◌↔◌, ◌<◌, inl, inr, ℕ, ℤ, List, ◌∷◌, length, ap, arith}
use Rattle.std.specs.Prelude.{Option, None, is_some}
use Rattle.std.specs.List.{Contains}
use Rattle.std.proofs.lemmas.Bool.Decides.{eqb_tells}
use Rattle.ucon_model.specs.Action.{Trace, tick}
use Rattle.ucon_model.specs.Plain.{PlainPolicy}
use Rattle.ucon_model.specs.Reach.{timed_of}
use Rattle.ucon_model.specs.Readings.{in_force, session}
use Rattle.ucon_model.specs.Truth.{readings}
use Rattle.ucon_model.specs.Usages.{going_on}
use Rattle.ucon_state.specs.Following.{Follows}
use Rattle.ucon_state.specs.Shown.{Shown}
use Rattle.ucon_readers.specs.Limits.{IsFirstLimit}
use Rattle.ucon_collections.specs.Deadlines.{Gives, IsPassed, deadline_of}
use Rattle.ucon_cascade.specs.Passing.{IsPassing}
use Rattle.ucon_cascade.specs.Timely.{AreTimed, GivesFirst, IsDeadlineOf}
use Rattle.ucon_cascade.proofs.Alike.{AreOne, KeepsAll}
use Rattle.ucon_cascade.proofs.Giving.{ahead_given, as_before, first_after, given_or_before, gives_then, held_given, theirs_given}
use Rattle.ucon_cascade.proofs.Putting.{usage_below}
use Rattle.ucon_cascade.proofs.Ticking.{accessing_row, passes_one}

-- all stays timed
timed_given : (ds es : List (Option ℤ)) (P : PlainPolicy) (U : Trace) (n : ℕ) (d : ℤ) (first : Option ℤ) → Gives ds es n first → (is : IsDeadlineOf P U n d)
    → IsFirstLimit (readings P U) is.row (timed_of (in_force P U) is.row) first → AreTimed ds P U → AreTimed es P U
timed_given ds es P U n d first gives is limit timed = record {
  held = λ m row part last on of_right told ahead. elim (eqb_tells m n) [
    | inl here ↦ held_given ds es P U n is.row first limit gives is.is m row part last here.1 on of_right told ahead
    | inr apart ↦ (
        let was = timed.held m row part last on of_right told ahead in
        record { deadline = was.deadline; there = as_before ds es n first gives m apart.1 ∙ was.there; up_to = was.up_to })
  ];
  theirs = λ m e has. elim (given_or_before ds es n first gives m e has) [
    | inl here ↦ theirs_given ds es P U n is.row first limit gives is.is m e here.0 here.1
    | inr was ↦ timed.theirs m e was.1
  ];
}

-- so a tick goes on to pass deadlines
pub passes_on : KeepsAll → AreOne → (s : Shown) (ds mid es : List (Option ℤ)) (old new : List ℕ) (n : ℕ) (P : PlainPolicy) (T : Trace) (t : ℤ) → Follows s P (tick t ∷ T)
    → IsPassed t (deadline_of ds n) → Gives ds mid n None → GivesFirst s mid es n → ((m : ℕ) → Contains new m ↔ ((m ≡ n) ⊎ Contains old m))
    → IsPassing ds old P T t → IsPassing es new P T t
passes_on keeps one s ds mid es old new n P T t h due taken gives gains passing =
    passes_one ds es P T t old new n due.deadline passing due.is due.below (timed_given ds es P U n due.deadline gives.first both is limit passing.timed)
    (λ m e has. elim (given_or_before ds es n gives.first both m e has) [
      | inl here ↦ inr (ahead_given ds es P U n is.row gives.first limit both is.is e here.1)
      | inr was ↦ inl was.1
    ])
    (as_before ds es n gives.first both) gains
  where
    U : Trace
    U = tick t ∷ T

    both : Gives ds es n gives.first
    both = gives_then ds mid es n gives.first taken gives.gives

    is : IsDeadlineOf P U n due.deadline
    is = passing.timed.theirs n due.deadline due.is

    limit : IsFirstLimit (readings P U) is.row (timed_of (in_force P U) is.row) gives.first
    limit = first_after keeps one s P U h n is.row (accessing_row (session U n) is.row is.is).0 gives.first gives.is

-- whose deadline is there is one of the sessions
pub passed_below : (s : Shown) (ds : List (Option ℤ)) (members : List ℕ) (P : PlainPolicy) (T : Trace) (t : ℤ) (n : ℕ) (limit : ℕ) → Follows s P (tick t ∷ T)
    → IsPassing ds members P T t → IsPassed t (deadline_of ds n) → length s.tables.sessions < limit → n < limit
passed_below s ds members P T t n limit h passing due few =
    let is = passing.timed.theirs n due.deadline due.is in
    let below = usage_below s n (ap is_some (ap going_on (h.tables.sessions.rows n) ∙ is.is)) in
    omega (arith, below, few)
