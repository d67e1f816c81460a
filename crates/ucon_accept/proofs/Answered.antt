-- What follows from what the explainer and the checker answer on a state.
use Rattle.std.proofs.Common.{◌≡◌, ◌∙◌, refl, sym, ap, subst}
use Rattle.std.specs.Prelude.{Result, Ok, Err, IfErr, IsOk, OnOk, None}
use Rattle.std.specs.List.{slice_get}
use Rattle.ucon_state.specs.Following.{AfterEach, IsFollowing}
use Rattle.ucon_model.specs.Action.{Trace}
use Rattle.ucon_model.specs.Plain.{Bytes, PlainPolicy}
use Rattle.ucon_state.specs.Shown.{Shown}
use Rattle.ucon_accept.specs.declared.checker.Wrong.{Wrong}
use Rattle.ucon_accept.specs.declared.checker.Wrong.TheVariants.{Names, Line, Verdict as WrongVerdict}
use Rattle.ucon_accept.specs.Explanation.{PlainExplanation}
use Rattle.ucon_accept.specs.Trying.{IsCauseIn, IsRight, IsWrongAfter, explained_with, explanation, refusal_shown, try_refusal}
use Rattle.ucon_accept.proofs.Meeting.{ActionsAreFollowed, AgreeingAreOne, TablesKeep, refusal_same, try_is_explained}

-- what is explained so is right
pub explained_is_right : TablesKeep → ActionsAreFollowed → AgreeingAreOne → (s : Shown) (u r o : Bytes) → refusal_shown s u r o ≡ None
    → IsRight s (explained_with s u r o)
explained_is_right keep follow one s u r o none = record {
  allowed = λ P T h. sym (refusal_same keep s P T h u r o) ∙ none;
  explained = λ P T h. try_is_explained keep follow one s P T h u r o none;
}

-- a state that follows a trace refuses no try that is explained rightly
pub right_is_allowed : TablesKeep → (s : Shown) → IsFollowing s → (e : PlainExplanation) → IsRight s e → refusal_shown s e.subject e.right e.object ≡ None
right_is_allowed keep s f e right = refusal_same keep s f.policy f.trace f.follows e.subject e.right e.object ∙ right.allowed f.policy f.trace f.follows

-- what is right is explained so
right_is_explained : TablesKeep → ActionsAreFollowed → AgreeingAreOne → (s : Shown) → IsFollowing s → (e : PlainExplanation) → IsRight s e
    → refusal_shown s e.subject e.right e.object ≡ None → e ≡ explained_with s e.subject e.right e.object
right_is_explained keep follow one s f e right none =
    right.explained f.policy f.trace f.follows ∙ sym (try_is_explained keep follow one s f.policy f.trace f.follows e.subject e.right e.object none)

-- what is right has nothing wrong
no_cause : (w : Wrong) (e x : PlainExplanation) → e ≡ x → IsCauseIn w e x → ⊥
no_cause (Names r) e x same cause = cause
no_cause (Line n) e x same cause = cause.here (ap (λ (y : PlainExplanation). slice_get y.whys n) same)
no_cause WrongVerdict e x same cause = cause.1 (ap (λ (y : PlainExplanation). y.verdict) same)

-- ---- the checker

pub accepted_right : TablesKeep → ActionsAreFollowed → AgreeingAreOne → (s : Shown) (e : PlainExplanation) → refusal_shown s e.subject e.right e.object ≡ None
    → (r : Result (Unit {0}) Wrong) → OnOk r (e ≡ explained_with s e.subject e.right e.object) → IsOk r → IsRight s e
accepted_right keep follow one s e none (Ok x) same ok =
    subst (λ (y : PlainExplanation). IsRight s y) (sym same) (explained_is_right keep follow one s e.subject e.right e.object none)
accepted_right keep follow one s e none (Err w) same ok = absurd cc

pub right_accepted : TablesKeep → ActionsAreFollowed → AgreeingAreOne → (s : Shown) → IsFollowing s → (e : PlainExplanation)
    → refusal_shown s e.subject e.right e.object ≡ None → (r : Result (Unit {0}) Wrong)
    → IfErr r (λ w. IsCauseIn w e (explained_with s e.subject e.right e.object)) → IsRight s e → IsOk r
right_accepted keep follow one s f e none (Ok x) cause right = refl
right_accepted keep follow one s f e none (Err w) cause right =
    absurd (no_cause w e (explained_with s e.subject e.right e.object) (right_is_explained keep follow one s f e right none) cause)

wrong_after : (w : Wrong) (e : PlainExplanation) (P : PlainPolicy) (T : Trace) → try_refusal P T e.subject e.right e.object ≡ None
    → IsCauseIn w e (explanation P T e.subject e.right e.object) → IsWrongAfter w e P T
wrong_after (Names r) e P T none cause = absurd cause
wrong_after (Line n) e P T none cause = (none, cause)
wrong_after WrongVerdict e P T none cause = (none, cause)

pub refused_wrong : TablesKeep → ActionsAreFollowed → AgreeingAreOne → (s : Shown) (e : PlainExplanation)
    → refusal_shown s e.subject e.right e.object ≡ None → (r : Result (Unit {0}) Wrong)
    → IfErr r (λ w. IsCauseIn w e (explained_with s e.subject e.right e.object)) → IfErr r (λ w. AfterEach s (λ P T. IsWrongAfter w e P T))
refused_wrong keep follow one s e none (Ok x) cause = cause
refused_wrong keep follow one s e none (Err w) cause = λ P T h.
    wrong_after w e P T (sym (refusal_same keep s P T h e.subject e.right e.object) ∙ none)
    (subst (λ (y : PlainExplanation). IsCauseIn w e y) (try_is_explained keep follow one s P T h e.subject e.right e.object none) cause)

-- ---- the parts of an explanation

-- where the lines and the verdict are right, all is
pub checked_same : (r : Result (Unit {0}) Wrong) (e x : PlainExplanation) → e.subject ≡ x.subject → e.right ≡ x.right → e.object ≡ x.object
    → OnOk r (e.whys ≡ x.whys) → OnOk r (e.verdict ≡ x.verdict) → OnOk r (e ≡ x)
checked_same (Ok y) e x subject right object whys verdict =
    λ i. record { subject = subject i; right = right i; object = object i; whys = whys i; verdict = verdict i }
checked_same (Err w) e x subject right object whys verdict = whys
