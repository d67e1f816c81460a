-- One action more.
use Rattle.std.proofs.Common.{◌≡◌, ◌∙◌, sym, ap, subst, [], ◌∷◌}
use Rattle.std.specs.Prelude.{Result, Ok, Err, OnOk, OnErr}
use Rattle.ucon_model.specs.Plain.{Bytes, PlainPolicy}
use Rattle.ucon_model.specs.Action.{Action, Trace, amend}
use Rattle.ucon_model.specs.Legal.{IsLegal}
use Rattle.ucon_model.specs.Readings.{in_force}
use Rattle.ucon_state.specs.Tables.{Tables}
use Rattle.ucon_state.specs.Applied.{applied}
use Rattle.ucon_state.specs.Following.{Follows}
use Rattle.ucon_state.specs.Shown.{Shown, changed_by, changed_to}
use Rattle.ucon_actions.specs.Leads.{KeepsOpening, Leads}

-- an action leaves the policy
abbrev pub LeavesPolicy : Shown → Action → Type 0
LeavesPolicy s a = in_force s.policy (a ∷ []) ≡ s.policy

-- the tables that an action makes that leaves the policy
made_by : (s : Shown) (a : Action) (t : Tables) → t ≡ applied s.policy a s.tables → LeavesPolicy s a → changed_to s t ≡ changed_by s a
made_by s a t led stays =
    let policy = sym stays in
    λ j. record s { policy = policy j; tables = led j }

-- a call that replaces the policy keeps what undoing gives
pub amending_keeps : {X E : Type 0} (r : Result X E) (s s' : Shown) (Q : PlainPolicy) → OnOk r ((text : Bytes) → s' ≡ changed_by s (amend text Q)) → OnErr r (s' ≡ s)
    → KeepsOpening s s'
amending_keeps (Ok x) s s' Q is same =
    record { opening_policy = ap (λ (x : Shown). x.opening_policy) (is []); opening = ap (λ (x : Shown). x.opening) (is []) }
amending_keeps (Err e) s s' Q is same = record { opening_policy = ap (λ (x : Shown). x.opening_policy) same; opening = ap (λ (x : Shown). x.opening) same }

-- the law that one legal action more is followed
abbrev pub ActionsAreFollowed : Type 0
ActionsAreFollowed = (s : Shown) (P : PlainPolicy) (T : Trace) (a : Action) → Follows s P T → IsLegal P T a → Follows (changed_by s a) P (a ∷ T)

module _ (followed : ActionsAreFollowed) where
  -- the state after a legal action that leaves the policy follows the trace with it
  pub one_step : (s s' : Shown) (P : PlainPolicy) (T : Trace) (a : Action) (t : Tables) → LeavesPolicy s a → Follows s P T → IsLegal P T a → s' ≡ changed_to s t
      → t ≡ applied s.policy a s.tables → Follows s' P (a ∷ T)
  one_step s s' P T a t stays h legal is led = subst (λ (x : Shown). Follows x P (a ∷ T)) (sym (is ∙ made_by s a t led stays)) (followed s P T a h legal)

  -- a call that makes one action, and leaves the policy
  pub leads_on : {X E : Type 0} (r : Result X E) (s s' : Shown) (a : Action) (t : Tables) → LeavesPolicy s a → ((P : PlainPolicy) (T : Trace) → Follows s P T → IsLegal P T a)
      → t ≡ applied s.policy a s.tables → OnOk r (s' ≡ changed_to s t) → OnOk r (Leads s s' (λ P T. a ∷ T))
  leads_on (Ok x) s s' a t stays legal led is = λ P T h. one_step s s' P T a t stays h (legal P T h) is led
  leads_on (Err e) s s' a t stays legal led is = is

  -- a call that replaces the policy
  pub amends_on : {X E : Type 0} (r : Result X E) (s s' : Shown) (text : Bytes) (Q R : PlainPolicy) → R ≡ Q → ((P : PlainPolicy) (T : Trace) → Follows s P T → IsLegal P T (amend text Q))
      → OnOk r ((text : Bytes) → s' ≡ changed_by s (amend text R)) → OnOk r (Leads s s' (λ P T. amend text Q ∷ T))
  amends_on (Ok x) s s' text Q R same legal is = λ P T h.
      subst (λ (x : Shown). Follows x P (amend text Q ∷ T)) (sym (is text ∙ ap (λ (R : PlainPolicy). changed_by s (amend text R)) same))
      (followed s P T (amend text Q) h (legal P T h))
  amends_on (Err e) s s' text Q R same legal is = is
