-- Settling is a cascade of legal revocations, and the only one.
use Rattle.std.proofs.Common.{◌≡◌, ◌⊎◌, inl, inr, subst, ℕ, zero, suc, ◌+◌, ◌<◌, ◌≤◌, true, false, List, [], ◌++◌, refl, sym, ap, arith}
use Rattle.std.specs.Prelude.{◌≢◌, ◌↔◌, nat_eq, Option, Some, None, IsSomeAnd}
use Rattle.std.specs.Option.{option_map_or}
use Rattle.std.proofs.lemmas.Bool.Decides.{eqb_tells}
use Rattle.ucon_model.specs.declared.command.Caller.{Caller}
use Rattle.ucon_model.specs.declared.command.Command.{Command}
use Rattle.ucon_model.specs.declared.reply.Head.{Head}
use Rattle.ucon_model.specs.declared.session.SessionRow.{SessionRow}
use Rattle.ucon_model.specs.declared.session.SessionState.TheVariants.{Accessing}
use Rattle.ucon_model.specs.Plain.{Bytes, PlainPolicy}
use Rattle.ucon_model.specs.Action.{Action, Trace, revoke, extended, followed_by}
use Rattle.ucon_model.specs.Readings.{in_force, session, sessions, is_accessing_state, is_accessing, accessing}
use Rattle.ucon_model.specs.Truth.{readings}
use Rattle.ucon_model.specs.Decision.{failing}
use Rattle.ucon_model.specs.OwnActions.{make, own}
use Rattle.ucon_model.specs.History.{History, trace}
use Rattle.ucon_model.specs.Legal.{IsAccessing, IsLegal, IsCascade, over, turn}
use Rattle.ucon_model.specs.Settle.{fails_at, least_from, least_failing, revocation, settle_within, settle}
use Rattle.ucon_model.proofs.Settling.{falls, none_left}
use Rattle.ucon_model.specs.Sound.{IsNumbered}
use Rattle.ucon_model.proofs.Allowed.{AreAllowed, IsSoundIf, sound-extended}
use Rattle.ucon_model.proofs.Histories.{allowed_revocation, sound_anyway}
use Rattle.ucon_model.proofs.AllowedOwn.{allowed-own}
use Rattle.ucon_model.proofs.LeastFailing.{chosen_is_legal, nobody_fails}
use Rattle.ucon_model.proofs.OwnCases.{OwnHas, makes}

-- ---- a legal revocation is the one that settling makes

is_accessing_if : (o : Option SessionRow) → IsSomeAnd o (λ row. row.state ≡ Accessing) → is_accessing o ≡ true
is_accessing_if None h = absurd h
is_accessing_if (Some row) h = ap is_accessing_state h

fails_if : (P : PlainPolicy) (T : Trace) (n : ℕ) (label : Bytes) → IsAccessing T n → failing (in_force P T) (readings P T) n ≡ Some label → fails_at P T n ≡ Some label
fails_if P T n label accessing e = rw (is_accessing_if (session T n) accessing) e

none_accessing : (T : Trace) (n : ℕ) → session T n ≡ None → IsAccessing T n → ⊥
none_accessing T n e accessing = subst (λ o. IsSomeAnd o (λ row. row.state ≡ Accessing)) e accessing

-- an accessing session is one of those numbered
pub numbered_one : (T : Trace) (n : ℕ) → IsNumbered T → IsAccessing T n → (1 ≤ n) × (n ≤ sessions T)
numbered_one T n h accessing =
    let not_zero : n ≡ 0 → ⊥ = λ e. none_accessing T n (subst (λ m. session T m ≡ None) (sym e) h.zeroth) accessing in
    let not_beyond : sessions T < n → ⊥ = λ lt. none_accessing T n (h.beyond n lt) accessing in
    (omega (arith, not_zero), omega (arith, not_beyond))

-- at a number up to f's, where f fails and nobody below it does
found_here : (P : PlainPolicy) (T : Trace) (a k : ℕ) (f : ℕ × Bytes) → ((nat_eq a f.0 ≡ true) × (a ≡ f.0)) ⊎ ((nat_eq a f.0 ≡ false) × (a ≢ f.0))
    → a ≤ f.0 → fails_at P T f.0 ≡ Some f.1 → ((m : ℕ) → m < f.0 → fails_at P T m ≡ None)
    → (a + 1 ≤ f.0 → least_from P T (a + 1) k ≡ Some f) → least_from P T a (suc k) ≡ Some f
found_here P T a k f (inl same) low fails before rest =
    let here : fails_at P T a ≡ Some f.1 = rw same.1 fails in
    rw here (ap (λ (m : ℕ). Some (m, f.1)) same.1)
found_here P T a k f (inr other) low fails before rest =
    let not_here : fails_at P T a ≡ None = before a (omega (arith, low, other.1)) in
    rw not_here (rest (omega (arith, low, other.1)))

pub least_found : (P : PlainPolicy) (T : Trace) (a k : ℕ) (f : ℕ × Bytes) → a ≤ f.0 → f.0 < a + k → fails_at P T f.0 ≡ Some f.1
    → ((m : ℕ) → m < f.0 → fails_at P T m ≡ None) → least_from P T a k ≡ Some f
least_found P T a zero f low high fails before = absurd (omega (arith, low, high))
least_found P T a (suc k) f low high fails before =
    found_here P T a k f (eqb_tells a f.0) low fails before (λ low. least_found P T (a + 1) k f low (omega (arith, high)) fails before)

legal_is_least : (P : PlainPolicy) (T : Trace) (f : ℕ × Bytes) → IsNumbered T → IsLegal P T (revoke f.0 f.1) → least_failing P T ≡ Some f
legal_is_least P T f h legal =
    let one = numbered_one T f.0 h legal.0 in
    least_found P T 1 (sessions T) f one.0 (omega (arith, one.1)) (fails_if P T f.0 f.1 legal.0 legal.1) legal.2

pub none_found : (P : PlainPolicy) (T : Trace) (a k : ℕ) → ((n : ℕ) → fails_at P T n ≡ None) → least_from P T a k ≡ None
none_found P T a zero nobody = refl
none_found P T a (suc k) nobody = rw (nobody a) (none_found P T (a + 1) k nobody)

-- ---- each cascade is the settling

pub none_within : (P : PlainPolicy) (T : Trace) (k : ℕ) → least_failing P T ≡ None → settle_within k P T ≡ []
none_within P T zero e = refl
none_within P T (suc k) e = rw e refl

pub turn_within : (P : PlainPolicy) (T : Trace) (k : ℕ) (f : ℕ × Bytes) (actions : List Action) → least_failing P T ≡ Some f → accessing T ≤ k
    → ((k : ℕ) → accessing (extended T (revocation P T f)) ≤ k → settle_within k P (extended T (revocation P T f)) ≡ actions)
    → settle_within k P T ≡ revocation P T f ++ actions
turn_within P T zero f actions e le rest = absurd (omega (arith, falls P T f e, le))
turn_within P T (suc k) f actions e le rest = rw e (ap (λ (xs : List Action). revocation P T f ++ xs) (rest k (omega (arith, falls P T f e, le))))

settle_within-cascade : (P : PlainPolicy) (T : Trace) (actions : List Action) → IsCascade P T actions → IsSoundIf ⊥ P T → (k : ℕ) → accessing T ≤ k
    → settle_within k P T ≡ actions
settle_within-cascade P T actions (over nobody) h k le = none_within P T k (none_found P T 1 (sessions T) nobody)
settle_within-cascade P T actions (turn f rest legal cascade) h k le =
    let e : least_failing P T ≡ Some f = legal_is_least P T f h.numbered legal in
    let U : Trace = extended T (revocation P T f) in
    let sound : IsSoundIf ⊥ P U = sound-extended ⊥ P T (revocation P T f) h (allowed_revocation ⊥ P T f h e) in
    turn_within P T k f rest e le (settle_within-cascade P U rest cascade sound)

-- ---- the settling is a cascade

cascade_by : (P : PlainPolicy) (T : Trace) (k : ℕ) (o : Option (ℕ × Bytes)) → least_failing P T ≡ o → IsSoundIf ⊥ P T → accessing T ≤ suc k
    → ((U : Trace) → IsSoundIf ⊥ P U → accessing U ≤ k → IsCascade P U (settle_within k P U))
    → IsCascade P T (option_map_or (λ f. followed_by (revocation P T f) (settle_within k P) T) o [])
cascade_by P T k None is h le rest = over (nobody_fails P T h.numbered is)
cascade_by P T k (Some f) is h le rest =
    let U : Trace = extended T (revocation P T f) in
    let sound : IsSoundIf ⊥ P U = sound-extended ⊥ P T (revocation P T f) h (allowed_revocation ⊥ P T f h is) in
    turn f (settle_within k P U) (chosen_is_legal P T f h.numbered is) (rest U sound (omega (arith, falls P T f is, le)))

cascade_within : (k : ℕ) (P : PlainPolicy) (T : Trace) → IsSoundIf ⊥ P T → accessing T ≤ k → IsCascade P T (settle_within k P T)
cascade_within zero P T h le = over (nobody_fails P T h.numbered (none_left P T (least_failing P T) refl le))
cascade_within (suc k) P T h le = cascade_by P T k (least_failing P T) refl h le (cascade_within k P)

only_cascade : (P : PlainPolicy) (T : Trace) (cascade : List Action) → IsSoundIf ⊥ P T → IsCascade P T cascade ↔ (cascade ≡ settle P T)
only_cascade P T cascade h = (
  λ c. sym (settle_within-cascade P T cascade c h (accessing T) (omega arith)),
  λ e. subst (IsCascade P T) (sym e) (cascade_within (accessing T) P T h (omega arith)),
)

-- ---- after a command's own actions

actions_of : (Q : List Action → Type 0) (head : Head) (actions : List Action) → OwnHas Q (make head actions) → Q actions
actions_of Q head actions (makes h) = h

pub only_cascade_after : (P : PlainPolicy) (H : History) (caller : Caller) (c : Command) (head : Head) (actions cascade : List Action)
    → own P (trace P H) caller c ≡ make head actions
    → IsCascade P (extended (trace P H) actions) cascade ↔ (cascade ≡ settle P (extended (trace P H) actions))
only_cascade_after P H caller c head actions cascade e =
    let T : Trace = trace P H in
    let allowed : AreAllowed ⊥ P T actions = actions_of (AreAllowed ⊥ P T) head actions (subst (OwnHas (AreAllowed ⊥ P T)) e (allowed-own ⊥ P T caller c (λ no. absurd no) (sound_anyway P H))) in
    only_cascade P (extended T actions) cascade (sound-extended ⊥ P T actions (sound_anyway P H) allowed)
