-- What working off costs, turn by turn.
use Rattle.std.proofs.Common.{◌≡◌, ◌∙◌, ◌≤◌, ◌+◌, inl, inr, ℕ, zero, suc, Bool, true, false, List, [], ◌∷◌, ◌++◌, refl, sym, ap, subst, arith}
use Rattle.std.specs.Prelude.{Option, Some, None, IsSome, cond}
use Rattle.std.proofs.lemmas.Bool.Decides.{eqb_tells}
use Rattle.ucon_model.specs.declared.session.SessionRow.{SessionRow}
use Rattle.ucon_model.specs.Decision.{failing}
use Rattle.ucon_model.specs.Truth.{readings}
use Rattle.ucon_model.specs.Usages.{going_on}
use Rattle.ucon_state.specs.Tables.{session_in}
use Rattle.ucon_cascade.specs.Cascading.{work_of}
use Rattle.ucon_cascade.specs.Putting.{GoesOn}
use Rattle.ucon_cascade.proofs.Firsts.{goes_after}
use Rattle.ucon_cascade.proofs.Following.{IsOver, OthersStay}
use Rattle.std.specs.Option.{option_map_or}
use Rattle.ucon_model.specs.Plain.{Bytes, PlainPolicy}
use Rattle.ucon_model.specs.Action.{Action, Trace, extended, followed_by}
use Rattle.ucon_model.specs.Readings.{accessing, in_force, is_accessing, session}
use Rattle.ucon_model.specs.Settle.{fails_at, least_failing, revocation, settle, settle_within, settled_to}
use Rattle.ucon_model.specs.Touches.{sum_to, touches_by}
use Rattle.ucon_state.specs.Following.{Follows}
use Rattle.ucon_state.specs.Shown.{Shown}
use Rattle.ucon_cascade.specs.Paid.{ArePaid, CostsItsTouches, GoOnUpTo, StayPaid, StayPaidRevoking}
use Rattle.ucon_cascade.proofs.Monitored.{DoneInOrder}
use Rattle.ucon_cascade.proofs.Paying.{JudgementsArePaid, in_front, one_up, sum_le}

-- ---- more actions touch more

touches_more : (P : PlainPolicy) (T : Trace) (actions more : List Action) (n : ℕ) → touches_by P T actions n ≤ touches_by P T (actions ++ more) n
touches_more P T [] more n = omega arith
touches_more P T (a ∷ actions) more n = omega (arith, touches_more P (a ∷ T) actions more n)

pub costs_more : (P : PlainPolicy) (T : Trace) (actions more : List Action) (k : ℕ) → sum_to (touches_by P T actions) k ≤ sum_to (touches_by P T (actions ++ more)) k
costs_more P T actions more k = sum_le (touches_by P T actions) (touches_by P T (actions ++ more)) k (λ n. touches_more P T actions more n)

-- ---- some turns are the beginning of more

append_assoc : (xs ys zs : List Action) → (xs ++ ys) ++ zs ≡ xs ++ (ys ++ zs)
append_assoc [] ys zs = refl
append_assoc (x ∷ xs) ys zs = ap (λ rest. x ∷ rest) (append_assoc xs ys zs)

pub begins_with : (i k : ℕ) (P : PlainPolicy) (T : Trace) → i ≤ k → (rest : List Action) × (settle_within k P T ≡ settle_within i P T ++ rest)
begins_with zero k P T le = (settle_within k P T, refl)
begins_with (suc i) zero P T le = absurd (omega (arith, le))
begins_with (suc i) (suc k) P T le = by (λ U. begins_with i k P U (omega (arith, le))) (least_failing P T)
  where
    by : ((U : Trace) → (rest : List Action) × (settle_within k P U ≡ settle_within i P U ++ rest)) → (o : Option (ℕ × Bytes))
        → (rest : List Action) × (option_map_or (λ f. followed_by (revocation P T f) (settle_within k P) T) o []
        ≡ option_map_or (λ f. followed_by (revocation P T f) (settle_within i P) T) o [] ++ rest)
    by later None = ([], refl)
    by later (Some f) =
        let then = later (extended T (revocation P T f)) in (
          then.0,
          ap (λ more. revocation P T f ++ more) then.1
              ∙ sym (append_assoc (revocation P T f) (settle_within i P (extended T (revocation P T f))) then.0),
        )

-- so the touches of some turns are at most those of the settling
pub costs_within : (P : PlainPolicy) (T : Trace) (actions : List Action) (i k : ℕ) → i ≤ accessing (extended T actions)
    → sum_to (touches_by P T (actions ++ settle_within i P (extended T actions))) k ≤ sum_to (touches_by P T (actions ++ settle P (extended T actions))) k
costs_within P T actions i k le =
    let U = extended T actions in
    let more = begins_with i (accessing U) P U le in
    subst (λ (all : List Action). sum_to (touches_by P T (actions ++ settle_within i P U)) k ≤ sum_to (touches_by P T (actions ++ all)) k) (sym more.1)
    (subst (λ (all : List Action). sum_to (touches_by P T (actions ++ settle_within i P U)) k ≤ sum_to (touches_by P T all) k) (append_assoc actions (settle_within i P U) more.0)
    (costs_more P T (actions ++ settle_within i P U) more.0 k))

-- ---- so many turns

-- After so many turns the counter rose by judgements that are paid for by the touches of the actions and of those turns.
abbrev pub ArePaidAfter : Shown → (first : ℕ → ℕ) (work : List ℕ) (turns : ℕ) (now_first : ℕ → ℕ) (members : List ℕ) → (before after : ℕ) → Type 0
ArePaidAfter s first work turns now_first members before after =
    (P : PlainPolicy) (T : Trace) (actions : List Action) (k : ℕ) → Follows s P (extended T actions) → GoOnUpTo s k → ArePaid P T actions first work 0 k
    → (judged : ℕ) × (after ≤ before + judged) × ArePaid P T (actions ++ settle_within turns P (extended T actions)) now_first members judged k

-- those who go on after are among those who went on before
abbrev pub FewerGoOn : Shown → Shown → Type 0
FewerGoOn s s' = (k : ℕ) → GoOnUpTo s k → GoOnUpTo s' k

-- what the state follows after so many turns
abbrev pub FollowsTurns : Shown → Shown → ℕ → Type 0
FollowsTurns s s' turns = (P : PlainPolicy) (T : Trace) → Follows s P T → Follows s' P (settled_to turns P T)

-- after turns in which the work became less, nothing more is touched
pub paid_on : DoneInOrder → (s s' : Shown) (first : ℕ → ℕ) (work : List ℕ) (turns : ℕ) (now_first : ℕ → ℕ) (members less : List ℕ) (before before' now now' after : ℕ)
    → FollowsTurns s s' turns → FewerGoOn s s' → now' + before ≤ before' + now → ArePaidAfter s first work turns now_first members before now
    → StayPaid s' now_first members less now' after → ArePaidAfter s first work turns now_first less before' after
paid_on in_order s s' first work turns now_first members less before before' now now' after follows fewer lift paid stay P T actions k h up_to begins =
    let U = extended T actions in
    let so_far = paid P T actions k h up_to begins in
    let h' = subst (λ (V : Trace). Follows s' P V) (sym (in_order T actions (settle_within turns P U))) (follows P U h) in
    let then = stay P T (actions ++ settle_within turns P U) k so_far.0 h' (fewer k up_to) so_far.2 in
    let a = so_far.1 in
    let b = then.1 in
    (so_far.0 + then.0, omega (arith, a, b, lift), then.2)

-- one more turn
pub paid_turn : DoneInOrder → (s s' : Shown) (first : ℕ → ℕ) (work : List ℕ) (turns : ℕ) (now_first next_first : ℕ → ℕ) (members next : List ℕ) (f : ℕ × Bytes) (before after : ℕ)
    → FollowsTurns s s' turns → FewerGoOn s s'
    → ((P : PlainPolicy) (T : Trace) → Follows s P T → settle_within (turns + 1) P T ≡ settle_within turns P T ++ revocation P (settled_to turns P T) f)
    → ArePaidAfter s first work turns now_first (f.0 ∷ members) (before + 1) after → StayPaidRevoking s' f now_first members next_first next
    → ArePaidAfter s first work (turns + 1) next_first next before after
paid_turn in_order s s' first work turns now_first next_first members next f before after follows fewer more paid revoking P T actions k h up_to begins =
    let U = extended T actions in
    let so_far = paid P T actions k h up_to begins in
    let a = so_far.1 in
    let done = actions ++ settle_within turns P U in
    let at : extended T done ≡ settled_to turns P U = in_order T actions (settle_within turns P U) in
    let h' = subst (λ (V : Trace). Follows s' P V) (sym at) (follows P U h) in
    let then : ArePaid P T (done ++ revocation P (extended T done) f) next_first next (so_far.0 + 1) k =
    revoking P T done k so_far.0 h' (fewer k up_to) so_far.2 in
    let is : done ++ revocation P (extended T done) f ≡ actions ++ settle_within (turns + 1) P U =
    ap (λ (V : Trace). done ++ revocation P V f) at
    ∙ append_assoc actions (settle_within turns P U) (revocation P (settled_to turns P U) f)
    ∙ ap (λ (all : List Action). actions ++ all) (sym (more P U h)) in
    (so_far.0 + 1, omega (arith, a), subst (λ (all : List Action). ArePaid P T all next_first next (so_far.0 + 1) k) is then)

-- so the cost is within the touches
pub cost_is_paid : (s : Shown) (first : ℕ → ℕ) (work : List ℕ) (turns : ℕ) (now_first : ℕ → ℕ) (members : List ℕ) (before after : ℕ)
    → ((P : PlainPolicy) (T : Trace) → Follows s P T → turns ≤ accessing T) → ArePaidAfter s first work turns now_first members before after
    → CostsItsTouches s first work before after
cost_is_paid s first work turns now_first members before after few paid P T actions k h up_to begins =
    let so_far = paid P T actions k h up_to begins in
    let a = so_far.1 in
    let b = so_far.2 in
    let c = costs_within P T actions turns k (few P (extended T actions) h) in
    omega (arith, a, b, c)

-- ---- whoever was found to fail

pub accessing_as_failing : (P : PlainPolicy) (T : Trace) (n : ℕ) (label : Bytes) → fails_at P T n ≡ Some label → is_accessing (session T n) ≡ true
accessing_as_failing P T n label fails = by (is_accessing (session T n)) fails
  where
    by : (b : Bool) → cond b (failing (in_force P T) (readings P T) n) None ≡ Some label → b ≡ true
    by true is = refl
    by false is = absurd (let no : None ≡ Some label = is in cc)

-- the judgement by which one was found to fail is paid for too, where it is the first of its list
pub found_is_paid : JudgementsArePaid → DoneInOrder → (s s' : Shown) (first : ℕ → ℕ) (work : List ℕ) (turns : ℕ) (now_first : ℕ → ℕ) (members : List ℕ) (f : ℕ × Bytes)
    (before after : ℕ) → FollowsTurns s s' turns → FewerGoOn s s' → ((P : PlainPolicy) (T : Trace) → Follows s' P T → fails_at P T f.0 ≡ Some f.1)
    → (GoesOn s' f.0 → now_first f.0 ≡ f.0) → ((P : PlainPolicy) (T : Trace) → Follows s P T → turns ≤ accessing T)
    → ArePaidAfter s first work turns now_first (f.0 ∷ members) (before + 1) after → CostsItsTouches s first work before after
found_is_paid law in_order s s' first work turns now_first members f before after follows fewer fails leads few paid P T actions k h up_to begins =
    let U = extended T actions in
    let so_far = paid P T actions k h up_to begins in
    let done = actions ++ settle_within turns P U in
    let V = extended T done in
    let h' : Follows s' P V = subst (λ (V : Trace). Follows s' P V) (sym (in_order T actions (settle_within turns P U))) (follows P U h) in
    let on = accessing_as_failing P V f.0 f.1 (fails P V h') in
    let goes = goes_after s' P V h' f.0 on in
    let a = so_far.1 in
    let b = law P T done now_first (work_of (f.0 ∷ members)) so_far.0 k f.0 so_far.2 (one_up P V h'.sound.numbered f.0 on) (fewer k up_to f.0 goes) on (leads goes)
    (in_front f.0 members) in
    let c = costs_within P T actions turns k (few P U h) in
    omega (arith, a, b, c)

-- ---- nobody's usage begins by a revocation

pub fewer_go_on : IsOver → OthersStay → (s s' : Shown) (P : PlainPolicy) (T : Trace) (f : ℕ × Bytes) → Follows s P T → Follows s' P (extended T (revocation P T f))
    → (n : ℕ) → GoesOn s' n → GoesOn s n
fewer_go_on over stay s s' P T f h h' n goes = elim (eqb_tells n f.0) [
  | inl here ↦ absurd (
      let none : going_on (session_in s'.tables n) ≡ None =
      ap going_on (h'.tables.sessions.rows n) ∙ ap (λ m. going_on (session (extended T (revocation P T f)) m)) here.1 ∙ over P T f in
      let no : IsSome {T = SessionRow} None = subst (λ (o : Option SessionRow). IsSome o) none goes in cc)
  | inr other ↦
      subst (λ (o : Option SessionRow). IsSome (going_on o)) (h'.tables.sessions.rows n ∙ stay P T f n other.1 ∙ sym (h.tables.sessions.rows n)) goes
]
