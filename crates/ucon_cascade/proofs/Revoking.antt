-- The work after a revocation: it covers by the firsts of lists, and no more comes in than has to.
use Rattle.std.proofs.Common.{◌≡◌, ◌≢◌, ◌↔◌, ◌⊎◌, ◌∙◌, ◌+◌, ◌≤◌, inl, inr, ℕ, suc, true, List, ◌∷◌, ◌++◌, sym, ap, subst, arith}
use Rattle.std.specs.Prelude.{Some, None, is_some}
use Rattle.std.specs.List.{Contains}
use Rattle.std.proofs.lemmas.Bool.Decides.{eqb_tells}
use Rattle.ucon_model.specs.declared.policy.When.TheVariants.{AfterRevoke}
use Rattle.ucon_model.specs.Action.{Action, Trace, extended}
use Rattle.ucon_model.specs.Groups.{FirstsCover, IsNextWork}
use Rattle.ucon_model.specs.Plain.{Bytes, PlainPolicy}
use Rattle.ucon_model.specs.Readings.{is_accessing, session}
use Rattle.ucon_model.specs.Settle.{fails_at, revocation}
use Rattle.ucon_model.specs.Touches.{IsPaid, IsThrifty}
use Rattle.ucon_model.specs.Work.{Work}
use Rattle.ucon_actions.specs.Leads.{KeepsBase}
use Rattle.ucon_model.specs.Usages.{going_on}
use Rattle.ucon_state.specs.Following.{Follows}
use Rattle.ucon_state.specs.Tables.{session_in}
use Rattle.ucon_state.specs.Shown.{Shown}
use Rattle.ucon_cascade.specs.Cascading.{IsWork, work_of}
use Rattle.ucon_cascade.specs.Grouping.{AreGrouped}
use Rattle.ucon_cascade.specs.Leaving.{IsNext, LeavesList}
use Rattle.ucon_cascade.specs.Numbering.{IsExact}
use Rattle.ucon_cascade.specs.Paid.{StayPaidRevoking}
use Rattle.ucon_cascade.specs.Putting.{GainsFirsts, GoesOn, StandsAtOne, targets_in}
use Rattle.ucon_cascade.proofs.Alike.{AreOne, KeepsAll, covers_each}
use Rattle.ucon_cascade.proofs.Costing.{accessing_as_failing}
use Rattle.ucon_cascade.proofs.Covering.{behind, is_member, member}
use Rattle.ucon_cascade.proofs.Firsts.{LikeReadAlike, accessing_after, goes_after, led}
use Rattle.ucon_cascade.proofs.Following.{IsOver, OthersStay}
use Rattle.ucon_cascade.proofs.Leaving.{exact_left, grouped_left}
use Rattle.ucon_cascade.proofs.Paying.{behind_front, in_front, one_up}
use Rattle.ucon_cascade.proofs.Thrifty.{CellsAreOfOne, UpdatesLeavePolicy, UpdatesLeaveSessions, first_stands, other, stands_for_reader}

-- work that covers by firsts goes on to, over a revocation
abbrev pub RevokingCovers : Type 0
RevokingCovers = (P : PlainPolicy) (T : Trace) (f : ℕ × Bytes) (first : ℕ → ℕ) (work : Work) (new_first : ℕ → ℕ) (next : Work)
    → FirstsCover P T first work → IsNextWork P T f first work new_first next → FirstsCover P (extended T (revocation P T f)) new_first next

-- the judgement by which one was found to fail is paid for, and those whom its revocation concerns
abbrev pub RevocationsArePaid : Type 0
RevocationsArePaid = (P : PlainPolicy) (T : Trace) (actions : List Action) (first : ℕ → ℕ) (work : Work) (steps k : ℕ) (f : ℕ × Bytes) (new_first : ℕ → ℕ) (next : Work)
    → IsPaid P T actions first work steps k → 1 ≤ f.0 → f.0 ≤ k → is_accessing (session (extended T actions) f.0) ≡ true → first f.0 ≡ f.0 → work f.0 ≡ true
    → IsThrifty P (extended T actions) f first work new_first next
    → IsPaid P T (actions ++ revocation P (extended T actions) f) new_first next (steps + 1) k

-- the usage of the one who was revoked is over, and those of all others are as before
is_over_in : IsOver → (s' : Shown) (P : PlainPolicy) (U : Trace) (f : ℕ × Bytes) → Follows s' P (extended U (revocation P U f)) → going_on (session_in s'.tables f.0) ≡ None
is_over_in over s' P U f h' = ap going_on (h'.tables.sessions.rows f.0) ∙ over P U f

goes_as_before : OthersStay → (s s' : Shown) (P : PlainPolicy) (U : Trace) (f : ℕ × Bytes) → Follows s P U → Follows s' P (extended U (revocation P U f)) → (n : ℕ) → n ≢ f.0
    → going_on (session_in s'.tables n) ≡ going_on (session_in s.tables n)
goes_as_before stay s s' P U f h h' n other = ap going_on (h'.tables.sessions.rows n ∙ stay P U f n other ∙ sym (h.tables.sessions.rows n))

-- the readers are exact once it stands nowhere
pub left_exactly : IsOver → OthersStay → (s s' : Shown) (standing new_standing : ℕ → List ℕ) (P : PlainPolicy) (U : Trace) (f : ℕ × Bytes) → Follows s P U
    → Follows s' P (extended U (revocation P U f)) → KeepsBase s s' → IsExact s standing
    → ((n place : ℕ) → Contains (new_standing place) n ↔ ((n ≢ f.0) × Contains (standing place) n)) → IsExact s' new_standing
left_exactly over stay s s' standing new_standing P U f h h' base exact read =
    exact_left s s' f.0 base (is_over_in over s' P U f h') (goes_as_before stay s s' P U f h h') standing new_standing exact read

-- the one who was revoked has left its list, the next of which came into the work, and then the firsts of those who stand where it wrote
pub record IsRevoked (s' : Shown) (standing : ℕ → List ℕ) (first new_first : ℕ → ℕ) (k : ℕ) (old mid new : List ℕ) : Type 0 where
  pub exact : IsExact s' standing
  pub grouped : AreGrouped s' new_first
  pub leaves : LeavesList first new_first k
  pub next : (m : ℕ) → Contains mid m ↔ (IsNext first new_first k m ⊎ Contains old m)
  pub put : GainsFirsts new_first mid new (StandsAtOne s' standing (targets_in s' k AfterRevoke))

-- so it is where the one who was revoked left its list
pub is_revoked : IsOver → OthersStay → (s s' : Shown) (standing new_standing : ℕ → List ℕ) (first new_first : ℕ → ℕ) (P : PlainPolicy) (U : Trace) (f : ℕ × Bytes)
    (old mid new : List ℕ) → Follows s P U → Follows s' P (extended U (revocation P U f)) → KeepsBase s s' → IsExact s standing → AreGrouped s first
    → ((n place : ℕ) → Contains (new_standing place) n ↔ ((n ≢ f.0) × Contains (standing place) n)) → LeavesList first new_first f.0
    → ((m : ℕ) → IsNext first new_first f.0 m → (place : ℕ) × Contains (standing place) m)
    → ((m : ℕ) → Contains mid m ↔ (IsNext first new_first f.0 m ⊎ Contains old m))
    → GainsFirsts new_first mid new (StandsAtOne s' new_standing (targets_in s' f.0 AfterRevoke)) → IsRevoked s' new_standing first new_first f.0 old mid new
is_revoked over stay s s' standing new_standing first new_first P U f old mid new h h' base exact grouped read leaves stands next put = record {
  exact = left_exactly over stay s s' standing new_standing P U f h h' base exact read;
  grouped = grouped_left s s' f.0 base (is_over_in over s' P U f h') (goes_as_before stay s s' P U f h h') first new_first grouped leaves
      (λ m is_next. (let there = stands m is_next in let reads = exact.sound m there.0 there.1 in ap is_some reads.is));
  leaves = leaves;
  next = next;
  put = put;
}

module _ (alike : LikeReadAlike) (whose : CellsAreOfOne) (policy : UpdatesLeavePolicy) (sessions : UpdatesLeaveSessions) (over : IsOver) (stay : OthersStay)
    (s s' : Shown) (standing : ℕ → List ℕ) (first new_first : ℕ → ℕ) (f : ℕ × Bytes) (old mid new : List ℕ) (work : IsWork s first (f.0 ∷ old))
    (revoked : IsRevoked s' standing first new_first f.0 old mid new) where
  module _ (P : PlainPolicy) (U : Trace) (h : Follows s P U) (h' : Follows s' P (extended U (revocation P U f))) where
    abbrev W : Trace
    W = extended U (revocation P U f)

    apart_from : (m : ℕ) → is_accessing (session W m) ≡ true → m ≢ f.0
    apart_from m on = other whose policy sessions over stay s' standing P U f h' revoked.exact m on

    went_on : (m : ℕ) → is_accessing (session W m) ≡ true → GoesOn s m
    went_on m on = goes_after s P U h m (ap is_accessing (sym (stay P U f m (apart_from m on))) ∙ on)

    next_work : IsNextWork P U f first (work_of (f.0 ∷ old)) new_first (work_of new)
    next_work = record {
      led = led s' new_first P W h' revoked.grouped;
      same = λ m on apart. revoked.leaves.same m (apart_from m on) apart;
      kept = λ m apart has. member m new ((revoked.put m).1 (inr ((revoked.next m).1 (inr (is_member m old (behind f.0 m old apart has))))));
      listed = λ m on its. member (new_first m) new ((revoked.put (new_first m)).1 (inr ((revoked.next (new_first m)).1 (inl (revoked.leaves.next m (apart_from m on) its)))));
      readers = λ m on reads.
          member (new_first m) new
          ((revoked.put (new_first m)).1
          (inl (
            stands_for_reader whose policy sessions over stay s' standing P U f h' revoked.exact alike new_first revoked.grouped m on reads,
            revoked.grouped.itself m (goes_after s' P W h' m on),
          )));
    }

    -- whoever owes after it was in the list of the one who was revoked
    in_its_list : (m : ℕ) → first m ≡ f.0 → work_of (f.0 ∷ old) (first m) ≡ true
    in_its_list m its = subst (λ (x : ℕ). work_of (f.0 ∷ old) x ≡ true) (sym its) (in_front f.0 old)

    owed : (m : ℕ) → is_accessing (session W m) ≡ true → IsNext first new_first f.0 (new_first m) ⊎ Contains old (new_first m) → work_of (f.0 ∷ old) (first m) ≡ true
    owed m on has = elim (eqb_tells (first m) f.0) [
      | inl its ↦ in_its_list m its.1
      | inr apart ↦
          let is = revoked.leaves.same m (apart_from m on) apart.1 in
          elim has [
            | inl next ↦ absurd (apart.1 (sym (work.grouped.itself m (went_on m on)) ∙ ap first (sym is) ∙ next.was))
            | inr was ↦ behind_front f.0 (first m) old (subst (λ (x : ℕ). work_of old x ≡ true) is (member (new_first m) old was))
          ]
    ]

    is_thrifty : IsThrifty P U f first (work_of (f.0 ∷ old)) new_first (work_of new)
    is_thrifty m on has = elim ((revoked.put (new_first m)).0 (is_member (new_first m) new has)) [
      | inl stands ↦ inr (first_stands whose policy sessions over stay s' standing P U f h' revoked.exact alike new_first revoked.grouped m on stands.0)
      | inr was ↦ inl (owed m on ((revoked.next (new_first m)).0 was))
    ]

  -- the work after it is one again
  pub work_after : RevokingCovers → KeepsAll → AreOne → (P : PlainPolicy) (U : Trace) → Follows s P U → Follows s' P (extended U (revocation P U f)) → IsWork s' new_first new
  work_after law keeps one P U h h' = record {
    grouped = revoked.grouped;
    covers =
        covers_each keeps one s' P (extended U (revocation P U f)) h' (λ m. work_of new (new_first m))
        (law P U f first (work_of (f.0 ∷ old)) new_first (work_of new) (work.covers P U h) (next_work P U h h'));
    firsts = λ m has goes. firsts m (accessing_after s' P (extended U (revocation P U f)) h' m goes) ((revoked.put m).0 has);
  }
    where
      behind_it : (m : ℕ) → Contains old m → Contains (f.0 ∷ old) m
      behind_it m (i, within, is) = (suc i, omega (arith, within), is)

      firsts : (m : ℕ) → is_accessing (session (extended U (revocation P U f)) m) ≡ true
          → (StandsAtOne s' standing (targets_in s' f.0 AfterRevoke) m × (new_first m ≡ m)) ⊎ Contains mid m → new_first m ≡ m
      firsts m on (inl put) = put.1
      firsts m on (inr was) = elim ((revoked.next m).0 was) [
        | inl next ↦ next.is
        | inr before ↦
            let own = work.firsts m (behind_it m before) (went_on P U h h' m on) in
            revoked.leaves.same m (apart_from P U h h' m on) (λ back. apart_from P U h h' m on (sym own ∙ back)) ∙ own
      ]

  -- and paid for
  pub revoking_is_paid : RevocationsArePaid → ((P : PlainPolicy) (T : Trace) → Follows s P T → fails_at P T f.0 ≡ Some f.1)
      → ((P : PlainPolicy) (T : Trace) → Follows s P T → Follows s' P (extended T (revocation P T f))) → StayPaidRevoking s f first old new_first new
  revoking_is_paid law fails leads P T actions k judged h up_to paid =
      let U = extended T actions in
      let on = accessing_as_failing P U f.0 f.1 (fails P U h) in
      let goes = goes_after s P U h f.0 on in
      law P T actions first (work_of (f.0 ∷ old)) judged k f new_first (work_of new) paid (one_up P U h.sound.numbered f.0 on) (up_to f.0 goes) on
      (work.firsts f.0 (0, omega arith, λ i. f.0) goes) (in_front f.0 old) (is_thrifty P U h (leads P U h))
