-- Working off ends, and with the settling.
use Rattle.std.proofs.Common.{◌≡◌, ◌⊎◌, inl, inr, ℕ, zero, suc, ◌+◌, ◌-◌, ◌<◌, ◌≤◌, true, false, List, refl, sym, subst, arith}
use Rattle.std.specs.Prelude.{◌≢◌, nat_eq, not, Option, Some, None}
use Rattle.std.specs.Option.{option_map_or}
use Rattle.std.specs.List.{list_any}
use Rattle.std.proofs.lemmas.Bool.{cases_Bool, and_parts, or_cases, not-true, eqb-false, false_from_ne_true}
use Rattle.ucon_model.specs.declared.policy.When.TheVariants.{AfterRevoke}
use Rattle.ucon_model.specs.declared.session.SessionRow.{SessionRow}
use Rattle.ucon_model.specs.Plain.{Bytes, PlainPolicy}
use Rattle.ucon_model.specs.Action.{Trace, extended}
use Rattle.ucon_model.specs.Readings.{in_force, session, sessions, accessing}
use Rattle.ucon_model.specs.Settle.{fails_at, least_failing, revocation, settle}
use Rattle.ucon_model.specs.Reach.{Location, reads_at, readers, session_targets}
use Rattle.ucon_model.specs.Sound.{IsNumbered}
use Rattle.ucon_model.specs.Work.{Work, without, joined, IsLeastOf, Covers, IsBounded, work_after, WorksOff, done, holds, fails}
use Rattle.ucon_model.proofs.Settling.{falls}
use Rattle.ucon_model.proofs.Turns.{settle-over, settle-turn}
use Rattle.ucon_model.proofs.Working.{covers-holds, covers-fails, least-work, least-empty}
use Rattle.ucon_model.proofs.Revoking.{numbered-revocation}

of_without : (n m : ℕ) (work : Work) → without n work m ≡ true → (work m ≡ true) × (m ≢ n)
of_without n m work h =
    let both = and_parts (not (nat_eq m n)) (work m) h in
    (both.1, eqb-false m n (not-true (nat_eq m n) both.0))

-- who reads something is there, so one of those numbered
reader_there : (P : PlainPolicy) (T : Trace) (locations : List Location) (n : ℕ) → IsNumbered T → readers P T locations n ≡ true → n ≤ sessions T
reader_there P T locations n h reads =
    let not_beyond : sessions T < n → ⊥ = λ lt. none (session T n) (h.beyond n lt) reads in
    omega (arith, not_beyond)
  where
    none : (o : Option SessionRow) → o ≡ None → option_map_or (λ row. list_any (reads_at (in_force P T) row) locations) o false ≡ true → ⊥
    none None e h = cc
    none (Some row) e h = cc

bounded-fails : (P : PlainPolicy) (T : Trace) (work : Work) (n bound : ℕ) → IsNumbered T → IsBounded work bound
    → IsBounded (work_after P T work n) (bound + sessions T)
bounded-fails P T work n bound numbered h m is =
    let locations = session_targets P T n AfterRevoke in
    by_case (or_cases (work m) (readers P T locations m) (of_without n m (joined work (readers P T locations)) is).0)
  where
    by_case : (work m ≡ true) ⊎ (readers P T (session_targets P T n AfterRevoke) m ≡ true) → m ≤ bound + sessions T
    by_case (inl there) = omega (arith, h m there)
    by_case (inr reads) = omega (arith, reader_there P T (session_targets P T n AfterRevoke) m numbered reads)

-- it ends so from every trace with fewer accessing sessions
abbrev EndsBelow : PlainPolicy → ℕ → Type 0
EndsBelow P k = (T : Trace) (work : Work) (bound : ℕ) → accessing T < k → IsNumbered T → Covers P T work → IsBounded work bound → WorksOff P T work (settle P T)

-- what the members are, where only so many numbers up to the bound are left
abbrev IsAmongLast : Work → ℕ → ℕ → Type 0
IsAmongLast work left bound = (n : ℕ) → work n ≡ true → bound < n + left

-- the number that is next is in the work, and fails or not
taken : (P : PlainPolicy) (T : Trace) (work : Work) (bound n : ℕ) (o : Option Bytes) → fails_at P T n ≡ o → EndsBelow P (accessing T) → IsNumbered T → Covers P T work
    → IsBounded work bound → IsLeastOf work n → (fails_at P T n ≡ None → WorksOff P T (without n work) (settle P T)) → WorksOff P T work (settle P T)
taken P T work bound n None is below numbered h high least rest = holds n least is (rest is)
taken P T work bound n (Some label) is below numbered h high least rest =
    let f : ℕ × Bytes = (n, label) in
    let U : Trace = extended T (revocation P T f) in
    let found : least_failing P T ≡ Some f = least-work P T work f numbered h least is in
    subst (WorksOff P T work) (sym (settle-turn P T f found))
    (fails f (work_after P T work n) least is (λ m on there. there)
    (below U (work_after P T work n) (bound + sessions T) (falls P T f found) (numbered-revocation P T f numbered) (covers-fails P T work f h)
    (bounded-fails P T work n bound numbered high)))

ends_from : (P : PlainPolicy) (T : Trace) (left bound : ℕ) → EndsBelow P (accessing T) → IsNumbered T → (work : Work) → Covers P T work → IsBounded work bound
    → IsAmongLast work left bound → WorksOff P T work (settle P T)
ends_from P T zero bound below numbered work h high low =
    let empty : (n : ℕ) → work n ≡ false = λ n. false_from_ne_true (work n) (λ there. omega (arith, high n there, low n there)) in
    subst (WorksOff P T work) (sym (settle-over P T (least-empty P T work h empty))) (done empty)
ends_from P T (suc left) bound below numbered work h high low =
    next_number (cases_Bool (work (bound - left))) (ends_from P T left bound below numbered)
  where
    next_number : (work (bound - left) ≡ true) ⊎ (work (bound - left) ≡ false)
        → ((work : Work) → Covers P T work → IsBounded work bound → IsAmongLast work left bound → WorksOff P T work (settle P T))
        → WorksOff P T work (settle P T)
    next_number (inr out) rest =
        let later : IsAmongLast work left bound = λ n there.
        let other : n ≢ bound - left = λ same. (let off : work n ≡ false = subst (λ (m : ℕ). work m ≡ false) (sym same) out in cc) in
        omega (arith, low n there, other) in
        rest work h high later
    next_number (inl there) rest =
        let n : ℕ = bound - left in
        let least : IsLeastOf work n = record { there = there; lower = λ m lt. false_from_ne_true (work m) (λ here. omega (arith, low m here, lt)) } in
        taken P T work bound n (fails_at P T n) refl below numbered h high least
        (λ none. rest (without n work) (covers-holds P T work n h none)
        (λ m is. high m (of_without n m work is).0)
        (λ m is. let both = of_without n m work is in omega (arith, low m both.0, both.1)))

ends_below : (k : ℕ) (P : PlainPolicy) → EndsBelow P k
ends_below zero P T work bound lt numbered h high = absurd (omega arith)
ends_below (suc k) P T work bound lt numbered h high =
    ends_from P T (suc bound) bound (λ U work bound fewer. ends_below k P U work bound (omega (arith, lt, fewer))) numbered work h high (λ n there. omega arith)

-- bounded work that covers is worked off, and by the settling
pub works_off-ends : (P : PlainPolicy) (T : Trace) (work : Work) (bound : ℕ) → IsNumbered T → Covers P T work → IsBounded work bound → WorksOff P T work (settle P T)
works_off-ends P T work bound numbered h high = ends_below (suc (accessing T)) P T work bound (omega arith) numbered h high
