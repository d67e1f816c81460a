-- A list of work that covers is enough: working it off is settling.
use Rattle.std.proofs.Common.{◌≡◌, ◌⊎◌, inl, inr, ℕ, true, false, List, ◌++◌, refl, sym, ap, ◌∙◌, arith}
use Rattle.std.specs.Prelude.{◌≢◌, Some, None}
use Rattle.std.specs.List.{list_any}
use Rattle.std.proofs.lemmas.Bool.{cases_Bool, or_left, or_right, or_parts}
use Rattle.ucon_model.specs.declared.policy.When.TheVariants.{AfterRevoke}
use Rattle.ucon_model.specs.Plain.{Bytes, PlainPolicy}
use Rattle.ucon_model.specs.Action.{Action, Trace, extended}
use Rattle.ucon_model.specs.Readings.{session, is_accessing}
use Rattle.ucon_model.specs.Settle.{fails_at, least_failing, revocation, settle}
use Rattle.ucon_model.specs.Reach.{permits, reached, readers, session_targets}
use Rattle.ucon_model.specs.Sound.{IsNumbered}
use Rattle.ucon_model.specs.Work.{Work, nobody, without, joined, IsEmpty, IsWithin, IsLeastOf, Covers, concerned, work_after, WorksOff, done, holds, fails}
use Rattle.ucon_model.proofs.Turns.{settle-over, settle-turn}
use Rattle.ucon_model.proofs.Frames.{fails_on, failed_before}
use Rattle.ucon_model.specs.Groups.{IsLed, IsNextWork, itself}
use Rattle.ucon_model.proofs.Revoking.{revoked_off, numbered-revocation}
use Rattle.ucon_model.proofs.Firsts.{in_without, firsts-holds, firsts-fails, firsts-least, firsts-empty}

-- ---- what covers

-- more work covers too
pub covers-wider : (P : PlainPolicy) (T : Trace) (work more : Work) → Covers P T work → IsWithin T work more → Covers P T more
covers-wider P T work more h within n label e = within n (fails_on P T n label e) (h n label e)

-- each its own first
led-itself : (P : PlainPolicy) (T : Trace) → IsLed P T itself
led-itself P T = record { on = λ n on. on; low = λ n on. omega arith; like = λ n on. inl refl }

-- who doesn't fail may be left out
pub covers-holds : (P : PlainPolicy) (T : Trace) (work : Work) (n : ℕ) → Covers P T work → fails_at P T n ≡ None → Covers P T (without n work)
covers-holds P T work n h none = firsts-holds P T itself work n (led-itself P T) h none

-- after actions those whom they concern come in
pub covers-actions : (P : PlainPolicy) (T : Trace) (work : Work) (actions : List Action) → Covers P T work
    → Covers P (extended T actions) (joined work (concerned P T actions))
covers-actions P T work actions h n label e = by_test (cases_Bool (concerned P T actions n))
  where
    by_test : (concerned P T actions n ≡ true) ⊎ (concerned P T actions n ≡ false) → joined work (concerned P T actions) n ≡ true
    by_test (inl is) = or_right (work n) (concerned P T actions n) is
    by_test (inr not_one) =
        let both = or_parts (list_any (permits n) actions) (reached P T actions n) not_one in
        or_left (work n) (concerned P T actions n) (h n label (failed_before P T actions n label both.0 both.1 e))

-- where nobody failed, they are enough
pub covers-nobody : (P : PlainPolicy) (T : Trace) (actions : List Action) → ((n : ℕ) → fails_at P T n ≡ None) → Covers P (extended T actions) (concerned P T actions)
covers-nobody P T actions none n label e =
    covers-actions P T nobody actions (λ m l is. absurd (let nothing : fails_at P T m ≡ None = none m in cc)) n label e

-- ---- a revocation

-- after a revocation the others are next, with those who read what its updates wrote
next-itself : (P : PlainPolicy) (T : Trace) (f : ℕ × Bytes) (work : Work) → IsNextWork P T f itself work itself (work_after P T work f.0)
next-itself P T f work =
    let more : Work = readers P T (session_targets P T f.0 AfterRevoke) in
    let U : Trace = extended T (revocation P T f) in
    record {
      led = led-itself P U;
      same = λ n on other. refl;
      kept = λ m other there. in_without f.0 m (joined work more) other (or_left (work m) (more m) there);
      listed = λ n on same. absurd (let off : is_accessing (session U n) ≡ false = gone n same in cc);
      readers = λ n on reads.
          let other : n ≢ f.0 = λ same. (let off : is_accessing (session U n) ≡ false = gone n same in cc) in
          in_without f.0 n (joined work more) other (or_right (work n) (more n) reads);
    }
  where
    gone : (n : ℕ) → n ≡ f.0 → is_accessing (session (extended T (revocation P T f)) n) ≡ false
    gone n same = ap (λ (m : ℕ). is_accessing (session (extended T (revocation P T f)) m)) same ∙ revoked_off P T f

pub covers-fails : (P : PlainPolicy) (T : Trace) (work : Work) (f : ℕ × Bytes) → Covers P T work
    → Covers P (extended T (revocation P T f)) (work_after P T work f.0)
covers-fails P T work f h = firsts-fails P T f itself work itself (work_after P T work f.0) h (next-itself P T f work)

-- ---- the least that fails

-- the least of the work, if it fails, is the least that fails
pub least-work : (P : PlainPolicy) (T : Trace) (work : Work) (f : ℕ × Bytes) → IsNumbered T → Covers P T work → IsLeastOf work f.0
    → fails_at P T f.0 ≡ Some f.1 → least_failing P T ≡ Some f
least-work P T work f numbered h least e = firsts-least P T itself work f numbered (led-itself P T) h least e

-- where there is no work, nobody fails
pub least-empty : (P : PlainPolicy) (T : Trace) (work : Work) → Covers P T work → IsEmpty work → least_failing P T ≡ None
least-empty P T work h empty = firsts-empty P T itself work (led-itself P T) h empty

-- ---- working off

-- working off work that covers is settling
pub works_off-settle : (P : PlainPolicy) (T : Trace) (work : Work) (actions : List Action) → WorksOff P T work actions → IsNumbered T → Covers P T work
    → actions ≡ settle P T
works_off-settle P T work actions (done empty) numbered h = sym (settle-over P T (least-empty P T work h empty))
works_off-settle P T work actions (holds n least here rest) numbered h =
    works_off-settle P T (without n work) actions rest numbered (covers-holds P T work n h here)
works_off-settle P T work actions (fails {actions = later} f next least e within rest) numbered h =
    let U : Trace = extended T (revocation P T f) in
    let settled : later ≡ settle P U =
    works_off-settle P U next later rest (numbered-revocation P T f numbered)
    (covers-wider P U (work_after P T work f.0) next (covers-fails P T work f h) within) in
    ap (λ (xs : List Action). revocation P T f ++ xs) settled ∙ sym (settle-turn P T f (least-work P T work f numbered h least e))
