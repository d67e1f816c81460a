-- Settling turn by turn.
use Rattle.std.proofs.Common.{◌≡◌, ℕ, zero, suc, ◌≤◌, [], ◌++◌, refl, sym, ◌∙◌, arith}
use Rattle.std.specs.Prelude.{Option, Some, None}
use Rattle.ucon_model.specs.Plain.{Bytes, PlainPolicy}
use Rattle.ucon_model.specs.Action.{Trace, extended}
use Rattle.ucon_model.specs.Readings.{accessing}
use Rattle.ucon_model.specs.Settle.{least_failing, revocation, settle_within, settle}
use Rattle.ucon_model.proofs.Settling.{falls, none_left}
use Rattle.ucon_model.proofs.Cascades.{none_within, turn_within}

-- so many turns are enough, from every trace with at most so many accessing sessions
abbrev Enough : ℕ → PlainPolicy → Type 0
Enough i P = (T : Trace) (k : ℕ) → accessing T ≤ i → accessing T ≤ k → settle_within k P T ≡ settle_within i P T

enough_by : (i : ℕ) (P : PlainPolicy) (T : Trace) (k : ℕ) (o : Option (ℕ × Bytes)) → least_failing P T ≡ o → Enough i P → accessing T ≤ suc i → accessing T ≤ k
    → settle_within k P T ≡ settle_within (suc i) P T
enough_by i P T k None is rest le more = none_within P T k is ∙ sym (none_within P T (suc i) is)
enough_by i P T k (Some f) is rest le more =
    let U : Trace = extended T (revocation P T f) in
    turn_within P T k f (settle_within i P U) is more (λ k few. rest U k (omega (arith, falls P T f is, le)) few)
    ∙ sym (turn_within P T (suc i) f (settle_within i P U) is le (λ k few. rest U k (omega (arith, falls P T f is, le)) few))

enough : (i : ℕ) (P : PlainPolicy) → Enough i P
enough zero P T k le more = none_within P T k (none_left P T (least_failing P T) refl le)
enough (suc i) P T k le more = enough_by i P T k (least_failing P T) refl (enough i P) le more

-- nothing is left to settle
pub settle-over : (P : PlainPolicy) (T : Trace) → least_failing P T ≡ None → settle P T ≡ []
settle-over P T e = none_within P T (accessing T) e

-- the least that fails is revoked, and what is left is settled
pub settle-turn : (P : PlainPolicy) (T : Trace) (f : ℕ × Bytes) → least_failing P T ≡ Some f
    → settle P T ≡ revocation P T f ++ settle P (extended T (revocation P T f))
settle-turn P T f e =
    let U : Trace = extended T (revocation P T f) in
    turn_within P T (accessing T) f (settle P U) e (omega arith) (λ k le. enough (accessing U) P U k (omega arith) le)
