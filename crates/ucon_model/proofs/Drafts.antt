-- What a draft makes: the block of a command, its reply and its cost, and who fails after it.
use Rattle.std.proofs.Common.{◌≡◌, ℕ, zero, suc, ◌≤◌, List, [], ◌++◌, sym, ap, subst, ◌∙◌}
use Rattle.std.specs.Prelude.{Option, Some, None}
use Rattle.std.specs.Option.{option_map_or}
use Rattle.ucon_model.specs.declared.command.Caller.{Caller}
use Rattle.ucon_model.specs.declared.command.Command.{Command}
use Rattle.ucon_model.specs.declared.reply.Head.{Head}
use Rattle.ucon_model.specs.Plain.{Bytes, PlainPolicy, made}
use Rattle.ucon_model.specs.Action.{Action, Trace, extended, followed_by}
use Rattle.ucon_model.specs.Readings.{accessing}
use Rattle.ucon_model.specs.OwnActions.{make, own}
use Rattle.ucon_model.specs.Settle.{fails_at, least_failing, revocation, settle_within, settle, revoked_in}
use Rattle.ucon_model.specs.Block.{own_block, own_reply, block, reply}
use Rattle.ucon_model.specs.Sound.{IsNumbered}
use Rattle.ucon_model.specs.Work.{Work}
use Rattle.ucon_model.specs.Touches.{touches_by, sum_to, IsPaid}
use Rattle.ucon_model.proofs.Extending.{extended-append}
use Rattle.ucon_model.proofs.Settling.{least_failing-settle}
use Rattle.ucon_model.proofs.LeastFailing.{nobody_fails}
use Rattle.ucon_model.proofs.Touches.{paid-ends}
use Rattle.ucon_model.proofs.Revoking.{numbered-revocation}

-- ---- the block and the reply

-- own actions and the cascade after them are the block
pub block-made : (P : PlainPolicy) (T : Trace) (caller : Caller) (c : Command) (head : Head) (actions cascade : List Action)
    → own P T caller c ≡ make head actions → settle P (extended T actions) ≡ cascade → block P T caller c ≡ actions ++ cascade
block-made P T caller c head actions cascade e settled = ap (own_block P T) e ∙ ap (λ (xs : List Action). actions ++ xs) settled

pub reply-made : (P : PlainPolicy) (T : Trace) (caller : Caller) (c : Command) (head : Head) (actions cascade : List Action)
    → own P T caller c ≡ make head actions → settle P (extended T actions) ≡ cascade → reply P T caller c ≡ made head (revoked_in cascade)
reply-made P T caller c head actions cascade e settled = ap (own_reply P T) e ∙ ap (λ (xs : List Action). made head (revoked_in xs)) settled

-- where the judgements of a draft are paid for, they are no more than the touches of the block
pub draft-cost : (P : PlainPolicy) (T : Trace) (caller : Caller) (c : Command) (head : Head) (actions cascade : List Action) (first : ℕ → ℕ) (work : Work) (steps k : ℕ)
    → own P T caller c ≡ make head actions → settle P (extended T actions) ≡ cascade → IsPaid P T (actions ++ cascade) first work steps k
    → steps ≤ sum_to (touches_by P T (block P T caller c)) k
draft-cost P T caller c head actions cascade first work steps k e settled paid =
    subst (λ (xs : List Action). steps ≤ sum_to (touches_by P T xs) k) (sym (block-made P T caller c head actions cascade e settled))
    (paid-ends P T (actions ++ cascade) first work steps k paid)

-- ---- after settling

numbered_by : (P : PlainPolicy) (T : Trace) (k : ℕ) (o : Option (ℕ × Bytes)) → IsNumbered T
    → ((U : Trace) → IsNumbered U → IsNumbered (extended U (settle_within k P U)))
    → IsNumbered (extended T (option_map_or (λ f. followed_by (revocation P T f) (settle_within k P) T) o []))
numbered_by P T k None h rest = h
numbered_by P T k (Some f) h rest =
    let U : Trace = extended T (revocation P T f) in
    subst IsNumbered (sym (extended-append T (revocation P T f) (settle_within k P U))) (rest U (numbered-revocation P T f h))

numbered_within : (k : ℕ) (P : PlainPolicy) (T : Trace) → IsNumbered T → IsNumbered (extended T (settle_within k P T))
numbered_within zero P T h = h
numbered_within (suc k) P T h = numbered_by P T k (least_failing P T) h (numbered_within k P)

-- nobody fails
pub nobody_fails-settle : (P : PlainPolicy) (T : Trace) (n : ℕ) → IsNumbered T → fails_at P (extended T (settle P T)) n ≡ None
nobody_fails-settle P T n h = nobody_fails P (extended T (settle P T)) (numbered_within (accessing T) P T h) (least_failing-settle P T) n
