-- What a draft costs is paid for by the touches of its block.
use Rattle.std.proofs.Common.{◌≡◌, ◌≤◌, ◌+◌, ℕ, true, List, [], ◌∷◌, ◌++◌, refl, sym, subst, arith}
use Rattle.std.specs.List.{Contains}
use Rattle.ucon_model.specs.declared.command.Caller.{Caller}
use Rattle.ucon_model.specs.declared.command.Command.{Command}
use Rattle.ucon_model.specs.declared.reply.Head.{Head}
use Rattle.ucon_model.specs.Action.{Action, Trace, subject, object, write, env, tick, act, tries, wait, permit, deny, ends, revoke, amend, extended}
use Rattle.ucon_model.specs.Block.{after, block}
use Rattle.ucon_model.specs.OwnActions.{make, own}
use Rattle.ucon_model.specs.Plain.{PlainPolicy}
use Rattle.ucon_model.specs.Readings.{is_accessing, session, sessions}
use Rattle.ucon_model.specs.Settle.{settle}
use Rattle.ucon_model.specs.Touches.{IsPaid, sum_to, touches_by}
use Rattle.ucon_model.specs.Work.{Work}
use Rattle.ucon_state.specs.Following.{Follows}
use Rattle.ucon_state.specs.Shown.{Shown}
use Rattle.ucon_cascade.specs.Cascading.{work_of}
use Rattle.ucon_cascade.specs.Paid.{CostsItsTouches, GoOnUpTo, touched}
use Rattle.ucon_cascade.proofs.Covering.{is_member}
use Rattle.ucon_cascade.proofs.Monitored.{DoneInOrder, made_after}
use Rattle.ucon_cascade.proofs.Putting.{usage_below}

-- ---- sessions only become more

one_more_action : (T : Trace) (a : Action) → sessions T ≤ sessions (a ∷ T)
one_more_action T (subject name) = omega arith
one_more_action T (object name) = omega arith
one_more_action T (write side name attr v) = omega arith
one_more_action T (env name v) = omega arith
one_more_action T (tick t) = omega arith
one_more_action T (act s a o) = omega arith
one_more_action T (tries n caller s r o) = omega arith
one_more_action T (wait n label) = omega arith
one_more_action T (permit n) = omega arith
one_more_action T (deny n label) = omega arith
one_more_action T (ends n) = omega arith
one_more_action T (revoke n label) = omega arith
one_more_action T (amend text Q) = omega arith

sessions_grow : (actions : List Action) (T : Trace) → sessions T ≤ sessions (extended T actions)
sessions_grow [] T = omega arith
sessions_grow (a ∷ actions) T = omega (arith, one_more_action T a, sessions_grow actions (a ∷ T))

-- ---- what a draft costs

-- where each accessing session of the work was touched, the work is paid for
abbrev pub WorkBeginsPaid : Type 0
WorkBeginsPaid = (P : PlainPolicy) (T : Trace) (actions : List Action) (first : ℕ → ℕ) (work : Work) (k : ℕ)
    → ((n : ℕ) → is_accessing (session (extended T actions) n) ≡ true → work (first n) ≡ true → 1 ≤ touches_by P T actions n)
    → IsPaid P T actions first work 0 k

-- own actions and what settles after them are the block
abbrev pub DraftsAreBlocks : Type 0
DraftsAreBlocks = (P : PlainPolicy) (T : Trace) (caller : Caller) (c : Command) (head : Head) (actions cascade : List Action) → own P T caller c ≡ make head actions
    → settle P (extended T actions) ≡ cascade → block P T caller c ≡ actions ++ cascade

pub draft_is_paid : WorkBeginsPaid → DraftsAreBlocks → DoneInOrder → (s : Shown) (P : PlainPolicy) (T : Trace) (caller : Caller) (c : Command) (head : Head) (actions : List Action)
    (first : ℕ → ℕ) (members : List ℕ) (old new : ℕ) → Follows s P (extended T actions) → own P T caller c ≡ make head actions
    → ((n : ℕ) → is_accessing (session (extended T actions) n) ≡ true → Contains members (first n) → 1 ≤ touches_by P T actions n)
    → CostsItsTouches s first members old new → new ≤ old + touched P T caller c
draft_is_paid begins blocks in_order s P T caller c head actions first members old new h made touched_so costs =
    let U = extended T actions in
    let k = sessions (after P T caller c) in
    let is_block = blocks P T caller c head actions (settle P U) made refl in
    let more : sessions U ≤ k = subst (λ (V : Trace). sessions U ≤ sessions V) (made_after in_order P T caller c head actions made) (sessions_grow (settle P U) U) in
    let up_to : GoOnUpTo s k = λ n goes. (let below = usage_below s n goes in let count = h.tables.sessions.count in omega (arith, below, count, more)) in
    let paid = begins P T actions first (work_of members) k (λ n on has. touched_so n on (is_member (first n) members has)) in
    subst (λ (all : List Action). new ≤ old + sum_to (touches_by P T all) k) (sym is_block) (costs P T actions k h up_to paid)
