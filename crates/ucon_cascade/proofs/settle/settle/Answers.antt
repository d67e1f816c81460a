use Rattle.std.proofs.Common.{◌≡◌, ◌≤◌, ◌+◌, ◌∙◌, ℕ, ◌++◌, ◌∷◌, [], List, sym, ap, refl, subst, arith}
use Rattle.std.specs.Prelude.{None}
use Rattle.ucon_model.specs.declared.reply.Revoked.{Revoked}
use Rattle.ucon_model.specs.Plain.{PlainPolicy}
use Rattle.ucon_model.specs.Action.{Action, Trace, extended}
use Rattle.ucon_model.specs.Readings.{accessing}
use Rattle.ucon_model.specs.Settle.{least_failing, settle_within, settled_to, revoked_in}
use Rattle.ucon_state.specs.Following.{Follows}
use Rattle.ucon_state.specs.Shown.{shown}
use Rattle.ucon_readers.specs.Readers.{first_of}
use Rattle.ucon_readers.specs.Timers.{deadlines_in}
use Rattle.ucon_cascade.specs.Timely.{AreTimely}
use Rattle.ucon_cascade.proofs.Costing.{cost_is_paid, found_is_paid, paid_on, paid_turn}
use Rattle.ucon_cascade.proofs.Monitored.{base_on}
use Rattle.ucon_cascade.proofs.settle.settle.Goals as goal

pub next_failing-requires-clause-following : goal.next_failing-requires-clause-following
next_failing-requires-clause-following c =
    let P = c.requires.following.policy in
    let T = c.requires.following.trace in
    record { policy = P; trace = settled_to c.turns.counter P T; follows = c.turns.invariant.leads P T c.requires.following.follows }

pub returns-in-None-clause-leads : goal.returns-in-None-clause-leads
returns-in-None-clause-leads c = λ P T h.
    let none : least_failing P (settled_to c.turns.counter P T) ≡ None =
    c.next_failing.ensures.least P (settled_to c.turns.counter P T) (c.turns.invariant.leads P T h) ∙ c.in-None.is in
    let le : c.turns.counter ≤ accessing T = omega (arith, c.turns-test.true, c.accessing-usages.ensures.trace P T h) in
    subst (λ (actions : List Action). Follows (shown c.turns.state) P (extended T actions)) (sym (c.turns_follow_each_other.ensures.done c.turns.counter (accessing T) P T le none)) (c.turns.invariant.leads P T h)

pub returns-in-None-clause-revoked : goal.returns-in-None-clause-revoked
returns-in-None-clause-revoked c = λ P T h.
    let none : least_failing P (settled_to c.turns.counter P T) ≡ None =
    c.next_failing.ensures.least P (settled_to c.turns.counter P T) (c.turns.invariant.leads P T h) ∙ c.in-None.is in
    let le : c.turns.counter ≤ accessing T = omega (arith, c.turns-test.true, c.accessing-usages.ensures.trace P T h) in
    c.turns.invariant.revoked P T h ∙ ap revoked_in (sym (c.turns_follow_each_other.ensures.done c.turns.counter (accessing T) P T le none))

pub revoke_next-requires-clause-following : goal.revoke_next-requires-clause-following
revoke_next-requires-clause-following c =
    let P = c.requires.following.policy in
    let T = c.requires.following.trace in
    record { policy = P; trace = settled_to c.turns.counter P T; follows = c.turns.invariant.leads P T c.requires.following.follows }

pub turns-preserved : goal.turns-preserved
turns-preserved c =
    let s = shown c.args.state.now in
    let s1 = shown c.turns.state in
    let s2 = shown c.revoke_next.new.state in
    let i = c.turns.counter in
    let found = c.in-Some.found in
    let least = λ (P : PlainPolicy) (T : Trace) (h : Follows s P T). c.next_failing.ensures.least P (settled_to i P T) (c.turns.invariant.leads P T h) ∙ c.in-Some.is in
    record {
      leads = λ P T h.
          subst (λ (U : Trace). Follows s2 P U) (sym (c.turns_follow_each_other.ensures.trace i P T (found.0, found.1) (least P T h)))
          (c.in_ok-revoke_next-in-Some.ensures.leads P (settled_to i P T) (c.turns.invariant.leads P T h));
      revoked = λ P T h.
          rw c.in_ok-revoke_next-in-Some.ensures.revoked
          (ap (λ (rs : List Revoked). rs ++ record { session = found.0; label = found.1 } ∷ []) (c.turns.invariant.revoked P T h)
          ∙ sym (c.turns_follow_each_other.ensures.revokes i P T (found.0, found.1) (least P T h)));
      work = c.in_ok-revoke_next-in-Some.ensures.work;
      exact = c.in_ok-revoke_next-in-Some.ensures.exact;
      undo = λ standing first gives. c.in_ok-revoke_next-in-Some.ensures.undo standing first (c.turns.invariant.undo standing first gives);
      timed = λ P T h timely.
          subst (λ (U : Trace). AreTimely (deadlines_in c.revoke_next.new.timers) P U) (sym (c.turns_follow_each_other.ensures.trace i P T (found.0, found.1) (least P T h)))
          (c.in_ok-revoke_next-in-Some.ensures.timed P (settled_to i P T) (c.turns.invariant.leads P T h) (c.turns.invariant.timed P T h timely));
      timers_undo = λ before gives. c.in_ok-revoke_next-in-Some.ensures.timers_undo before (c.turns.invariant.timers_undo before gives);
      paid =
          paid_turn c.actions_are_done_in_order.ensures s s1 (first_of c.args.readers.now) c.args.work.now.members i (first_of c.turns.readers) (first_of c.revoke_next.new.readers)
          c.next_failing.new.work.members c.revoke_next.new.work.members (found.0, found.1) c.args.steps.now c.next_failing.new.steps c.turns.invariant.leads c.turns.invariant.fewer
          (λ P T h. c.turns_follow_each_other.ensures.more i P T (found.0, found.1) (least P T h))
          (paid_on c.actions_are_done_in_order.ensures s s1 (first_of c.args.readers.now) c.args.work.now.members i (first_of c.turns.readers) c.turns.work.members
          (found.0 ∷ c.next_failing.new.work.members) c.args.steps.now (c.args.steps.now + 1) c.turns.steps (c.turns.steps + 1) c.next_failing.new.steps c.turns.invariant.leads
          c.turns.invariant.fewer (omega arith) c.turns.invariant.paid (c.in-Some.ensures.found (first_of c.turns.readers) c.turns.invariant.work))
          c.in_ok-revoke_next-in-Some.ensures.paid;
      fewer = λ k up_to n goes. c.turns.invariant.fewer k up_to n (c.in_ok-revoke_next-in-Some.ensures.fewer n goes);
      limit = c.in_ok-revoke_next-in-Some.ensures.limit ∙ (c.next_failing.ensures.limit ∙ c.turns.invariant.limit);
      base = base_on s s1 s2 c.turns.invariant.base c.in_ok-revoke_next-in-Some.ensures.base;
      later = omega (arith, c.turns.invariant.later, c.next_failing.ensures.later);
    }

pub returns-clause-leads : goal.returns-clause-leads
returns-clause-leads c = λ P T h.
    let all : c.turns.counter ≡ accessing T = omega (arith, c.turns-test.false, c.turns.auto.counter-end, c.accessing-usages.ensures.trace P T h) in
    subst (λ (k : ℕ). Follows (shown c.turns.state) P (settled_to k P T)) all (c.turns.invariant.leads P T h)

pub returns-in_err-revoke_next-in-Some-clause-base : goal.returns-in_err-revoke_next-in-Some-clause-base
returns-in_err-revoke_next-in-Some-clause-base c =
    base_on (shown c.args.state.now) (shown c.turns.state) (shown c.revoke_next.new.state) c.turns.invariant.base c.revoke_next.ensures.base

pub returns-in_err-revoke_next-in-Some-clause-undo : goal.returns-in_err-revoke_next-in-Some-clause-undo
returns-in_err-revoke_next-in-Some-clause-undo c = λ standing first gives. c.revoke_next.ensures.undo standing first (c.turns.invariant.undo standing first gives)

pub returns-in-None-clause-cost : goal.returns-in-None-clause-cost
returns-in-None-clause-cost c =
    let s = shown c.args.state.now in
    let s1 = shown c.turns.state in
    let i = c.turns.counter in
    let first = first_of c.args.readers.now in
    let now_first = first_of c.turns.readers in
    cost_is_paid s first c.args.work.now.members i now_first c.next_failing.new.work.members c.args.steps.now c.next_failing.new.steps
    (λ P T h. omega (arith, c.turns-test.true, c.accessing-usages.ensures.trace P T h))
    (paid_on c.actions_are_done_in_order.ensures s s1 first c.args.work.now.members i now_first c.turns.work.members c.next_failing.new.work.members
    c.args.steps.now c.args.steps.now c.turns.steps c.turns.steps c.next_failing.new.steps c.turns.invariant.leads c.turns.invariant.fewer
    (omega arith) c.turns.invariant.paid (c.in-None.ensures.paid now_first c.turns.invariant.work))

pub returns-in_err-revoke_next-in-Some-clause-cost : goal.returns-in_err-revoke_next-in-Some-clause-cost
returns-in_err-revoke_next-in-Some-clause-cost c =
    let s = shown c.args.state.now in
    let s1 = shown c.turns.state in
    let i = c.turns.counter in
    let found = c.in-Some.found in
    let first = first_of c.args.readers.now in
    let now_first = first_of c.turns.readers in
    let work = c.in-Some.ensures.work now_first c.turns.invariant.work in
    found_is_paid c.judgements_are_paid_for.ensures.holds c.actions_are_done_in_order.ensures s s1 first c.args.work.now.members i now_first c.next_failing.new.work.members
    (found.0, found.1) c.args.steps.now c.next_failing.new.steps c.turns.invariant.leads c.turns.invariant.fewer c.in-Some.ensures.fails
    (work.firsts found.0 (0, omega arith, refl))
    (λ P T h. omega (arith, c.turns-test.true, c.accessing-usages.ensures.trace P T h))
    (paid_on c.actions_are_done_in_order.ensures s s1 first c.args.work.now.members i now_first c.turns.work.members (found.0 ∷ c.next_failing.new.work.members)
    c.args.steps.now (c.args.steps.now + 1) c.turns.steps (c.turns.steps + 1) c.next_failing.new.steps c.turns.invariant.leads c.turns.invariant.fewer
    (omega arith) c.turns.invariant.paid (c.in-Some.ensures.found now_first c.turns.invariant.work))

pub returns-clause-cost : goal.returns-clause-cost
returns-clause-cost c =
    let s = shown c.args.state.now in
    cost_is_paid s (first_of c.args.readers.now) c.args.work.now.members c.turns.counter (first_of c.turns.readers) c.turns.work.members c.args.steps.now c.turns.steps
    (λ P T h. omega (arith, c.turns-test.false, c.turns.auto.counter-end, c.accessing-usages.ensures.trace P T h))
    c.turns.invariant.paid

pub returns-in-None-clause-timed : goal.returns-in-None-clause-timed
returns-in-None-clause-timed c = λ P T h timely.
    let none : least_failing P (settled_to c.turns.counter P T) ≡ None =
    c.next_failing.ensures.least P (settled_to c.turns.counter P T) (c.turns.invariant.leads P T h) ∙ c.in-None.is in
    let le : c.turns.counter ≤ accessing T = omega (arith, c.turns-test.true, c.accessing-usages.ensures.trace P T h) in
    subst (λ (actions : List Action). AreTimely (deadlines_in c.turns.timers) P (extended T actions)) (sym (c.turns_follow_each_other.ensures.done c.turns.counter (accessing T) P T le none))
    (c.turns.invariant.timed P T h timely)

pub returns-clause-timed : goal.returns-clause-timed
returns-clause-timed c = λ P T h timely.
    let all : c.turns.counter ≡ accessing T = omega (arith, c.turns-test.false, c.turns.auto.counter-end, c.accessing-usages.ensures.trace P T h) in
    subst (λ (k : ℕ). AreTimely (deadlines_in c.turns.timers) P (settled_to k P T)) all (c.turns.invariant.timed P T h timely)

pub returns-in_err-revoke_next-in-Some-clause-timers_undo : goal.returns-in_err-revoke_next-in-Some-clause-timers_undo
returns-in_err-revoke_next-in-Some-clause-timers_undo c = λ before gives. c.revoke_next.ensures.timers_undo before (c.turns.invariant.timers_undo before gives)

pub next_failing-requires-clause-work : goal.next_failing-requires-clause-work
next_failing-requires-clause-work c = (first_of c.turns.readers, c.turns.invariant.work)

pub returns-clause-revoked : goal.returns-clause-revoked
returns-clause-revoked c = λ P T h.
    let all : c.turns.counter ≡ accessing T = omega (arith, c.turns-test.false, c.turns.auto.counter-end, c.accessing-usages.ensures.trace P T h) in
    c.turns.invariant.revoked P T h ∙ ap (λ (k : ℕ). revoked_in (settle_within k P T)) all
