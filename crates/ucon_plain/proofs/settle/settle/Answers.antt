use Rattle.std.proofs.Common.{◌≡◌, ◌≤◌, ◌∙◌, ℕ, ◌++◌, ◌∷◌, [], List, sym, ap, subst, arith}
use Rattle.std.specs.Prelude.{None}
use Rattle.ucon_model.specs.declared.reply.Revoked.{Revoked}
use Rattle.ucon_model.specs.Plain.{PlainPolicy}
use Rattle.ucon_model.specs.Action.{Action, Trace, extended}
use Rattle.ucon_model.specs.Readings.{accessing}
use Rattle.ucon_model.specs.Settle.{least_failing, settled_to, revoked_in}
use Rattle.ucon_state.specs.Following.{Follows}
use Rattle.ucon_state.specs.Shown.{Shown, shown}
use Rattle.ucon_actions.specs.Leads.{KeepsBase}
use Rattle.ucon_plain.proofs.settle.settle.Goals as goal

-- one after the other
base_on : (s s1 s2 : Shown) → KeepsBase s s1 → KeepsBase s1 s2 → KeepsBase s s2
base_on s s1 s2 first then = record {
  policy = then.policy ∙ first.policy;
  opening_policy = then.opening_policy ∙ first.opening_policy;
  opening = then.opening ∙ first.opening;
  cells = λ side name attr cell here. then.cells side name attr cell (first.cells side name attr cell here);
}

pub least_failing-requires : goal.least_failing-requires
least_failing-requires c =
    let P = c.requires.policy in
    let T = c.requires.trace in
    record { policy = P; trace = settled_to c.turns.counter P T; follows = c.turns.invariant.leads P T c.requires.follows }

pub returns-in-None-clause-leads : goal.returns-in-None-clause-leads
returns-in-None-clause-leads c = λ P T h.
    let none : least_failing P (settled_to c.turns.counter P T) ≡ None =
    c.least_failing.ensures.least P (settled_to c.turns.counter P T) (c.turns.invariant.leads P T h) ∙ c.in-None.is in
    let le : c.turns.counter ≤ accessing T = omega (arith, c.turns-test.true, c.accessing-turns.ensures.trace P T h) in
    subst (λ (actions : List Action). Follows (shown c.turns.state) P (extended T actions)) (sym (c.turns_follow_each_other.ensures.done c.turns.counter (accessing T) P T le none)) (c.turns.invariant.leads P T h)

pub returns-in-None-clause-revoked : goal.returns-in-None-clause-revoked
returns-in-None-clause-revoked c = λ P T h.
    let none : least_failing P (settled_to c.turns.counter P T) ≡ None =
    c.least_failing.ensures.least P (settled_to c.turns.counter P T) (c.turns.invariant.leads P T h) ∙ c.in-None.is in
    let le : c.turns.counter ≤ accessing T = omega (arith, c.turns-test.true, c.accessing-turns.ensures.trace P T h) in
    c.turns.invariant.revoked P T h ∙ ap revoked_in (sym (c.turns_follow_each_other.ensures.done c.turns.counter (accessing T) P T le none))

pub revoke_next-requires-clause-following : goal.revoke_next-requires-clause-following
revoke_next-requires-clause-following c =
    let P = c.requires.policy in
    let T = c.requires.trace in
    record { policy = P; trace = settled_to c.turns.counter P T; follows = c.turns.invariant.leads P T c.requires.follows }

pub turns-preserved : goal.turns-preserved
turns-preserved c =
    let s = shown c.args.state.now in
    let s2 = shown c.revoke_next.new.state in
    let i = c.turns.counter in
    let found = c.in-Some.found in
    let least = λ (P : PlainPolicy) (T : Trace) (h : Follows s P T). c.least_failing.ensures.least P (settled_to i P T) (c.turns.invariant.leads P T h) ∙ c.in-Some.is in
    record {
      leads = λ P T h.
          subst (λ (U : Trace). Follows s2 P U) (sym (c.turns_follow_each_other.ensures.trace i P T (found.0, found.1) (least P T h)))
          (c.in_ok-revoke_next-in-Some.ensures.leads P (settled_to i P T) (c.turns.invariant.leads P T h));
      revoked = λ P T h.
          rw c.in_ok-revoke_next-in-Some.ensures.revoked
          (ap (λ (rs : List Revoked). rs ++ record { session = found.0; label = found.1 } ∷ []) (c.turns.invariant.revoked P T h)
          ∙ sym (c.turns_follow_each_other.ensures.revokes i P T (found.0, found.1) (least P T h)));
      base = base_on s (shown c.turns.state) s2 c.turns.invariant.base c.in_ok-revoke_next-in-Some.ensures.base;
      later = omega (arith, c.turns.invariant.later, c.least_failing.ensures.later);
    }

pub returns-clause-leads : goal.returns-clause-leads
returns-clause-leads c = λ P T h.
    let all : c.turns.counter ≡ accessing T = omega (arith, c.turns-test.false, c.turns.auto.counter-end, c.accessing-turns.ensures.trace P T h) in
    subst (λ (k : ℕ). Follows (shown c.turns.state) P (settled_to k P T)) all (c.turns.invariant.leads P T h)

pub returns-in_err-revoke_next-in-Some-clause-base : goal.returns-in_err-revoke_next-in-Some-clause-base
returns-in_err-revoke_next-in-Some-clause-base c =
    base_on (shown c.args.state.now) (shown c.turns.state) (shown c.revoke_next.new.state) c.turns.invariant.base c.in_err-revoke_next-in-Some.ensures.base
