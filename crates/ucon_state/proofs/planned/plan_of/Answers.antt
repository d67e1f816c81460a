use Rattle.std.proofs.Common.{◌≡◌, ◌∙◌, ◌+◌, false, List, ap, subst, sym, map, take}
use Rattle.std.specs.Prelude.{Vec}
use Rattle.std.specs.declared.alloc.Global.{Global}
use Rattle.std.proofs.lemmas.List.{take_all}
use Rattle.ucon_model.specs.declared.policy.Predicate.{Predicate}
use Rattle.ucon_model.specs.Decision.{ongoing}
use Rattle.ucon_model.specs.Truth.{truth}
use Rattle.ucon_model.specs.Views.{policy_of, predicate_of}
use Rattle.ucon_state.specs.declared.planned.Check.{Check}
use Rattle.ucon_state.specs.Planned.{AreEnough, IsEnough}
use Rattle.ucon_state.proofs.Planning.{enough_more, enough_still}
use Rattle.ucon_state.proofs.planned.plan_of.Goals as goal
use Rattle.ucon_state.proofs.planned.plan_of.Goals.{then-is_ongoing+in-Some+in_ok-push, else-is_ongoing}

pub loop-p-preserved : goal.loop-p-preserved
loop-p-preserved c =
    let P = policy_of c.args.policy.now in
    let preds = c.slice-p-items.result.now in
    let p = c.p-item.result in
    let Goal = λ (checks : List Check). AreEnough P checks (map predicate_of (take (c.loop-p.p-index + 1) preds)) in
    elim c.if-is_ongoing.branch [
      | then-is_ongoing+in-Some+in_ok-push w ↦
          let enough = subst (λ (q : Predicate). IsEnough P w.in-Some.check (λ R row. truth R row (predicate_of q).test)) c.p-item.is w.in-Some.ensures in
          subst Goal (sym (ap (λ (v : Vec Check Global). v.items) w.checks-is ∙ w.in_ok-push.ensures.items))
          (enough_more P c.loop-p.checks.items preds c.loop-p.p-index p w.in-Some.check c.loop-p-test.true c.loop-p.invariant enough)
      | else-is_ongoing w ↦
          let other = subst (λ (q : Predicate). ongoing (predicate_of q) ≡ false) c.p-item.is (sym w.if-is_ongoing.ensures) in
          subst (λ (v : Vec Check Global). Goal v.items) (sym w.checks-is) (enough_still P c.loop-p.checks.items preds c.loop-p.p-index p c.loop-p-test.true c.loop-p.invariant other)
    ]

pub returns : goal.returns
returns c =
    let whole = take_all c.loop-p.p-index c.slice-p-items.result.now c.loop-p-test.false in
    subst (λ (qs : List Predicate). AreEnough (policy_of c.args.policy.now) c.loop-p.checks.items (map predicate_of qs)) (whole ∙ c.slice-p-items.ensures) c.loop-p.invariant
