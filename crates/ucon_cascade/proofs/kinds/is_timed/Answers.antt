use Rattle.std.proofs.Common.{◌≡◌, ◌∙◌, ◌∷◌, [], List, map, ap, refl, subst, sym}
use Rattle.std.proofs.lemmas.List.{take_all}
use Rattle.ucon_model.specs.declared.policy.Predicate.{Predicate}
use Rattle.ucon_model.specs.Views.{predicate_of}
use Rattle.ucon_readers.specs.Limits.{timed_parts}
use Rattle.ucon_cascade.proofs.Untimed.{untimed_more}
use Rattle.ucon_cascade.proofs.kinds.is_timed.Goals as goal

pub loop-p-init : goal.loop-p-init
loop-p-init c = refl

pub loop-p-preserved : goal.loop-p-preserved
loop-p-preserved c =
    untimed_more c.slice-p-items.result.now c.loop-p.p-index c.p-item.result c.loop-p-test.true c.loop-p.invariant
    (subst (λ (q : Predicate). timed_parts (predicate_of q ∷ []) ≡ []) c.p-item.is (c.is_predicate_timed.ensures c.if-is_predicate_timed.false))

pub returns : goal.returns
returns c = λ timed.
    let whole = take_all c.loop-p.p-index c.slice-p-items.result.now c.loop-p-test.false in
    ap (λ (qs : List Predicate). timed_parts (map predicate_of qs)) (sym (whole ∙ c.slice-p-items.ensures)) ∙ c.loop-p.invariant
