use Rattle.std.proofs.Common.{◌≡◌, [], Some, refl, sym, ap, ◌∙◌, subst}
use Rattle.std.specs.Prelude.{option_map}
use Rattle.ucon_model.specs.Checked.{checked_policy}
use Rattle.ucon_model.specs.History.{trace_from}
use Rattle.ucon_model.specs.Work.{NobodyFails}
use Rattle.ucon_syntax.specs.Policies.{accepted}
use Rattle.ucon_store.specs.Kept.{RevokesFew}
use Rattle.ucon_store.specs.Points.{text_in_force}
use Rattle.ucon_store.proofs.starting.start_first.Goals as goal

pub returns-clause-standing : goal.returns-clause-standing
returns-clause-standing g c =
    let P = checked_policy c.in-Some.checked in
    let engine = c.in_ok-engine.engine in
    let entries = c.new.result in
    let none : entries ≡ [] = c.new.ensures in
    let policy = c.in_ok-policy.policy.items in
    let accepts : accepted policy ≡ Some P = ap accepted c.in_ok-policy.ensures ∙ c.in_ok-checked.ensures.policy ∙ ap (option_map checked_policy) c.in-Some.is in
    record {
      P = P;
      accepts = accepts;
      begun = [];
      starts = (refl, refl);
      stands = λ T start. subst (g.E.Engine.follows engine P) (λ i. trace_from P (sym start.1 i) (sym none i)) c.in_ok-engine.ensures;
      settled = λ T start. subst (NobodyFails P) (λ i. trace_from P (sym start.1 i) (sym none i)) (c.no_usage_goes_on_failing.ensures P []);
      revokes = λ T start. subst (RevokesFew P) (sym start.1) (c.revocations_are_few.ensures P);
      in_force = ap (λ v. v.items) c.new-in_force.ensures ∙ (c.in_ok-copied.ensures ∙ (sym c.in_ok-policy.ensures ∙ ap (text_in_force policy) (sym none)));
    }
