use Rattle.std.proofs.Common.{refl, rules, ◌∙◌, ap, is_some, subst}
use Rattle.ucon_model.specs.Plain.{PlainPolicy}
use Rattle.ucon_model.specs.Fitting.{AttributeAdmits}
use Rattle.ucon_model.specs.Action.{write}
use Rattle.ucon_state.specs.Shown.{shown}
use Rattle.ucon_actions.proofs.AttributeCells.{write_applied}
use Rattle.ucon_engine.specs.ReadOff.{entity_there}
use Rattle.ucon_actions.proofs.Stepping.{leads_on}
use Rattle.ucon_actions.proofs.Keeping.{base_by}
use Rattle.ucon_actions.proofs.attributes.write.Goals as goal

pub returns-clause-leads : goal.returns-clause-leads
returns-clause-leads c =
    let keep = c.tables_keep_what_is_followed.ensures in
    let followed = c.each_action_is_followed.ensures.after in
    let s = shown c.args.state.now in
    leads_on followed c.write.result s (shown c.write.new.self) (write c.args.side c.args.name.now c.args.attr.now c.args.value) _ refl
    (λ P T h. (entity_there keep s P T h c.args.side c.args.name.now ∙ ap is_some c.requires.there, subst (λ (Q : PlainPolicy). AttributeAdmits Q c.args.side c.args.attr.now c.args.value) h.policy c.requires.admitted))
    (write_applied s.policy s.tables c.args.side c.args.name.now c.args.attr.now c.args.value c.args.entity c.in-Some.cell c.requires.there (search rules)) c.write.ensures.ok

pub returns-clause-base : goal.returns-clause-base
returns-clause-base c = base_by c.write.result (shown c.args.state.now) (shown c.write.new.self) _ (λ side name attr cell here. here) c.write.ensures.ok c.write.ensures.err
