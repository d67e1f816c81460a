use Rattle.std.proofs.Common.{refl, subst}
use Rattle.ucon_model.specs.Plain.{PlainPolicy}
use Rattle.ucon_model.specs.Action.{env}
use Rattle.ucon_model.specs.Fitting.{VariableAdmits}
use Rattle.ucon_state.specs.Shown.{shown}
use Rattle.ucon_actions.proofs.Stepping.{leads_on}
use Rattle.ucon_actions.proofs.Keeping.{base_by, cells_after_env}
use Rattle.ucon_actions.proofs.environment.assign.Goals as goal

pub returns-clause-leads : goal.returns-clause-leads
returns-clause-leads c =
    let followed = c.each_action_is_followed.ensures.after in
    let s = shown c.args.state.now in
    leads_on followed c.set_env.result s (shown c.set_env.new.self) (env c.args.name.now c.args.value) _ refl
    (λ P T h. subst (λ (Q : PlainPolicy). VariableAdmits Q c.args.name.now c.args.value) h.policy c.requires) refl c.set_env.ensures.ok

pub returns-clause-base : goal.returns-clause-base
returns-clause-base c =
    let s = shown c.args.state.now in
    base_by c.set_env.result s (shown c.set_env.new.self) _ (cells_after_env s c.args.name.now c.args.value) c.set_env.ensures.ok c.set_env.ensures.err
