use Rattle.std.proofs.Common.{refl}
use Rattle.ucon_model.specs.Action.{act}
use Rattle.ucon_state.specs.Shown.{shown}
use Rattle.ucon_actions.proofs.Stepping.{leads_on}
use Rattle.ucon_actions.proofs.Making.{act_legal}
use Rattle.ucon_actions.proofs.Keeping.{base_by}
use Rattle.ucon_actions.proofs.acts.perform.Goals as goal

pub returns-clause-leads : goal.returns-clause-leads
returns-clause-leads c =
    let keep = c.tables_keep_what_is_followed.ensures in
    let followed = c.each_action_is_followed.ensures.after in
    let s = shown c.args.state.now in
    leads_on followed c.add_act.result s (shown c.add_act.new.self) (act c.args.subject.now c.args.action.now c.args.object.now) _ refl
    (λ P T h. act_legal keep s P T h c.args.subject.now c.args.action.now c.args.object.now c.requires.subject c.requires.object c.requires.named c.requires.room) refl c.add_act.ensures.ok

pub returns-clause-base : goal.returns-clause-base
returns-clause-base c = base_by c.add_act.result (shown c.args.state.now) (shown c.add_act.new.self) _ (λ side name attr cell here. here) c.add_act.ensures.ok c.add_act.ensures.err
