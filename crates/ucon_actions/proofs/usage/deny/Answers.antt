use Rattle.std.proofs.Common.{refl, ◌∙◌, sym}
use Rattle.ucon_model.specs.declared.session.SessionState.TheVariants.{Requesting}
use Rattle.ucon_model.specs.Action.{deny}
use Rattle.ucon_state.specs.Shown.{shown}
use Rattle.ucon_actions.proofs.Stepping.{leads_on}
use Rattle.ucon_actions.proofs.Deciding.{in_after, verdict_same}
use Rattle.ucon_actions.proofs.Keeping.{base_by, cells_after_move}
use Rattle.ucon_model.specs.declared.session.SessionState.TheVariants as states
use Rattle.ucon_actions.proofs.usage.deny.Goals as goal

pub returns-clause-leads : goal.returns-clause-leads
returns-clause-leads c =
    let keep = c.tables_keep_what_is_followed.ensures in
    let followed = c.each_action_is_followed.ensures.after in
    let s = shown c.args.state.now in
    leads_on followed c.set_session.result s (shown c.set_session.new.self) (deny c.args.n c.args.label) _ refl
    (λ P T h. (in_after keep s P T h c.args.n Requesting c.requires.requesting, sym (verdict_same keep s P T h c.args.n) ∙ c.requires.verdict)) refl c.set_session.ensures.ok

pub returns-clause-base : goal.returns-clause-base
returns-clause-base c =
    let s = shown c.args.state.now in
    base_by c.set_session.result s (shown c.set_session.new.self) _ (cells_after_move s c.args.n states.Denied) c.set_session.ensures.ok c.set_session.ensures.err
