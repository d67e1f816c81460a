use Rattle.std.proofs.Common.{refl, subst, sym}
use Rattle.std.specs.Prelude.{ℤ, ◌≤ℤ◌}
use Rattle.ucon_model.specs.Action.{tick}
use Rattle.ucon_state.specs.Shown.{shown}
use Rattle.ucon_engine.specs.ReadOff.{tick_same}
use Rattle.ucon_actions.proofs.Stepping.{leads_on}
use Rattle.ucon_actions.proofs.Keeping.{base_by}
use Rattle.ucon_actions.proofs.environment.advance.Goals as goal

pub returns-clause-leads : goal.returns-clause-leads
returns-clause-leads c =
    let keep = c.tables_keep_what_is_followed.ensures in
    let followed = c.each_action_is_followed.ensures.after in
    let s = shown c.args.state.now in
    leads_on followed c.set_tick.result s (shown c.set_tick.new.self) (tick c.args.t) _ refl
    (λ P T h. subst (λ (now : ℤ). now ≤ℤ c.args.t) (sym (tick_same keep s P T h)) c.requires) refl c.set_tick.ensures.ok

pub returns-clause-base : goal.returns-clause-base
returns-clause-base c = base_by c.set_tick.result (shown c.args.state.now) (shown c.set_tick.new.self) _ (λ side name attr cell here. here) c.set_tick.ensures.ok c.set_tick.ensures.err
