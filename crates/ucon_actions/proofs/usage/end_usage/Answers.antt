use Rattle.std.proofs.Common.{refl, ◌∷◌}
use Rattle.ucon_model.specs.declared.session.SessionState.TheVariants.{Accessing}
use Rattle.ucon_model.specs.Action.{ends}
use Rattle.ucon_state.specs.Shown.{shown}
use Rattle.ucon_actions.proofs.Stepping.{one_step}
use Rattle.ucon_actions.proofs.Updated.{on_ok}
use Rattle.ucon_actions.proofs.Deciding.{in_after}
use Rattle.ucon_actions.proofs.Keeping.{base_on, cells_after_move, changed_base}
use Rattle.ucon_model.specs.declared.session.SessionState.TheVariants as states
use Rattle.ucon_actions.proofs.usage.end_usage.Goals as goal

pub run_updates-requires : goal.run_updates-requires
run_updates-requires c =
    let keep = c.tables_keep_what_is_followed.ensures in
    let followed = c.each_action_is_followed.ensures.after in
    let s = shown c.args.state.now in
    let P = c.requires.following.policy in
    let T = c.requires.following.trace in
    let h = c.requires.following.follows in
    record {
      policy = P;
      trace = ends c.args.n ∷ T;
      follows = one_step followed s (shown c.set_session.new.self) P T (ends c.args.n) _ refl h (in_after keep s P T h c.args.n Accessing c.requires.accessing) c.in_ok-set_session.ensures.ok refl;
    }

pub returns-clause-leads : goal.returns-clause-leads
returns-clause-leads c =
    let keep = c.tables_keep_what_is_followed.ensures in
    let followed = c.each_action_is_followed.ensures.after in
    let s = shown c.args.state.now in
    let s1 = shown c.set_session.new.self in
    on_ok c.run_updates.result
    (λ leads P T h. leads P (ends c.args.n ∷ T) (one_step followed s s1 P T (ends c.args.n) _ refl h (in_after keep s P T h c.args.n Accessing c.requires.accessing) c.in_ok-set_session.ensures.ok refl))
    c.run_updates.ensures.leads

pub returns-clause-base : goal.returns-clause-base
returns-clause-base c =
    let s = shown c.args.state.now in
    let s1 = shown c.set_session.new.self in
    base_on s s1 (shown c.run_updates.new.state) (changed_base s s1 _ c.in_ok-set_session.ensures.ok (cells_after_move s c.args.n states.Ended)) c.run_updates.ensures.base
