use Rattle.ucon_model.specs.OwnActions.{new_entity}
use Rattle.ucon_state.specs.Shown.{changed_to, shown}
use Rattle.ucon_actions.proofs.Stepping.{one_step}
use Rattle.ucon_actions.proofs.Making.{new_entity_stays, new_entity_legal, new_entity_applied, new_entity_replaces_nothing}
use Rattle.ucon_actions.proofs.Keeping.{changed_base}
use Rattle.std.proofs.Common.{subst, sym}
use Rattle.ucon_state.specs.Tables.{Tables}
use Rattle.ucon_actions.specs.Leads.{KeepsCells}
use Rattle.ucon_actions.proofs.entities.make.Goals as goal

pub returns-clause-leads : goal.returns-clause-leads
returns-clause-leads c = λ P T h.
    let keep = c.tables_keep_what_is_followed.ensures in
    let followed = c.each_action_is_followed.ensures.after in
    let s = shown c.args.state.now in
    one_step followed s (shown c.add_entity.new.self) P T (new_entity c.args.side c.args.name) _ (new_entity_stays s c.args.side c.args.name) h (new_entity_legal keep s P T h c.args.side c.args.name c.requires.new c.requires.room)
    c.in_ok-add_entity.ensures.ok (new_entity_applied s c.args.side c.args.name)

pub returns-clause-base : goal.returns-clause-base
returns-clause-base c =
    let keep = c.tables_keep_what_is_followed.ensures in
    let s = shown c.args.state.now in
    let P = c.requires.following.policy in
    let T = c.requires.following.trace in
    let h = c.requires.following.follows in
    let stay = c.cells_are_of_one_attribute.ensures.stay s P T (new_entity c.args.side c.args.name) h (new_entity_legal keep s P T h c.args.side c.args.name c.requires.new c.requires.room)
    (new_entity_replaces_nothing c.args.side c.args.name) in
    changed_base s (shown c.add_entity.new.self) _ c.in_ok-add_entity.ensures.ok
    (subst (λ (t : Tables). KeepsCells s (changed_to s t)) (sym (new_entity_applied s c.args.side c.args.name)) stay)
