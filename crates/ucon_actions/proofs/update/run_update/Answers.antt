use Rattle.std.proofs.Common.{rules, ◌≡◌, ◌∙◌, sym, ap, refl, subst, true}
use Rattle.std.specs.Prelude.{slice_get}
use Rattle.ucon_model.specs.Plain.{PlainPolicy}
use Rattle.ucon_model.specs.Action.{Trace}
use Rattle.ucon_model.specs.Updates.{entity_of, same_when, updates_of}
use Rattle.ucon_model.specs.Views.{update_of}
use Rattle.ucon_state.specs.Following.{Follows}
use Rattle.ucon_state.specs.Shown.{shown}
use Rattle.ucon_state.specs.Tables.{session_in}
use Rattle.ucon_actions.proofs.Updated.{its_place, on_ok, one_written, result_admitted, value_is, with_row}
use Rattle.ucon_actions.proofs.update.run_update.Goals as goal

pub write_own-requires-clause-admitted : goal.write_own-requires-clause-admitted
write_own-requires-clause-admitted c =
    let keep = c.tables_keep_what_is_followed.ensures in
    let s = shown c.args.state.now in
    let u = c.index-updates_in-at.result in
    with_row s.policy (session_in s.tables c.args.n) c.args.at c.requires.at (λ row is.
    let at_place = its_place s c.args.n c.args.at c.updates_in.result.now u row c.updates_in.ensures c.requires.at c.index-updates_in-at.is is in
    result_admitted keep s c.requires.following.policy c.requires.following.trace c.requires.following.follows c.updates_fit.ensures c.args.n c.args.at row (update_of u) c.in_ok-value.value is at_place (search rules))

pub returns-clause-leads : goal.returns-clause-leads
returns-clause-leads c = λ row is.
    let keep = c.tables_keep_what_is_followed.ensures in
    let s = shown c.args.state.now in
    let u = update_of c.index-updates_in-at.result in
    let at_place = its_place s c.args.n c.args.at c.updates_in.result.now c.index-updates_in-at.result row c.updates_in.ensures c.requires.at c.index-updates_in-at.is is in
    let chosen : same_when c.args.when u.when ≡ true = search rules in
    on_ok c.write_own.result (λ leads P T h.
    subst (λ (U : Trace). Follows (shown c.write_own.new.state) P U)
    (one_written P row c.args.when c.args.at u T (entity_of u.side row) c.in_ok-value.value (ap (λ (Q : PlainPolicy). slice_get (updates_of Q row) c.args.at) (sym h.policy) ∙ at_place) chosen refl
    (value_is keep s P T h c.args.n c.args.at row u c.in_ok-value.value is at_place (search rules)))
    (leads P T h))
    (c.write_own.ensures.leads row is)
