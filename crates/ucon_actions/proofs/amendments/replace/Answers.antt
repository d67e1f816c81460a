use Rattle.std.proofs.Common.{◌∙◌, subst}
use Rattle.ucon_model.specs.Checked.{checked_policy}
use Rattle.ucon_model.specs.MayFollow.{MayFollow}
use Rattle.ucon_model.specs.Plain.{PlainPolicy}
use Rattle.ucon_state.specs.Shown.{shown}
use Rattle.ucon_actions.proofs.Stepping.{amending_keeps, amends_on}
use Rattle.ucon_actions.proofs.amendments.replace.Goals as goal

pub returns-clause-leads : goal.returns-clause-leads
returns-clause-leads c =
    let followed = c.each_action_is_followed.ensures.after in
    let s = shown c.args.state.now in
    let a = c.args.a.now in
    amends_on followed c.amend.result s (shown c.amend.new.self) a.text a.policy (checked_policy c.in_ok-checked.checked) (c.in_ok-checked.ensures ∙ c.checked.ensures.policy)
    (λ P T h. (c.checked.ensures.spells.spells, c.checked.ensures.spells.typed, subst (λ (R : PlainPolicy). MayFollow R a.policy) h.policy c.requires)) c.amend.ensures.ok

pub returns-clause-opening : goal.returns-clause-opening
returns-clause-opening c =
    amending_keeps c.amend.result (shown c.args.state.now) (shown c.amend.new.self) (checked_policy c.in_ok-checked.checked) c.amend.ensures.ok c.amend.ensures.err
