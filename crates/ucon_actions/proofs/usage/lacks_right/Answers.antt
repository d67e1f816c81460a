use Rattle.std.proofs.Common.{◌∙◌, ap, sym}
use Rattle.std.specs.Prelude.{Option, is_none, option_and_then}
use Rattle.ucon_model.specs.declared.session.SessionRow.{SessionRow}
use Rattle.ucon_model.specs.Decision.{right_named}
use Rattle.ucon_model.specs.Plain.{PlainPolicy}
use Rattle.ucon_state.specs.Shown.{shown}
use Rattle.ucon_actions.proofs.usage.lacks_right.Goals as goal

pub returns-in-Some : goal.returns-in-Some
returns-in-Some c = λ P T h.
    let s = shown c.args.state.now in
    let row = c.in-Some.field-0 in
    let found = option_and_then (λ (row : SessionRow). right_named s.policy.rights row.right) in
    rw (c.session.ensures.trace P T h ∙ c.in-Some.is)
    (ap (λ (Q : PlainPolicy). is_none (right_named Q.rights row.right)) (sym h.policy)
    ∙ ap (λ (o : Option SessionRow). is_none (found o)) (sym c.in-Some.is ∙ c.session.ensures.tables)
    ∙ sym c.has_no_right.ensures)
