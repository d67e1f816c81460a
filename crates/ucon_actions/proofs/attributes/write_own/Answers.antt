use Rattle.std.proofs.Common.{refl, ◌≡◌, ◌∙◌, sym, ap, subst, option_and_then, Some}
use Rattle.ucon_model.specs.declared.session.SessionRow.{SessionRow}
use Rattle.ucon_model.specs.Plain.{PlainPolicy}
use Rattle.ucon_model.specs.Fitting.{AttributeAdmits}
use Rattle.ucon_model.specs.Action.{write}
use Rattle.ucon_model.specs.Updates.{entity_of}
use Rattle.ucon_state.specs.Shown.{shown}
use Rattle.ucon_state.specs.Tables.{cell_of, session_in}
use Rattle.ucon_actions.proofs.AttributeCells.{own_admits, there_by_cell, write_into}
use Rattle.ucon_engine.specs.ReadOff.{entity_there}
use Rattle.ucon_actions.proofs.Stepping.{leads_on}
use Rattle.ucon_actions.proofs.Keeping.{base_by}
use Rattle.ucon_actions.proofs.attributes.write_own.Goals as goal

pub write-requires : goal.write-requires
write-requires c =
    let s = shown c.args.state.now in
    own_admits s.policy s.tables c.args.side c.args.attr.now c.in-Some.cell c.args.value (session_in s.tables c.args.n) (sym c.own_cell.ensures.cell ∙ c.in-Some.is) c.requires.admitted

pub returns-clause-leads : goal.returns-clause-leads
returns-clause-leads c = λ row is.
    let keep = c.tables_keep_what_is_followed.ensures in
    let followed = c.each_action_is_followed.ensures.after in
    let s = shown c.args.state.now in
    let name = entity_of c.args.side row in
    let here : cell_of s.policy s.tables c.args.side name c.args.attr.now ≡ Some c.in-Some.cell =
    sym (ap (option_and_then (λ (row : SessionRow). cell_of s.policy s.tables c.args.side (entity_of c.args.side row) c.args.attr.now)) is) ∙ sym c.own_cell.ensures.cell ∙ c.in-Some.is in
    leads_on followed c.write.result s (shown c.write.new.self) (write c.args.side name c.args.attr.now c.args.value) _ refl
    (λ P T h. (
      entity_there keep s P T h c.args.side name ∙ there_by_cell s.policy s.tables c.args.side c.args.attr.now c.in-Some.cell name here,
      subst (λ (Q : PlainPolicy). AttributeAdmits Q c.args.side c.args.attr.now c.args.value) h.policy c.requires.admitted,
    ))
    (write_into s.policy s.tables c.args.side name c.args.attr.now c.args.value c.in-Some.cell here) c.write.ensures.ok

pub returns-clause-base : goal.returns-clause-base
returns-clause-base c = base_by c.write.result (shown c.args.state.now) (shown c.write.new.self) _ (λ side name attr cell here. here) c.write.ensures.ok c.write.ensures.err
