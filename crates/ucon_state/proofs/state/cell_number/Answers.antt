use Rattle.std.proofs.Common.{◌∙◌, sym, ap, ◌+◌, None, option_map, option_and_then, arith}
use Rattle.ucon_model.specs.Checked.{checked_policy}
use Rattle.ucon_model.specs.Plain.{PlainPolicy}
use Rattle.ucon_model.specs.Readings.{attr_position}
use Rattle.ucon_state.specs.Views.{lists_of}
use Rattle.ucon_state.proofs.Places.{cell_is_there, cell_by_parts}
use Rattle.ucon_state.proofs.state.cell_number.Goals as goal

pub returns-in_err-position-clause-cell : goal.returns-in_err-position-clause-cell
returns-in_err-position-clause-cell c =
    let P = checked_policy c.args.checked.now in
    let t = lists_of c.args.tables.now in
    let parts = cell_by_parts P t c.args.side c.args.entity c.args.attr.now c.first_cell.result c.attr_position.result c.first_cell.ensures (c.attr_position.ensures ∙ ap (λ (Q : PlainPolicy). attr_position Q c.args.side c.args.attr.now) c.policy.ensures.policy) in
    let none = ap (λ position. option_and_then (λ f. option_map (λ p. f + p) position) c.first_cell.result) c.in_err-position.was in
    let first = ap (λ o. option_and_then (λ f. option_map (λ p. f + p) None) o) c.in_ok-first.was in
    c.from_residual-in_err-position.ensures ∙ sym (parts ∙ none ∙ first)

pub overflow_add-result : goal.overflow_add-result
overflow_add-result c =
    let P = checked_policy c.args.checked.now in
    let t = lists_of c.args.tables.now in
    let there = cell_is_there P t c.args.side c.args.entity c.args.attr.now c.in_ok-first.first c.in_ok-position.position c.requires
    (sym c.first_cell.ensures ∙ c.in_ok-first.was) (sym (c.attr_position.ensures ∙ ap (λ (Q : PlainPolicy). attr_position Q c.args.side c.args.attr.now) c.policy.ensures.policy) ∙ c.in_ok-position.was) in
    omega (arith, there, c.requires.subjects, c.requires.objects, c.requires.cells)

pub returns-clause-there : goal.returns-clause-there
returns-clause-there c =
    let P = checked_policy c.args.checked.now in
    let t = lists_of c.args.tables.now in
    cell_is_there P t c.args.side c.args.entity c.args.attr.now c.in_ok-first.first c.in_ok-position.position c.requires
    (sym c.first_cell.ensures ∙ c.in_ok-first.was) (sym (c.attr_position.ensures ∙ ap (λ (Q : PlainPolicy). attr_position Q c.args.side c.args.attr.now) c.policy.ensures.policy) ∙ c.in_ok-position.was)
