use Rattle.std.proofs.Common.{◌∙◌, sym, subst, List, arith}
use Rattle.std.specs.Slice.{IsItemAt}
use Rattle.ucon_base.specs.declared.value.Value.{Value}
use Rattle.ucon_model.specs.Checked.{checked_policy}
use Rattle.ucon_state.specs.Views.{lists_of}
use Rattle.ucon_state.proofs.Places.{read_at, value_by_parts}
use Rattle.ucon_state.proofs.state.State.value_at.Goals as goal

pub returns : goal.returns
returns c =
    let s = c.args.self.now in
    let t = lists_of s.tables in
    let cell = c.in_ok-checked_add.field-0 in
    let read = subst (λ (vs : List Value). IsItemAt vs cell c.get.result) c.deref.ensures.value c.get.ensures.lookup in
    value_by_parts (checked_policy s.planned.checked) t c.args.side c.args.entity c.in_ok-first.first c.args.position cell _
    (sym c.in_ok-first.was ∙ c.first_cell.ensures) (omega (arith, c.in_ok-checked_add.ensures)) (read_at t.cells cell c.get.result read)
