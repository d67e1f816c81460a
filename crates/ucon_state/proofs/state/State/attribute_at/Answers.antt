use Rattle.std.proofs.Common.{◌∙◌, ap, subst, slice_get, option_and_then, List}
use Rattle.std.specs.Slice.{IsItemAt}
use Rattle.ucon_base.specs.declared.value.Value.{Value}
use Rattle.ucon_model.specs.Checked.{checked_policy}
use Rattle.ucon_state.specs.Shown.{right_names}
use Rattle.ucon_state.specs.Views.{lists_of}
use Rattle.ucon_state.proofs.Places.{read_at}
use Rattle.ucon_state.proofs.Stages.{sound_now}
use Rattle.ucon_state.proofs.state.State.attribute_at.Goals as goal

pub cell_number-requires : goal.cell_number-requires
cell_number-requires c =
    sound_now (checked_policy c.args.self.now.planned.checked) (right_names c.args.self.now) c.args.self.now.changes.items (lists_of c.args.self.now.tables) c.args.self.now.sound

pub returns : goal.returns
returns c =
    let cells = (lists_of c.args.self.now.tables).cells in
    let cell = c.in_ok-cell.cell in
    let read = subst (λ (vs : List Value). IsItemAt vs cell c.get.result) c.deref.ensures.value c.get.ensures.lookup in
    read_at cells cell c.get.result read ∙ ap (option_and_then (slice_get cells)) c.in_ok-cell.ensures.cell
