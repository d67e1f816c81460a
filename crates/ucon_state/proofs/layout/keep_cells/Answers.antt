use Rattle.std.proofs.Common.{◌≡◌, ◌∙◌, slice_get, sym, ap, List, ◌++◌, ◌+◌, map, filter, drop, Some}
use Rattle.std.proofs.lemmas.Option.{slice_get-get_or}
use Rattle.ucon_base.specs.declared.value.Value.{Value}
use Rattle.ucon_model.specs.Checked.{checked_policy}
use Rattle.ucon_model.specs.Plain.{PlainPolicy}
use Rattle.ucon_model.specs.declared.policy.AttrDecl.{AttrDecl}
use Rattle.ucon_model.specs.Readings.{same_side}
use Rattle.ucon_state.specs.Applied.{kept_cells, kept_value}
use Rattle.ucon_state.specs.Views.{lists_of}
use Rattle.ucon_state.proofs.Laying.{of_side_step}
use Rattle.ucon_state.proofs.layout.keep_cells.Goals as goal

pub loop-decl-preserved : goal.loop-decl-preserved
loop-decl-preserved c =
    let P = checked_policy c.args.old.now in
    let Q = checked_policy c.args.new.now in
    let side = c.args.side in
    let cells = (lists_of c.args.tables.now).cells in
    let f = kept_value P cells side c.args.first in
    let i = c.loop-decl.decl-index in
    let d = c.decl-item.result in
    let whole = c.args.cells.now.items ++ kept_cells P Q cells side c.args.first in
    let attrs_is : c.slice-decl-items.result.now ≡ Q.attrs = c.slice-decl-items.ensures ∙ ap (λ (P : PlainPolicy). P.attrs) c.policy.ensures.policy in
    let at : slice_get Q.attrs i ≡ Some d =
    ap (λ (ds : List AttrDecl). slice_get ds i) (sym attrs_is) ∙ slice_get-get_or c.slice-decl-items.result.now i d c.loop-decl-test.true ∙ ap Some (sym c.decl-item.is) in
    ap (λ (cs : List Value). cs ++ map f (filter (λ d. same_side side d.side) (drop (i + 1) Q.attrs))) c.in_ok-keep_cell.ensures
    ∙ of_side_step side f c.loop-decl.cells.items whole Q.attrs i d at c.loop-decl.invariant
