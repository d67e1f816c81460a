use Rattle.std.proofs.Common.{◌≡◌, ◌++◌, drop, length}
use Rattle.ucon_model.specs.Checked.{checked_policy}
use Rattle.ucon_state.specs.Applied.{all_kept_cells, laid_from}
use Rattle.ucon_state.specs.Tables.{entities_of, width}
use Rattle.ucon_state.specs.Views.{lists_of}
use Rattle.ucon_state.proofs.layout.lay.Given as goal

abbrev pub invariant-loop-i : goal.invariant-loop-i
invariant-loop-i l = record {
  entities : l.laid.entries ++ laid_from (length l.cells.items) (width (checked_policy l.new) l.side) (drop l.i (entities_of l.side (lists_of l.tables)))
      ≡ laid_from (length l.fn.cells.items) (width (checked_policy l.new) l.side) (entities_of l.side (lists_of l.tables));
  cells : l.cells.items ++ all_kept_cells (checked_policy l.old) (checked_policy l.new) (lists_of l.tables).cells l.side (drop l.i (entities_of l.side (lists_of l.tables)))
      ≡ l.fn.cells.items ++ all_kept_cells (checked_policy l.old) (checked_policy l.new) (lists_of l.tables).cells l.side (entities_of l.side (lists_of l.tables));
}
