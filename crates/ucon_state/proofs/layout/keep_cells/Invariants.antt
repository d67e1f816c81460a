use Rattle.std.proofs.Common.{◌≡◌, ◌++◌, drop}
use Rattle.std.specs.Prelude.{map, filter}
use Rattle.ucon_model.specs.Checked.{checked_policy}
use Rattle.ucon_model.specs.Readings.{same_side}
use Rattle.ucon_state.specs.Applied.{kept_cells, kept_value}
use Rattle.ucon_state.specs.Views.{lists_of}
use Rattle.ucon_state.proofs.layout.keep_cells.Given as goal

abbrev pub invariant-loop-decl : goal.invariant-loop-decl
invariant-loop-decl l =
    l.cells.items ++ map (kept_value (checked_policy l.old) (lists_of l.tables).cells l.side l.first) (filter (λ d. same_side l.side d.side) (drop l.decl-index (checked_policy l.new).attrs))
    ≡ l.fn.cells.items ++ kept_cells (checked_policy l.old) (checked_policy l.new) (lists_of l.tables).cells l.side l.first
