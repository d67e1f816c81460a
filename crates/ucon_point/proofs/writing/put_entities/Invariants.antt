use Rattle.std.proofs.Common.{◌≡◌, ◌++◌, drop}
use Rattle.std.specs.List.{flat_map}
use Rattle.ucon_state.specs.Held.{held}
use Rattle.ucon_point.specs.PointText.{entity_lines}
use Rattle.ucon_point.proofs.writing.put_entities.Given as goal

abbrev pub invariant-loop-number : goal.invariant-loop-number
invariant-loop-number l =
    let h = held l.state in
    l.out.items ++ flat_map (entity_lines h l.side) (drop l.number (h.names l.side)) ≡ l.fn.out.items ++ flat_map (entity_lines h l.side) (h.names l.side)
