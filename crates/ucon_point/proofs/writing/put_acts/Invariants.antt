use Rattle.std.proofs.Common.{◌≡◌, ◌++◌, drop}
use Rattle.std.specs.List.{flat_map}
use Rattle.ucon_state.specs.Held.{held}
use Rattle.ucon_point.specs.PointText.{act_line}
use Rattle.ucon_point.proofs.writing.put_acts.Given as goal

abbrev pub invariant-loop-number : goal.invariant-loop-number
invariant-loop-number l =
    let h = held l.state in
    l.out.items ++ flat_map (act_line h) (drop l.number (h.acts)) ≡ l.fn.out.items ++ flat_map (act_line h) (h.acts)
