use Rattle.std.proofs.Common.{◌≡◌, ◌++◌, drop}
use Rattle.std.specs.List.{flat_map}
use Rattle.ucon_state.specs.Held.{held}
use Rattle.ucon_point.specs.PointText.{attribute_line}
use Rattle.ucon_point.proofs.writing.put_attributes.Given as goal

abbrev pub invariant-loop-decl : goal.invariant-loop-decl
invariant-loop-decl l =
    let h = held l.state in
    l.out.items ++ flat_map (attribute_line h l.side l.name) (drop l.decl-index (h.policy.attrs)) ≡ l.fn.out.items ++ flat_map (attribute_line h l.side l.name) (h.policy.attrs)
