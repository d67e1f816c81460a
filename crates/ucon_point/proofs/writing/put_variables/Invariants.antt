use Rattle.std.proofs.Common.{◌≡◌, ◌++◌, drop}
use Rattle.std.specs.List.{flat_map}
use Rattle.ucon_state.specs.Held.{held}
use Rattle.ucon_point.specs.PointText.{variable_line}
use Rattle.ucon_point.proofs.writing.put_variables.Given as goal

abbrev pub invariant-loop-decl : goal.invariant-loop-decl
invariant-loop-decl l =
    let h = held l.state in
    l.out.items ++ flat_map (variable_line h) (drop l.decl-index (h.policy.envs)) ≡ l.fn.out.items ++ flat_map (variable_line h) (h.policy.envs)
