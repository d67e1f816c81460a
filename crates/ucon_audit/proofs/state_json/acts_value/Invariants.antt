use Rattle.std.proofs.Common.{◌≡◌, ◌++◌, map, drop}
use Rattle.serde_json.specs.View.{view}
use Rattle.ucon_state.specs.Held.{held}
use Rattle.ucon_audit.specs.Report.{act_tree}
use Rattle.ucon_audit.proofs.state_json.acts_value.Given as goal

abbrev pub invariant-loop-number : goal.invariant-loop-number
invariant-loop-number l =
    let h = held l.state in
    map view l.acts.items ++ map (act_tree h) (drop l.number h.acts) ≡ map (act_tree h) h.acts
