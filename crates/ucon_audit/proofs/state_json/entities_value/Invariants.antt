use Rattle.std.proofs.Common.{◌≡◌, Some, drop}
use Rattle.serde_json.specs.Data.{no_members}
use Rattle.serde_json.specs.View.{members_view}
use Rattle.ucon_state.specs.Held.{held}
use Rattle.ucon_audit.specs.Report.{entity_tree, with_members}
use Rattle.ucon_audit.proofs.state_json.entities_value.Given as goal

-- the rest is still to be put
abbrev pub invariant-loop-number : goal.invariant-loop-number
invariant-loop-number l =
    let h = held l.state in
    with_members (λ name. Some (entity_tree h l.side name)) (h.names l.side) no_members
    ≡ with_members (λ name. Some (entity_tree h l.side name)) (drop l.number (h.names l.side)) (members_view l.members.entries)
