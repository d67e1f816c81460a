use Rattle.std.proofs.Common.{◌≡◌, drop}
use Rattle.serde_json.specs.Data.{no_members}
use Rattle.serde_json.specs.View.{members_view}
use Rattle.ucon_state.specs.Held.{held}
use Rattle.ucon_audit.specs.Report.{with_attributes}
use Rattle.ucon_audit.proofs.state_json.entity_value.Given as goal

-- the rest is still to be put
abbrev pub invariant-loop-decl : goal.invariant-loop-decl
invariant-loop-decl l =
    let h = held l.state in
    with_attributes h l.side l.name h.policy.attrs no_members
    ≡ with_attributes h l.side l.name (drop l.decl-index h.policy.attrs) (members_view l.members.entries)
