use Rattle.std.proofs.Common.{◌≡◌, drop}
use Rattle.serde_json.specs.Data.{no_members}
use Rattle.serde_json.specs.View.{members_view}
use Rattle.ucon_state.specs.Held.{held}
use Rattle.ucon_audit.specs.Report.{with_variables}
use Rattle.ucon_audit.proofs.state_json.env_value.Given as goal

-- the rest is still to be put
abbrev pub invariant-loop-decl : goal.invariant-loop-decl
invariant-loop-decl l =
    let h = held l.state in
    with_variables h h.policy.envs no_members ≡ with_variables h (drop l.decl-index h.policy.envs) (members_view l.members.entries)
