use Rattle.std.proofs.Common.{◌≡◌, ◌≤◌}
use Rattle.ucon_model.specs.Plain.{PlainPolicy}
use Rattle.ucon_model.specs.Action.{Trace}
use Rattle.ucon_model.specs.Settle.{settle_within, settled_to, revoked_in}
use Rattle.ucon_state.specs.Following.{Follows}
use Rattle.ucon_state.specs.Shown.{shown}
use Rattle.ucon_actions.specs.Leads.{Leads, KeepsBase}
use Rattle.ucon_plain.proofs.settle.settle.Given as goal

-- so many turns are taken
abbrev pub invariant-turns : goal.invariant-turns
invariant-turns l = record {
  leads : Leads (shown l.fn.state) (shown l.state) (settled_to l.counter);
  revoked : (P : PlainPolicy) (T : Trace) → Follows (shown l.fn.state) P T → l.revoked.items ≡ revoked_in (settle_within l.counter P T);
  base : KeepsBase (shown l.fn.state) (shown l.state);
  later : l.fn.steps ≤ l.steps;
}
