use Rattle.std.proofs.Common.{◌≡◌, false, length}
use Rattle.ucon_state.specs.Shown.{shown}
use Rattle.ucon_state.proofs.state.State.undo_all.Given as goal

abbrev pub invariant-loop-undo : goal.invariant-loop-undo
invariant-loop-undo l = record {
  policy : (shown l.self).opening_policy ≡ (shown l.initial.self).opening_policy;
  opening : (shown l.self).opening ≡ (shown l.initial.self).opening;
  rights : l.self.rights ≡ l.initial.self.rights;
  in_no_order : l.self.is_in_order ≡ false;
}

abbrev pub decreases-loop-undo : goal.decreases-loop-undo
decreases-loop-undo l = length l.self.changes.items
