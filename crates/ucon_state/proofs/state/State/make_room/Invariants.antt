use Rattle.std.proofs.Common.{◌≡◌}
use Rattle.ucon_state.specs.Shown.{shown, right_names}
use Rattle.ucon_state.proofs.Amended.{AreNamed}
use Rattle.ucon_state.proofs.state.State.make_room.Given as goal

abbrev pub invariant-loop-right : goal.invariant-loop-right
invariant-loop-right l = record {
  shown_stays : shown l.self ≡ shown l.initial.self;
  named : AreNamed (right_names l.self) l.right-items l.right-index;
}
