use Rattle.std.proofs.Common.{map, take}
use Rattle.ucon_model.specs.Views.{right_of}
use Rattle.ucon_state.specs.Sound.{StandFirst}
use Rattle.ucon_state.proofs.state.stand_first.Given as goal

-- so many of them do
abbrev pub invariant-loop-at : goal.invariant-loop-at
invariant-loop-at l = record {
  stand : StandFirst (map right_of (take l.at l.rights)) l.names;
}
