use Rattle.std.proofs.Common.{◌+◌}
use Rattle.ucon_state.specs.Shown.{shown}
use Rattle.ucon_cascade.specs.Reading.{AreReadBelow}
use Rattle.ucon_readers.specs.Readers.{IsKept}
use Rattle.ucon_cascade.proofs.follow.all_readers.Given as goal

-- so many sessions are read
abbrev pub invariant-loop-before : goal.invariant-loop-before
invariant-loop-before l = record {
  kept : IsKept l.readers;
  read : AreReadBelow (shown l.state) (l.before + 1) l.readers;
}
