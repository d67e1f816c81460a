use Rattle.std.proofs.Common.{◌≡◌, ◌+◌}
use Rattle.ucon_state.specs.Shown.{shown}
use Rattle.ucon_cascade.specs.Putting.{GainsFirsts}
use Rattle.ucon_readers.specs.Readers.{first_of}
use Rattle.ucon_cascade.proofs.Putting.{GoOnBelow}
use Rattle.ucon_cascade.proofs.own_work.put_accessing.Given as goal

-- of so many sessions those whose usages go on are in the work
abbrev pub invariant-loop-before : goal.invariant-loop-before
invariant-loop-before l = record {
  members : GainsFirsts (first_of l.readers) l.initial.work.members l.work.members (GoOnBelow (shown l.state) (l.before + 1));
  limit : l.work.limit ≡ l.initial.work.limit;
}
