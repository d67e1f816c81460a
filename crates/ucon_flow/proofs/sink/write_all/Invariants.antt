use Rattle.std.proofs.Common.{◌≡◌, length, ◌+◌, ◌-◌, ◌≤◌, take}
use Rattle.std.specs.Io.KnownBytes.{Appends}
use Rattle.ucon_flow.proofs.sink.write_all.Given as goal

-- what was taken so far has gone out, at least a byte a write
abbrev pub invariant-loop-at : goal.invariant-loop-at
invariant-loop-at g l = record {
  within : l.at ≤ length l.bytes;
  sent : Appends (g.K.Sink.seen l.fn.sink).contents (g.K.Sink.seen l.sink).contents (take l.at l.bytes);
  unfailed : (g.K.Sink.seen l.sink).faults ≡ (g.K.Sink.seen l.fn.sink).faults;
  writes : (g.K.Sink.seen l.sink).writes ≤ (g.K.Sink.seen l.fn.sink).writes + l.at;
}

abbrev pub decreases-loop-at : goal.decreases-loop-at
decreases-loop-at g l = length l.bytes - l.at
