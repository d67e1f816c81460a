use Rattle.std.proofs.Common.{◌≡◌, length, ◌+◌, ◌-◌, ◌≤◌, min}
use Rattle.std.specs.Io.KnownBytes.{Consumes}
use Rattle.ucon_flow.proofs.source.read_all.Given as goal

-- what was read so far, at least a byte a read; a read that goes past the limit is the last
abbrev pub invariant-loop-buf : goal.invariant-loop-buf
invariant-loop-buf g l = record {
  read : Consumes (g.S.Source.seen l.fn.source).left (g.S.Source.seen l.source).left l.bytes.items;
  unfailed : (g.S.Source.seen l.source).faults ≡ (g.S.Source.seen l.fn.source).faults;
  reads : (g.S.Source.seen l.source).reads ≤ (g.S.Source.seen l.fn.source).reads + min (length l.bytes.items) (l.limit + 1);
}

abbrev pub decreases-loop-buf : goal.decreases-loop-buf
decreases-loop-buf g l = l.limit + 1 - length l.bytes.items
