use Rattle.std.proofs.Common.{◌≡◌, ◌+◌, ◌-◌, ◌≤◌, length, min, max}
use Rattle.std.specs.Prelude.{nat_lt}
use Rattle.ucon_flow.specs.Lines.{newline, HasNewline, first_line, Holds}
use Rattle.ucon_flow.proofs.line_reader.LineReader.read_line.Given as goal

-- what was read is held, and its first line is known; each read but the last found bytes without a newline
abbrev pub invariant-loop-whole : goal.invariant-loop-whole
invariant-loop-whole g l = record {
  read : Holds g.S.Source.seen l.initial.self l.self l.fn.source l.source;
  len : l.len ≡ length (first_line l.self.held);
  whole : l.whole ≡ nat_lt (newline l.self.held) (length l.self.held);
  unfailed : (g.S.Source.seen l.source).faults ≡ (g.S.Source.seen l.fn.source).faults;
  untouched : HasNewline l.initial.self.held → l.source ≡ l.fn.source;
  reads : (g.S.Source.seen l.source).reads ≤ (g.S.Source.seen l.fn.source).reads + min l.len (l.self.limit + 1);
  bounded : length l.self.held ≤ max (length l.initial.self.held) (l.self.limit + 65536);
}

abbrev pub decreases-loop-whole : goal.decreases-loop-whole
decreases-loop-whole g l = l.self.limit + 1 - l.len
