use Rattle.std.proofs.Common.{◌≡◌, ◌+◌, ◌≤◌, length, map}
use Rattle.std.specs.Prelude.{None}
use Rattle.ucon_model.specs.Document.{lines_of}
use Rattle.ucon_script.specs.Document.{spelled_line}
use Rattle.ucon_script.specs.Lines.{after_told, told_from}
use Rattle.ucon_script.proofs.read.script_from.Given as goal

-- what the lines so far and those of the rest say is what all say
abbrev pub invariant-loop-rest : goal.invariant-loop-rest
invariant-loop-rest l = record {
  told : after_told (map spelled_line l.lines.items) (told_from l.reader.number l.reader.client l.reader.said (lines_of l.rest)) ≡ told_from l.fn.number None 0 (lines_of l.fn.text);
  room : l.reader.number + length l.rest ≤ l.fn.number + length l.fn.text;
}

abbrev pub decreases-loop-rest : goal.decreases-loop-rest
decreases-loop-rest l = length l.rest
