use Rattle.std.proofs.Common.{◌≡◌, map, take}
use Rattle.ucon_script.specs.Document.{line_of, spelled_line}
use Rattle.ucon_script.proofs.read.read_document.Given as goal

-- the lines so far are those whose bytes were read
abbrev pub invariant-loop-text : goal.invariant-loop-text
invariant-loop-text l = map line_of l.lines.items ≡ map spelled_line (take l.text-index l.text-items)
