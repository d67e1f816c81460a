use Rattle.std.proofs.Common.{length}
use Rattle.ucon_script.proofs.Divided.{ReadTo}
use Rattle.ucon_script.proofs.part.find_divider.Given as goal

-- no line so far is the divider
abbrev pub invariant-loop-rest : goal.invariant-loop-rest
invariant-loop-rest l = ReadTo l.bytes l.rest l.above

abbrev pub decreases-loop-rest : goal.decreases-loop-rest
decreases-loop-rest l = length l.rest
