use Rattle.std.proofs.Common.{◌≡◌, ◌-◌, ◌≤◌, IfSome, length}
use Rattle.ucon_disk.proofs.Portions.{IsFront}
use Rattle.ucon_disk.proofs.parts.read_whole.Given as goal

-- the front of the buffer is read
abbrev pub invariant-loop-done : goal.invariant-loop-done
invariant-loop-done g l = record {
  within : l.done ≤ length l.buf;
  front : IfSome (g.F.Parts.contents l.fn.file) (λ file. IsFront file l.at l.done l.buf);
  same : g.F.Parts.contents l.file ≡ g.F.Parts.contents l.fn.file;
}

abbrev pub decreases-loop-done : goal.decreases-loop-done
decreases-loop-done g l = length l.buf - l.done
