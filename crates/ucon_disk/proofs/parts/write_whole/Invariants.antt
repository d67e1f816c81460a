use Rattle.std.proofs.Common.{◌≡◌, ◌-◌, ◌≤◌, length, take}
use Rattle.std.specs.Option.{option_map}
use Rattle.ucon_disk.specs.Disk.{overwritten}
use Rattle.ucon_disk.proofs.parts.write_whole.Given as goal

-- the front of the bytes is written
abbrev pub invariant-loop-done : goal.invariant-loop-done
invariant-loop-done g l = record {
  within : l.done ≤ length l.bytes;
  written : g.F.Parts.contents l.file ≡ option_map (overwritten l.at (take l.done l.bytes)) (g.F.Parts.contents l.fn.file);
}

abbrev pub decreases-loop-done : goal.decreases-loop-done
decreases-loop-done g l = length l.bytes - l.done
