use Rattle.std.proofs.Common.{◌≡◌, ◌-◌, ◌++◌}
use Rattle.ucon_disk.specs.Image.{filled}
use Rattle.ucon_disk.specs.Replayed.{state_of}
use Rattle.ucon_disk.proofs.replay.Replay.image.Given as goal

abbrev pub invariant-loop-place : goal.invariant-loop-place
invariant-loop-place l = l.image.items ++ filled (state_of l.self) l.place (l.len - l.place) l.rest ≡ filled (state_of l.self) 0 l.len l.fill
