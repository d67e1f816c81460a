use Rattle.std.proofs.Common.{◌≡◌, map, take}
use Rattle.ucon_disk.specs.Image.{after, at_rest}
use Rattle.ucon_disk.specs.Recorded.{change_of}
use Rattle.ucon_disk.specs.Replayed.{state_of}
use Rattle.ucon_disk.specs.Started.{start_of}
use Rattle.ucon_disk.proofs.log.Log.replayed.Given as goal

abbrev pub invariant-loop-call : goal.invariant-loop-call
invariant-loop-call l = state_of l.replay ≡ after (at_rest (start_of l.self-inside.first l.self-inside.bytes.items)) (map change_of (take l.call-index l.self-inside.calls.items))
