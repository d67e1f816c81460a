use Rattle.std.proofs.Common.{◌≡◌, length, ◌-◌, ◌≤◌, take}
use Rattle.std.specs.Io.KnownBytes.{Appends}
use Rattle.ucon_tell.specs.Told.{TellsFronts}
use Rattle.ucon_tell.proofs.telling.tell_all.Given as goal

-- what was taken so far has gone out, and was told at this moment
abbrev pub invariant-loop-at : goal.invariant-loop-at
invariant-loop-at g l = record {
  within : l.at ≤ length l.bytes;
  sent : Appends (g.V.Voice.seen l.fn.out).contents (g.V.Voice.seen l.out).contents (take l.at l.bytes);
  unfailed : (g.V.Voice.seen l.out).faults ≡ (g.V.Voice.seen l.fn.out).faults;
  told : TellsFronts (g.V.Voice.seen l.fn.out) (g.V.Voice.seen l.out) l.bytes (g.K.Keeper.seen l.keeper).moment;
}

abbrev pub decreases-loop-at : goal.decreases-loop-at
decreases-loop-at g l = length l.bytes - l.at
