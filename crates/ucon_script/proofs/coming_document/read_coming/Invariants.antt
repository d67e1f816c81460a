use Rattle.std.proofs.Common.{◌≡◌}
use Rattle.ucon_script.proofs.Arriving.{IsReading}
use Rattle.ucon_script.proofs.coming_document.read_coming.Given as goal

abbrev pub invariant-lines : goal.invariant-lines
invariant-lines g l = record {
  reading : IsReading g.S.Source.seen l.policy.items l.lines l.above l.initial.source l.source;
  unfailed : (g.S.Source.seen l.source).faults ≡ (g.S.Source.seen l.initial.source).faults;
}

abbrev pub decreases-lines : goal.decreases-lines
decreases-lines g l = l.lines.room
