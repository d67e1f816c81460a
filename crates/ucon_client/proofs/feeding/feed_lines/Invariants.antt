use Rattle.std.proofs.Common.{◌≡◌, All, length, false}
use Rattle.ucon_script.specs.Coming.{most_lines}
use Rattle.ucon_client.specs.Feeding.{HasFedTo}
use Rattle.ucon_client.proofs.feeding.feed_lines.Given as goal

abbrev pub invariant-lines : goal.invariant-lines
invariant-lines g l = record {
  fed : HasFedTo g.S.Source.seen l.initial.script l.script l.initial.source l.source l.initial.feeders l.feeders;
  length : length l.feeders ≡ length l.initial.feeders;
  running : All (λ f. f.fed.ended ≡ false) l.feeders;
  unfailed : (g.S.Source.seen l.source).faults ≡ (g.S.Source.seen l.initial.source).faults;
}

abbrev pub decreases-lines : goal.decreases-lines
decreases-lines g l = most_lines l.script.lines
