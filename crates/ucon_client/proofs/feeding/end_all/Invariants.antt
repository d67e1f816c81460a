use Rattle.ucon_client.proofs.Rounds.{AreEndedTo}
use Rattle.ucon_client.proofs.feeding.end_all.Given as goal

abbrev pub invariant-loop-feeder : goal.invariant-loop-feeder
invariant-loop-feeder g l = record {
  ended : AreEndedTo l.feeder-index l.initial.feeders l.feeders;
}
