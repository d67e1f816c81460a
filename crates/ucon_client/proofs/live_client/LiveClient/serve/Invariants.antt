use Rattle.std.proofs.Common.{◌≡◌, false}
use Rattle.ucon_client.specs.Live.{Lives}
use Rattle.ucon_client.proofs.live_client.LiveClient.serve.Given as goal

abbrev pub invariant-loop : goal.invariant-loop
invariant-loop g l = record {
  lives : Lives l.turn l.self.client l.self.taker.taken.lines l.self.short;
  running : l.self.taker.taken.ended ≡ false;
  inbox : l.self.taker.inbox ≡ l.initial.self.taker.inbox;
  number : l.self.client.part.number ≡ l.initial.self.client.part.number;
}
