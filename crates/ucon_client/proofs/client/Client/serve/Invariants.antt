use Rattle.std.proofs.Common.{◌≡◌}
use Rattle.ucon_client.specs.Answers.{Keeps, ServesWith, taken}
use Rattle.ucon_client.proofs.client.Client.serve.Given as goal

abbrev pub invariant-loop-place : goal.invariant-loop-place
invariant-loop-place g l = record {
  serves : ServesWith l.turn l.self.part l.self.seat l.self.looks;
  count : l.place ≡ taken l.self.part l.self.looks;
  kept : Keeps l.fn.self.part l.self.part;
}
