use Rattle.std.proofs.Common.{◌≡◌, None, length}
use Rattle.ucon_client.specs.Answers.{Keeps, ServesWith}
use Rattle.ucon_client.proofs.client.Client.answer_up_to.Given as goal

abbrev pub invariant-loop-place : goal.invariant-loop-place
invariant-loop-place g l = record {
  serves : ServesWith l.turn l.self.part l.self.seat l.self.looks;
  alone : l.self.looks ≡ None;
  count : l._place ≡ length l.self.part.answers.items;
  kept : Keeps l.fn.self.part l.self.part;
}
