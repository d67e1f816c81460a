use Rattle.std.proofs.Common.{◌≡◌, ◌+◌, ◌≤◌, ◌++◌, length}
use Rattle.ucon_client.specs.Answers.{Keeps}
use Rattle.ucon_client.proofs.looks.Looks.settle.Given as goal

abbrev pub invariant-loop-answer : goal.invariant-loop-answer
invariant-loop-answer l = record {
  answers : l.part.answers.items ≡ l.fn.part.answers.items ++ l.yielded;
  left : l.fn.self.held.items ≡ l.yielded ++ l.answer-iterator.rest.items;
  spare : l.fn.part.answers.spare ≤ l.part.answers.spare + length l.yielded;
  kept : Keeps l.fn.part l.part;
}
