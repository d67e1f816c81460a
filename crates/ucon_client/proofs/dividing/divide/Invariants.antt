use Rattle.std.proofs.Common.{◌≡◌, ◌<◌, [], map}
use Rattle.ucon_base.specs.Elements.{Each}
use Rattle.ucon_client.specs.Answers.{IsPart, lines_in, number}
use Rattle.ucon_client.specs.Clients.{AreRising}
use Rattle.ucon_client.specs.Dividing.{lines_below, spelled_entry}
use Rattle.ucon_client.proofs.dividing.divide.Given as goal

abbrev pub invariant-loop-client : goal.invariant-loop-client
invariant-loop-client l = record {
  parts : Each (λ p. IsPart p × (p.answers.items ≡ [])) l.parts.items;
  rising : AreRising (map number l.parts.items);
  below : Each (λ n. n < l.client) (map number l.parts.items);
  lines : lines_in l.parts.items ≡ lines_below l.client (map spelled_entry l.lines);
}
