use Rattle.std.proofs.Common.{◌≡◌}
use Rattle.ucon_base.specs.Elements.{Each}
use Rattle.ucon_client.specs.Boarded.{known_by}
use Rattle.ucon_client.proofs.publishing.readers.Given as goal

abbrev pub invariant-loop : goal.invariant-loop
invariant-loop l = record {
  same : l.writer ≡ l.fn.writer;
  readers : Each (λ r. r ≡ known_by l.fn.writer) l.readers.items;
}
