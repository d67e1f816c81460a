use Rattle.std.specs.List.{repeat}
use Rattle.std.proofs.Common.{◌≡◌, ◌++◌}
use Rattle.ucon_vectors.proofs.repeated.Given as goal

abbrev pub invariant-loop : goal.invariant-loop
invariant-loop l = l.bytes.items ≡ l.front ++ repeat l.counter l.part
