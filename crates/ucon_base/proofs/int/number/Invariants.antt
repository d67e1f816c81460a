use Rattle.std.proofs.Common.{◌≡◌, ◌≤◌, drop}
use Rattle.ucon_base.proofs.PlainNumbers.{told}
use Rattle.ucon_base.specs.Reading.{number_read}
use Rattle.ucon_base.proofs.int.number.Given as goal

abbrev pub invariant-loop-b : goal.invariant-loop-b
invariant-loop-b l = record {
  value : told l.n (drop l.b-index l.bytes) ≡ number_read l.fn.bytes;
  small : l.n ≤ 1000000000000009;
}
