use Rattle.std.proofs.Common.{◌≡◌, ◌≤◌, drop, min}
use Rattle.ucon_base.specs.Reading.{number_from, number_of}
use Rattle.ucon_script.proofs.number.number_of.Given as goal

abbrev pub invariant-loop-d : goal.invariant-loop-d
invariant-loop-d l = record {
  value : min (number_from l.n (drop l.d-index l.digits)) l.most ≡ min (number_of l.fn.digits) l.most;
  small : l.n ≤ l.most;
}
