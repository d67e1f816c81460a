use Rattle.std.proofs.Common.{pos, option_map, rules, arith, ap}
use Rattle.ucon_base.proofs.PlainNumbers.{begun, stopped, too_great}
use Rattle.ucon_base.proofs.int.number.Goals as goal
use Rattle.ucon_base.proofs.int.number.Goals.{then-n-gt100000000000000-via-then-n-gt100000000000000, then-n-gt100000000000000-via-else-n-gt100000000000000+then-not-is_digit}

pub loop-b-init : goal.loop-b-init
loop-b-init c = record {
  value = begun c.args.bytes.now (omega arith) (omega arith);
  small = omega arith;
}

pub returns-then-n-gt100000000000000-clause-value : goal.returns-then-n-gt100000000000000-clause-value
returns-then-n-gt100000000000000-clause-value c =
    elim c.then-n-gt100000000000000.branch [
      | then-n-gt100000000000000-via-then-n-gt100000000000000 w ↦
          ap (option_map pos) (too_great c.loop-b.n c.loop-b.b-index c.args.bytes.now _ c.loop-b-test.true w.if-n-gt100000000000000.true c.loop-b.invariant.value)
      | then-n-gt100000000000000-via-else-n-gt100000000000000+then-not-is_digit w ↦
          ap (option_map pos) (stopped c.loop-b.n c.loop-b.b-index c.args.bytes.now _ c.loop-b-test.true (search rules) c.loop-b.invariant.value)
    ]
