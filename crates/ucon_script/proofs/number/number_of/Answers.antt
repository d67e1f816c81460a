use Rattle.std.proofs.Common.{arith}
use Rattle.ucon_script.proofs.Capped.{next}
use Rattle.ucon_script.proofs.number.number_of.Goals as goal

pub loop-d-preserved : goal.loop-d-preserved
loop-d-preserved c = record {
  value = rw (c.min-n.ensures, c.saturating_sub.ensures) (next c.args.most c.loop-d.n c.loop-d.d-index c.args.digits.now _ c.loop-d-test.true c.loop-d.invariant.value);
  small = omega (arith, c.min-n.ensures);
}
