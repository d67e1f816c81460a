use Rattle.std.proofs.Common.{arith}
use Rattle.ucon_disk.proofs.Portions.{write_goes_on}
use Rattle.ucon_disk.proofs.parts.write_whole.Goals as goal

pub loop-done-preserved : goal.loop-done-preserved
loop-done-preserved g c = record {
  within = omega (arith, c.in_ok-n.ensures.bound, c.split_at.ensures.back_len);
  written = write_goes_on c.args.at c.loop-done.done c.args.bytes.now c.split_at.result.1.now (omega (arith, c.loop-done.invariant.within)) c.split_at.ensures.back c.in_ok-n.n _ _ _ c.requires c.loop-done.invariant.written c.in_ok-n.ensures.written;
}
