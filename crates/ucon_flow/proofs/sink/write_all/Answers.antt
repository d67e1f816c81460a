use Rattle.std.proofs.Common.{arith}
use Rattle.std.proofs.Math.Seq.{take-add}
use Rattle.std.proofs.KnownBytes.{Appends-trans}
use Rattle.ucon_flow.proofs.sink.write_all.Goals as goal

pub loop-at-preserved : goal.loop-at-preserved
loop-at-preserved g c = record {
  within = omega (arith, c.in-Ok.ensures.bound, c.split_at.ensures.back_len);
  sent = rw (take-add, ← c.split_at.ensures.back) (Appends-trans _ _ _ _ _ c.loop-at.invariant.sent c.in-Ok.ensures.bytes);
  unfailed = omega (arith, c.in-Ok.ensures.cause);
  writes = omega (arith, c.in-Ok.ensures.counted, c.in-Ok.ensures.some, c.split_at.ensures.back_len);
}
