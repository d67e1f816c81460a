use Rattle.std.proofs.Common.{arith, take, ◌+◌}
use Rattle.std.specs.Io.KnownBytes.{Appends}
use Rattle.std.proofs.Math.Seq.{take-add}
use Rattle.std.proofs.KnownBytes.{Appends-trans}
use Rattle.ucon_tell.proofs.Fronts.{tells_on}
use Rattle.ucon_tell.proofs.telling.tell_all.Goals as goal

pub loop-at-preserved : goal.loop-at-preserved
loop-at-preserved g c =
    let sent : Appends (g.V.Voice.seen c.args.out.now).contents (g.V.Voice.seen c.write.new.self).contents (take (c.loop-at.at + c.in-Ok.n) c.args.bytes.now) =
    rw (take-add, ← c.split_at.ensures.back) (Appends-trans _ _ _ _ _ c.loop-at.invariant.sent c.in-Ok.ensures.bytes) in
    record {
      within = omega (arith, c.in-Ok.ensures.bound, c.split_at.ensures.back_len);
      sent = sent;
      unfailed = omega (arith, c.in-Ok.ensures.cause);
      told = tells_on (g.V.Voice.seen c.args.out.now) (g.V.Voice.seen c.loop-at.out) (g.V.Voice.seen c.write.new.self) c.args.bytes.now (c.loop-at.at + c.in-Ok.n) (g.K.Keeper.seen c.args.keeper.now).moment c.loop-at.invariant.told c.write.ensures.notes sent;
    }
