use Rattle.std.proofs.Common.{◌∙◌}
use Rattle.ucon_vectors.proofs.Parts.{repeat_behind}
use Rattle.ucon_vectors.proofs.repeated.Goals as goal

pub loop-preserved : goal.loop-preserved
loop-preserved c =
    c.in_ok-extend_from_slice.ensures.items ∙ repeat_behind c.loop.counter c.args.front.now c.args.part.now c.loop.bytes.items c.loop.invariant
