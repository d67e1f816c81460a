use Rattle.std.proofs.Common.{◌≤◌, length, sym, ◌∙◌, arith}
use Rattle.ucon_base.proofs.SameLanes.{no_lane_differs}
use Rattle.ucon_base.proofs.padded.are_same_arrays.Goals as goal

pub returns : goal.returns
returns g c =
    let few : length c.args.a.now ≤ 64 = omega (arith, c.told-a, c.requires) in
    no_lane_differs c.args.a.now c.args.b.now (c.told-a ∙ sym c.told-b) few
