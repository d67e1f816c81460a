use Rattle.std.proofs.Common.{arith}
use Rattle.ucon_links.proofs.Seen.{opened}
use Rattle.ucon_links.proofs.Steps.{spare_leaves}
use Rattle.ucon_links.proofs.links.Links.add_spare.Goals as goal

pub invariant_of-self-2 : goal.invariant_of-self-2
invariant_of-self-2 c =
    let now = opened _ _ _ _ _ _ _ c.self.invariant c.self.view_is in
    let counted = now.holds.counted in
    rw (c.in_ok-push.ensures.items, c.spare.ensures, c.len-id.ensures, c.self.inside.table.nodes.ok.0) (spare_leaves _ _ _ _ _ _ _ now (omega (arith, counted, c.requires))).is_sound

pub returns-clause-ok : goal.returns-clause-ok
returns-clause-ok c =
    let now = opened _ _ _ _ _ _ _ c.self.invariant c.self.view_is in
    let counted = now.holds.counted in
    rw (c.in_ok-push.ensures.items, c.spare.ensures) (spare_leaves _ _ _ _ _ _ _ now (omega (arith, counted, c.requires))).seen_as
