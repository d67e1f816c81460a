use Rattle.std.proofs.Common.{arith}
use Rattle.ucon_links.proofs.Seen.{opened}
use Rattle.ucon_links.proofs.Steps.{oldest_within, free_oldest_leaves}
use Rattle.ucon_links.proofs.links.Links.free.Goals as goal

pub index_mut-requires : goal.index_mut-requires
index_mut-requires c =
    let now = opened _ _ _ _ _ _ _ c.self.invariant c.self.view_is in
    let within = oldest_within _ _ _ _ _ _ _ now c.args.node c.requires in
    omega (arith, within, c.self.inside.table.nodes.ok)

pub invariant_of-self : goal.invariant_of-self
invariant_of-self c =
    let now = opened _ _ _ _ _ _ _ c.self.invariant c.self.view_is in
    rw c.spare-freed.ensures (free_oldest_leaves _ _ _ _ _ _ _ now c.args.node c.requires).is_sound

pub returns : goal.returns
returns c =
    let now = opened _ _ _ _ _ _ _ c.self.invariant c.self.view_is in
    rw c.spare-freed.ensures (free_oldest_leaves _ _ _ _ _ _ _ now c.args.node c.requires).seen_as
