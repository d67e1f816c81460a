use Rattle.std.proofs.Common.{arith}
use Rattle.ucon_links.proofs.Seen.{opened}
use Rattle.ucon_links.proofs.Steps.{read_at, newest_within, free_newest_leaves}
use Rattle.ucon_links.proofs.links.Links.free_newest.Goals as goal

pub index-requires : goal.index-requires
index-requires c =
    let now = opened _ _ _ _ _ _ _ c.self.invariant c.self.view_is in
    let within = newest_within _ _ _ _ _ _ _ now c.args.node c.requires in
    omega (arith, within, c.self.inside.table.nodes.ok)

pub invariant_of-self : goal.invariant_of-self
invariant_of-self c =
    let now = opened _ _ _ _ _ _ _ c.self.invariant c.self.view_is in
    let there = read_at _ c.args.node c.index.result.now (newest_within _ _ _ _ _ _ _ now c.args.node c.requires) c.index.ensures in
    rw (c.below-self-inside.ensures, c.spare.ensures) (free_newest_leaves _ _ _ _ _ _ _ now c.args.node _ c.requires there).is_sound

pub returns : goal.returns
returns c =
    let now = opened _ _ _ _ _ _ _ c.self.invariant c.self.view_is in
    let there = read_at _ c.args.node c.index.result.now (newest_within _ _ _ _ _ _ _ now c.args.node c.requires) c.index.ensures in
    rw (c.below-self-inside.ensures, c.spare.ensures) (free_newest_leaves _ _ _ _ _ _ _ now c.args.node _ c.requires there).seen_as
