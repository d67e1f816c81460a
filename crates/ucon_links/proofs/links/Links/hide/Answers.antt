use Rattle.std.proofs.Common.{arith, ap, ◌∙◌, length}
use Rattle.ucon_links.proofs.Seen.{opened}
use Rattle.ucon_links.proofs.Distinct.{nodes_distinct}
use Rattle.ucon_links.proofs.Hiding.{length-joined}
use Rattle.ucon_links.proofs.Steps.{read_at, listed_in, hide_needs, hide_leaves}
use Rattle.ucon_links.proofs.links.Links.hide.Goals as goal

pub index-taken-requires : goal.index-taken-requires
index-taken-requires c =
    let now = opened _ _ _ _ _ _ _ c.self.invariant c.self.view_is in
    let within = listed_in _ _ _ _ _ _ _ now c.args.node c.requires in
    omega (arith, within, c.self.inside.table.nodes.ok)

pub join-requires : goal.join-requires
join-requires c =
    let now = opened _ _ _ _ _ _ _ c.self.invariant c.self.view_is in
    let there = read_at _ c.args.node c.index-taken.result.now (listed_in _ _ _ _ _ _ _ now c.args.node c.requires) c.index-taken.ensures in
    let needs = hide_needs _ _ _ _ _ _ _ now c.args.node _ c.requires there in
    record { list = needs.list_in; before = needs.before_in; after = needs.after_in }

pub index_mut-requires : goal.index_mut-requires
index_mut-requires c =
    let now = opened _ _ _ _ _ _ _ c.self.invariant c.self.view_is in
    let within = listed_in _ _ _ _ _ _ _ now c.args.node c.requires in
    let size = ap length c.join.ensures.nodes ∙ length-joined c.self.inside.table.nodes.items c.index-taken.result.now.previous c.index-taken.result.now.next c.index-taken.result.now.previous c.index-taken.result.now.next in
    omega (arith, within, size, c.join.new.self.nodes.ok)

pub invariant_of-self : goal.invariant_of-self
invariant_of-self c =
    let now = opened _ _ _ _ _ _ _ c.self.invariant c.self.view_is in
    let there = read_at _ c.args.node c.index-taken.result.now (listed_in _ _ _ _ _ _ _ now c.args.node c.requires) c.index-taken.ensures in
    rw (c.join.ensures.nodes, c.join.ensures.firsts) (hide_leaves _ _ _ _ _ _ _ now c.args.node _ c.requires there).is_sound

pub returns-clause-hidden : goal.returns-clause-hidden
returns-clause-hidden c =
    let now = opened _ _ _ _ _ _ _ c.self.invariant c.self.view_is in
    let there = read_at _ c.args.node c.index-taken.result.now (listed_in _ _ _ _ _ _ _ now c.args.node c.requires) c.index-taken.ensures in
    rw (c.join.ensures.nodes, c.join.ensures.firsts) (hide_leaves _ _ _ _ _ _ _ now c.args.node _ c.requires there).seen_as

pub returns-clause-distinct : goal.returns-clause-distinct
returns-clause-distinct c =
    let now = opened _ _ _ _ _ _ _ c.self.invariant c.self.view_is in
    nodes_distinct _ _ _ _ _ now.spares now.holds
