use Rattle.std.proofs.Common.{arith}
use Rattle.ucon_links.proofs.Seen.{opened}
use Rattle.ucon_links.proofs.Distinct.{nodes_distinct}
use Rattle.ucon_links.proofs.Steps.{read_at, unhide_in, unhide_needs, unhide_leaves, unhide_count}
use Rattle.ucon_links.proofs.links.Links.unhide.Goals as goal

pub index-hidden-requires : goal.index-hidden-requires
index-hidden-requires c =
    let now = opened _ _ _ _ _ _ _ c.self.invariant c.self.view_is in
    let within = unhide_in _ _ _ _ _ _ _ now c.args.node c.requires in
    omega (arith, within, c.self.inside.table.nodes.ok)

pub overflow_sub-self : goal.overflow_sub-self
overflow_sub-self c =
    let now = opened _ _ _ _ _ _ _ c.self.invariant c.self.view_is in
    unhide_count _ _ _ _ _ _ _ now c.args.node c.requires

pub insert-requires : goal.insert-requires
insert-requires c =
    let now = opened _ _ _ _ _ _ _ c.self.invariant c.self.view_is in
    let within = unhide_in _ _ _ _ _ _ _ now c.args.node c.requires in
    let there = read_at _ c.args.node c.index-hidden.result.now within c.index-hidden.ensures in
    let needs = unhide_needs _ _ _ _ _ _ _ now c.args.node _ c.requires there in
    record { id = within; list = needs.list_in; before = needs.before_in; after = needs.after_in }

pub invariant_of-self : goal.invariant_of-self
invariant_of-self c =
    let now = opened _ _ _ _ _ _ _ c.self.invariant c.self.view_is in
    let within = unhide_in _ _ _ _ _ _ _ now c.args.node c.requires in
    let there = read_at _ c.args.node c.index-hidden.result.now within c.index-hidden.ensures in
    rw (c.below-self-inside.ensures, c.insert.ensures.nodes, c.insert.ensures.firsts) (unhide_leaves _ _ _ _ _ _ _ now c.args.node _ c.requires there).is_sound

pub returns-clause-back : goal.returns-clause-back
returns-clause-back c =
    let now = opened _ _ _ _ _ _ _ c.self.invariant c.self.view_is in
    let within = unhide_in _ _ _ _ _ _ _ now c.args.node c.requires in
    let there = read_at _ c.args.node c.index-hidden.result.now within c.index-hidden.ensures in
    rw (c.below-self-inside.ensures, c.insert.ensures.nodes, c.insert.ensures.firsts) (unhide_leaves _ _ _ _ _ _ _ now c.args.node _ c.requires there).seen_as

pub returns-clause-distinct : goal.returns-clause-distinct
returns-clause-distinct c =
    let now = opened _ _ _ _ _ _ _ c.self.invariant c.self.view_is in
    nodes_distinct _ _ _ _ _ now.spares now.holds
