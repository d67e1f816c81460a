use Rattle.std.proofs.Common.{arith}
use Rattle.ucon_links.proofs.Seen.{opened}
use Rattle.ucon_links.proofs.Distinct.{nodes_distinct}
use Rattle.ucon_links.proofs.Reading.{previous_is}
use Rattle.ucon_links.proofs.Steps.{read_at, listed_in}
use Rattle.ucon_links.proofs.links.Links.previous.Goals as goal

pub index-requires : goal.index-requires
index-requires c =
    let now = opened _ _ _ _ _ _ _ c.self.invariant c.self.view_is in
    let within = listed_in _ _ _ _ _ _ _ now c.args.node c.requires in
    omega (arith, within, c.self.inside.table.nodes.ok)

pub returns-clause-previous : goal.returns-clause-previous
returns-clause-previous c =
    let now = opened _ _ _ _ _ _ _ c.self.invariant c.self.view_is in
    let there = read_at _ c.args.node c.index.result.now (listed_in _ _ _ _ _ _ _ now c.args.node c.requires) c.index.ensures in
    previous_is _ _ _ _ _ _ _ now c.args.node _ c.requires there

pub returns-clause-distinct : goal.returns-clause-distinct
returns-clause-distinct c =
    let now = opened _ _ _ _ _ _ _ c.self.invariant c.self.view_is in
    nodes_distinct _ _ _ _ _ now.spares now.holds
