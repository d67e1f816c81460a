use Rattle.std.proofs.Common.{arith, ap, sym, ◌∙◌, Some}
use Rattle.std.proofs.lemmas.Option.{slice_get_within}
use Rattle.ucon_links.proofs.Cells.{some_same}
use Rattle.ucon_links.proofs.Seen.{opened}
use Rattle.ucon_links.proofs.Distinct.{nodes_distinct}
use Rattle.ucon_links.proofs.Reading.{owner_at}
use Rattle.ucon_links.proofs.Steps.{read_at}
use Rattle.ucon_links.proofs.links.Links.owner.Goals as goal

pub index-requires : goal.index-requires
index-requires c =
    let now = opened _ _ _ _ _ _ _ c.self.invariant c.self.view_is in
    let at = owner_at _ _ _ _ _ _ _ now c.args.node c.requires in
    let within = slice_get_within c.self.inside.table.nodes.items c.args.node at.stored at.there in
    omega (arith, within, c.self.inside.table.nodes.ok)

pub returns-clause-owner : goal.returns-clause-owner
returns-clause-owner c =
    let now = opened _ _ _ _ _ _ _ c.self.invariant c.self.view_is in
    let at = owner_at _ _ _ _ _ _ _ now c.args.node c.requires in
    let within = slice_get_within c.self.inside.table.nodes.items c.args.node at.stored at.there in
    let there = read_at _ c.args.node c.index.result.now within c.index.ensures in
    at.owner_is ∙ ap (λ n. Some n.owner) (some_same (sym at.there ∙ there))

pub returns-clause-distinct : goal.returns-clause-distinct
returns-clause-distinct c =
    let now = opened _ _ _ _ _ _ _ c.self.invariant c.self.view_is in
    nodes_distinct _ _ _ _ _ now.spares now.holds
