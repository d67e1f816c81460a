use Rattle.ucon_links.proofs.Seen.{opened}
use Rattle.ucon_links.proofs.Distinct.{nodes_distinct}
use Rattle.ucon_links.proofs.links.Links.first.Goals as goal

pub returns-clause-distinct : goal.returns-clause-distinct
returns-clause-distinct c =
    let now = opened _ _ _ _ _ _ _ c.self.invariant c.self.view_is in
    nodes_distinct _ _ _ _ _ now.spares now.holds
