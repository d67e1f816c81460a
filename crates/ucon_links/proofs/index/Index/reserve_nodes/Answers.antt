use Rattle.std.proofs.Common.{ap, arith}
use Rattle.ucon_links.specs.Dependents.{Dependents, node_count}
use Rattle.ucon_links.proofs.Sums.{places_count, sessions_count}
use Rattle.ucon_links.proofs.index.Index.reserve_nodes.Goals as goal

pub reserve-requires : goal.reserve-requires
reserve-requires c =
    let count = places_count c.self.inside.places c.self.inside.sessions c.self.invariant.paired in
    let is = ap (λ (v : Dependents). node_count v) c.self.view_is in
    omega (arith, count, is)

pub reserve-requires-2 : goal.reserve-requires-2
reserve-requires-2 c =
    let count = places_count c.self.inside.places c.self.inside.sessions c.self.invariant.paired in
    let same = sessions_count c.self.inside.places c.self.inside.sessions c.self.invariant.paired in
    let is = ap (λ (v : Dependents). node_count v) c.self.view_is in
    omega (arith, count, same, is)
