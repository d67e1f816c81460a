use Rattle.std.proofs.Common.{ap, ◌∙◌}
use Rattle.ucon_links.specs.Dependents.{Dependents, node_count}
use Rattle.ucon_links.proofs.Sums.{places_count}
use Rattle.ucon_links.proofs.index.Index.node_count.Goals as goal

pub returns : goal.returns
returns c = c.node_count.ensures ∙ places_count c.self.inside.places c.self.inside.sessions c.self.invariant.paired ∙ ap (λ (v : Dependents). node_count v) c.self.view_is
