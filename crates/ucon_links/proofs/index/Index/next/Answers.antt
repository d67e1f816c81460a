use Rattle.std.proofs.Common.{◌∙◌, ap, option_map}
use Rattle.ucon_links.proofs.Walks.{distinct_seen, listed_seen, place_seen}
use Rattle.ucon_links.proofs.index.Index.next.Goals as goal

pub next-requires : goal.next-requires
next-requires c = listed_seen c.self.inside.places c.self.inside.sessions c.args.self.now c.self.view_is c.args.node c.requires

pub returns-clause-next : goal.returns-clause-next
returns-clause-next c = ap (option_map (λ item. item.after)) (place_seen c.self.inside.places c.self.inside.sessions c.args.self.now c.self.view_is c.args.node) ∙ c.next.ensures.next

pub returns-clause-distinct : goal.returns-clause-distinct
returns-clause-distinct c = distinct_seen c.self.inside.places c.self.inside.sessions c.args.self.now c.self.view_is c.next.ensures.distinct
