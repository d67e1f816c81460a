use Rattle.std.proofs.Common.{◌∙◌, ap, sym, subst, None}
use Rattle.ucon_links.specs.Lists.{first_or, IsDistinct}
use Rattle.ucon_links.specs.Dependents.{Dependents, stands_in}
use Rattle.ucon_links.proofs.Walks.{distinct_seen, list_seen, within_seen}
use Rattle.ucon_links.proofs.WhoStands.{stands_once}
use Rattle.ucon_links.proofs.index.Index.first.Goals as goal

pub first-requires : goal.first-requires
first-requires c = within_seen c.self.inside.places c.self.inside.sessions c.args.self.now c.self.view_is c.args.place c.requires

pub returns-clause-first : goal.returns-clause-first
returns-clause-first c =
    let within = within_seen c.self.inside.places c.self.inside.sessions c.args.self.now c.self.view_is c.args.place c.requires in
    c.first.ensures.first ∙ ap (first_or None) (sym (list_seen c.self.inside.places c.self.inside.sessions c.args.self.now c.self.view_is c.args.place within))

pub returns-clause-distinct : goal.returns-clause-distinct
returns-clause-distinct c = distinct_seen c.self.inside.places c.self.inside.sessions c.args.self.now c.self.view_is c.first.ensures.distinct

pub returns-clause-once : goal.returns-clause-once
returns-clause-once c =
    subst (λ (v : Dependents). IsDistinct (stands_in v c.args.place)) c.self.view_is (stands_once c.self.inside.places c.self.inside.sessions c.args.place c.self.invariant)
