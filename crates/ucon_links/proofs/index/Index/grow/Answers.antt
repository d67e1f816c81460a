use Rattle.std.proofs.Common.{◌-◌, length, refl}
use Rattle.ucon_links.proofs.IndexGrowing.{grown, on_ok, seen_more}
use Rattle.ucon_links.proofs.index.Index.grow.Goals as goal

pub invariant_of-self : goal.invariant_of-self
invariant_of-self c = grown c.grow.result c.self.inside.places c.self.inside.sessions c.grow.new.self (c.args.places - length c.self.inside.places.lists) c.self.invariant c.grow.ensures.ok c.grow.ensures.err

pub returns-clause-ok : goal.returns-clause-ok
returns-clause-ok c =
    let more = c.args.places - length c.self.inside.places.lists in
    on_ok c.grow.result (λ after. seen_more c.self.inside.places c.self.inside.sessions c.grow.new.self c.args.self.now c.args.places more c.self.invariant c.self.view_is refl after) c.grow.ensures.ok
