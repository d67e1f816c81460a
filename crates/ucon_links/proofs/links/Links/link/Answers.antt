use Rattle.std.proofs.Common.{refl, sym, []}
use Rattle.ucon_links.specs.Lists.{list_at}
use Rattle.ucon_links.proofs.links.Links.link.Goals as goal

pub link_between-requires-clause-gap : goal.link_between-requires-clause-gap
link_between-requires-clause-gap c =
    record { front = []; back = list_at c.args.self.now.lists c.args.list; parts = refl; front_ends = refl; back_begins = sym c.first-first.ensures.first }
