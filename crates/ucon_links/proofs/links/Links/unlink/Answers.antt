use Rattle.ucon_links.proofs.Reading.{newest-hide, free_newest-hide}
use Rattle.ucon_links.proofs.links.Links.unlink.Goals as goal

pub free_newest-requires : goal.free_newest-requires
free_newest-requires c = rw c.hide.ensures.hidden (newest-hide c.args.self.now c.args.node c.requires)

pub returns-clause-unlinked : goal.returns-clause-unlinked
returns-clause-unlinked c = rw (c.free_newest.ensures, c.hide.ensures.hidden) (free_newest-hide c.args.self.now c.args.node c.requires)
