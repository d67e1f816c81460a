use Rattle.std.proofs.Common.{◌-◌, length}
use Rattle.ucon_links.proofs.IndexGrowing.{grown_sessions}
use Rattle.ucon_links.proofs.index.Index.grow_sessions.Goals as goal

pub invariant_of-self : goal.invariant_of-self
invariant_of-self c = grown_sessions c.grow.result c.self.inside.places c.self.inside.sessions c.grow.new.self (c.args.sessions - length c.self.inside.sessions.lists) c.self.invariant c.grow.ensures.ok c.grow.ensures.err
