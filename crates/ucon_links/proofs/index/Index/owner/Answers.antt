use Rattle.std.proofs.Common.{◌∙◌}
use Rattle.ucon_links.proofs.Walks.{session_seen, session_has_owner}
use Rattle.ucon_links.proofs.index.Index.owner.Goals as goal

pub owner-requires : goal.owner-requires
owner-requires c = session_has_owner c.self.inside.places c.self.inside.sessions c.args.self.now c.args.node c.self.view_is c.requires

pub returns : goal.returns
returns c = session_seen c.self.inside.places c.self.inside.sessions c.args.self.now c.args.node c.self.view_is c.self.invariant.paired c.owner.ensures.distinct ∙ c.owner.ensures.owner
