use Rattle.ucon_links.proofs.Walks.{walk_begins, walk_meets, walk_ends}
use Rattle.ucon_links.proofs.laws.walks_meet_who_stands.Goals as goal

pub returns-clause-begins : goal.returns-clause-begins
returns-clause-begins c = walk_begins

pub returns-clause-meets : goal.returns-clause-meets
returns-clause-meets c = walk_meets c.nodes_stand_where_listed.ensures

pub returns-clause-ends : goal.returns-clause-ends
returns-clause-ends c = walk_ends
