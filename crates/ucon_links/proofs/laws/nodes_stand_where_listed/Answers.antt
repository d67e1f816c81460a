use Rattle.ucon_links.proofs.Walking.{place_there}
use Rattle.ucon_links.proofs.laws.nodes_stand_where_listed.Goals as goal

pub returns : goal.returns
returns c = place_there
