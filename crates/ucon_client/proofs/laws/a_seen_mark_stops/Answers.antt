use Rattle.ucon_client.proofs.OneClient.{seen_mark_stops}
use Rattle.ucon_client.proofs.laws.a_seen_mark_stops.Goals as goal

pub returns : goal.returns
returns c = seen_mark_stops
