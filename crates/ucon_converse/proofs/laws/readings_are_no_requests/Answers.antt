use Rattle.ucon_converse.proofs.Unasked.{no_request}
use Rattle.ucon_converse.proofs.laws.readings_are_no_requests.Goals as goal

pub returns : goal.returns
returns c = no_request
