use Rattle.ucon_state.proofs.Following.Keeping.{legal_extended}
use Rattle.ucon_state.proofs.laws.legal_traces_go_on.Goals as goal

pub returns : goal.returns
returns c = legal_extended
