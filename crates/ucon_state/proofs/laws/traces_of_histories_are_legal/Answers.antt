use Rattle.ucon_state.proofs.Following.LegalTraces.{legal_trace_of}
use Rattle.ucon_state.proofs.laws.traces_of_histories_are_legal.Goals as goal

pub returns : goal.returns
returns c = legal_trace_of c.blocks_are_legal.ensures
