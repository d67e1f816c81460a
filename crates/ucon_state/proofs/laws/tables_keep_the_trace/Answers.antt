use Rattle.ucon_state.proofs.Following.Keeping.{tables_keep}
use Rattle.ucon_state.proofs.laws.tables_keep_the_trace.Goals as goal

pub returns : goal.returns
returns c = tables_keep
