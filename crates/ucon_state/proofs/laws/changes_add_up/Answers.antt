use Rattle.ucon_state.proofs.Following.Keeping.{tables_of-extended}
use Rattle.ucon_state.proofs.laws.changes_add_up.Goals as goal

pub returns : goal.returns
returns c = tables_of-extended
