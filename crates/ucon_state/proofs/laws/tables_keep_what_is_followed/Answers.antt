use Rattle.ucon_state.proofs.Following.Keeping.{followed_kept}
use Rattle.ucon_state.proofs.laws.tables_keep_what_is_followed.Goals as goal

pub returns : goal.returns
returns c = followed_kept
