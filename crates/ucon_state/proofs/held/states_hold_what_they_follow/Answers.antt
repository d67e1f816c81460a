use Rattle.ucon_state.proofs.Following.Alike.{held_followed}
use Rattle.ucon_state.proofs.held.states_hold_what_they_follow.Goals as goal

pub returns : goal.returns
returns c = held_followed
