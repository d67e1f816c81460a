use Rattle.ucon_state.proofs.Following.Alike.{alike_followed, followed_alike}
use Rattle.ucon_state.proofs.laws.states_follow_what_reads_alike.Goals as goal

pub returns : goal.returns
returns c = λ s P T f. (alike_followed s P T, followed_alike s P T f)
