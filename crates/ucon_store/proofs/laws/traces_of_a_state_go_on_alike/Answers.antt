use Rattle.ucon_store.proofs.Seeing.OneThing.{held_alike_behind, replies_alike}
use Rattle.ucon_store.proofs.laws.traces_of_a_state_go_on_alike.Goals as goal

pub returns : goal.returns
returns c = record { replies = replies_alike c.tables_keep_what_is_followed.ensures; held = held_alike_behind c.tables_keep_what_is_followed.ensures }
