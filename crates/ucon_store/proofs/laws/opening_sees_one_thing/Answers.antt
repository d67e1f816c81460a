use Rattle.ucon_store.proofs.Seeing.Always.{something}
use Rattle.ucon_store.proofs.Seeing.OneThing.{one_thing}
use Rattle.ucon_store.proofs.laws.opening_sees_one_thing.Goals as goal

pub returns : goal.returns
returns c =
    let keeps = c.tables_keep_what_is_followed.ensures in
    let alike = c.states_follow_what_reads_alike.ensures in
    let points = c.points_are_read_back.ensures.read in
    let followed = c.rows_make_what_they_say.ensures.followed in
    let back = c.checkpoints_of_traces_are_read_back.ensures.read in
    record {
      something = something keeps alike points followed back c.the_least_failing_is_found.ensures.nobody;
      one = one_thing keeps alike points followed back;
    }
