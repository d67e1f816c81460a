use Rattle.ucon_store.proofs.Seeing.ReadBack.{ReadLaws, read_back, text_read}
use Rattle.ucon_store.proofs.laws.checkpoints_of_traces_are_read_back.Goals as goal

pub returns : goal.returns
returns c =
    let laws : ReadLaws = record {
      keeps = c.tables_keep_what_is_followed.ensures;
      alike = c.states_follow_what_reads_alike.ensures;
      points = c.points_are_read_back.ensures.read;
      text = c.texts_are_of_rows.ensures.text;
      read = c.texts_are_of_rows.ensures.read;
      held = c.rows_make_what_they_say.ensures.held;
      followed = c.rows_make_what_they_say.ensures.followed;
      order = c.rows_make_what_they_say.ensures.order;
      can_be_put = c.what_is_in_order_can_be_put.ensures;
    } in
    record { read = read_back laws; text = text_read laws }
