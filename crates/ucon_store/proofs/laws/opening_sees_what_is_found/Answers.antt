use Rattle.ucon_store.proofs.Seeing.Found.{sees_found}
use Rattle.ucon_store.proofs.Seeing.Histories.{PayloadLaws}
use Rattle.ucon_store.proofs.Seeing.Nothing.{fresh_seen, not_journal_seen}
use Rattle.ucon_store.proofs.Seeing.Points.{PointLaws}
use Rattle.ucon_store.proofs.laws.opening_sees_what_is_found.Goals as goal

pub returns : goal.returns
returns c =
    let payloads : PayloadLaws = record {
      accepts = c.accepted_texts_spell_typed_policies.ensures;
      read = c.payloads_are_read_back.ensures.read;
      taken_as = c.steps_are_taken_as_spelled.ensures.taken;
      unread = c.steps_are_taken_as_spelled.ensures.unread;
      long = c.steps_are_taken_as_spelled.ensures.long;
    } in
    let points : PointLaws = record {
      written = c.values_are_read_back.ensures.written;
      settled = c.no_usage_goes_on_failing.ensures;
      opening = c.each_action_is_followed.ensures.opening;
      after = c.each_action_is_followed.ensures.after;
      legal = c.traces_of_histories_are_legal.ensures;
      alike = c.states_follow_what_reads_alike.ensures;
      point = c.histories_are_in_order.ensures.point;
      order = c.histories_are_in_order.ensures.order;
      read = c.texts_are_of_rows.ensures.read;
    } in
    record { holds = sees_found points payloads; fresh = fresh_seen; not_journal = not_journal_seen }
