use Rattle.ucon_model.specs.History.{trace}
use Rattle.ucon_model.specs.Readings.{tick_of}
use Rattle.ucon_state.specs.Held.{held_after}
use Rattle.ucon_point.proofs.LegalInOrder.{in_order_after, tick_since, whole_tick}
use Rattle.ucon_point.proofs.Made.{StateLaws}
use Rattle.ucon_point.proofs.laws.histories_are_in_order.Goals as goal

pub returns-clause-order : goal.returns-clause-order
returns-clause-order c = λ P H typed commands.
    let laws : StateLaws = record {
      opening = c.each_action_is_followed.ensures.opening;
      after = c.each_action_is_followed.ensures.after;
      keeps = c.tables_keep_what_is_followed.ensures;
      holds = c.states_hold_what_they_follow.ensures;
      acts = c.what_is_put_is_followed.ensures.acts;
      sessions = c.what_is_put_is_followed.ensures.sessions;
    } in
    in_order_after laws c.tables_keep_the_trace.ensures P (trace P H) typed (c.traces_of_histories_are_legal.ensures P typed H commands) (c.usages_are_few.ensures P H)

pub returns-clause-point : goal.returns-clause-point
returns-clause-point c = λ entries text P H typed commands few policy tick rows.
    let laws : StateLaws = record {
      opening = c.each_action_is_followed.ensures.opening;
      after = c.each_action_is_followed.ensures.after;
      keeps = c.tables_keep_what_is_followed.ensures;
      holds = c.states_hold_what_they_follow.ensures;
      acts = c.what_is_put_is_followed.ensures.acts;
      sessions = c.what_is_put_is_followed.ensures.sessions;
    } in
    let legal = c.traces_of_histories_are_legal.ensures P typed H commands in
    c.what_is_in_order_can_be_put.ensures entries text (held_after P (trace P H)) few policy tick (whole_tick (tick_of (trace P H)) (tick_since P (trace P H) legal)) rows
    (in_order_after laws c.tables_keep_the_trace.ensures P (trace P H) typed legal (c.usages_are_few.ensures P H))
