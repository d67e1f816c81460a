use Rattle.ucon_point.proofs.Made.{StateLaws}
use Rattle.ucon_point.proofs.MadeInOrder.{made_in_order}
use Rattle.ucon_point.proofs.Opening.{following_of, held_of}
use Rattle.ucon_point.proofs.laws.rows_make_what_they_say.Goals as goal

pub returns-clause-held : goal.returns-clause-held
returns-clause-held c =
    let laws : StateLaws = record {
      opening = c.each_action_is_followed.ensures.opening;
      after = c.each_action_is_followed.ensures.after;
      keeps = c.tables_keep_what_is_followed.ensures;
      holds = c.states_hold_what_they_follow.ensures;
      acts = c.what_is_put_is_followed.ensures.acts;
      sessions = c.what_is_put_is_followed.ensures.sessions;
    } in
    held_of laws

pub returns-clause-followed : goal.returns-clause-followed
returns-clause-followed c =
    let laws : StateLaws = record {
      opening = c.each_action_is_followed.ensures.opening;
      after = c.each_action_is_followed.ensures.after;
      keeps = c.tables_keep_what_is_followed.ensures;
      holds = c.states_hold_what_they_follow.ensures;
      acts = c.what_is_put_is_followed.ensures.acts;
      sessions = c.what_is_put_is_followed.ensures.sessions;
    } in
    following_of laws

pub returns-clause-order : goal.returns-clause-order
returns-clause-order c =
    let laws : StateLaws = record {
      opening = c.each_action_is_followed.ensures.opening;
      after = c.each_action_is_followed.ensures.after;
      keeps = c.tables_keep_what_is_followed.ensures;
      holds = c.states_hold_what_they_follow.ensures;
      acts = c.what_is_put_is_followed.ensures.acts;
      sessions = c.what_is_put_is_followed.ensures.sessions;
    } in
    made_in_order laws
