use Rattle.ucon_accept.proofs.Answered.{explained_is_right}
use Rattle.ucon_accept.proofs.Meeting.{explained_by, judged_by, try_is_explained}
use Rattle.ucon_accept.proofs.laws.tries_are_explained_as_shown.Goals as goal

pub returns-clause-after : goal.returns-clause-after
returns-clause-after c =
    try_is_explained c.tables_keep_what_is_followed.ensures c.each_action_is_followed.ensures.after c.readings_that_agree_are_one.ensures

pub returns-clause-right : goal.returns-clause-right
returns-clause-right c =
    explained_is_right c.tables_keep_what_is_followed.ensures c.each_action_is_followed.ensures.after c.readings_that_agree_are_one.ensures

pub returns-clause-judged : goal.returns-clause-judged
returns-clause-judged c = λ s h.
    judged_by c.tables_keep_what_is_followed.ensures c.each_action_is_followed.ensures.after
    c.typed_tests_make_no_set.ensures.all c.typed_tests_make_no_set.ensures.one s h.policy h.trace h.follows

pub returns-clause-explained : goal.returns-clause-explained
returns-clause-explained c = explained_by
