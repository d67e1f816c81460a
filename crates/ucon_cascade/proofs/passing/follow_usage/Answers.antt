use Rattle.std.proofs.Common.{subst}
use Rattle.ucon_model.specs.declared.reply.Head.{Head}
use Rattle.ucon_readers.specs.Timers.{deadlines_in}
use Rattle.ucon_state.specs.Shown.{shown}
use Rattle.ucon_cascade.specs.Passing.{WereMade}
use Rattle.ucon_cascade.proofs.Heads.{timely_ended, timely_permitted, timely_quiet}
use Rattle.ucon_cascade.proofs.Monitored.{ok_then}
use Rattle.ucon_cascade.proofs.passing.follow_usage.Goals as goal

pub returns-in-Permitted-clause-timely : goal.returns-in-Permitted-clause-timely
returns-in-Permitted-clause-timely c =
    let s = shown c.args.state.now in
    let ds = deadlines_in c.args.timers.now in
    ok_then c.put_session.result (λ gives P T caller command actions no_amend no_tick were.
    timely_permitted c.heads_tell_whose_usage_begins_or_ends.ensures.own c.tables_keep_what_is_followed.ensures c.readings_that_agree_are_one.ensures
    s ds (deadlines_in c.put_session.new.timers) P T caller command c.in-Permitted.n actions no_amend no_tick
    (subst (λ (head : Head). WereMade s ds P T caller command head actions) c.in-Permitted.is were) gives) c.put_session.ensures.gives

pub returns-in-Ended-clause-timely : goal.returns-in-Ended-clause-timely
returns-in-Ended-clause-timely c =
    let s = shown c.args.state.now in
    let ds = deadlines_in c.args.timers.now in
    ok_then c.set.result (λ gives P T caller command actions no_amend no_tick were.
    timely_ended c.heads_tell_whose_usage_begins_or_ends.ensures.own s ds (deadlines_in c.set.new.self) P T caller command c.in-Ended.n actions no_amend no_tick
    (subst (λ (head : Head). WereMade s ds P T caller command head actions) c.in-Ended.is were) gives) c.set.ensures.gives

pub returns-in_default-clause-timely : goal.returns-in_default-clause-timely
returns-in_default-clause-timely c = λ P T caller command actions no_amend no_tick were.
    timely_quiet c.heads_tell_whose_usage_begins_or_ends.ensures.own (shown c.args.state.now) (deadlines_in c.args.timers.now) P T caller command c.args.head.now actions no_amend no_tick were
    c.in_default.not-Permitted c.in_default.not-Ended
