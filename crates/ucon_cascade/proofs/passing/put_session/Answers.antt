use Rattle.ucon_state.specs.Shown.{shown}
use Rattle.ucon_collections.specs.Deadlines.{count_below, deadline_of, passed}
use Rattle.ucon_readers.specs.Timers.{deadlines_in}
use Rattle.ucon_cascade.specs.Timely.{IsFirstLimitOf}
use Rattle.ucon_cascade.proofs.Giving.{no_more_below, none_passed}
use Rattle.ucon_cascade.proofs.Monitored.{ok_then}
use Rattle.ucon_cascade.proofs.passing.put_session.Goals as goal

pub returns-clause-gives : goal.returns-clause-gives
returns-clause-gives c =
    ok_then c.set.result (λ gives. record {
      first = c.first_limit.result;
      is = record { there = c.first_limit.ensures.first; nowhere = c.first_limit.ensures.none };
      gives = gives;
    }) c.set.ensures.gives

pub returns-clause-below : goal.returns-clause-below
returns-clause-below c =
    let s = shown c.args.state.now in
    let old = deadlines_in c.args.timers.now in
    let new = deadlines_in c.set.new.self in
    let tick = s.tables.tick in
    let is : IsFirstLimitOf s c.args.n c.first_limit.result = record { there = c.first_limit.ensures.first; nowhere = c.first_limit.ensures.none } in
    ok_then c.set.result (λ count.
    no_more_below (count_below old tick) (count_below new tick) (passed tick (deadline_of old c.args.n)) tick c.first_limit.result
    (none_passed s c.args.n c.first_limit.result is) (count tick)) c.set.ensures.count
