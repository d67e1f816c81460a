use Rattle.std.proofs.Common.{◌∙◌, ap, sym}
use Rattle.ucon_model.specs.Usages.{going_on}
use Rattle.ucon_readers.specs.Timers.{deadlines_in}
use Rattle.ucon_state.specs.Shown.{shown}
use Rattle.ucon_state.specs.Tables.{session_in}
use Rattle.ucon_cascade.proofs.AllTimed.{none_more_timed, one_more_timed}
use Rattle.ucon_cascade.proofs.Giving.{first_after}
use Rattle.ucon_cascade.proofs.Monitored.{ok_then}
use Rattle.ucon_cascade.proofs.Ticking.{accessing_row}
use Rattle.ucon_cascade.proofs.passing.put_accessing.Goals as goal

pub returns-in_default : goal.returns-in_default
returns-in_default c = λ P T h.
    none_more_timed (deadlines_in c.args.timers.now) P T c.args.n (c.requires P T h) (ap going_on (sym (h.tables.sessions.rows c.args.n)) ∙ (sym c.going_on.ensures ∙ c.in_default.is))

pub returns : goal.returns
returns c =
    let s = shown c.args.state.now in
    let n = c.args.n in
    let row = c.in-Some._row in
    let on = sym c.going_on.ensures ∙ c.in-Some.is in
    let there = (accessing_row (session_in s.tables n) row on).0 in
    ok_then c.put_session.result (λ gives P T h.
    let same = sym (h.tables.sessions.rows n) in
    one_more_timed (deadlines_in c.args.timers.now) (deadlines_in c.put_session.new.timers) P T n row gives.first (c.requires P T h) (ap going_on same ∙ on)
    (first_after c.tables_keep_what_is_followed.ensures c.readings_that_agree_are_one.ensures s P T h n row (same ∙ there) gives.first gives.is) gives.gives)
    c.put_session.ensures.gives
