use Rattle.std.proofs.Common.{◌+◌, arith}
use Rattle.ucon_readers.specs.Timers.{deadlines_in}
use Rattle.ucon_cascade.proofs.AllTimed.{all_timed, none_timed}
use Rattle.ucon_cascade.proofs.passing.all_timers.Goals as goal

pub loop-before-init : goal.loop-before-init
loop-before-init c = λ P T h. none_timed (deadlines_in c.new-timers.result) P T h.sound.numbered c.new-timers.ensures.none

pub returns : goal.returns
returns c = λ P T h.
    let count = h.tables.sessions.count in
    all_timed (deadlines_in c.loop-before.timers) P T (c.loop-before.before + 1) h.sound.numbered
    (omega (arith, count, c.loop-before-test.false, c.sessions-before-end.ensures.tables)) (c.loop-before.invariant P T h)
