use Rattle.std.proofs.Common.{◌∙◌}
use Rattle.ucon_cascade.proofs.monitor.MonitorEngine.restore.Goals as goal

pub over-requires-clause-nobody : goal.over-requires-clause-nobody
over-requires-clause-nobody c = λ P T h. c.the_least_failing_is_found.ensures.nobody P T h.sound.numbered (c.least_failing.ensures P T h ∙ c.in-None.is)

pub returns-in_ok-over-in-None : goal.returns-in_ok-over-in-None
returns-in_ok-over-in-None c = λ P T h. let ready = c.in_ok-over-in-None.ensures P T h in (ready, ready.stands.nobody)
