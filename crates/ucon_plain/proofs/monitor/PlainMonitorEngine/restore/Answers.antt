use Rattle.std.proofs.Common.{◌∙◌}
use Rattle.ucon_plain.proofs.monitor.PlainMonitorEngine.restore.Goals as goal

pub least_failing-requires : goal.least_failing-requires
least_failing-requires c = c.requires.following

pub returns-in-Some : goal.returns-in-Some
returns-in-Some c = λ P T h. c.least_failing.ensures.least P T h ∙ c.in-Some.is

pub returns-in-None : goal.returns-in-None
returns-in-None c = λ P T h. (
  record { follows = h; settled_policy = c.requires.settled.same_policy; settled = c.requires.settled.same_tables },
  c.the_least_failing_is_found.ensures.nobody P T h.sound.numbered (c.least_failing.ensures.least P T h ∙ c.in-None.is),
)
