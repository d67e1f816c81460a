use Rattle.ucon_cascade.proofs.Outcomes.{ok_then}
use Rattle.ucon_cascade.proofs.follow.follow_actions.Goals as goal

pub returns-clause-alone : goal.returns-clause-alone
returns-clause-alone c = ok_then c.follow_head.result (λ alone k n unamended. alone k n) c.follow_head.ensures.alone
