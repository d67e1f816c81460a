use Rattle.ucon_cascade.proofs.monitor.Monitor.draft_at_cost.Goals as goal

pub go_back-requires : goal.go_back-requires
go_back-requires c = record { policy = c.requires.policy; trace = c.requires.trace; back = c.in-Err.ensures.err c.requires.policy c.requires.trace c.requires.holds }

pub returns-in-Err-clause-err : goal.returns-in-Err-clause-err
returns-in-Err-clause-err c = λ P T h. c.go_back.ensures P T (c.in-Err.ensures.err P T h)
