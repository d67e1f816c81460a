use Rattle.ucon_cascade.proofs.monitor.MonitorEngine.undo.Goals as goal

pub go_back-requires : goal.go_back-requires
go_back-requires c = record { policy = c.requires.policy; trace = c.requires.trace; back = c.requires.pends.back }

pub returns : goal.returns
returns c = λ P T e h. c.go_back.ensures P T h.back
