use Rattle.std.proofs.Common.{◌∙◌}
use Rattle.ucon_model.specs.Block.{after}
use Rattle.ucon_state.specs.Shown.{shown}
use Rattle.ucon_cascade.proofs.Monitored.{status_is}
use Rattle.ucon_cascade.proofs.monitor.MonitorEngine.status.Goals as goal

pub returns-clause-idle : goal.returns-clause-idle
returns-clause-idle c = λ P T h. c.session_state.ensures ∙ status_is (shown c.args.self.now.state) P T h.stands.follows c.args.session

pub returns-clause-pending : goal.returns-clause-pending
returns-clause-pending c = λ P T e h. c.session_state.ensures ∙ status_is (shown c.args.self.now.state) P (after P T e.caller e.command) h.stands.follows c.args.session
