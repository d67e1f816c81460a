use Rattle.std.proofs.Common.{◌∙◌, refl}
use Rattle.ucon_model.specs.Block.{after}
use Rattle.ucon_state.specs.Shown.{shown}
use Rattle.ucon_state.specs.Tables.{session_in}
use Rattle.ucon_plain.proofs.Standing.{status_is}
use Rattle.ucon_plain.proofs.monitor.PlainMonitorEngine.status.Goals as goal

pub returns-clause-idle : goal.returns-clause-idle
returns-clause-idle c = λ P T h.
    let s = shown c.args.self.now.state in
    c.session_state.ensures ∙ status_is s P T h.follows c.args.session (session_in s.tables c.args.session) refl

pub returns-clause-pending : goal.returns-clause-pending
returns-clause-pending c = λ P T e h.
    let s = shown c.args.self.now.state in
    c.session_state.ensures ∙ status_is s P (after P T e.caller e.command) h.follows c.args.session (session_in s.tables c.args.session) refl
