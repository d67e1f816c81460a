use Rattle.std.proofs.Common.{◌∙◌, sym}
use Rattle.ucon_state.specs.Shown.{shown}
use Rattle.ucon_accept.proofs.OneSession.{session_old}
use Rattle.ucon_accept.proofs.one_more.OneMoreView.session.Goals as goal

pub returns-else-session-number : goal.returns-else-session-number
returns-else-session-number c =
    let view = c.args.self.now in
    c.session.ensures ∙ sym (session_old (shown view.state.now).tables view.row c.args.session (λ e. c.if-session-number.false (e ∙ sym c.number.ensures)))
