use Rattle.std.proofs.Common.{◌∙◌, ℕ, ap}
use Rattle.ucon_model.specs.History.{trace}
use Rattle.ucon_state.specs.Held.{Held, held_after}
use Rattle.ucon_state.specs.Shown.{shown}
use Rattle.ucon_point.specs.PointText.{point_text}
use Rattle.ucon_point.proofs.writing.point_text.Goals as goal

pub returns-clause-after_trace : goal.returns-clause-after_trace
returns-clause-after_trace c = λ P T follows.
    c.in_ok-text.ensures ∙ ap (λ (h : Held). point_text c.args.entries c.args.policy.now h) (c.states_hold_what_they_follow.ensures (shown c.args.state.now) P T follows)

pub returns-clause-after_history : goal.returns-clause-after_history
returns-clause-after_history c = λ P H follows is.
    c.in_ok-text.ensures
    ∙ ap (λ (h : Held). point_text c.args.entries c.args.policy.now h) (c.states_hold_what_they_follow.ensures (shown c.args.state.now) P (trace P H) follows)
    ∙ ap (λ (n : ℕ). point_text n c.args.policy.now (held_after P (trace P H))) is
