use Rattle.std.proofs.Common.{◌∙◌, ℕ, ap}
use Rattle.ucon_model.specs.History.{trace}
use Rattle.ucon_state.specs.Held.{Held, held_after}
use Rattle.ucon_state.specs.Shown.{shown}
use Rattle.ucon_audit.specs.Report.{line_of, tree_of}
use Rattle.ucon_audit.proofs.state_json.report.Goals as goal

pub returns-clause-after_trace : goal.returns-clause-after_trace
returns-clause-after_trace c = λ P T follows.
    c.in_ok-bytes.ensures ∙ ap (λ (h : Held). line_of (tree_of c.args.entries h)) (c.states_hold_what_they_follow.ensures (shown c.args.state.now) P T follows)

pub returns-clause-after_history : goal.returns-clause-after_history
returns-clause-after_history c = λ P H follows is.
    c.in_ok-bytes.ensures
    ∙ ap (λ (h : Held). line_of (tree_of c.args.entries h)) (c.states_hold_what_they_follow.ensures (shown c.args.state.now) P (trace P H) follows)
    ∙ ap (λ (n : ℕ). line_of (tree_of n (held_after P (trace P H)))) is
