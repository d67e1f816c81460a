use Rattle.std.proofs.Common.{◌+◌, refl, sym, ap, ◌∙◌, arith}
use Rattle.ucon_state.specs.declared.counts.Counts.{Counts}
use Rattle.ucon_state.specs.Shown.{shown}
use Rattle.ucon_client.proofs.Posting.{all_states, one_more_state}
use Rattle.ucon_client.proofs.publishing.session_states.Goals as goal

pub loop-n-preserved : goal.loop-n-preserved
loop-n-preserved c =
    c.in_ok-push.ensures.items
    ∙ one_more_state (shown c.args.state.now).tables c.loop-n.n (c.loop-n.n + 1) c.in-Some.session c.loop-n.states.items refl c.loop-n.invariant
    (sym c.in-Some.is ∙ c.session_state.ensures)

pub returns-clause-states : goal.returns-clause-states
returns-clause-states c =
    all_states (shown c.args.state.now).tables c.loop-n.n c.loop-n.states.items
    (omega (arith, c.loop-n-test.false, ap (λ (k : Counts). k.sessions) c.counts-count.ensures)) c.loop-n.invariant
