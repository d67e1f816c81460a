use Rattle.std.proofs.Common.{rules, ◌≡◌, [], List, ◌∙◌}
use Rattle.ucon_model.specs.declared.session.SessionState.{SessionState}
use Rattle.ucon_state.specs.Shown.{shown}
use Rattle.ucon_client.proofs.Following.{opened_shows}
use Rattle.ucon_client.proofs.boarded.writer_over.Goals as goal

pub returns-clause-shown : goal.returns-clause-shown
returns-clause-shown g c =
    let sessions : List SessionState = c.in-Ok.sessions.items in
    let same : c.as_slice.result.now ≡ sessions = search rules in
    opened_shows c.args.store.now c.in-Ok-board.writer.board sessions (shown c.state.result.now)
    (c.in-Ok-board.ensures.board ∙ (λ i. record { opened_at = c.place.ensures.place i; sessions = same i; replies = [] }))
    c.in-Ok.ensures.states (c.state.ensures.follows c.requires)
