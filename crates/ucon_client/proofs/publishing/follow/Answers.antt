use Rattle.std.proofs.Common.{sym, ◌∙◌, arith}
use Rattle.ucon_client.proofs.Posting.{publishes}
use Rattle.ucon_client.proofs.publishing.follow.Goals as goal

pub returns-then-names_sessions : goal.returns-then-names_sessions
returns-then-names_sessions g c =
    let law = c.boards_show_entries.ensures in
    let s = c.step-published.ensures in
    publishes law.unpublished law.published c.args.placed.now c.args.writer.now c.step-published.new.self (sym c.changes.ensures ∙ c.if-changes.true)
    c.step-published.result (omega (arith, c.place-place.ensures, c.if-place-placed.true, c.if-placed-place-eq1.true)) s.ok s.no_memory s.stays
