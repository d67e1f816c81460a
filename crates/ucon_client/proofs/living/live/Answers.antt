use Rattle.std.proofs.Common.{ap, ◌∙◌}
use Rattle.ucon_client.specs.Boarded.{Sharing}
use Rattle.ucon_client.proofs.AllTold.{lived_so}
use Rattle.ucon_client.proofs.living.live.Goals as goal

pub returns-clause-lived : goal.returns-clause-lived
returns-clause-lived g c =
    lived_so g.S.Source.seen c.args.script.now c.live_over-parts.new.script c.args.source.now c.live_over-parts.new.source c.in-Ok-open.opened.0 c.live_over-parts.new.seat
    c.live_over-parts.result.0.items c.live_over-parts.result.1 c.live_over-parts.result.2 c.args.store c.close-boarded.result.store
    (ap (λ (s : Sharing g.row.D.Denot). s.store) c.in-Ok-open.ensures.turn.0 ∙ c.in_ok-boarded.ensures.store)
    c.requires.unmarked c.close-boarded.ensures.list c.close-boarded.ensures.callers c.into_store-2.ensures.mark c.live_over-parts.ensures.served c.into_store-2.result c.into_store-2.ensures.store
