use Rattle.std.proofs.Common.{◌≡◌, sym, ap, subst, ◌∙◌, refl}
use Rattle.std.specs.Prelude.{Err}
use Rattle.ucon_outcome.specs.declared.outcome.Outcome.{Outcome}
use Rattle.ucon_top.specs.Ending.{by_reading}
use Rattle.ucon_top.specs.OwnReading.{HasLivedInput}
use Rattle.ucon_top.specs.Seen.{Seen, all_seen, same_disk}
use Rattle.ucon_top.proofs.Unlived.{unread_lived}
use Rattle.ucon_top.proofs.live.live.Goals as goal

pub returns-in-Err-clause-lived : goal.returns-in-Err-clause-lived
returns-in-Err-clause-lived g c =
    let sink = g.K.Sink.seen c.args.out.now in
    let before : Seen = all_seen (g.S.Source.seen c.args.input.now) sink (g.D.Disk.seen c.args.disk) in
    let after : Seen = all_seen (g.S.Source.seen c.read_coming.new.source) sink (g.D.Disk.seen c.by.result.disk) in
    let e = c.in-Err.ensures in
    let is : c.by.result.outcome ≡ by_reading c.in-Err.fault = c.by.ensures.outcome ∙ c.from.ensures in
    subst (λ (o : Outcome). HasLivedInput o before after) (sym is)
    (unread_lived before after refl (same_disk g.D.Disk.seen c.args.disk c.by.result.disk c.by.ensures.disk) c.in-Err.fault e.err
    (λ so. e.too_long (ap Err so)) (λ so. e.undivided (ap Err so)) (λ so. e.failed (ap Err so)) (λ other. e.unfailed (λ so. other (cc so))))
