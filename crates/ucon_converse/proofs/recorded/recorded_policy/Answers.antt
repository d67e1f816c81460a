use Rattle.std.proofs.Common.{◌∙◌}
use Rattle.ucon_converse.proofs.Records.{if_err, then_same}
use Rattle.ucon_converse.proofs.Tellings.{if_ok}
use Rattle.ucon_converse.proofs.recorded.recorded_policy.Goals as goal

pub returns-in-Ok-2-clause-only_read : goal.returns-in-Ok-2-clause-only_read
returns-in-Ok-2-clause-only_read g c =
    let seen = g.D.Disk.seen in
    let only = g.met.D.Disk.only_now in
    let looks = c.len.ensures in
    if_ok c.first_record.result _ _
    (λ r read. record {
      contents = read.contents ∙ looks.contents;
      faults = read.faults ∙ c.in-Ok-2.ensures.cause;
      images_kept = then_same seen only c.args.disk c.len.new.self r.1 looks.contents looks.images looks.time read.images_kept;
    }) c.first_record.ensures.only_read

pub returns-in-Ok-2-clause-left : goal.returns-in-Ok-2-clause-left
returns-in-Ok-2-clause-left g c =
    let seen = g.D.Disk.seen in
    let looks = c.len.ensures in
    if_err c.first_record.result _ _
    (λ e left. then_same seen g.met.D.Disk.only_now c.args.disk c.len.new.self e.0 looks.contents looks.images looks.time left) c.first_record.ensures.left
