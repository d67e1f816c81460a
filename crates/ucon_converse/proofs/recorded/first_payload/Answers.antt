use Rattle.std.proofs.Common.{rules, ◌≡◌, refl, ◌∙◌}
use Rattle.ucon_journal.specs.Journal.{disk_of}
use Rattle.ucon_converse.proofs.Records.{too_long_first}
use Rattle.ucon_converse.proofs.recorded.first_payload.Goals as goal

pub returns-in-Err-TooLong-clause-reason : goal.returns-in-Err-TooLong-clause-reason
returns-in-Err-TooLong-clause-reason g c =
    let seen = g.D.Disk.seen in
    let old = disk_of c.args.journal.now in
    let long = c.in-Err-TooLong.ensures.too_long c.in-Err-TooLong.field-0-0 c.in-Err-TooLong.field-0-is in
    let unfailed : (seen (disk_of c.next.new.self)).faults ≡ (seen old).faults = search rules in
    (refl, refl, too_long_first (seen old).contents c.in-Err-TooLong.field-0-0 (long.0 ∙ c.requires.gate) c.requires.all long.1, unfailed)
