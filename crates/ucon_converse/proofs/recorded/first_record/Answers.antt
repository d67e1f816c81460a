use Rattle.std.proofs.Common.{sym, subst, ◌∙◌}
use Rattle.ucon_journal.specs.Journal.{disk_of}
use Rattle.ucon_converse.specs.Ended.{IsOnlyRead, LeavesSame}
use Rattle.ucon_converse.proofs.Records.{opened_same, opened_whole}
use Rattle.ucon_converse.proofs.recorded.first_record.Goals as goal

pub returns-in-Ok-text-clause-only_read : goal.returns-in-Ok-text-clause-only_read
returns-in-Ok-text-clause-only_read g c =
    let seen = g.D.Disk.seen in
    let old = c.args.disk in
    let mid = disk_of c.in-Ok.journal in
    let new = disk_of c.first_payload-text.new.journal in
    let opens = c.in-Ok.ensures in
    let reads = c.first_payload-text.ensures in
    let only_read : IsOnlyRead (seen old) (seen new) = record {
      contents = reads.contents ∙ (opens.bytes ∙ opened_whole (seen old).contents c.requires);
      faults = c.in-Ok-text.ensures.unfailed ∙ opens.unfailed;
      images_kept = opened_same seen g.met.D.Disk.only_now old mid new c.requires opens.bytes opens.only opens.since reads.run;
    } in
    subst (λ (d : g.row.D.Denot). IsOnlyRead (seen old) (seen d)) (sym c.close-disk.ensures) only_read

pub returns-in-Err-clause-left : goal.returns-in-Err-clause-left
returns-in-Err-clause-left g c =
    let seen = g.D.Disk.seen in
    let old = c.args.disk in
    let mid = disk_of c.in-Ok.journal in
    let new = disk_of c.first_payload-text.new.journal in
    let opens = c.in-Ok.ensures in
    let same : LeavesSame (seen old) (seen new) =
    opened_same seen g.met.D.Disk.only_now old mid new c.requires opens.bytes opens.only opens.since c.first_payload-text.ensures.run in
    subst (λ (d : g.row.D.Denot). LeavesSame (seen old) (seen d)) (sym c.close-disk.ensures) same
