use Rattle.std.proofs.Common.{◌≡◌, ◌-◌, ◌^◌, Option}
use Rattle.ucon_disk.specs.Disk.{SameImages}
use Rattle.ucon_disk.specs.Run.{LeavesOnly}
use Rattle.ucon_journal.specs.Journal.{disk_of, gate_of, IsReading}
use Rattle.ucon_model.specs.Plain.{Bytes, PlainPolicy}
use Rattle.ucon_audit.specs.declared.head.Kept.{Kept}
use Rattle.ucon_audit.specs.Checking.{IsChecking}
use Rattle.ucon_audit.proofs.check.Check.take_all.Given as goal

abbrev pub invariant-records : goal.invariant-records
invariant-records g l =
    let seen = g.D.Disk.seen in
    let first = seen (disk_of l.initial.journal) in
    let here = seen (disk_of l.journal) in
    record {
      reading : IsReading seen l.journal;
      taken : (kept : Option Kept) (text : Bytes) (P : PlainPolicy)
          → IsChecking g.E.Engine.follows kept text P l.initial.self (gate_of l.initial.journal) first.contents
          → IsChecking g.E.Engine.follows kept text P l.self (gate_of l.journal) first.contents;
      contents : here.contents ≡ first.contents;
      images : SameImages first.images here.images;
      run : LeavesOnly first here first.images;
      unfailed : here.faults ≡ first.faults;
    }

abbrev pub decreases-records : goal.decreases-records
decreases-records g l = 2 ^ 63 - gate_of l.journal
