use Rattle.std.proofs.Common.{◌≡◌, ◌-◌, ◌<◌, ◌^◌}
use Rattle.std.specs.Prelude.{IfSome}
use Rattle.ucon_disk.specs.Disk.{SameImages}
use Rattle.ucon_disk.specs.Run.{LeavesOnly}
use Rattle.ucon_journal.specs.Journal.{disk_of, gate_of, version_of, IsReading}
use Rattle.ucon_store.specs.PointRecords.{points_of}
use Rattle.ucon_store.specs.Walking.{IsWalking, finds}
use Rattle.ucon_store.proofs.walking.Walk.pass_all.Given as goal

abbrev pub invariant-records : goal.invariant-records
invariant-records g l = record {
  reading : IsReading g.D.Disk.seen l.journal;
  walking : IsWalking l.self (gate_of l.journal);
  below : gate_of l.journal < 2 ^ 63;
  passed : IfSome (g.D.Disk.seen (disk_of l.initial.journal)).contents (λ file. finds (points_of (version_of l.initial.journal)) l.self (gate_of l.journal) file
      ≡ finds (points_of (version_of l.initial.journal)) l.initial.self (gate_of l.initial.journal) file);
  version : version_of l.journal ≡ version_of l.initial.journal;
  contents : (g.D.Disk.seen (disk_of l.journal)).contents ≡ (g.D.Disk.seen (disk_of l.initial.journal)).contents;
  images : SameImages (g.D.Disk.seen (disk_of l.initial.journal)).images (g.D.Disk.seen (disk_of l.journal)).images;
  run : LeavesOnly (g.D.Disk.seen (disk_of l.initial.journal)) (g.D.Disk.seen (disk_of l.journal)) (g.D.Disk.seen (disk_of l.initial.journal)).images;
  unfailed : (g.D.Disk.seen (disk_of l.journal)).faults ≡ (g.D.Disk.seen (disk_of l.initial.journal)).faults;
}

abbrev pub decreases-records : goal.decreases-records
decreases-records g l = 2 ^ 63 - gate_of l.journal
