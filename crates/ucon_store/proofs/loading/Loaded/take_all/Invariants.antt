use Rattle.std.proofs.Common.{◌≡◌, ◌-◌, ◌^◌}
use Rattle.ucon_disk.specs.Disk.{SameImages}
use Rattle.ucon_disk.specs.Run.{LeavesOnly}
use Rattle.ucon_journal.specs.Journal.{disk_of, gate_of, IsReading}
use Rattle.ucon_store.specs.Loading.{IsLoading}
use Rattle.ucon_store.proofs.loading.Loaded.take_all.Given as goal

abbrev pub invariant-records : goal.invariant-records
invariant-records g l = record {
  loading : IsLoading g.E.Engine.follows g.D.Disk.seen l.self l.journal;
  reading : IsReading g.D.Disk.seen l.journal;
  contents : (g.D.Disk.seen (disk_of l.journal)).contents ≡ (g.D.Disk.seen (disk_of l.initial.journal)).contents;
  images : SameImages (g.D.Disk.seen (disk_of l.initial.journal)).images (g.D.Disk.seen (disk_of l.journal)).images;
  run : LeavesOnly (g.D.Disk.seen (disk_of l.initial.journal)) (g.D.Disk.seen (disk_of l.journal)) (g.D.Disk.seen (disk_of l.initial.journal)).images;
  unfailed : (g.D.Disk.seen (disk_of l.journal)).faults ≡ (g.D.Disk.seen (disk_of l.initial.journal)).faults;
}

abbrev pub decreases-records : goal.decreases-records
decreases-records g l = 2 ^ 63 - gate_of l.journal
