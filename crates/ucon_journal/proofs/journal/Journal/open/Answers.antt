use Rattle.std.proofs.Common.{inl, refl}
use Rattle.ucon_disk.specs.Run.{from_rest}
use Rattle.ucon_journal.specs.Opened.{Untouched}
use Rattle.ucon_journal.proofs.Told.{if_told, opened_told, all_read, opened_same}
use Rattle.ucon_journal.proofs.journal.Journal.open.Goals as goal

pub returns-in-Ok-clause-reading : goal.returns-in-Ok-clause-reading
returns-in-Ok-clause-reading g c = (
  record {
    phase = inl refl;
    told = opened_told c.in-Ok.opened.version (g.D.Disk.seen c.args.disk).contents (g.D.Disk.seen c.begin.new.disk).contents c.in-Ok.ensures.bytes c.in-Ok.ensures.version;
    len = c.in-Ok.ensures.len;
    ahead = if_told (g.D.Disk.seen c.begin.new.disk).contents _ (λ file is. c.new.ensures file);
  },
  refl,
)

pub returns-in-Ok-clause-all : goal.returns-in-Ok-clause-all
returns-in-Ok-clause-all g c = all_read c.in-Ok.opened.version (g.D.Disk.seen c.begin.new.disk).contents (opened_told c.in-Ok.opened.version (g.D.Disk.seen c.args.disk).contents (g.D.Disk.seen c.begin.new.disk).contents c.in-Ok.ensures.bytes c.in-Ok.ensures.version)

pub returns-in-Ok-clause-same : goal.returns-in-Ok-clause-same
returns-in-Ok-clause-same g c = opened_same (g.D.Disk.seen c.args.disk).contents (g.D.Disk.seen c.begin.new.disk).contents c.in-Ok.ensures.bytes

-- ---- of a disk at rest

pub returns-in-Ok-clause-images : goal.returns-in-Ok-clause-images
returns-in-Ok-clause-images g c = from_rest (g.D.Disk.seen c.args.disk) (g.D.Disk.seen c.begin.new.disk) Untouched (λ file. inl refl) c.begin.ensures.since

pub returns-in-Err-clause-images_err : goal.returns-in-Err-clause-images_err
returns-in-Err-clause-images_err g c = from_rest (g.D.Disk.seen c.args.disk) (g.D.Disk.seen c.begin.new.disk) Untouched (λ file. inl refl) c.begin.ensures.since
