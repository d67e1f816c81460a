use Rattle.std.proofs.Common.{rules, ◌≡◌, true, false, Ok, ap, ◌∙◌}
use Rattle.ucon_disk.specs.Run.{joined, weaker}
use Rattle.ucon_journal.specs.Journal.{disk_of}
use Rattle.ucon_store.proofs.loading.Loaded.take_all.Goals as goal

pub records-preserved : goal.records-preserved
records-preserved g c =
    let inv = c.records.invariant in
    let more : c.in_ok-take_next.field-0 ≡ true = search rules in
    let seen = g.D.Disk.seen in
    let first = disk_of c.args.journal.now in
    let mid = disk_of c.records.journal in
    let new = disk_of c.take_next.new.journal in
    record {
      loading = c.in_ok-take_next.ensures.loading (ap Ok more);
      reading = c.take_next.ensures.reading;
      contents = c.take_next.ensures.contents ∙ inv.contents;
      images = record { no_more = λ d i. inv.images.no_more d (c.take_next.ensures.images.no_more d i); no_fewer = λ d i. c.take_next.ensures.images.no_fewer d (inv.images.no_fewer d i) };
      run = joined (g.D.Disk.seen first) (g.D.Disk.seen mid) (g.D.Disk.seen new) (seen first).images inv.run (weaker (g.D.Disk.seen mid) (g.D.Disk.seen new) (seen mid).images (seen first).images inv.images.no_more c.take_next.ensures.run);
      unfailed = c.in_ok-take_next.ensures.unfailed ∙ inv.unfailed;
    }

pub returns-clause-loaded : goal.returns-clause-loaded
returns-clause-loaded g c =
    let done : c.in_ok-take_next.field-0 ≡ false = search rules in
    c.in_ok-take_next.ensures.loaded (ap Ok done)
