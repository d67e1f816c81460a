use Rattle.std.proofs.Common.{◌+◌, take, refl}
use Rattle.ucon_disk.specs.Disk.{Torn, Shortened}
use Rattle.ucon_disk.specs.Run.{weaker, joined}
use Rattle.ucon_journal.specs.Found.{counted}
use Rattle.ucon_journal.specs.Opened.{SamePayloads}
use Rattle.ucon_journal.proofs.Files.{cut_same, shut_same}
use Rattle.ucon_journal.proofs.Told.{told_at, rests_after, EndsAt, mended}
use Rattle.ucon_journal.proofs.journal.Journal.mend.Goals as goal

pub returns-in_err-cut_synced-clause-images : goal.returns-in_err-cut_synced-clause-images
returns-in_err-cut_synced-clause-images g c = record {
  each = λ file rest.
      let old = c.args.self.now.disk in
      let gate = c.args.self.now.gate in
      let version = c.args.self.now.version in
      let ends = told_at (EndsAt version gate) file rest.told c.requires.told in
      weaker (g.D.Disk.seen old) (g.D.Disk.seen c.cut_synced.new.disk) (Shortened (gate + 1) file) (SamePayloads file) (cut_same file version gate (counted file) ends.0 ends.1) (c.cut_synced.ensures.images.each file rest);
}

pub returns-in_err-write_gate-clause-images : goal.returns-in_err-write_gate-clause-images
returns-in_err-write_gate-clause-images g c = record {
  each = λ file rest.
      let old = c.args.self.now.disk in
      let mid = c.cut_synced.new.disk in
      let new = c.write_gate.new.disk in
      let gate = c.args.self.now.gate in
      let version = c.args.self.now.version in
      let ends = told_at (EndsAt version gate) file rest.told c.requires.told in
      let cut = weaker (g.D.Disk.seen old) (g.D.Disk.seen mid) (Shortened (gate + 1) file) (SamePayloads file) (cut_same file version gate (counted file) ends.0 ends.1) (c.cut_synced.ensures.images.each file rest) in
      let rest_cut = rests_after _ (g.D.Disk.seen mid) (take (gate + 1)) file c.in_ok-cut_synced.ensures.cut c.in_ok-cut_synced.ensures.only rest.told in
      let shut = weaker (g.D.Disk.seen mid) (g.D.Disk.seen new) (Torn gate 1 (take (gate + 1) file)) (SamePayloads file) (shut_same file version gate (counted file) ends.0 ends.1) (c.write_gate.ensures.images.each (take (gate + 1) file) rest_cut) in
      joined (g.D.Disk.seen old) (g.D.Disk.seen mid) (g.D.Disk.seen new) (SamePayloads file) cut shut;
}

pub returns-clause-images : goal.returns-clause-images
returns-clause-images g c = record {
  each = λ file rest.
      let old = c.args.self.now.disk in
      let mid = c.cut_synced.new.disk in
      let new = c.write_gate.new.disk in
      let gate = c.args.self.now.gate in
      let version = c.args.self.now.version in
      let ends = told_at (EndsAt version gate) file rest.told c.requires.told in
      let cut = weaker (g.D.Disk.seen old) (g.D.Disk.seen mid) (Shortened (gate + 1) file) (SamePayloads file) (cut_same file version gate (counted file) ends.0 ends.1) (c.cut_synced.ensures.images.each file rest) in
      let rest_cut = rests_after _ (g.D.Disk.seen mid) (take (gate + 1)) file c.in_ok-cut_synced.ensures.cut c.in_ok-cut_synced.ensures.only rest.told in
      let shut = weaker (g.D.Disk.seen mid) (g.D.Disk.seen new) (Torn gate 1 (take (gate + 1) file)) (SamePayloads file) (shut_same file version gate (counted file) ends.0 ends.1) (c.write_gate.ensures.images.each (take (gate + 1) file) rest_cut) in
      joined (g.D.Disk.seen old) (g.D.Disk.seen mid) (g.D.Disk.seen new) (SamePayloads file) cut shut;
}

pub returns-clause-closed : goal.returns-clause-closed
returns-clause-closed g c = record {
  phase = refl;
  told = (mended c.args.self.now.version c.args.self.now.gate _ _ _ c.requires.told c.in_ok-cut_synced.ensures.cut c.in_ok-write_gate.ensures.written).closed;
}

pub returns-clause-same : goal.returns-clause-same
returns-clause-same g c = (mended c.args.self.now.version c.args.self.now.gate _ _ _ c.requires.told c.in_ok-cut_synced.ensures.cut c.in_ok-write_gate.ensures.written).same

pub returns-clause-bytes : goal.returns-clause-bytes
returns-clause-bytes g c = (mended c.args.self.now.version c.args.self.now.gate _ _ _ c.requires.told c.in_ok-cut_synced.ensures.cut c.in_ok-write_gate.ensures.written).bytes
