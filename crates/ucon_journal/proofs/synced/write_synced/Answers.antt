use Rattle.std.proofs.Common.{List, ℕ, sym, subst, length}
use Rattle.ucon_disk.specs.Disk.{Torn}
use Rattle.ucon_disk.specs.Run.{started, goes_on}
use Rattle.ucon_journal.proofs.Steps.{torn_same}
use Rattle.ucon_journal.proofs.synced.write_synced.Goals as goal

pub returns-in_err-write_at-clause-images : goal.returns-in_err-write_at-clause-images
returns-in_err-write_at-clause-images g c = record {
  each = λ file rest.
      let P = (Torn c.args.at (length c.args.bytes.now) file) in
      let here = λ (x : List ℕ) (now : (g.D.Disk.seen c.write_at.new.self).images x). let from = c.write_at.ensures.images x now in subst (λ (d : List ℕ). Torn c.args.at (length c.args.bytes.now) d x) (rest.only from.0 from.1) from.2 in
      let at_start = started (g.D.Disk.seen c.args.disk.now) P (λ x since. subst P (sym (rest.only x (g.met.D.Disk.only_now c.args.disk.now x since))) (torn_same c.args.at (length c.args.bytes.now) file)) in
      let changed = goes_on (g.D.Disk.seen c.args.disk.now) (g.D.Disk.seen c.args.disk.now) (g.D.Disk.seen c.write_at.new.self) P _ at_start c.write_at.ensures.time here in
      changed;
}

pub returns-in_err-sync-clause-images : goal.returns-in_err-sync-clause-images
returns-in_err-sync-clause-images g c = record {
  each = λ file rest.
      let P = (Torn c.args.at (length c.args.bytes.now) file) in
      let here = λ (x : List ℕ) (now : (g.D.Disk.seen c.write_at.new.self).images x). let from = c.write_at.ensures.images x now in subst (λ (d : List ℕ). Torn c.args.at (length c.args.bytes.now) d x) (rest.only from.0 from.1) from.2 in
      let at_start = started (g.D.Disk.seen c.args.disk.now) P (λ x since. subst P (sym (rest.only x (g.met.D.Disk.only_now c.args.disk.now x since))) (torn_same c.args.at (length c.args.bytes.now) file)) in
      let changed = goes_on (g.D.Disk.seen c.args.disk.now) (g.D.Disk.seen c.args.disk.now) (g.D.Disk.seen c.write_at.new.self) P _ at_start c.write_at.ensures.time here in
      goes_on (g.D.Disk.seen c.args.disk.now) (g.D.Disk.seen c.write_at.new.self) (g.D.Disk.seen c.sync.new.self) P _ changed c.sync.ensures.time (λ x now. here x (c.sync.ensures.images x now));
}

pub returns-clause-images : goal.returns-clause-images
returns-clause-images g c = record {
  each = λ file rest.
      let P = (Torn c.args.at (length c.args.bytes.now) file) in
      let here = λ (x : List ℕ) (now : (g.D.Disk.seen c.write_at.new.self).images x). let from = c.write_at.ensures.images x now in subst (λ (d : List ℕ). Torn c.args.at (length c.args.bytes.now) d x) (rest.only from.0 from.1) from.2 in
      let at_start = started (g.D.Disk.seen c.args.disk.now) P (λ x since. subst P (sym (rest.only x (g.met.D.Disk.only_now c.args.disk.now x since))) (torn_same c.args.at (length c.args.bytes.now) file)) in
      let changed = goes_on (g.D.Disk.seen c.args.disk.now) (g.D.Disk.seen c.args.disk.now) (g.D.Disk.seen c.write_at.new.self) P _ at_start c.write_at.ensures.time here in
      goes_on (g.D.Disk.seen c.args.disk.now) (g.D.Disk.seen c.write_at.new.self) (g.D.Disk.seen c.sync.new.self) P _ changed c.sync.ensures.time (λ x now. here x (c.sync.ensures.images x now));
}
