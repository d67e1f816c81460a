use Rattle.std.proofs.Common.{◌≡◌, ℕ, ◌+◌, IfSome, List, length, inl, ◌∙◌, ap, subst, refl, arith}
use Rattle.std.specs.Option.{option_map}
use Rattle.ucon_disk.specs.Disk.{overwritten, Torn}
use Rattle.ucon_disk.specs.Run.{weaker, joined}
use Rattle.ucon_journal.specs.Found.{counted}
use Rattle.ucon_journal.specs.JournalBytes.{batch_bytes, records}
use Rattle.ucon_journal.specs.Journal.{batch_of}
use Rattle.ucon_journal.specs.Opened.{PerhapsAllAdded}
use Rattle.ucon_journal.proofs.Added.{stage_same, staged_file, open_perhaps}
use Rattle.ucon_journal.proofs.Batches.{length-batch}
use Rattle.ucon_journal.proofs.Told.{told_at, rests_after, ClosesAt, appended}
use Rattle.ucon_journal.proofs.journal.Journal.append_all.Goals as goal

pub returns-in_err-write_synced-clause-images : goal.returns-in_err-write_synced-clause-images
returns-in_err-write_synced-clause-images g c = record {
  each = λ file rest.
      let old = c.args.self.now.disk in
      let gate = c.args.self.now.gate in
      let version = c.args.self.now.version in
      let qs = batch_of c.args.self.now in
      let closes = told_at (ClosesAt version gate) file rest.told c.requires.closed.told in
      let n = length c.deref.result.now in
      weaker (g.D.Disk.seen old) (g.D.Disk.seen c.write_synced.new.disk) (Torn (gate + 1) n file) (PerhapsAllAdded qs file) (λ x torn. inl (stage_same file version gate (counted file) closes.0 closes.1 n x torn)) (c.write_synced.ensures.images.each file rest);
}

pub returns-in_err-write_gate-clause-images : goal.returns-in_err-write_gate-clause-images
returns-in_err-write_gate-clause-images g c = record {
  each = λ file rest.
      let old = c.args.self.now.disk in
      let mid = c.write_synced.new.disk in
      let new = c.write_gate.new.disk in
      let gate = c.args.self.now.gate in
      let version = c.args.self.now.version in
      let qs = batch_of c.args.self.now in
      let closes = told_at (ClosesAt version gate) file rest.told c.requires.closed.told in
      let n = length c.deref.result.now in
      let staging = weaker (g.D.Disk.seen old) (g.D.Disk.seen mid) (Torn (gate + 1) n file) (PerhapsAllAdded qs file) (λ x torn. inl (stage_same file version gate (counted file) closes.0 closes.1 n x torn)) (c.write_synced.ensures.images.each file rest) in
      let bytes : c.deref.result.now ≡ batch_bytes qs = c.deref.ensures.value ∙ c.requires.batch.bytes in
      let written : (g.D.Disk.seen c.write_synced.new.disk).contents ≡ option_map (overwritten (gate + 1) (batch_bytes qs)) (g.D.Disk.seen c.args.self.now.disk).contents = c.in_ok-write_synced.ensures.written ∙ ap (λ (l : List ℕ). option_map (overwritten (gate + 1) l) (g.D.Disk.seen old).contents) bytes in
      let is_staged = staged_file file version gate (counted file) closes.0 closes.1 qs c.requires.batch.short c.requires.some in
      let rest_staged = rests_after _ (g.D.Disk.seen mid) (overwritten (gate + 1) (batch_bytes qs)) file written c.in_ok-write_synced.ensures.only rest.told in
      let opens = λ (x : List ℕ) (torn : Torn gate 1 (overwritten (gate + 1) (batch_bytes qs) file) x). open_perhaps file version gate (counted file) closes.0 closes.1 qs c.requires.batch.short c.requires.some x (subst (λ (l : List ℕ). Torn gate 1 l x) is_staged torn) in
      let opening = weaker (g.D.Disk.seen mid) (g.D.Disk.seen new) (Torn gate 1 (overwritten (gate + 1) (batch_bytes qs) file)) (PerhapsAllAdded qs file) opens (c.write_gate.ensures.images.each (overwritten (gate + 1) (batch_bytes qs) file) rest_staged) in
      joined (g.D.Disk.seen old) (g.D.Disk.seen mid) (g.D.Disk.seen new) (PerhapsAllAdded qs file) staging opening;
}

pub returns-clause-images : goal.returns-clause-images
returns-clause-images g c = record {
  each = λ file rest.
      let old = c.args.self.now.disk in
      let mid = c.write_synced.new.disk in
      let new = c.write_gate.new.disk in
      let gate = c.args.self.now.gate in
      let version = c.args.self.now.version in
      let qs = batch_of c.args.self.now in
      let closes = told_at (ClosesAt version gate) file rest.told c.requires.closed.told in
      let n = length c.deref.result.now in
      let staging = weaker (g.D.Disk.seen old) (g.D.Disk.seen mid) (Torn (gate + 1) n file) (PerhapsAllAdded qs file) (λ x torn. inl (stage_same file version gate (counted file) closes.0 closes.1 n x torn)) (c.write_synced.ensures.images.each file rest) in
      let bytes : c.deref.result.now ≡ batch_bytes qs = c.deref.ensures.value ∙ c.requires.batch.bytes in
      let written : (g.D.Disk.seen c.write_synced.new.disk).contents ≡ option_map (overwritten (gate + 1) (batch_bytes qs)) (g.D.Disk.seen c.args.self.now.disk).contents = c.in_ok-write_synced.ensures.written ∙ ap (λ (l : List ℕ). option_map (overwritten (gate + 1) l) (g.D.Disk.seen old).contents) bytes in
      let is_staged = staged_file file version gate (counted file) closes.0 closes.1 qs c.requires.batch.short c.requires.some in
      let rest_staged = rests_after _ (g.D.Disk.seen mid) (overwritten (gate + 1) (batch_bytes qs)) file written c.in_ok-write_synced.ensures.only rest.told in
      let opens = λ (x : List ℕ) (torn : Torn gate 1 (overwritten (gate + 1) (batch_bytes qs) file) x). open_perhaps file version gate (counted file) closes.0 closes.1 qs c.requires.batch.short c.requires.some x (subst (λ (l : List ℕ). Torn gate 1 l x) is_staged torn) in
      let opening = weaker (g.D.Disk.seen mid) (g.D.Disk.seen new) (Torn gate 1 (overwritten (gate + 1) (batch_bytes qs) file)) (PerhapsAllAdded qs file) opens (c.write_gate.ensures.images.each (overwritten (gate + 1) (batch_bytes qs) file) rest_staged) in
      joined (g.D.Disk.seen old) (g.D.Disk.seen mid) (g.D.Disk.seen new) (PerhapsAllAdded qs file) staging opening;
}

pub returns-clause-closed : goal.returns-clause-closed
returns-clause-closed g c =
    let gate = c.args.self.now.gate in
    let qs = batch_of c.args.self.now in
    let bytes : c.deref.result.now ≡ batch_bytes qs = c.deref.ensures.value ∙ c.requires.batch.bytes in
    let written : (g.D.Disk.seen c.write_synced.new.disk).contents ≡ option_map (overwritten (gate + 1) (batch_bytes qs)) (g.D.Disk.seen c.args.self.now.disk).contents = c.in_ok-write_synced.ensures.written ∙ ap (λ (l : List ℕ). option_map (overwritten (gate + 1) l) (g.D.Disk.seen c.args.self.now.disk).contents) bytes in
    let done = appended c.args.self.now.version gate qs _ _ _ c.requires.batch.short c.requires.some c.requires.closed.told written c.in_ok-write_gate.ensures.written in
    let place : gate + length (records qs) ≡ gate + c.len.result = omega (arith, length-batch qs c.requires.some, ap length c.requires.batch.bytes, c.len.ensures) in
    record { phase = refl; told = subst (λ k. IfSome (g.D.Disk.seen c.write_gate.new.disk).contents (ClosesAt c.args.self.now.version k)) place done.closed }

pub returns-clause-added : goal.returns-clause-added
returns-clause-added g c =
    let gate = c.args.self.now.gate in
    let qs = batch_of c.args.self.now in
    let bytes : c.deref.result.now ≡ batch_bytes qs = c.deref.ensures.value ∙ c.requires.batch.bytes in
    let written : (g.D.Disk.seen c.write_synced.new.disk).contents ≡ option_map (overwritten (gate + 1) (batch_bytes qs)) (g.D.Disk.seen c.args.self.now.disk).contents = c.in_ok-write_synced.ensures.written ∙ ap (λ (l : List ℕ). option_map (overwritten (gate + 1) l) (g.D.Disk.seen c.args.self.now.disk).contents) bytes in
    let done = appended c.args.self.now.version gate qs _ _ _ c.requires.batch.short c.requires.some c.requires.closed.told written c.in_ok-write_gate.ensures.written in
    done.added

pub returns-clause-bytes : goal.returns-clause-bytes
returns-clause-bytes g c =
    let gate = c.args.self.now.gate in
    let qs = batch_of c.args.self.now in
    let bytes : c.deref.result.now ≡ batch_bytes qs = c.deref.ensures.value ∙ c.requires.batch.bytes in
    let written : (g.D.Disk.seen c.write_synced.new.disk).contents ≡ option_map (overwritten (gate + 1) (batch_bytes qs)) (g.D.Disk.seen c.args.self.now.disk).contents = c.in_ok-write_synced.ensures.written ∙ ap (λ (l : List ℕ). option_map (overwritten (gate + 1) l) (g.D.Disk.seen c.args.self.now.disk).contents) bytes in
    let done = appended c.args.self.now.version gate qs _ _ _ c.requires.batch.short c.requires.some c.requires.closed.told written c.in_ok-write_gate.ensures.written in
    done.bytes
