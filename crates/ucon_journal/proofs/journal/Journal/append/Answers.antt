use Rattle.std.proofs.Common.{◌≡◌, ℕ, ◌+◌, ◌^◌, ◌<◌, IfSome, List, [], ◌∷◌, ◌++◌, length, take, ◌∙◌, ap, sym, subst, arith, length-append, w32}
use Rattle.std.specs.Int.{to_be_bytes}
use Rattle.std.specs.Option.{option_map}
use Rattle.std.specs.Prelude.{OnOk}
use Rattle.std.proofs.lemmas.List.{append-nil}
use Rattle.ucon_disk.specs.Run.{LeavesAfter}
use Rattle.ucon_journal.specs.JournalBytes.{record_bytes, records}
use Rattle.ucon_journal.specs.Found.{payloads_after}
use Rattle.ucon_journal.specs.Journal.{disk_of, gate_of, told_payloads}
use Rattle.ucon_journal.specs.Opened.{PerhapsAllAdded}
use Rattle.ucon_journal.proofs.Batches.{batch_is, batch_from}
use Rattle.ucon_journal.proofs.journal.Journal.append.Given.{Over}
use Rattle.ucon_journal.proofs.journal.Journal.append.Goals.{After-append_all}
use Rattle.ucon_journal.proofs.journal.Journal.append.Goals as goal

pub append_all-requires-clause-batch : goal.append_all-requires-clause-batch
append_all-requires-clause-batch g c =
    let p = c.args.payload.now in
    let short : length p < 2 ^ 32 = omega arith in
    let from = batch_from c.put_record.new.buffer.items (p ∷ []) (short, tt) (c.put_record.ensures.put [] c.clear.ensures.items) in
    record { bytes = from.0; short = from.1 }

pub append_all-requires-clause-some : goal.append_all-requires-clause-some
append_all-requires-clause-some g c =
    let p = c.args.payload.now in
    let short : length p < 2 ^ 32 = omega arith in
    λ none. let no : p ∷ [] ≡ [] = sym (batch_is c.put_record.new.buffer.items (p ∷ []) (short, tt) (c.put_record.ensures.put [] c.clear.ensures.items)) ∙ none in absurd (cc no)

-- ---- the batch is the payload alone

module _ (g : Over) (c : After-append_all g) where
  abbrev batch : List (List ℕ)
  batch = payloads_after 0 (1 ∷ c.put_record.new.buffer.items)

  alone : batch ≡ c.args.payload.now ∷ []
  alone = let short : length c.args.payload.now < 2 ^ 32 = omega arith in
      batch_is c.put_record.new.buffer.items (c.args.payload.now ∷ []) (short, tt) (c.put_record.ensures.put [] c.clear.ensures.items)

  record_alone : records batch ≡ record_bytes c.args.payload.now
  record_alone = ap records alone ∙ append-nil (record_bytes c.args.payload.now)

pub returns-clause-added : goal.returns-clause-added
returns-clause-added g c =
    subst (λ (qs : List (List ℕ)). OnOk c.append_all.result (IfSome (g.D.Disk.seen c.args.self.now.disk).contents (λ file.
    told_payloads (g.D.Disk.seen (disk_of c.append_all.new.self)).contents ≡ told_payloads (g.D.Disk.seen c.args.self.now.disk).contents ++ qs))) (alone g c) c.append_all.ensures.added

pub returns-clause-bytes : goal.returns-clause-bytes
returns-clause-bytes g c =
    let gate = c.args.self.now.gate in
    subst (λ (r : List ℕ). OnOk c.append_all.result ((g.D.Disk.seen (disk_of c.append_all.new.self)).contents
    ≡ option_map (λ (file : List ℕ). take gate file ++ r ++ 0 ∷ []) (g.D.Disk.seen c.args.self.now.disk).contents)) (record_alone g c) c.append_all.ensures.bytes

pub returns-clause-gate : goal.returns-clause-gate
returns-clause-gate g c =
    let gate = c.args.self.now.gate in
    let p = c.args.payload.now in
    let place : gate + length (records (batch g c)) ≡ gate + 5 + length p = omega (arith, ap length (record_alone g c), length-append (1 ∷ to_be_bytes w32 (length p)) p) in
    subst (λ (k : ℕ). OnOk c.append_all.result (gate_of c.append_all.new.self ≡ k)) place c.append_all.ensures.gate

pub returns-clause-images : goal.returns-clause-images
returns-clause-images g c =
    subst (λ (qs : List (List ℕ)). LeavesAfter (g.D.Disk.seen c.args.self.now.disk) (g.D.Disk.seen (disk_of c.append_all.new.self))
    (PerhapsAllAdded qs)) (alone g c) c.append_all.ensures.images
