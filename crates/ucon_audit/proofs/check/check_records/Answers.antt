use Rattle.std.proofs.Common.{◌≡◌, [], Err, Some, sym, ap, ◌∙◌, subst}
use Rattle.std.specs.Prelude.{IfSome}
use Rattle.ucon_journal.specs.Found.{payloads_from}
use Rattle.ucon_journal.specs.Journal.{disk_of, gate_of, version_of}
use Rattle.ucon_model.specs.Plain.{Bytes, PlainPolicy}
use Rattle.ucon_syntax.specs.Policies.{accepted}
use Rattle.ucon_audit.specs.Head.{IsChain}
use Rattle.ucon_audit.specs.Keeping.{Keeps}
use Rattle.ucon_audit.proofs.Refused.{take_refused}
use Rattle.ucon_audit.proofs.Told.{first_long_told, fresh_told, if_some, none_told, reading_magic}
use Rattle.ucon_audit.proofs.check.check_records.Goals as goal

pub returns-in-Err-clause-refused : goal.returns-in-Err-clause-refused
returns-in-Err-clause-refused g c =
    let seen = g.D.Disk.seen in
    let journal = c.args.journal.now in
    let o = (seen (disk_of journal)).contents in
    take_refused c.into.result c.at_record.result c.in-Err.fault c.args.policy.now o 0 (gate_of journal) (seen (disk_of journal)).faults
    (seen (disk_of c.next.new.self)).faults c.into.ensures c.at_record.ensures
    (λ place is.
    let l = c.in-Err.ensures.too_long place is in (
      l.0,
      subst (λ at. IfSome o (λ file. Rattle.ucon_store.specs.Found.found file ≡ Rattle.ucon_model.specs.Found.damaged 0 at)) l.0
          (first_long_told o place (l.0 ∙ c.requires.first) c.requires.journal l.1),
    ))
    (λ is. c.in-Err.ensures.failed (ap Err is)) (λ isnt. c.in-Err.ensures.unfailed (λ e. isnt (cc e)))

pub returns-in-Ok-Some-clause-whole : goal.returns-in-Ok-Some-clause-whole
returns-in-Ok-Some-clause-whole g c =
    let seen = g.D.Disk.seen in
    let journal = c.args.journal.now in
    let follows = g.E.Engine.follows in
    let o = (seen (disk_of journal)).contents in
    let gate = gate_of journal in
    let policy = c.args.policy.now in
    let check = c.in-Ok-Some.check in
    let none = none_told o (λ file. payloads_from file gate ≡ _) (λ file. payloads_from file gate ≡ [])
    c.in-Ok-false.field-0 c.in-Ok-false.field-0-test c.in-Ok-false.ensures.taken in
    let begun = if_some _ (λ k. (k.chain ≡ c.new-chain.result) × (P : PlainPolicy) × (accepted policy ≡ Some P) × Keeps follows k.keeping policy P [])
    c.in-Ok-Some.field-0 check c.in-Ok-Some.field-0-is c.in-Ok-Some.ensures in
    let chained = subst (λ (m : Bytes). IsChain c.args.kept m [] c.new-chain.result) c.magic_of.ensures c.new-chain.ensures.chain in
    fresh_told follows c.args.kept policy begun.1 check o c.requires.journal gate c.requires.first none begun.2 begun.3
    (version_of journal) (reading_magic seen journal c.requires.reading) (subst (λ x. IsChain c.args.kept (Rattle.ucon_journal.specs.JournalBytes.magic (version_of journal)) [] x) (sym begun.0) chained)
