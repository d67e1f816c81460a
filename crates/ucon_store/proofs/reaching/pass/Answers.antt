use Rattle.std.proofs.Common.{◌≡◌, Err, sym, ap, subst}
use Rattle.ucon_journal.specs.Found.{payloads_from}
use Rattle.ucon_journal.specs.Journal.{disk_of, gate_of, payload_of}
use Rattle.std.specs.Prelude.{◌∷◌, []}
use Rattle.ucon_store.specs.declared.record_fault.RecordFault.{RecordFault}
use Rattle.ucon_store.specs.RecordFaults.{of_take}
use Rattle.ucon_store.specs.Reaching.{IsUnpassed}
use Rattle.ucon_store.proofs.Told.{none_told}
use Rattle.ucon_store.proofs.Reached.{passed_there, passed_unless}
use Rattle.ucon_store.proofs.Walked.{long_reason}
use Rattle.ucon_store.proofs.reaching.pass.Goals as goal

pub returns-in-Err-clause-unpassed : goal.returns-in-Err-clause-unpassed
returns-in-Err-clause-unpassed g c =
    let o = (g.D.Disk.seen (disk_of c.args.journal.now)).contents in
    let gate = gate_of c.args.journal.now in
    let number = c.args.number in
    let before = (g.D.Disk.seen (disk_of c.args.journal.now)).faults in
    let now = (g.D.Disk.seen (disk_of c.next.new.self)).faults in
    subst (λ (f : RecordFault). IsUnpassed f o before now) (sym c.at_record.ensures)
    (passed_unless (of_take number c.in-Err.fault) o number gate before now c.requires.some
    (long_reason c.in-Err.fault o number gate before now c.in-Err.ensures.too_long (λ is. c.in-Err.ensures.failed (ap Err is)) (λ isnt. c.in-Err.ensures.unfailed (λ e. isnt (cc e)))))

pub returns-in-Ok-false-clause-unpassed : goal.returns-in-Ok-false-clause-unpassed
returns-in-Ok-false-clause-unpassed g c =
    let o = (g.D.Disk.seen (disk_of c.args.journal.now)).contents in
    let gate = gate_of c.args.journal.now in
    let none = none_told o (λ file. payloads_from file gate ≡ payload_of c.next.new.self ∷ payloads_from file (gate_of c.next.new.self)) (λ file. payloads_from file gate ≡ []) c.in-Ok-false.field-0 c.in-Ok-false.field-0-test c.in-Ok-false.ensures.taken in
    (passed_there o c.args.number gate c.requires.some none, c.in-Ok-false.ensures.unfailed (λ e. absurd (cc e)))
