use Rattle.std.proofs.Common.{◌≡◌, Option, None, ◌+◌, ℕ, ◌∷◌, [], length, Ok, Err, sym, ap, subst}
use Rattle.std.specs.Prelude.{IfSome}
use Rattle.ucon_journal.specs.Found.{payloads_from}
use Rattle.ucon_journal.specs.Journal.{disk_of, gate_of, payload_of, version_of}
use Rattle.ucon_model.specs.Plain.{Bytes}
use Rattle.ucon_store.specs.declared.record_fault.RecordFault.{RecordFault}
use Rattle.ucon_store.specs.RecordFaults.{of_take}
use Rattle.ucon_store.specs.PointRecords.{points_of}
use Rattle.ucon_store.specs.Walking.{HasLong, finds}
use Rattle.ucon_store.proofs.Told.{more_told}
use Rattle.ucon_store.proofs.WalkedVersions.{reading_kind}
use Rattle.ucon_store.proofs.Walked.{all_walked, long_reason}
use Rattle.ucon_store.proofs.walking.last_point.Goals as goal

pub returns-in-Err-clause-long : goal.returns-in-Err-clause-long
returns-in-Err-clause-long g c =
    let o = (g.D.Disk.seen (disk_of c.args.journal.now)).contents in
    let before = (g.D.Disk.seen (disk_of c.args.journal.now)).faults in
    let now = (g.D.Disk.seen (disk_of c.next.new.self)).faults in
    subst (λ (f : RecordFault). HasLong f o 0 8 before now) (sym c.at_record.ensures)
    (subst (λ (gate : ℕ). HasLong (of_take 0 c.in-Err.fault) o 0 gate before now) c.requires.first
    (long_reason c.in-Err.fault o 0 (gate_of c.args.journal.now) before now c.in-Err.ensures.too_long (λ is. c.in-Err.ensures.failed (ap Err is))
    (λ isnt. c.in-Err.ensures.unfailed (λ e. isnt (cc e)))))

pub returns-in_ok-pass_all-in-Ok-true-clause-walked : goal.returns-in_ok-pass_all-in-Ok-true-clause-walked
returns-in_ok-pass_all-in-Ok-true-clause-walked g c =
    let o = (g.D.Disk.seen (disk_of c.args.journal.now)).contents in
    let points = points_of (version_of c.args.journal.now) in
    let gate = gate_of c.args.journal.now in
    let next = gate_of c.next.new.self in
    let text = payload_of c.next.new.self in
    let kind = reading_kind g.D.Disk.seen c.args.journal.now c.requires.reading in
    let more = more_told o (λ file. payloads_from file gate ≡ text ∷ payloads_from file next) (λ file. payloads_from file gate ≡ []) c.in-Ok-true.field-0 c.in-Ok-true.field-0-test c.in-Ok-true.ensures.taken in
    let on : next ≡ gate + 5 + length text = c.in-Ok-true.ensures.advance (ap Ok c.in-Ok-true.field-0-test) in
    let short = c.in-Ok-true.ensures.short (ap Ok c.in-Ok-true.field-0-test) in
    let last = c.pass_all.new.self.last in
    let found : IfSome o (λ file. finds points c.new-walk.result next file ≡ (last, None)) =
    subst (λ (v : ℕ). IfSome o (λ file. finds (points_of v) c.new-walk.result next file ≡ (last, None))) c.in-Ok-true.ensures.version
    (subst (λ (x : Option Bytes). IfSome x (λ file. finds (points_of (version_of c.next.new.self)) c.new-walk.result next file ≡ (last, None))) c.in-Ok-true.ensures.contents
    c.in_ok-pass_all-in-Ok-true.ensures.found) in
    all_walked o points text gate next c.new-walk.result last kind c.requires.all c.requires.first more on short c.new-walk.ensures.number c.new-walk.ensures.entries c.new-walk.ensures.last
    found
