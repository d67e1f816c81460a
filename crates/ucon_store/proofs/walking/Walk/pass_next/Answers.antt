use Rattle.std.proofs.Common.{◌≡◌, ◌+◌, ℕ, ◌∷◌, [], length, Ok, Err, sym, ap, ◌∙◌, subst}
use Rattle.std.specs.Prelude.{◌&&◌, IfSome}
use Rattle.ucon_journal.specs.Found.{payloads_from}
use Rattle.ucon_journal.specs.Journal.{disk_of, gate_of, payload_of, version_of}
use Rattle.ucon_store.specs.declared.record_fault.RecordFault.{RecordFault}
use Rattle.ucon_store.specs.declared.walking.Walk.{Walk}
use Rattle.ucon_store.specs.PointRecords.{is_point, points_of}
use Rattle.ucon_store.specs.Walking.{HasLong, finds}
use Rattle.ucon_store.proofs.Told.{more_told}
use Rattle.ucon_store.proofs.Walked.{behind_point, long_reason, passed_point, passed_step}
use Rattle.ucon_store.proofs.walking.Walk.pass_next.Goals.{then-is_point, else-is_point}
use Rattle.ucon_store.proofs.walking.Walk.pass_next.Goals as goal

pub returns-in-Err-clause-long : goal.returns-in-Err-clause-long
returns-in-Err-clause-long g c =
    let o = (g.D.Disk.seen (disk_of c.args.journal.now)).contents in
    let gate = gate_of c.args.journal.now in
    let number = c.args.self.now.number in
    let before = (g.D.Disk.seen (disk_of c.args.journal.now)).faults in
    let now = (g.D.Disk.seen (disk_of c.next.new.self)).faults in
    subst (λ (f : RecordFault). HasLong f o number gate before now) (sym c.at_record.ensures)
    (long_reason c.in-Err.fault o number gate before now c.in-Err.ensures.too_long (λ is. c.in-Err.ensures.failed (ap Err is)) (λ isnt. c.in-Err.ensures.unfailed (λ e. isnt (cc e))))

pub returns-after-is_point-clause-passed : goal.returns-after-is_point-clause-passed
returns-after-is_point-clause-passed g c = λ _.
    let o = (g.D.Disk.seen (disk_of c.args.journal.now)).contents in
    let points = points_of (version_of c.args.journal.now) in
    let w = c.args.self.now in
    let gate = gate_of c.args.journal.now in
    let next = gate_of c.next.new.self in
    let payload = payload_of c.next.new.self in
    let more = more_told o (λ file. payloads_from file gate ≡ payload ∷ payloads_from file next) (λ file. payloads_from file gate ≡ []) c.in-Ok-true.field-0 c.in-Ok-true.field-0-test c.in-Ok-true.ensures.taken in
    let on : next ≡ gate + 5 + length payload = c.in-Ok-true.ensures.advance (ap Ok c.in-Ok-true.field-0-test) in
    let short = c.in-Ok-true.ensures.short (ap Ok c.in-Ok-true.field-0-test) in
    let test : c.is_point.result ≡ (points && is_point payload) =
    c.is_point.ensures ∙ ((λ i. c.has_points-points.ensures i && is_point (c.payload.ensures i))) in
    let passed : Walk → Type 0 = λ s. IfSome o (λ file. finds points (record { number = s.number + 1; entries = s.entries; last = s.last }) next file ≡ finds points w gate file) in
    elim c.if-is_point.branch [
      | then-is_point b ↦ subst passed (sym b.self-is)
          (subst (λ (place : ℕ). IfSome o (λ file. finds points (behind_point w place) next file ≡ finds points w gate file)) (sym c.gate-place.ensures.value)
          (passed_point points w gate next payload on short (sym test ∙ b.if-is_point.true) o more))
      | else-is_point b ↦ subst passed (sym b.self-is) (passed_step points w gate next payload on short (sym test ∙ b.if-is_point.false) o more)
    ]
