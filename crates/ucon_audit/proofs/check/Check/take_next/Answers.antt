use Rattle.std.proofs.Common.{rules, ◌≡◌, ◌+◌, ◌<◌, ◌∷◌, List, length, true, false, Err, sym, ap, ◌∙◌, subst, arith}
use Rattle.std.specs.Prelude.{IfSome}
use Rattle.ucon_journal.specs.Found.{payloads_from}
use Rattle.ucon_journal.specs.Journal.{disk_of, gate_of, payload_of}
use Rattle.ucon_model.specs.Found.{damaged}
use Rattle.ucon_model.specs.Plain.{Bytes}
use Rattle.ucon_store.specs.Found.{found}
use Rattle.ucon_store.specs.Points.{has_points}
use Rattle.ucon_audit.proofs.Refused.{take_refused}
use Rattle.ucon_audit.proofs.Told.{if_false, if_true, long_told, more_told, reading_kind, right_told, wrong_told}
use Rattle.ucon_audit.proofs.check.Check.take_next.Goals as goal

pub returns-then-not-right-clause-refused : goal.returns-then-not-right-clause-refused
returns-then-not-right-clause-refused g c = λ _.
    let seen = g.D.Disk.seen in
    let journal = c.args.journal.now in
    let o = (seen (disk_of journal)).contents in
    let gate = gate_of journal in
    let next = gate_of c.next.new.self in
    let some = c.requires.checking in
    let h = some.3 in
    let more = more_told o (λ file. payloads_from file gate ≡ payload_of c.next.new.self ∷ payloads_from file next) (λ file. payloads_from file gate ≡ _)
    c.in-Ok-true.field-0 c.in-Ok-true.field-0-test c.in-Ok-true.ensures.taken in
    let are = subst (λ (x : Bytes). IfSome o (λ file. payloads_from file gate ≡ x ∷ payloads_from file next)) (sym c.payload-payload.ensures) more in
    let kind = subst (λ b. IfSome o (λ file. has_points file ≡ b)) (sym c.has_points-points.ensures) (reading_kind seen journal c.requires.reading) in
    let wrong : c.in-Ok.right ≡ false = search rules in (
      subst (λ place. IfSome o (λ file. found file ≡ damaged c.args.self.now.chain.records place)) (sym c.gate-place.ensures.value)
          (wrong_told c.payloads_are_found_one_by_one.ensures some.0 some.1 some.2 h.H c.args.self.now.chain gate o h.told c.has_points-points.result kind
          c.payload-payload.result.now next are (if_false _ _ c.in-Ok.right wrong (c.in-Ok.ensures.taken some.1 some.2 h.H h.keeps))),
      search rules,
    )

pub returns-in-Err-clause-refused : goal.returns-in-Err-clause-refused
returns-in-Err-clause-refused g c = λ text.
    let seen = g.D.Disk.seen in
    let journal = c.args.journal.now in
    let o = (seen (disk_of journal)).contents in
    let some = c.requires.checking in
    let h = some.3 in
    take_refused c.into.result c.at_record.result c.in-Err.fault text o c.args.self.now.chain.records (gate_of journal) (seen (disk_of journal)).faults
    (seen (disk_of c.next.new.self)).faults c.into.ensures c.at_record.ensures
    (λ place is.
    let l = c.in-Err.ensures.too_long place is in (
      l.0,
      long_told c.payloads_are_found_one_by_one.ensures some.0 some.1 some.2 h.H c.args.self.now.chain (gate_of journal) o h.told
          (subst (λ at. IfSome o (λ file. (p : Bytes) × (ps : List Bytes) × (payloads_from file at ≡ p ∷ ps) × (16777215 < length p))) l.0 l.1),
    ))
    (λ is. c.in-Err.ensures.failed (ap Err is)) (λ isnt. c.in-Err.ensures.unfailed (λ e. isnt (cc e)))

pub returns-else-not-right-clause-taken : goal.returns-else-not-right-clause-taken
returns-else-not-right-clause-taken g c = λ _ kept text P h.
    let seen = g.D.Disk.seen in
    let journal = c.args.journal.now in
    let o = (seen (disk_of journal)).contents in
    let gate = gate_of journal in
    let next = gate_of c.next.new.self in
    let payload = c.payload-payload.result.now in
    let more = more_told o (λ file. payloads_from file gate ≡ payload_of c.next.new.self ∷ payloads_from file next) (λ file. payloads_from file gate ≡ _)
    c.in-Ok-true.field-0 c.in-Ok-true.field-0-test c.in-Ok-true.ensures.taken in
    let are = subst (λ (x : Bytes). IfSome o (λ file. payloads_from file gate ≡ x ∷ payloads_from file next)) (sym c.payload-payload.ensures) more in
    let kind = subst (λ b. IfSome o (λ file. has_points file ≡ b)) (sym c.has_points-points.ensures) (reading_kind seen journal c.requires.reading) in
    let right : c.in-Ok.right ≡ true = search rules in
    let took = if_true _ _ c.in-Ok.right right (c.in-Ok.ensures.taken text P h.H h.keeps) in
    let on : next ≡ gate + 5 + length (payload_of c.next.new.self) = c.in-Ok-true.ensures.advance (search rules) in
    let at : next ≡ gate + 5 + length payload = on ∙ ap (λ (x : Bytes). gate + 5 + length x) (sym c.payload-payload.ensures) in
    let count : c.add.new.self.records ≡ c.args.self.now.chain.records + 1 = c.add.ensures.records in
    record {
      H = took.0;
      accepts = h.accepts;
      keeps = took.3;
      few = omega (arith, h.few, took.2, count);
      small = omega (arith, h.small, count, at);
      told = right_told c.payloads_are_found_one_by_one.ensures kept text P h.H c.args.self.now.chain gate o h.told c.has_points-points.result kind
          payload took.0 c.add.new.self next are at took.1 (c.add.ensures.chain kept);
    }
