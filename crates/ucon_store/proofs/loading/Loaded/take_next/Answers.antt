use Rattle.std.proofs.Common.{◌≡◌, ◌+◌, ◌<◌, ℕ, ◌∷◌, [], length, false, true, Ok, Err, Option, Some, None, List, sym, ap, ◌∙◌, subst, arith}
use Rattle.std.specs.Prelude.{IfSome}
use Rattle.ucon_journal.specs.declared.fault.TakeFault.TheVariants as taking
use Rattle.ucon_journal.specs.Journal.{disk_of, gate_of, payload_of}
use Rattle.ucon_journal.specs.Found.{payloads_from}
use Rattle.ucon_model.specs.Action.{Trace}
use Rattle.ucon_model.specs.Plain.{Bytes}
use Rattle.ucon_store.specs.declared.fault.StoreFault.{StoreFault}
use Rattle.ucon_store.specs.Kept.{payload_in}
use Rattle.ucon_syntax.specs.Policies.{accepted}
use Rattle.ucon_store.specs.Loading.{IsReadWhole}
use Rattle.ucon_store.specs.Opened.{Sees, damaged, steps_after}
use Rattle.ucon_store.specs.Opening.{HasReason}
use Rattle.ucon_store.specs.Starts.{IsStart}
use Rattle.ucon_store.proofs.Openings.{more_told, none_told}
use Rattle.ucon_store.proofs.Reading.{read_ended, read_long, read_moved, read_next, read_wrong}
use Rattle.ucon_store.proofs.Stepping.{one_policy}
use Rattle.ucon_store.proofs.Taking.{taking_reason}
use Rattle.ucon_store.proofs.loading.Loaded.take_next.Goals as goal

pub returns-in-Err-clause-reason : goal.returns-in-Err-clause-reason
returns-in-Err-clause-reason g c = λ text.
    let o = (g.D.Disk.seen (disk_of c.args.journal.now)).contents in
    let before = (g.D.Disk.seen (disk_of c.args.journal.now)).faults in
    let now = (g.D.Disk.seen (disk_of c.next.new.self)).faults in
    let loading = c.requires.loading in
    let standing = loading.standing in
    let old = c.args.self.now in
    let gate = gate_of c.args.journal.now in
    let long : (place : ℕ) → c.in-Err.fault ≡ taking.TooLong place → (place ≡ gate) × IfSome o (λ file. Sees file (damaged old.records gate)) = λ place is.
    let l = c.in-Err.ensures.too_long place is in (
      l.0,
      read_long old.policy.items standing.P standing.accepts (payload_in old.point) old.before old.entries old.records gate o loading.says
          (subst (λ (at : ℕ). IfSome o (λ file. (p : Bytes) × (ps : List Bytes) × (payloads_from file at ≡ p ∷ ps) × (16777215 < length p))) l.0 l.1) standing.begun standing.starts,
    ) in
    subst (λ (f : StoreFault). HasReason f text o before now) (sym c.at_record.ensures)
    (taking_reason c.in-Err.fault text o old.records gate before now long (λ is. c.in-Err.ensures.failed (ap Err is)) (λ isnt. c.in-Err.ensures.unfailed (λ e. isnt (cc e))))

pub returns-else-not-taken-clause-loading : goal.returns-else-not-taken-clause-loading
returns-else-not-taken-clause-loading g c = λ _.
    let o = (g.D.Disk.seen (disk_of c.args.journal.now)).contents in
    let n = (g.D.Disk.seen (disk_of c.next.new.self)).contents in
    let loading = c.requires.loading in
    let standing = loading.standing in
    let old = c.args.self.now in
    let new = c.take_step.new.self in
    let text = old.policy.items in
    let H = old.entries in
    let later = new.entries in
    let P = standing.P in
    let gate = gate_of c.args.journal.now in
    let next = gate_of c.next.new.self in
    let payload = payload_of c.next.new.self in
    let was_taken = c.if-not-taken.false in
    let step = c.in_ok-taken-in-Ok-true.ensures in
    let t = step.standing was_taken in
    let one = step.one was_taken in
    let more = more_told o (λ file. payloads_from file gate ≡ payload ∷ payloads_from file next) (λ file. payloads_from file gate ≡ []) c.in-Ok-true.field-0 c.in-Ok-true.field-0-test c.in-Ok-true.ensures.taken in
    let on : next ≡ gate + 5 + length payload = c.in-Ok-true.ensures.advance (ap Ok c.in-Ok-true.field-0-test) in
    let takes : (T : Trace) → IsStart P (payload_in old.point) old.before T → steps_after T text P H payload ≡ Some later = λ T start.
    subst (λ (x : Bytes). steps_after T text P H x ≡ Some later) c.payload.ensures (step.taken was_taken P T standing.accepts start) in
    let same_policy : t.P ≡ P = one_policy text t.P P (sym (ap accepted step.policy) ∙ t.accepts) standing.accepts in
    record {
      standing = record { P = t.P; accepts = t.accepts; begun = t.begun; starts = t.starts; stands = t.stands; settled = t.settled; revokes = t.revokes; in_force = t.in_force };
      entries = omega (arith, loading.entries, one, step.before);
      few = omega (arith, loading.few, on);
      says = read_moved o n text new.policy.items P t.P (payload_in old.point) (payload_in new.point) old.before new.before later (old.records + 1) next
          c.in-Ok-true.ensures.contents step.policy same_policy (ap payload_in step.point) step.before
          (read_next text P standing.accepts (payload_in old.point) old.before H old.records gate o later next payload loading.says more on takes);
    }

pub returns-then-not-taken-clause-reason : goal.returns-then-not-taken-clause-reason
returns-then-not-taken-clause-reason g c = λ _.
    let o = (g.D.Disk.seen (disk_of c.args.journal.now)).contents in
    let standing = c.requires.loading.standing in
    let old = c.args.self.now in
    let text = old.policy.items in
    let H = old.entries in
    let gate = gate_of c.args.journal.now in
    let next = gate_of c.next.new.self in
    let payload = payload_of c.next.new.self in
    let more = more_told o (λ file. payloads_from file gate ≡ payload ∷ payloads_from file next) (λ file. payloads_from file gate ≡ []) c.in-Ok-true.field-0 c.in-Ok-true.field-0-test c.in-Ok-true.ensures.taken in
    let wrong : steps_after standing.begun text standing.P H payload ≡ None =
    subst (λ (x : Bytes). steps_after standing.begun text standing.P H x ≡ None) c.payload.ensures
    (c.in_ok-taken-in-Ok-true.ensures.wrong c.if-not-taken.true standing.P standing.begun standing.accepts standing.starts) in
    let seen : IfSome o (λ file. Sees file (damaged old.records gate)) =
    read_wrong text standing.P standing.accepts (payload_in old.point) old.before H old.records gate o next payload c.requires.loading.says more standing.begun standing.starts wrong in
    (subst (λ (place : ℕ). IfSome o (λ file. Sees file (damaged old.records place))) (sym c.gate-place.ensures.value) seen, c.in-Ok-true.ensures.unfailed (λ e. absurd (cc e)))

pub returns-in-Ok-false-clause-loaded : goal.returns-in-Ok-false-clause-loaded
returns-in-Ok-false-clause-loaded g c = λ _.
    let o = (g.D.Disk.seen (disk_of c.args.journal.now)).contents in
    let loading = c.requires.loading in
    let standing = loading.standing in
    let old = c.args.self.now in
    let gate = gate_of c.args.journal.now in
    let none = none_told o (λ file. payloads_from file gate ≡ payload_of c.next.new.self ∷ payloads_from file (gate_of c.next.new.self)) (λ file. payloads_from file gate ≡ []) c.in-Ok-false.field-0 c.in-Ok-false.field-0-test c.in-Ok-false.ensures.taken in
    let stays : gate_of c.next.new.self ≡ gate = c.in-Ok-false.ensures.stays (λ e. let was : c.in-Ok-false.field-0 ≡ true = cc e in let bad : true ≡ false = sym was ∙ c.in-Ok-false.field-0-test in absurd (cc bad)) in
    record {
      standing = standing;
      few = omega (arith, loading.few, loading.entries, stays);
      says = subst (λ (x : Option Bytes). IfSome x (IsReadWhole old.policy.items standing.P (payload_in old.point) old.before old.entries)) (sym c.in-Ok-false.ensures.contents)
          (read_ended old.policy.items standing.P standing.accepts (payload_in old.point) old.before old.entries old.records gate o loading.says none);
    }
