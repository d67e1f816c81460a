use Rattle.std.proofs.Common.{◌≡◌, ◌<◌, ◌∷◌, [], ℕ, List, length, Option, Err, sym, ap, ◌∙◌, subst}
use Rattle.std.specs.Prelude.{IfSome}
use Rattle.ucon_disk.specs.Run.{LeavesAfter}
use Rattle.ucon_journal.specs.declared.fault.TakeFault.TheVariants as taking
use Rattle.ucon_journal.specs.Found.{counted, payloads_from}
use Rattle.ucon_journal.specs.Journal.{disk_of, gate_of, payload_of}
use Rattle.ucon_model.specs.Plain.{Bytes}
use Rattle.ucon_store.specs.declared.fault.StoreFault.{StoreFault}
use Rattle.ucon_store.specs.Faults.{of_take}
use Rattle.ucon_store.specs.Opened.{Sees, damaged}
use Rattle.ucon_store.specs.Opening.{HasReason, Opens}
use Rattle.ucon_store.specs.Points.{has_points}
use Rattle.ucon_store.specs.Walking.{IsWalked}
use Rattle.ucon_store.proofs.Loadings.{all_told, long_first, walked_told}
use Rattle.ucon_store.proofs.Openings.{more_told}
use Rattle.ucon_store.proofs.Runs.{then_opens, read_opens}
use Rattle.ucon_store.proofs.Taking.{taking_reason}
use Rattle.ucon_store.proofs.opening.load.Goals as goal

pub last_point-requires-clause-all : goal.last_point-requires-clause-all
last_point-requires-clause-all g c = all_told (g.D.Disk.seen (disk_of c.args.journal.now)).contents c.requires.journal

pub go_on-requires-clause-walked : goal.go_on-requires-clause-walked
go_on-requires-clause-walked g c =
    let o = (g.D.Disk.seen (disk_of c.args.journal.now)).contents in
    let gate = gate_of c.rewind.new.self in
    let next = gate_of c.next.new.self in
    let payload = payload_of c.next.new.self in
    let last = c.in_ok-last.last in
    let same : (g.D.Disk.seen (disk_of c.rewind.new.self)).contents ≡ o = ap (λ d. (g.D.Disk.seen d).contents) c.rewind.ensures.disk ∙ c.last_point.ensures.contents in
    let more = more_told (g.D.Disk.seen (disk_of c.rewind.new.self)).contents (λ file. payloads_from file gate ≡ payload ∷ payloads_from file next) (λ file. payloads_from file gate ≡ []) c.in-Ok-true.field-0 c.in-Ok-true.field-0-test c.in-Ok-true.ensures.taken in
    subst (λ (x : Option Bytes). IfSome x (λ file. (counted file ≡ payload ∷ payloads_from file next) × IsWalked (has_points file) (counted file) last)) (sym (c.in-Ok-true.ensures.contents ∙ same))
    (walked_told o payload gate next last c.requires.journal c.rewind.ensures.gate (subst (λ (x : Option Bytes). IfSome x (λ file. payloads_from file gate ≡ payload ∷ payloads_from file next)) same more) c.in_ok-last.ensures.walked)

pub returns-in-Err-clause-reason : goal.returns-in-Err-clause-reason
returns-in-Err-clause-reason g c =
    let o = (g.D.Disk.seen (disk_of c.args.journal.now)).contents in
    let before = (g.D.Disk.seen (disk_of c.rewind.new.self)).faults in
    let now = (g.D.Disk.seen (disk_of c.next.new.self)).faults in
    let text = c.args.policy.now in
    let same : (g.D.Disk.seen (disk_of c.rewind.new.self)).contents ≡ o = ap (λ d. (g.D.Disk.seen d).contents) c.rewind.ensures.disk ∙ c.last_point.ensures.contents in
    let unfailed : before ≡ (g.D.Disk.seen (disk_of c.args.journal.now)).faults = ap (λ d. (g.D.Disk.seen d).faults) c.rewind.ensures.disk ∙ c.in_ok-last.ensures.unfailed in
    let long : (place : ℕ) → c.in-Err.fault ≡ taking.TooLong place → (place ≡ 8) × IfSome o (λ file. Sees file (damaged 0 8)) = λ place is.
    let l = c.in-Err.ensures.too_long place is in
    let at : place ≡ 8 = l.0 ∙ c.rewind.ensures.gate in
    (at, long_first o (all_told o c.requires.journal) (subst (λ (z : Option Bytes × ℕ). IfSome z.0 (λ file. (p : Bytes) × (ps : List Bytes) × (payloads_from file z.1 ≡ p ∷ ps) × (16777215 < length p))) (λ i. (same i, at i)) l.1)) in
    subst (λ (f : StoreFault). HasReason f text o (g.D.Disk.seen (disk_of c.args.journal.now)).faults now) (sym c.at_record.ensures)
    (subst (λ (b : ℕ). HasReason (of_take 0 c.in-Err.fault) text o b now) unfailed
    (taking_reason c.in-Err.fault text o 0 8 before now long (λ is. c.in-Err.ensures.failed (ap Err is)) (λ isnt. c.in-Err.ensures.unfailed (λ e. isnt (cc e)))))

pub returns-in_err-last-clause-images : goal.returns-in_err-last-clause-images
returns-in_err-last-clause-images g c =
    read_opens g.D.Disk.seen c.args.policy.now (disk_of c.args.journal.now) (disk_of c.last_point.new.journal) c.last_point.ensures.run

pub returns-in-Ok-true-clause-images : goal.returns-in-Ok-true-clause-images
returns-in-Ok-true-clause-images g c =
    let seen = g.D.Disk.seen in
    let text = c.args.policy.now in
    let end = disk_of c.go_on.new.journal in
    then_opens seen text (disk_of c.args.journal.now) (disk_of c.last_point.new.journal) end c.last_point.ensures.contents c.last_point.ensures.images c.last_point.ensures.run
    (subst (λ (d : g.row.D.Denot). LeavesAfter (seen d) (seen end) (Opens text)) c.rewind.ensures.disk
    (then_opens seen text (disk_of c.rewind.new.self) (disk_of c.next.new.self) end c.next.ensures.contents c.next.ensures.images c.next.ensures.run c.go_on.ensures.images))

pub returns-in-Ok-false-clause-images : goal.returns-in-Ok-false-clause-images
returns-in-Ok-false-clause-images g c =
    let seen = g.D.Disk.seen in
    let text = c.args.policy.now in
    let end = disk_of c.make.new.journal in
    then_opens seen text (disk_of c.args.journal.now) (disk_of c.last_point.new.journal) end c.last_point.ensures.contents c.last_point.ensures.images c.last_point.ensures.run
    (subst (λ (d : g.row.D.Denot). LeavesAfter (seen d) (seen end) (Opens text)) c.rewind.ensures.disk
    (then_opens seen text (disk_of c.rewind.new.self) (disk_of c.next.new.self) end c.next.ensures.contents c.next.ensures.images c.next.ensures.run c.make.ensures.images))

pub returns-in-Err-clause-images : goal.returns-in-Err-clause-images
returns-in-Err-clause-images g c =
    let seen = g.D.Disk.seen in
    let text = c.args.policy.now in
    let end = disk_of c.next.new.self in
    then_opens seen text (disk_of c.args.journal.now) (disk_of c.last_point.new.journal) end c.last_point.ensures.contents c.last_point.ensures.images c.last_point.ensures.run
    (subst (λ (d : g.row.D.Denot). LeavesAfter (seen d) (seen end) (Opens text)) c.rewind.ensures.disk
    (read_opens seen text (disk_of c.rewind.new.self) end c.next.ensures.run))
