use Rattle.std.proofs.Common.{◌≡◌, Some, sym, ap, ◌∙◌, subst, arith}
use Rattle.std.specs.Prelude.{IfSome}
use Rattle.std.specs.Option.{option_map}
use Rattle.ucon_disk.specs.Run.{LeavesAfter, LeavesFrom}
use Rattle.ucon_journal.specs.Journal.{disk_of}
use Rattle.ucon_journal.specs.Opened.{opened}
use Rattle.ucon_model.specs.Plain.{Bytes, PlainPolicy}
use Rattle.ucon_syntax.specs.Policies.{accepted}
use Rattle.ucon_store.specs.declared.fault.StoreFault.{StoreFault}
use Rattle.ucon_store.specs.Found.{IsFoundAs}
use Rattle.ucon_store.specs.Kept.{payload_in}
use Rattle.ucon_store.specs.Loading.{IsRead}
use Rattle.ucon_store.specs.Opened.{last_point}
use Rattle.ucon_store.specs.Opening.{HasReason, IsSeenAs, KeepsFound, Opens}
use Rattle.ucon_store.specs.Starts.{BeginsAt, IsStart}
use Rattle.ucon_store.proofs.Begun.{opening_bytes, opening_reason, reason_before, same_bytes, told_before}
use Rattle.ucon_store.proofs.Fronts.{begins_opened, found_first_opened, founded_first, goes_on_opened, seen_opened}
use Rattle.ucon_store.proofs.Runs.{begin_opens, rest_opens, whole_opens}
use Rattle.ucon_store.proofs.SamePlaces.{opened_old, opened_places, opened_records}
use Rattle.ucon_store.proofs.Stepping.{one_policy}
use Rattle.ucon_store.proofs.store.Store.open.Goals as goal

pub returns-in-Err-clause-reason : goal.returns-in-Err-clause-reason
returns-in-Err-clause-reason g c =
    let o = (g.D.Disk.seen c.args.disk).contents in
    let before = (g.D.Disk.seen c.args.disk).faults in
    let now = (g.D.Disk.seen c.in-Err.disk).faults in
    subst (λ (f : StoreFault). HasReason f c.args.policy.now o before now) (sym c.into.ensures)
    (opening_reason (λ file. (g.D.Disk.seen c.in-Err.disk).contents ≡ Some file) c.in-Err.fault c.args.policy.now o before now
    c.in-Err.ensures.not_journal c.in-Err.ensures.failed c.in-Err.ensures.unfailed_err)

pub returns-in-Err-clause-since_err : goal.returns-in-Err-clause-since_err
returns-in-Err-clause-since_err g c =
    begin_opens g.D.Disk.seen c.args.policy.now c.args.disk c.in-Err.disk c.in-Err.ensures.since_err

pub returns-in-Err-clause-images_err : goal.returns-in-Err-clause-images_err
returns-in-Err-clause-images_err g c =
    rest_opens g.D.Disk.seen c.args.policy.now c.args.disk c.in-Err.disk
    (begin_opens g.D.Disk.seen c.args.policy.now c.args.disk c.in-Err.disk c.in-Err.ensures.since_err)

pub returns-in-Err-clause-bytes_err : goal.returns-in-Err-clause-bytes_err
returns-in-Err-clause-bytes_err g c = λ other.
    opening_bytes c.in-Err.fault (g.D.Disk.seen c.args.disk).contents (g.D.Disk.seen c.in-Err.disk).contents c.in-Err.ensures.not_journal
    (λ is. other (c.into.ensures ∙ is))

pub returns-in-Err-load-clause-bytes_err : goal.returns-in-Err-load-clause-bytes_err
returns-in-Err-load-clause-bytes_err g c = λ other.
    let o = (g.D.Disk.seen c.args.disk).contents in
    let m = (g.D.Disk.seen (disk_of c.in-Ok.journal)).contents in
    subst (λ (d : g.row.D.Denot). IfSome o (λ file. (g.D.Disk.seen d).contents ≡ Some (opened file))) (sym c.close.ensures)
    (same_bytes o m (g.D.Disk.seen (disk_of c.load.new.journal)).contents c.in-Ok.ensures.bytes (c.in-Err-load.ensures.bytes_err other))

pub returns-in-Err-load-clause-reason : goal.returns-in-Err-load-clause-reason
returns-in-Err-load-clause-reason g c =
    let o = (g.D.Disk.seen c.args.disk).contents in
    let begun = c.in-Ok.journal in
    subst (λ (d : g.row.D.Denot). HasReason c.in-Err-load.fault c.args.policy.now o (g.D.Disk.seen c.args.disk).faults (g.D.Disk.seen d).faults) (sym c.close.ensures)
    (reason_before c.in-Err-load.fault c.args.policy.now o (g.D.Disk.seen (disk_of begun)).contents (g.D.Disk.seen c.args.disk).faults (g.D.Disk.seen (disk_of begun)).faults (g.D.Disk.seen (disk_of c.load.new.journal)).faults
    c.in-Ok.ensures.bytes c.in-Ok.ensures.unfailed c.in-Err-load.ensures.reason)

pub returns-in-Err-load-clause-since_err : goal.returns-in-Err-load-clause-since_err
returns-in-Err-load-clause-since_err g c =
    let begun = c.in-Ok.journal in
    subst (λ (d : g.row.D.Denot). LeavesFrom (g.D.Disk.seen c.args.disk) (g.D.Disk.seen d) (Opens c.args.policy.now)) (sym c.close.ensures)
    (whole_opens g.D.Disk.seen c.args.policy.now c.args.disk (disk_of begun) (disk_of c.load.new.journal)
    c.in-Ok.ensures.since c.in-Ok.ensures.bytes c.in-Ok.ensures.only c.load.ensures.images)

pub returns-in-Err-load-clause-images_err : goal.returns-in-Err-load-clause-images_err
returns-in-Err-load-clause-images_err g c =
    let begun = c.in-Ok.journal in
    subst (λ (d : g.row.D.Denot). LeavesAfter (g.D.Disk.seen c.args.disk) (g.D.Disk.seen d) (Opens c.args.policy.now)) (sym c.close.ensures)
    (rest_opens g.D.Disk.seen c.args.policy.now c.args.disk (disk_of c.load.new.journal)
    (whole_opens g.D.Disk.seen c.args.policy.now c.args.disk (disk_of begun) (disk_of c.load.new.journal)
    c.in-Ok.ensures.since c.in-Ok.ensures.bytes c.in-Ok.ensures.only c.load.ensures.images))

pub returns-in-Ok-load-clause-begins : goal.returns-in-Ok-load-clause-begins
returns-in-Ok-load-clause-begins g c =
    let l = c.in-Ok-load.loaded in
    let standing = c.in-Ok-load.ensures.standing in
    let text = c.args.policy.now in
    let accepts : accepted text ≡ Some standing.P = sym (ap accepted c.in-Ok-load.ensures.policy) ∙ standing.accepts in
    let point = payload_in l.point in
    told_before (IsRead text standing.P point l.before l.entries) (λ file. BeginsAt (last_point file) point l.before)
    (begins_opened text standing.P accepts point l.before l.entries) (g.D.Disk.seen c.args.disk).contents (g.D.Disk.seen (disk_of c.in-Ok.journal)).contents c.in-Ok.ensures.bytes
    (c.in-Ok-load.ensures.read standing.P accepts)

pub returns-in-Ok-load-clause-leads : goal.returns-in-Ok-load-clause-leads
returns-in-Ok-load-clause-leads g c = λ P accepts.
    let l = c.in-Ok-load.loaded in
    let standing = c.in-Ok-load.ensures.standing in
    let one = one_policy l.policy.items standing.P P standing.accepts (ap accepted c.in-Ok-load.ensures.policy ∙ accepts) in
    (standing.begun, subst (λ (Q : PlainPolicy). IsStart Q (payload_in l.point) l.before standing.begun) one standing.starts)

pub returns-in-Ok-load-clause-seen : goal.returns-in-Ok-load-clause-seen
returns-in-Ok-load-clause-seen g c = λ P accepts.
    let l = c.in-Ok-load.loaded in
    let point = payload_in l.point in
    let text = l.policy.items in
    let same : text ≡ c.args.policy.now = c.in-Ok-load.ensures.policy in
    let here : accepted text ≡ Some P = ap accepted same ∙ accepts in
    let o = (g.D.Disk.seen (disk_of c.in-Ok.journal)).contents in
    told_before (IsRead text P point l.before l.entries) (IsSeenAs P text point l.before l.entries) (seen_opened text P here point l.before l.entries)
    (g.D.Disk.seen c.args.disk).contents o c.in-Ok.ensures.bytes (subst (λ (t : Bytes). IfSome o (IsRead t P point l.before l.entries)) (sym same) (c.in-Ok-load.ensures.read P accepts))

pub returns-in-Ok-load-clause-founded : goal.returns-in-Ok-load-clause-founded
returns-in-Ok-load-clause-founded g c = λ P file H accepts told found_so.
    let l = c.in-Ok-load.loaded in
    let point = payload_in l.point in
    let text = l.policy.items in
    let seen = g.D.Disk.seen in
    let disk = disk_of c.load.new.journal in
    let same : text ≡ c.args.policy.now = c.in-Ok-load.ensures.policy in
    let here : accepted text ≡ Some P = ap accepted same ∙ accepts in
    let m = (seen (disk_of c.in-Ok.journal)).contents in
    goes_on_opened text P here point l.before l.entries c.found_histories_stand_around_their_last_checkpoint.ensures seen _ disk m file H
    (c.in-Ok.ensures.bytes ∙ ap (option_map opened) told) (subst (λ (t : Bytes). IfSome m (IsRead t P point l.before l.entries)) (sym same) (c.in-Ok-load.ensures.read P accepts))
    c.in-Ok-load.ensures.payloads (subst (λ (t : Bytes). KeepsFound t m (seen disk).contents) (sym same) c.in-Ok-load.ensures.kept) c.in-Ok-load.ensures.only
    (subst (λ (t : Bytes). IsFoundAs t file H) (sym same) found_so)

pub returns-in-Ok-load-clause-first : goal.returns-in-Ok-load-clause-first
returns-in-Ok-load-clause-first g c = λ first P accepts.
    let l = c.in-Ok-load.loaded in
    let point = payload_in l.point in
    let text = l.policy.items in
    let seen = g.D.Disk.seen in
    let disk = disk_of c.load.new.journal in
    let same : text ≡ c.args.policy.now = c.in-Ok-load.ensures.policy in
    let here : accepted text ≡ Some P = ap accepted same ∙ accepts in
    let m = (seen (disk_of c.in-Ok.journal)).contents in
    founded_first text P here point l.before l.entries c.found_histories_stand_around_their_last_checkpoint.ensures seen _ disk first m
    (subst (λ (t : Bytes). IfSome m (IsRead t P point l.before l.entries)) (sym same) (c.in-Ok-load.ensures.read P accepts))
    (subst (λ (t : Bytes). KeepsFound t m (seen disk).contents) (sym same) c.in-Ok-load.ensures.kept) c.in-Ok-load.ensures.tells c.in-Ok-load.ensures.only

pub returns-in-Ok-load-clause-found : goal.returns-in-Ok-load-clause-found
returns-in-Ok-load-clause-found g c = λ first.
    let l = c.in-Ok-load.loaded in
    let standing = c.in-Ok-load.ensures.standing in
    let text = c.args.policy.now in
    let accepts : accepted text ≡ Some standing.P = sym (ap accepted c.in-Ok-load.ensures.policy) ∙ standing.accepts in
    let point = payload_in l.point in
    told_before (IsRead text standing.P point l.before l.entries) (λ file. IsFoundAs text file l.entries)
    (found_first_opened text standing.P accepts point l.before l.entries first) (g.D.Disk.seen c.args.disk).contents (g.D.Disk.seen (disk_of c.in-Ok.journal)).contents c.in-Ok.ensures.bytes
    (c.in-Ok-load.ensures.read standing.P accepts)

pub returns-in-Ok-load-clause-since : goal.returns-in-Ok-load-clause-since
returns-in-Ok-load-clause-since g c =
    whole_opens g.D.Disk.seen c.args.policy.now c.args.disk (disk_of c.in-Ok.journal) (disk_of c.load.new.journal)
    c.in-Ok.ensures.since c.in-Ok.ensures.bytes c.in-Ok.ensures.only c.load.ensures.images

pub returns-in-Ok-load-clause-images : goal.returns-in-Ok-load-clause-images
returns-in-Ok-load-clause-images g c =
    rest_opens g.D.Disk.seen c.args.policy.now c.args.disk (disk_of c.load.new.journal)
    (whole_opens g.D.Disk.seen c.args.policy.now c.args.disk (disk_of c.in-Ok.journal) (disk_of c.load.new.journal)
    c.in-Ok.ensures.since c.in-Ok.ensures.bytes c.in-Ok.ensures.only c.load.ensures.images)

pub invariant_of-result : goal.invariant_of-result
invariant_of-result g c =
    let journal = c.load.new.journal in
    let l = c.in-Ok-load.loaded in
    let standing = c.in-Ok-load.ensures.standing in
    record {
      P = standing.P;
      accepts = standing.accepts;
      begun = standing.begun;
      starts = standing.starts;
      stands = λ _. standing.stands;
      settled = λ _. standing.settled;
      revokes = standing.revokes;
      in_force = λ _. standing.in_force;
      few = omega (arith, c.in-Ok-load.ensures.few, journal.gate_small);
      rests = λ _. record { closed = c.in-Ok-load.ensures.closed; few = c.in-Ok-load.ensures.few; only = c.in-Ok-load.ensures.only };
    }

pub returns-in-Ok-load-clause-places : goal.returns-in-Ok-load-clause-places
returns-in-Ok-load-clause-places g c =
    opened_places (g.D.Disk.seen c.args.disk).contents (g.D.Disk.seen (disk_of c.in-Ok.journal)).contents (g.D.Disk.seen (disk_of c.load.new.journal)).contents c.in-Ok.ensures.bytes c.in-Ok-load.ensures.places

pub returns-in-Ok-load-clause-old : goal.returns-in-Ok-load-clause-old
returns-in-Ok-load-clause-old g c =
    opened_old (g.D.Disk.seen c.args.disk).contents (g.D.Disk.seen (disk_of c.in-Ok.journal)).contents (g.D.Disk.seen (disk_of c.load.new.journal)).contents c.in-Ok.ensures.bytes c.in-Ok-load.ensures.kind

pub returns-in-Ok-load-clause-records : goal.returns-in-Ok-load-clause-records
returns-in-Ok-load-clause-records g c =
    opened_records c.args.policy.now (g.D.Disk.seen c.args.disk).contents (g.D.Disk.seen (disk_of c.in-Ok.journal)).contents
    (g.D.Disk.seen (disk_of c.load.new.journal)).contents c.in-Ok.ensures.bytes c.in-Ok-load.ensures.records
