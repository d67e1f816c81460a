use Rattle.std.proofs.Common.{◌≡◌, sym, ap, subst}
use Rattle.std.specs.Prelude.{option_map, IfSome}
use Rattle.ucon_disk.specs.Run.{LeavesFrom}
use Rattle.ucon_journal.specs.Journal.{disk_of}
use Rattle.ucon_journal.specs.Opened.{Untouched, opened}
use Rattle.ucon_model.specs.Plain.{Bytes}
use Rattle.std.specs.Prelude.{Option}
use Rattle.ucon_audit.specs.Checking.{IsWhole}
use Rattle.ucon_audit.specs.Refusing.{IsRefused}
use Rattle.ucon_audit.proofs.Printed.{audit_told}
use Rattle.ucon_audit.proofs.Opened.{only_read, opening_refused, refused_before}
use Rattle.ucon_audit.proofs.auditing.audit.Goals as goal

pub returns-in-Err-clause-refused : goal.returns-in-Err-clause-refused
returns-in-Err-clause-refused g c =
    let seen = g.D.Disk.seen in
    opening_refused c.into.result c.in-Err.fault c.args.policy.now (seen c.args.disk).contents (seen c.in-Err.disk).contents (seen c.args.disk).faults
    (seen c.in-Err.disk).faults c.into.ensures c.in-Err.ensures.not_journal c.in-Err.ensures.failed c.in-Err.ensures.unfailed_err

pub returns-in-Err-check_records-clause-refused : goal.returns-in-Err-check_records-clause-refused
returns-in-Err-check_records-clause-refused g c =
    let seen = g.D.Disk.seen in
    let o = (seen c.args.disk).contents in
    let fault = c.in-Err-check_records.fault in
    let policy = c.args.policy.now in
    let begun = disk_of c.in-Ok.journal in
    let end = disk_of c.check_records.new.journal in
    let now : (seen c.close.result).faults ≡ (seen end).faults = ap (λ d. (seen d).faults) c.close.ensures in
    let here = subst (λ (x : Option Bytes). IsRefused fault policy x (seen begun).faults (seen end).faults) c.in-Ok.ensures.bytes c.in-Err-check_records.ensures.refused in
    refused_before fault policy o (seen c.args.disk).faults (seen c.close.result).faults
    (subst (λ b. IsRefused fault policy (option_map opened o) b (seen c.close.result).faults) c.in-Ok.ensures.unfailed
    (subst (λ n. IsRefused fault policy (option_map opened o) (seen begun).faults n) (sym now) here))

pub returns-in-Err-check_records-clause-images_err : goal.returns-in-Err-check_records-clause-images_err
returns-in-Err-check_records-clause-images_err g c =
    let seen = g.D.Disk.seen in
    subst (λ (d : g.row.D.Denot). LeavesFrom (seen c.args.disk) (seen d) Untouched) (sym c.close.ensures)
    (only_read seen c.args.disk (disk_of c.in-Ok.journal) (disk_of c.check_records.new.journal) c.in-Ok.ensures.bytes c.in-Ok.ensures.only
    c.in-Ok.ensures.since c.check_records.ensures.run)

pub returns-in-Ok-check_records-clause-images : goal.returns-in-Ok-check_records-clause-images
returns-in-Ok-check_records-clause-images g c =
    let seen = g.D.Disk.seen in
    subst (λ (d : g.row.D.Denot). LeavesFrom (seen c.args.disk) (seen d) Untouched) (sym c.close-in-Ok-check_records.ensures)
    (only_read seen c.args.disk (disk_of c.in-Ok.journal) (disk_of c.check_records.new.journal) c.in-Ok.ensures.bytes c.in-Ok.ensures.only
    c.in-Ok.ensures.since c.check_records.ensures.run)

pub returns-in-Ok-check_records-clause-audited : goal.returns-in-Ok-check_records-clause-audited
returns-in-Ok-check_records-clause-audited g c =
    let seen = g.D.Disk.seen in
    let follows = g.E.Engine.follows in
    let o = (seen c.args.disk).contents in
    let check = c.in-Ok-check_records.check in
    audit_told follows c.args.kept c.args.policy.now check c.of.result o
    (subst (λ (x : Option Bytes). IfSome x (IsWhole follows c.args.kept c.args.policy.now check)) c.in-Ok.ensures.bytes c.in-Ok-check_records.ensures.whole)
    c.of.ensures.records c.of.ensures.entries c.of.ensures.head c.of.ensures.extends c.of.ensures.engine
