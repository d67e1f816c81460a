use Rattle.std.proofs.Common.{◌≡◌, ℕ, length, sym, ap, ◌∙◌, subst, arith}
use Rattle.std.specs.Prelude.{option_map, IfSome}
use Rattle.ucon_disk.specs.Run.{LeavesAfter, LeavesOnly, started}
use Rattle.ucon_journal.specs.Journal.{disk_of, gate_of, told_payloads, version_of}
use Rattle.ucon_journal.specs.Opened.{shut_at, with_payload, SamePayloads}
use Rattle.ucon_model.specs.History.{History}
use Rattle.ucon_syntax.specs.Policies.{accepted}
use Rattle.ucon_store.specs.Kept.{payload_in}
use Rattle.ucon_store.proofs.Openings.{holds_made}
use Rattle.ucon_store.proofs.Loadings.{IsOfKind, fresh_kept, fresh_payloads, fresh_read}
use Rattle.ucon_store.proofs.Runs.{mend_fresh_opens, make_opens, read_opens}
use Rattle.ucon_store.proofs.SamePlaces.{made_places, made_records, same_kind}
use Rattle.ucon_store.proofs.Versions.{closed_kind, ended_kind}
use Rattle.ucon_store.specs.Points.{points_of}
use Rattle.ucon_store.proofs.opening.make.Goals as goal

-- no call was made of the disk, so a crash leaves what it left before
pub returns-in_err-reserve-clause-images : goal.returns-in_err-reserve-clause-images
returns-in_err-reserve-clause-images g c =
    let seen = g.D.Disk.seen in
    let old = disk_of c.args.journal.now in
    let run = subst (λ (d : g.row.D.Denot). LeavesOnly (seen old) (seen d) (seen old).images) (sym c.reserve.ensures.disk) (started (seen old) (seen old).images (g.met.D.Disk.only_now old)) in
    read_opens seen c.args.policy.now old (disk_of c.reserve.new.self) run

pub returns-in_err-mend-clause-images : goal.returns-in_err-mend-clause-images
returns-in_err-mend-clause-images g c =
    let seen = g.D.Disk.seen in
    let mended = subst (λ (d : g.row.D.Denot). LeavesAfter (seen d) (seen (disk_of c.mend.new.self)) SamePayloads) c.reserve.ensures.disk c.mend.ensures.images in
    mend_fresh_opens seen c.args.policy.now (disk_of c.args.journal.now) (disk_of c.mend.new.self) c.requires.fresh mended

pub returns-in_err-append-clause-images : goal.returns-in_err-append-clause-images
returns-in_err-append-clause-images g c =
    let seen = g.D.Disk.seen in
    let text = c.args.policy.now in
    let mended = subst (λ (d : g.row.D.Denot). LeavesAfter (seen d) (seen (disk_of c.mend.new.self)) SamePayloads) c.reserve.ensures.disk c.mend.ensures.images in
    let standing = c.in_ok-loaded.ensures.standing in
    let accepts = sym (ap accepted c.in_ok-loaded.ensures.policy) ∙ standing.accepts in
    let shut = shut_at (gate_of c.reserve.new.self) in
    let bytes = subst (λ (d : g.row.D.Denot). (seen (disk_of c.mend.new.self)).contents ≡ option_map shut (seen d).contents) c.reserve.ensures.disk c.in_ok-mend.ensures.bytes in
    let same = subst (λ (d : g.row.D.Denot). told_payloads (seen (disk_of c.mend.new.self)).contents ≡ told_payloads (seen d).contents) c.reserve.ensures.disk c.in_ok-mend.ensures.same in
    let version : version_of c.mend.new.self ≡ version_of c.args.journal.now = c.mend.ensures.version ∙ c.reserve.ensures.version in
    make_opens seen text standing.P (disk_of c.args.journal.now) (disk_of c.mend.new.self) (disk_of c.append.new.self) (omega (arith, c.in_ok-loaded.ensures.short)) accepts
    c.requires.fresh shut bytes same c.in_ok-mend.ensures.only mended c.append.ensures.images (points_of (version_of c.args.journal.now))
    (ended_kind seen c.args.journal.now c.requires.ended)
    (subst (λ (v : ℕ). IfSome (seen (disk_of c.mend.new.self)).contents (IsOfKind (points_of v))) version (closed_kind seen c.mend.new.self c.in_ok-mend.ensures.closed))

pub returns-clause-images : goal.returns-clause-images
returns-clause-images g c =
    let seen = g.D.Disk.seen in
    let text = c.args.policy.now in
    let mended = subst (λ (d : g.row.D.Denot). LeavesAfter (seen d) (seen (disk_of c.mend.new.self)) SamePayloads) c.reserve.ensures.disk c.mend.ensures.images in
    let standing = c.in_ok-loaded.ensures.standing in
    let accepts = sym (ap accepted c.in_ok-loaded.ensures.policy) ∙ standing.accepts in
    let shut = shut_at (gate_of c.reserve.new.self) in
    let bytes = subst (λ (d : g.row.D.Denot). (seen (disk_of c.mend.new.self)).contents ≡ option_map shut (seen d).contents) c.reserve.ensures.disk c.in_ok-mend.ensures.bytes in
    let same = subst (λ (d : g.row.D.Denot). told_payloads (seen (disk_of c.mend.new.self)).contents ≡ told_payloads (seen d).contents) c.reserve.ensures.disk c.in_ok-mend.ensures.same in
    let version : version_of c.mend.new.self ≡ version_of c.args.journal.now = c.mend.ensures.version ∙ c.reserve.ensures.version in
    make_opens seen text standing.P (disk_of c.args.journal.now) (disk_of c.mend.new.self) (disk_of c.append.new.self) (omega (arith, c.in_ok-loaded.ensures.short)) accepts
    c.requires.fresh shut bytes same c.in_ok-mend.ensures.only mended c.append.ensures.images (points_of (version_of c.args.journal.now))
    (ended_kind seen c.args.journal.now c.requires.ended)
    (subst (λ (v : ℕ). IfSome (seen (disk_of c.mend.new.self)).contents (IsOfKind (points_of v))) version (closed_kind seen c.mend.new.self c.in_ok-mend.ensures.closed))

pub returns-clause-read : goal.returns-clause-read
returns-clause-read g c = λ P accepts.
    let loaded = c.in_ok-loaded.loaded in
    fresh_read c.args.policy.now P (payload_in loaded.point) loaded.before loaded.entries (g.D.Disk.seen (disk_of c.args.journal.now)).contents c.requires.fresh
    c.in_ok-loaded.ensures.begins c.in_ok-loaded.ensures.entries

pub returns-clause-kept : goal.returns-clause-kept
returns-clause-kept g c =
    let seen = g.D.Disk.seen in
    let text = c.args.policy.now in
    let o = (seen (disk_of c.args.journal.now)).contents in
    let m = (seen (disk_of c.mend.new.self)).contents in
    let n = (seen (disk_of c.append.new.self)).contents in
    let standing = c.in_ok-loaded.ensures.standing in
    let accepts = sym (ap accepted c.in_ok-loaded.ensures.policy) ∙ standing.accepts in
    let shut = shut_at (gate_of c.reserve.new.self) in
    let bytes = subst (λ (d : g.row.D.Denot). m ≡ option_map shut (seen d).contents) c.reserve.ensures.disk c.in_ok-mend.ensures.bytes in
    let same = subst (λ (d : g.row.D.Denot). told_payloads m ≡ told_payloads (seen d).contents) c.reserve.ensures.disk c.in_ok-mend.ensures.same in
    fresh_kept text standing.P o n c.requires.fresh accepts
    (holds_made text standing.P o m n shut (with_payload (gate_of c.mend.new.self) text) (omega (arith, c.in_ok-loaded.ensures.short)) accepts c.requires.fresh bytes same
    c.in_ok-append.ensures.bytes c.in_ok-append.ensures.added)

pub returns-clause-few : goal.returns-clause-few
returns-clause-few g c =
    let loaded = c.in_ok-loaded.loaded in
    let none = ap (λ (l : History). length l) c.in_ok-loaded.ensures.entries in
    omega (arith, none, c.in_ok-loaded.ensures.begins.1)

pub returns-clause-payloads : goal.returns-clause-payloads
returns-clause-payloads g c = fresh_payloads (g.D.Disk.seen (disk_of c.args.journal.now)).contents c.requires.fresh

pub returns-clause-places : goal.returns-clause-places
returns-clause-places g c =
    let seen = g.D.Disk.seen in
    let m = (seen (disk_of c.mend.new.self)).contents in
    let shut = shut_at (gate_of c.reserve.new.self) in
    let bytes = subst (λ (d : g.row.D.Denot). m ≡ option_map shut (seen d).contents) c.reserve.ensures.disk c.in_ok-mend.ensures.bytes in
    let same = subst (λ (d : g.row.D.Denot). told_payloads m ≡ told_payloads (seen d).contents) c.reserve.ensures.disk c.in_ok-mend.ensures.same in
    made_places (seen (disk_of c.args.journal.now)).contents m (seen (disk_of c.append.new.self)).contents c.args.policy.now shut c.requires.fresh bytes same c.in_ok-append.ensures.added

pub returns-clause-kind : goal.returns-clause-kind
returns-clause-kind g c =
    let seen = g.D.Disk.seen in
    let version : version_of c.append.new.self ≡ version_of c.args.journal.now =
    c.append.ensures.version ∙ (c.mend.ensures.version ∙ c.reserve.ensures.version) in
    same_kind (seen (disk_of c.args.journal.now)).contents (seen (disk_of c.append.new.self)).contents (points_of (version_of c.args.journal.now))
    (ended_kind seen c.args.journal.now c.requires.ended)
    (subst (λ (v : ℕ). IfSome (seen (disk_of c.append.new.self)).contents (IsOfKind (points_of v))) version (closed_kind seen c.append.new.self c.in_ok-append.ensures.closed))

pub returns-clause-records : goal.returns-clause-records
returns-clause-records g c =
    let seen = g.D.Disk.seen in
    let m = (seen (disk_of c.mend.new.self)).contents in
    let shut = shut_at (gate_of c.reserve.new.self) in
    let bytes = subst (λ (d : g.row.D.Denot). m ≡ option_map shut (seen d).contents) c.reserve.ensures.disk c.in_ok-mend.ensures.bytes in
    let same = subst (λ (d : g.row.D.Denot). told_payloads m ≡ told_payloads (seen d).contents) c.reserve.ensures.disk c.in_ok-mend.ensures.same in
    made_records (seen (disk_of c.args.journal.now)).contents m (seen (disk_of c.append.new.self)).contents c.args.policy.now shut c.requires.fresh bytes same c.in_ok-append.ensures.added
