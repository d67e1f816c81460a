use Rattle.std.proofs.Common.{◌≡◌, ◌<◌, ◌^◌, length, sym, ap, ◌∙◌, subst, arith}
use Rattle.std.specs.Prelude.{IfSome, Option, Some}
use Rattle.ucon_disk.specs.Run.{LeavesAfter}
use Rattle.ucon_journal.specs.Found.{counted}
use Rattle.ucon_journal.specs.Journal.{disk_of, version_of}
use Rattle.ucon_model.specs.Plain.{Bytes}
use Rattle.ucon_syntax.specs.Policies.{accepted}
use Rattle.ucon_store.specs.Kept.{payload_in}
use Rattle.ucon_store.specs.Loading.{IsReadWhole}
use Rattle.ucon_store.specs.Opening.{Opens, first_difference}
use Rattle.ucon_store.specs.Points.{points_of}
use Rattle.ucon_store.proofs.Differences.{no_difference}
use Rattle.ucon_store.proofs.Loadings.{IsMended, few_payloads, home_told, kept_mended, kind_mended, mended_told, other_told, places_mended, read_told}
use Rattle.ucon_store.proofs.Runs.{read_opens, then_opens, mend_opens}
use Rattle.ucon_store.proofs.SamePlaces.{same_records}
use Rattle.ucon_store.proofs.Stepping.{one_policy}
use Rattle.ucon_store.proofs.opening.go_on.Given.{Over}
use Rattle.ucon_store.proofs.opening.go_on.Goals.{After-mend, After-take_all, In_ok-mend, In_ok-take_all}
use Rattle.ucon_store.proofs.opening.go_on.Goals as goal

-- ---- the journal was read, to its end or as far as it could be

module _ (g : Over) (c : After-take_all g) where
  -- what is there then is what was there first
  told : (g.D.Disk.seen (disk_of c.take_all.new.journal)).contents ≡ (g.D.Disk.seen (disk_of c.args.journal.now)).contents
  told = c.take_all.ensures.contents ∙ c.start.ensures.contents

  leaves_read : LeavesAfter (g.D.Disk.seen (disk_of c.args.journal.now)) (g.D.Disk.seen (disk_of c.take_all.new.journal)) (Opens c.args.policy.now)
  leaves_read =
      then_opens g.D.Disk.seen c.args.policy.now (disk_of c.args.journal.now)
      (disk_of c.start.new.journal) (disk_of c.take_all.new.journal) c.start.ensures.contents c.start.ensures.images c.start.ensures.run
      (read_opens g.D.Disk.seen c.args.policy.now (disk_of c.start.new.journal)
      (disk_of c.take_all.new.journal) c.take_all.ensures.run)

pub returns-in_err-loaded-clause-images : goal.returns-in_err-loaded-clause-images
returns-in_err-loaded-clause-images g c =
    read_opens g.D.Disk.seen c.args.policy.now (disk_of c.args.journal.now) (disk_of c.start.new.journal) c.start.ensures.run

pub returns-in_err-take_all-clause-images : goal.returns-in_err-take_all-clause-images
returns-in_err-take_all-clause-images g c = leaves_read g (goal.at.returns-in_err-take_all-clause-images g c).After-take_all

pub returns-in-Some-clause-images : goal.returns-in-Some-clause-images
returns-in-Some-clause-images g c = leaves_read g (goal.at.returns-in-Some-clause-images g c).After-take_all

-- ---- what is there was read whole

module _ (g : Over) (c : In_ok-take_all g) where
  read : IfSome (g.D.Disk.seen (disk_of c.args.journal.now)).contents
      (IsReadWhole c.take_all.new.self.policy.items c.in_ok-take_all.ensures.loaded.standing.P
      (payload_in c.take_all.new.self.point) c.take_all.new.self.before c.take_all.new.self.entries)
  read =
      let l = c.take_all.new.self in
      subst (λ (o : Option Bytes). IfSome o
      (IsReadWhole l.policy.items c.in_ok-take_all.ensures.loaded.standing.P (payload_in l.point) l.before l.entries))
      (c.take_all.ensures.contents ∙ c.start.ensures.contents) c.in_ok-take_all.ensures.loaded.says

pub returns-in-Some-clause-reason : goal.returns-in-Some-clause-reason
returns-in-Some-clause-reason g c =
    let standing = c.in_ok-take_all.ensures.loaded.standing in
    let l = c.take_all.new.self in
    let text = c.args.policy.now in
    let differs : first_difference l.policy.items text ≡ Some c.in-Some.place =
    ap (λ (x : Bytes). first_difference x text) (sym c.deref.ensures.value) ∙ sym c.first_difference.ensures ∙ c.in-Some.is in (
      other_told (g.D.Disk.seen (disk_of c.args.journal.now)).contents l.policy.items text standing.P
          (payload_in l.point) l.before l.entries c.in-Some.place
          standing.accepts standing.begun standing.starts differs (read g (goal.at.returns-in-Some-clause-reason g c).In_ok-take_all),
      c.in_ok-take_all.ensures.unfailed ∙ c.in_ok-loaded.ensures.unfailed,
    )

pub returns-clause-standing : goal.returns-clause-standing
returns-clause-standing g c = c.in_ok-take_all.ensures.loaded.standing

pub returns-clause-few : goal.returns-clause-few
returns-clause-few g c = omega (arith, c.in_ok-take_all.ensures.loaded.few, c.mend.ensures.gate)

pub returns-clause-payloads : goal.returns-clause-payloads
returns-clause-payloads g c =
    let ended = c.take_all.new.journal in
    subst (λ (o : Option Bytes). IfSome o (λ file. length (counted file) < 2 ^ 63)) (told g (goal.at.returns-clause-payloads g c).After-take_all)
    (few_payloads g.D.Disk.seen ended (g.D.Disk.seen (disk_of ended)).contents ended.gate_small c.in_ok-take_all.ensures.ended.told)

-- ---- it has this policy, and is mended

module _ (g : Over) (c : After-mend g) where
  same : c.take_all.new.self.policy.items ≡ c.args.policy.now
  same = sym c.deref.ensures.value ∙ no_difference c.deref.result.now c.args.policy.now (sym c.first_difference.ensures ∙ c.in_default.is)

  leaves_mended : LeavesAfter (g.D.Disk.seen (disk_of c.args.journal.now)) (g.D.Disk.seen (disk_of c.mend.new.self)) (Opens c.args.policy.now)
  leaves_mended =
      let text = c.args.policy.now in
      let standing = c.in_ok-take_all.ensures.loaded.standing in
      let l = c.take_all.new.self in
      let seen = g.D.Disk.seen in
      let started = disk_of c.start.new.journal in
      let mid = disk_of c.take_all.new.journal in
      let home = home_told (seen mid).contents l.policy.items text standing.P (payload_in l.point) l.before l.entries
      c.opening_sees_one_thing.ensures.one standing.accepts standing.begun standing.starts same c.in_ok-take_all.ensures.loaded.says in
      then_opens seen text (disk_of c.args.journal.now) started (disk_of c.mend.new.self) c.start.ensures.contents c.start.ensures.images c.start.ensures.run
      (then_opens seen text started mid (disk_of c.mend.new.self) c.take_all.ensures.contents c.take_all.ensures.images c.take_all.ensures.run
      (mend_opens seen text mid (disk_of c.mend.new.self) home c.mend.ensures.images))

pub returns-in_err-mend-clause-images : goal.returns-in_err-mend-clause-images
returns-in_err-mend-clause-images g c = leaves_mended g (goal.at.returns-in_err-mend-clause-images g c).After-mend

pub returns-clause-images : goal.returns-clause-images
returns-clause-images g c = leaves_mended g (goal.at.returns-clause-images g c).After-mend

pub returns-clause-policy : goal.returns-clause-policy
returns-clause-policy g c = same g (goal.at.returns-clause-policy g c).After-mend

pub returns-clause-read : goal.returns-clause-read
returns-clause-read g c = λ P accepts.
    let standing = c.in_ok-take_all.ensures.loaded.standing in
    let l = c.take_all.new.self in
    let is = same g (goal.at.returns-clause-read g c).After-mend in
    read_told (g.D.Disk.seen (disk_of c.args.journal.now)).contents l.policy.items c.args.policy.now standing.P P
    (payload_in l.point) l.before l.entries is
    (one_policy l.policy.items standing.P P standing.accepts (ap accepted is ∙ accepts)) (read g (goal.at.returns-clause-read g c).In_ok-take_all)

module _ (g : Over) (c : In_ok-mend g) where
  mended : IsMended (points_of (version_of c.take_all.new.journal)) (g.D.Disk.seen (disk_of c.args.journal.now)).contents
      (g.D.Disk.seen (disk_of c.mend.new.self)).contents
  mended =
      mended_told g.D.Disk.seen c.take_all.new.journal c.mend.new.self
      (c.take_all.ensures.contents ∙ c.start.ensures.contents) c.in_ok-take_all.ensures.ended
      c.in_ok-mend.ensures.closed c.mend.ensures.version c.in_ok-mend.ensures.same

pub returns-clause-kept : goal.returns-clause-kept
returns-clause-kept g c =
    let l = c.take_all.new.self in
    kept_mended (g.D.Disk.seen (disk_of c.args.journal.now)).contents (g.D.Disk.seen (disk_of c.mend.new.self)).contents
    (points_of (version_of c.take_all.new.journal))
    l.policy.items c.args.policy.now c.in_ok-take_all.ensures.loaded.standing.P (payload_in l.point) l.before l.entries
    (read g (goal.at.returns-clause-kept g c).In_ok-take_all) (mended g (goal.at.returns-clause-kept g c).In_ok-mend)

pub returns-clause-places : goal.returns-clause-places
returns-clause-places g c = places_mended (mended g (goal.at.returns-clause-places g c).In_ok-mend)

pub returns-clause-kind : goal.returns-clause-kind
returns-clause-kind g c = kind_mended (mended g (goal.at.returns-clause-kind g c).In_ok-mend)

pub returns-clause-records : goal.returns-clause-records
returns-clause-records g c =
    same_records c.args.policy.now (g.D.Disk.seen (disk_of c.args.journal.now)).contents (g.D.Disk.seen (disk_of c.mend.new.self)).contents
    (mended g (goal.at.returns-clause-records g c).In_ok-mend).same
