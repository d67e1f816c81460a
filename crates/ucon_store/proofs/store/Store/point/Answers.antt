use Rattle.std.proofs.Common.{rules, ◌≡◌, ◌+◌, ◌∙◌, ◌∷◌, [], ℕ, None, Some, Err, ap, subst, sym, arith}
use Rattle.std.specs.Prelude.{Result, IfErr}
use Rattle.ucon_journal.specs.Journal.{disk_of}
use Rattle.ucon_model.specs.Action.{Trace}
use Rattle.ucon_model.specs.Plain.{PlainPolicy}
use Rattle.ucon_syntax.specs.Policies.{accepted}
use Rattle.ucon_store.specs.declared.fault.PointFault.{PointFault}
use Rattle.ucon_store.specs.Kept.{Kept}
use Rattle.ucon_store.specs.Pointing.{IsUnpointed}
use Rattle.ucon_store.specs.Starts.{IsStart, checkpoint_behind}
use Rattle.ucon_store.specs.Stays.{Stays, stays_same}
use Rattle.ucon_store.proofs.Adding.{adds_nothing}
use Rattle.ucon_store.proofs.Finding.{Together}
use Rattle.ucon_store.proofs.Pointed.{IsPointReady, LeavesPoint, adds_point, fits_ready, founded_point, leaves_point, on_disk, places_point, point_ready, point_refused, points_nothing, points_ready, stays_point, stays_stopped, written_point}
use Rattle.ucon_store.proofs.Recorded.{IsAppended, with_mark}
use Rattle.ucon_store.proofs.Stepped.{marked_parts, only_kept, parts}
use Rattle.ucon_store.proofs.Stepping.{unmarked}
use Rattle.ucon_store.proofs.store.Store.point.Given.{Over}
use Rattle.ucon_store.proofs.store.Store.point.Goals.{After-append, In_default}
use Rattle.ucon_store.proofs.store.Store.point.Goals as goal

pub append-requires-clause-closed : goal.append-requires-clause-closed
append-requires-clause-closed g c =
    let none : c.self.inside.mark ≡ None = unmarked c.self.inside.mark (search rules) in
    c.prepare_point.ensures.closed (c.self.invariant.rests none).closed

-- ---- it wasn't prepared: nothing has changed

pub returns-in_err-text-clause-why : goal.returns-in_err-text-clause-why
returns-in_err-text-clause-why g c =
    let store = c.args.self.now in
    let fault = c.in_err-text.field-0.0 in
    let is : c.from_residual.result ≡ Err fault = search rules in
    subst (λ (r : Result ℕ PointFault). IfErr r (λ f. (P : PlainPolicy) (T : Trace) → accepted store.policy ≡ Some P
    → IsStart P store.point store.before T → IsUnpointed g.D.Disk.seen P T store f)) (sym is)
    (point_refused c.self.invariant c.self.view_is (unmarked c.self.inside.mark (search rules))
    fault (ap (λ n. c.self.inside.before + n) c.len.ensures) c.deref.ensures.value c.in_err-text.ensures.refused)

pub returns-in_err-text-clause-inside : goal.returns-in_err-text-clause-inside
returns-in_err-text-clause-inside g c =
    points_nothing g.D.Disk.seen c.args.self.now g.met.D.Disk.only_now (disk_of c.prepare_point.new.journal)
    (c.prepare_point.ensures.disk ∙ ap (λ (s : Kept g.row.D.Denot). s.disk) c.self.view_is)

pub returns-in_err-text-clause-adds : goal.returns-in_err-text-clause-adds
returns-in_err-text-clause-adds g c =
    let x = c.args.self.now in
    adds_nothing g.D.Disk.seen x (λ P T. checkpoint_behind x.policy x.point x.before P T x.entries ∷ []) g.met.D.Disk.only_now
    (only_kept c.self.invariant c.self.view_is) (disk_of c.prepare_point.new.journal)
    (c.prepare_point.ensures.disk ∙ ap (λ (s : Kept g.row.D.Denot). s.disk) c.self.view_is)

pub returns-in_err-text-clause-stays : goal.returns-in_err-text-clause-stays
returns-in_err-text-clause-stays g c =
    let s = c.self.inside in
    let same = (λ i. parts s.policy.items s.point s.before s.opening s.entries s.mark (c.prepare_point.ensures.disk i))
    ∙ c.self.view_is in
    subst (Stays g.D.Disk.seen c.args.self.now) (sym same)
    (stays_same g.D.Disk.seen g.met.D.Disk.only_now c.args.self.now)

-- ---- once the record's making has begun

module _ (g : Over) (c : After-append g) where
  -- the checkpoint was ready
  ready : IsPointReady g.D.Disk.seen c.args.self.now c.prepare_point.new.journal c.deref-2.result.now
  ready =
      point_ready c.self.invariant c.self.view_is (unmarked c.self.inside.mark (search rules))
      c.prepare_point.ensures.closed c.prepare_point.ensures.disk
      c.prepare_point.ensures.version c.in_ok-text.ensures.second c.deref-2.ensures.value c.in_ok-text.ensures.short
      (ap (λ n. c.self.inside.before + n) c.len.ensures) c.deref.ensures.value c.in_ok-text.ensures.text

  together : Together
  together = record {
    found = c.payloads_are_found_together.ensures.found accepted;
    steps = c.payloads_are_found_together.ensures.steps accepted;
  }

  leaves : LeavesPoint g.D.Disk.seen c.args.self.now (disk_of c.append.new.self)
  leaves = leaves_point ready together c.append.ensures.images

-- ---- the disk failed

pub returns-in-Err-clause-inside : goal.returns-in-Err-clause-inside
returns-in-Err-clause-inside g c = leaves g (goal.at.returns-in-Err-clause-inside g c).After-append

pub returns-in-Err-clause-adds : goal.returns-in-Err-clause-adds
returns-in-Err-clause-adds g c = adds_point (ready g (goal.at.returns-in-Err-clause-adds g c).After-append) c.append.ensures.images

pub returns-in-Err-clause-stays : goal.returns-in-Err-clause-stays
returns-in-Err-clause-stays g c =
    let before = (goal.at.returns-in-Err-clause-stays g c).After-append in
    let s = c.self.inside in
    let stopped : parts s.policy.items s.point s.before s.opening s.entries (Some c.new.result) (disk_of c.append.new.self)
    ≡ with_mark c.args.self.now [] (disk_of c.append.new.self) =
    marked_parts s.point c.self.view_is [] (disk_of c.append.new.self) (λ _. s.entries) c.new.ensures in
    stays_stopped (ready g before) (together g before) c.append.ensures.images c.append.ensures.tells c.in-Err.ensures.cause
    g.met.D.Disk.counts_now stopped

-- ---- it is there

module _ (g : Over) (c : In_default g) where
  appended : IsAppended g.D.Disk.seen c.prepare_point.new.journal c.append.new.self (c.deref-2.result.now ∷ [])
  appended = record {
    closed = c.in_default.ensures.closed;
    version = c.append.ensures.version;
    gate = omega (arith, c.in_default.ensures.gate);
    only = c.in_default.ensures.only;
    tells = c.append.ensures.tells;
    added = c.in_default.ensures.added;
  }

  -- the store is the same on another disk
  moved : parts c.self.inside.policy.items c.self.inside.point c.self.inside.before c.self.inside.opening c.self.inside.entries
      c.self.inside.mark (disk_of c.append.new.self)
      ≡ on_disk c.args.self.now (disk_of c.append.new.self)
  moved = ap (λ (s : Kept g.row.D.Denot). on_disk s (disk_of c.append.new.self)) c.self.view_is

pub returns-clause-second : goal.returns-clause-second
returns-clause-second g c = points_ready (ready g (goal.at.returns-clause-second g c).After-append)

pub returns-clause-added : goal.returns-clause-added
returns-clause-added g c =
    let before = (goal.at.returns-clause-added g c).After-append in
    places_point (ready g before) (together g before) (appended g (goal.at.returns-clause-added g c).In_default)

pub returns-clause-written : goal.returns-clause-written
returns-clause-written g c =
    let before = (goal.at.returns-clause-written g c).After-append in
    written_point (ready g before) (appended g (goal.at.returns-clause-written g c).In_default)

pub returns-clause-fits : goal.returns-clause-fits
returns-clause-fits g c = fits_ready (ready g (goal.at.returns-clause-fits g c).After-append)

pub returns-clause-inside : goal.returns-clause-inside
returns-clause-inside g c = leaves g (goal.at.returns-clause-inside g c).After-append

pub returns-clause-adds : goal.returns-clause-adds
returns-clause-adds g c = adds_point (ready g (goal.at.returns-clause-adds g c).After-append) c.append.ensures.images

pub returns-clause-founded : goal.returns-clause-founded
returns-clause-founded g c =
    let before = (goal.at.returns-clause-founded g c).After-append in
    let there = (goal.at.returns-clause-founded g c).In_default in
    founded_point (ready g before) (together g before) (appended g there) (moved g there)

pub returns-clause-stays : goal.returns-clause-stays
returns-clause-stays g c =
    let before = (goal.at.returns-clause-stays g c).After-append in
    let there = (goal.at.returns-clause-stays g c).In_default in
    stays_point (ready g before) (together g before) (appended g there) c.append.ensures.images c.in_default.ensures.cause (moved g there)
