use Rattle.std.proofs.Common.{rules, ◌≡◌, ◌∷◌, [], ◌++◌, ◌≤◌, length, true, None, Some, refl, sym, ap, ◌∙◌, subst}
use Rattle.ucon_journal.specs.Journal.{disk_of}
use Rattle.ucon_model.specs.declared.command.Caller.{Caller}
use Rattle.ucon_model.specs.declared.command.Command.{Command}
use Rattle.ucon_model.specs.declared.command.Entry.{Entry}
use Rattle.ucon_model.specs.History.{History, trace_from}
use Rattle.ucon_model.specs.Payload.{revocations_in}
use Rattle.ucon_model.specs.Plain.{Bytes, PlainReply}
use Rattle.ucon_model.specs.Views.{reply_of}
use Rattle.ucon_syntax.specs.Policies.{accepted}
use Rattle.ucon_store.specs.Kept.{Kept}
use Rattle.ucon_store.specs.Points.{text_behind}
use Rattle.ucon_store.specs.Stays.{Stays, stays_same}
use Rattle.ucon_store.specs.Steps.{step_payload}
use Rattle.ucon_store.proofs.Adding.{Adds, adds_nothing}
use Rattle.ucon_store.proofs.Finding.{Together}
use Rattle.ucon_store.proofs.Placing.{failed_whole, placed_whole}
use Rattle.ucon_store.proofs.Recorded.{IsAppended, LeavesStep, events_marked, events_more, leaves_step, unbegun, with_entries, with_mark}
use Rattle.ucon_store.proofs.Stepped.{IsReady, added_ready, adds_ready, founded_ready, leaves_ready, marked_parts, more_parts, only_kept, parts, ready_for, stays_failed, stays_ready}
use Rattle.ucon_store.proofs.Stepping.{kept_one, unmarked}
use Rattle.ucon_store.proofs.store.Store.step.Given.{Over}
use Rattle.ucon_store.proofs.store.Store.step.Goals.{After-record, Else-is_some, In-Err-record, In_default-record}
use Rattle.ucon_store.proofs.store.Store.step.Goals as goal

abbrev entry : Caller → Command → Entry
entry caller command = record { caller = caller; command = command }

pub prepare-requires-clause-few : goal.prepare-requires-clause-few
prepare-requires-clause-few g c =
    let inv = c.self.invariant in
    let H = c.self.inside.entries in
    let said_is = c.in_ok-reply.ensures.reply inv.P (trace_from inv.P inv.begun H) (inv.stands (unmarked c.self.inside.mark (search rules)) inv.begun inv.starts) in
    subst (λ (r : PlainReply). length (revocations_in r) ≤ 65536) (sym said_is) (inv.revokes inv.begun inv.starts H c.args.caller c.args.command.now)

pub record-requires-clause-closed : goal.record-requires-clause-closed
record-requires-clause-closed g c =
    let none : c.self.inside.mark ≡ None = unmarked c.self.inside.mark (search rules) in
    c.prepare.ensures.closed (c.self.invariant.rests none).closed

-- ---- once the record's making has begun

module _ (g : Over) (c : After-record g) where
  -- the store was ready for the step's record
  ready : IsReady g.D.Disk.seen c.args.self.now c.prepare.new.journal (entry c.args.caller c.args.command.now ∷ []) (c.deref.result.now ∷ [])
  ready =
      let none : c.self.inside.mark ≡ None = unmarked c.self.inside.mark (search rules) in
      let changed : c.changes.result ≡ true = search rules in
      ready_for c.self.invariant c.self.view_is none c.prepare.ensures.closed c.prepare.ensures.disk (entry c.args.caller c.args.command.now)
      (reply_of c.in_ok-reply.reply) (sym c.changes.ensures ∙ changed) c.in_ok-reply.ensures.reply
      c.deref.ensures.value c.in_default.ensures.spelled c.in_default.ensures.taken

  together : Together
  together = record {
    found = c.payloads_are_found_together.ensures.found accepted;
    steps = c.payloads_are_found_together.ensures.steps accepted;
  }

  leaves : LeavesStep g.D.Disk.seen c.args.self.now
      (entry c.args.caller c.args.command.now) (disk_of c.record.new.journal)
  leaves = leaves_step (leaves_ready ready together c.record.ensures.images)

-- ---- it met a disk fault

module _ (g : Over) (c : In-Err-record g) (failed : History) (is : failed ≡ entry c.args.caller c.args.command.now ∷ []) where
  -- its entry is the mark of the store
  marked : parts c.self.inside.policy.items c.self.inside.point c.self.inside.before c.self.inside.opening c.record.new.entries
      (Some failed) (disk_of c.record.new.journal)
      ≡ with_mark c.args.self.now (entry c.args.caller c.args.command.now ∷ []) (disk_of c.record.new.journal)
  marked =
      marked_parts c.self.inside.point c.self.view_is (entry c.args.caller c.args.command.now ∷ []) (disk_of c.record.new.journal)
      c.in-Err-record.ensures.same.0 is

pub returns-in-Err-record-clause-inside : goal.returns-in-Err-record-clause-inside
returns-in-Err-record-clause-inside g c = leaves g (goal.at.returns-in-Err-record-clause-inside g c).After-record

pub returns-in-Err-record-clause-stays : goal.returns-in-Err-record-clause-stays
returns-in-Err-record-clause-stays g c =
    let before = (goal.at.returns-in-Err-record-clause-stays g c).After-record in
    stays_failed (ready g before) (together g before) c.record.ensures.images c.record.ensures.tells
    c.in-Err-record.ensures.cause g.met.D.Disk.counts_now (marked g (goal.at.returns-in-Err-record-clause-stays g c).In-Err-record c.of.result c.of.ensures)

pub returns-in-Err-record-clause-events : goal.returns-in-Err-record-clause-events
returns-in-Err-record-clause-events g c =
    events_marked c.args.self.now (entry c.args.caller c.args.command.now)
    (ready g (goal.at.returns-in-Err-record-clause-events g c).After-record).unmarked (disk_of c.record.new.journal)
    (marked g (goal.at.returns-in-Err-record-clause-events g c).In-Err-record c.of.result c.of.ensures)

-- ---- it is there

module _ (g : Over) (c : In_default-record g) where
  appended : IsAppended g.D.Disk.seen c.prepare.new.journal c.record.new.journal (c.deref.result.now ∷ [])
  appended = record {
    closed = c.in_default-record.ensures.closed;
    version = c.record.ensures.version;
    gate = c.in_default-record.ensures.gate;
    only = c.in_default-record.ensures.only;
    tells = c.record.ensures.tells;
    added = c.in_default-record.ensures.payloads;
  }

  grown : c.record.new.entries ≡ c.self.inside.entries ++ entry c.args.caller c.args.command.now ∷ []
  grown = c.in_default-record.ensures.added

  -- its entry is the last of the store
  longer : parts c.self.inside.policy.items c.self.inside.point c.self.inside.before c.self.inside.opening c.record.new.entries
      c.self.inside.mark (disk_of c.record.new.journal)
      ≡ with_entries c.args.self.now (entry c.args.caller c.args.command.now ∷ []) (disk_of c.record.new.journal)
  longer =
      more_parts c.self.inside.point c.self.view_is (entry c.args.caller c.args.command.now ∷ []) (disk_of c.record.new.journal)
      (unmarked c.self.inside.mark (search rules)) grown

pub invariant_of-self-2 : goal.invariant_of-self-2
invariant_of-self-2 g c =
    let there = (goal.at.invariant_of-self-2 g c).In_default-record in
    let changed : c.changes.result ≡ true = search rules in
    kept_one c.self.invariant (g.E.Engine.has_pending c.draft.new.self) (entry c.args.caller c.args.command.now)
    (c.in_ok-reply.ensures.pending (sym c.changes.ensures ∙ changed)) (unmarked c.self.inside.mark (search rules))
    c.prepare.ensures.gate (appended g there) c.record.ensures.small c.in_default-record.ensures.kept c.in_default-record.ensures.settled
    (c.in_default-record.ensures.in_force ∙ ap (λ (t : Bytes). text_behind t c.args.command.now) c.prepare.ensures.in_force) (grown g there)

pub returns-clause-inside : goal.returns-clause-inside
returns-clause-inside g c = leaves g (goal.at.returns-clause-inside g c).After-record

pub returns-clause-founded : goal.returns-clause-founded
returns-clause-founded g c =
    let before = (goal.at.returns-clause-founded g c).After-record in
    let there = (goal.at.returns-clause-founded g c).In_default-record in
    founded_ready (ready g before) (together g before) (appended g there) (longer g there)

pub returns-clause-stays : goal.returns-clause-stays
returns-clause-stays g c =
    let before = (goal.at.returns-clause-stays g c).After-record in
    let there = (goal.at.returns-clause-stays g c).In_default-record in
    stays_ready (ready g before) (together g before) c.record.ensures.images (appended g there) c.in_default-record.ensures.cause
    (longer g there)

pub returns-clause-events : goal.returns-clause-events
returns-clause-events g c =
    events_more c.args.self.now (entry c.args.caller c.args.command.now) (ready g (goal.at.returns-clause-events g c).After-record).unmarked
    (disk_of c.record.new.journal) (longer g (goal.at.returns-clause-events g c).In_default-record)

-- ---- memory was wanting: nothing has changed

pub returns-in-Err-clause-inside : goal.returns-in-Err-clause-inside
returns-in-Err-clause-inside g c =
    leaves_step (unbegun g.D.Disk.seen c.args.self.now (entry c.args.caller c.args.command.now ∷ [])
    g.met.D.Disk.only_now (disk_of c.prepare.new.journal) (c.prepare.ensures.disk ∙ ap (λ (s : Kept g.row.D.Denot). s.disk) c.self.view_is))

pub returns-in-Err-clause-stays : goal.returns-in-Err-clause-stays
returns-in-Err-clause-stays g c =
    let s = c.self.inside in
    let same = (λ i. parts s.policy.items s.point s.before s.opening s.entries s.mark (c.prepare.ensures.disk i))
    ∙ c.self.view_is in
    subst (Stays g.D.Disk.seen c.args.self.now) (sym same)
    (stays_same g.D.Disk.seen g.met.D.Disk.only_now c.args.self.now)

-- ---- behind a history, from what is said behind its trace

pub returns-then-not-changes-clause-placed_behind : goal.returns-then-not-changes-clause-placed_behind
returns-then-not-changes-clause-placed_behind g c = search rules

pub returns-then-not-changes-clause-placed : goal.returns-then-not-changes-clause-placed
returns-then-not-changes-clause-placed g c =
    placed_whole (ap (λ (s : Kept g.row.D.Denot). s.before) c.self.view_is) (returns-then-not-changes-clause-placed_behind g c)

pub returns-clause-placed_behind : goal.returns-clause-placed_behind
returns-clause-placed_behind g c = search rules

pub returns-clause-placed : goal.returns-clause-placed
returns-clause-placed g c = placed_whole (ap (λ (s : Kept g.row.D.Denot). s.before) c.self.view_is) (returns-clause-placed_behind g c)

pub returns-in-Err-record-clause-failed_behind : goal.returns-in-Err-record-clause-failed_behind
returns-in-Err-record-clause-failed_behind g c = search rules

pub returns-in-Err-record-clause-failed : goal.returns-in-Err-record-clause-failed
returns-in-Err-record-clause-failed g c is = failed_whole (returns-in-Err-record-clause-failed_behind g c is)

-- ---- what a step puts into the file, whatever that is found as

module _ (g : Over) (c : After-record g) where
  adds : Adds g.D.Disk.seen c.args.self.now (λ P T. step_payload P T c.args.self.now.entries (entry c.args.caller c.args.command.now) ∷ []) (disk_of c.record.new.journal)
  adds = adds_ready (ready g c) c.record.ensures.images

pub returns-clause-adds : goal.returns-clause-adds
returns-clause-adds g c = adds g (goal.at.returns-clause-adds g c).After-record

pub returns-in-Err-record-clause-adds : goal.returns-in-Err-record-clause-adds
returns-in-Err-record-clause-adds g c = adds g (goal.at.returns-in-Err-record-clause-adds g c).After-record

pub returns-clause-added : goal.returns-clause-added
returns-clause-added g c _ =
    added_ready (ready g (goal.at.returns-clause-added g c).After-record) (appended g (goal.at.returns-clause-added g c).In_default-record)

module _ (g : Over) (c : Else-is_some g) where
  -- before a call of the disk nothing is added
  nothing : (new : g.row.D.Denot) → new ≡ disk_of c.self.inside.journal
      → Adds g.D.Disk.seen c.args.self.now (λ P T. step_payload P T c.args.self.now.entries (entry c.args.caller c.args.command.now) ∷ []) new
  nothing new same =
      adds_nothing g.D.Disk.seen c.args.self.now (λ P T. step_payload P T c.args.self.now.entries (entry c.args.caller c.args.command.now) ∷ [])
      g.met.D.Disk.only_now (only_kept c.self.invariant c.self.view_is) new (same ∙ ap (λ (s : Kept g.row.D.Denot). s.disk) c.self.view_is)

pub returns-in-Err-clause-adds : goal.returns-in-Err-clause-adds
returns-in-Err-clause-adds g c =
    nothing g (goal.at.returns-in-Err-clause-adds g c).Else-is_some (disk_of c.prepare.new.journal) c.prepare.ensures.disk

pub returns-then-not-changes-clause-adds : goal.returns-then-not-changes-clause-adds
returns-then-not-changes-clause-adds g c =
    nothing g (goal.at.returns-then-not-changes-clause-adds g c).Else-is_some (disk_of c.self.inside.journal) refl

pub returns-in_err-reply-clause-adds : goal.returns-in_err-reply-clause-adds
returns-in_err-reply-clause-adds g c = nothing g (goal.at.returns-in_err-reply-clause-adds g c).Else-is_some (disk_of c.self.inside.journal) refl
