use Rattle.std.proofs.Common.{rules, ◌≡◌, ◌≢◌, ◌+◌, ◌*◌, ◌≤◌, ◌∷◌, [], ◌++◌, List, length, take, true, false, None, Some, refl, sym, ap, ◌∙◌, subst, arith}
use Rattle.std.proofs.lemmas.List.{length-take}
use Rattle.ucon_journal.specs.Journal.{batch_of, disk_of}
use Rattle.ucon_journal.specs.JournalBytes.{records}
use Rattle.ucon_model.specs.Action.{Trace}
use Rattle.ucon_model.specs.Batches.{changing}
use Rattle.ucon_model.specs.History.{History, trace_from}
use Rattle.ucon_model.specs.Plain.{Bytes, PlainPolicy}
use Rattle.ucon_syntax.specs.Policies.{accepted}
use Rattle.ucon_store.specs.Batched.{batch_behind, changing_after}
use Rattle.ucon_store.specs.Filling.{AreTakenUp, Filled, filled}
use Rattle.ucon_store.specs.Kept.{Kept}
use Rattle.ucon_store.specs.Stays.{Stays, stays_same}
use Rattle.ucon_store.proofs.Adding.{adds_nothing}
use Rattle.ucon_store.proofs.Batching.{Fills, added_nothing, added_whole, adds_whole, batched_failed, batched_kept, batched_none, empty, is_empty, kept_batch, leaves_whole, nothing_more, ready_batch, records_many}
use Rattle.ucon_store.proofs.Finding.{Together}
use Rattle.ucon_store.proofs.Placing.{batched_whole}
use Rattle.ucon_store.proofs.Recorded.{IsAppended, unbegun, with_entries, with_mark}
use Rattle.ucon_store.proofs.Stepped.{IsReady, added_ready, adds_ready, leaves_ready, marked_parts, more_parts, only_kept, parts, stays_failed, stays_ready}
use Rattle.ucon_store.proofs.Stepping.{few_behind, unmarked}
use Rattle.ucon_store.proofs.store.Store.step_all.Given.{Over}
use Rattle.ucon_store.proofs.store.Store.step_all.Goals.{After-drop-entries-inside-2, After-take_all-end, In-Err, In_default}
use Rattle.ucon_store.proofs.store.Store.step_all.Goals as goal

pub take_all-end-requires-clause-idle : goal.take_all-end-requires-clause-idle
take_all-end-requires-clause-idle g c =
    let inv = c.self.invariant in
    let H = c.self.inside.entries in
    record {
      policy = inv.P;
      trace = trace_from inv.P inv.begun H;
      holds = inv.stands (unmarked c.self.inside.mark (search rules)) inv.begun inv.starts;
      few = few_behind inv.P inv.begun H (inv.revokes inv.begun inv.starts);
    }

-- ---- the store was stopped

pub returns-then-is_some-clause-batched_behind : goal.returns-then-is_some-clause-batched_behind
returns-then-is_some-clause-batched_behind g c = λ P T accepts start.
    batched_none P T c.args.self.now c.args.lines.now _ (search rules) refl (λ bad. cc bad)

pub returns-then-is_some-clause-batched : goal.returns-then-is_some-clause-batched
returns-then-is_some-clause-batched g c = λ P G accepts front.
    batched_whole P G c.args.self.now front.count (returns-then-is_some-clause-batched_behind g c P _ accepts front.starts)

-- ---- once lines were taken up

module _ (g : Over) (c : After-take_all-end g) where
  none : c.self.inside.mark ≡ None
  none = unmarked c.self.inside.mark (search rules)

  batch : Filled
  batch = filled c.take_all-end.new.batch c.take_all-end.new.journal c.take_all-end.new.in_force

  fills : Fills g.E.Engine.follows c.self.inside.engine c.take_all-end.new.engine c.args.lines.now
      (empty (c.self.inside.before + length c.self.inside.entries) c.self.inside.in_force.text.items)
      (filled c.take_all-end.new.batch c.take_all-end.new.journal c.take_all-end.new.in_force)
      c.take_all-end.new.batch.sure c.take_all-end.new.batch.size
  fills =
      let begun = is_empty (filled c.new-batch.result c.begin_batch.new.self c.self.inside.in_force)
      (c.new-batch.ensures.before ∙ ap (λ n. c.self.inside.before + n) c.len.ensures)
      c.new-batch.ensures.placed c.new-batch.ensures.entries c.begin_batch.ensures.none refl in
      record {
        taken = λ P T stands.
            subst (λ (a : Filled). AreTakenUp g.E.Engine.follows P T (take (length c.take_all-end.new.batch.placed.items) c.args.lines.now) a
            (filled c.take_all-end.new.batch c.take_all-end.new.journal c.take_all-end.new.in_force) c.take_all-end.new.engine) begun
            (c.take_all-end.ensures.taken P T stands);
        surely = c.take_all-end.ensures.sure;
        sized = c.take_all-end.ensures.sized;
      }

  -- before a call of the disk the store is the same
  disk : disk_of c.take_all-end.new.journal ≡ c.args.self.now.disk
  disk = c.take_all-end.ensures.disk ∙ (c.begin_batch.ensures.disk ∙ ap (λ (s : Kept g.row.D.Denot). s.disk) c.self.view_is)

  same : parts c.self.inside.policy.items c.self.inside.point c.self.inside.before c.self.inside.opening c.self.inside.entries
      c.self.inside.mark (disk_of c.take_all-end.new.journal) ≡ c.args.self.now
  same =
      let s = c.self.inside in
      (λ i. parts s.policy.items s.point s.before s.opening s.entries s.mark ((c.take_all-end.ensures.disk ∙ c.begin_batch.ensures.disk) i))
      ∙ c.self.view_is

  ready : IsReady g.D.Disk.seen c.args.self.now c.take_all-end.new.journal c.take_all-end.new.batch.entries
      (batch_of c.take_all-end.new.journal)
  ready =
      ready_batch c.self.invariant c.self.view_is none fills (λ h. c.take_all-end.ensures.closed (c.begin_batch.ensures.closed h))
      (c.take_all-end.ensures.disk ∙ c.begin_batch.ensures.disk)

  together : Together
  together = record {
    found = c.payloads_are_found_together.ensures.found accepted;
    steps = c.payloads_are_found_together.ensures.steps accepted;
  }

pub append_all-requires-clause-closed : goal.append_all-requires-clause-closed
append_all-requires-clause-closed g c =
    let none : c.self.inside.mark ≡ None = unmarked c.self.inside.mark (search rules) in
    c.take_all-end.ensures.closed (c.begin_batch.ensures.closed (c.self.invariant.rests none).closed)

-- ---- none of them changed anything

pub returns-then-is_empty-clause-batched_behind : goal.returns-then-is_empty-clause-batched_behind
returns-then-is_empty-clause-batched_behind g c = λ P T accepts start.
    let before = (goal.at.returns-then-is_empty-clause-batched_behind g c).After-take_all-end in
    batched_kept c.self.invariant c.self.view_is (none g before) (fills g before) P T accepts start _ c.into_vec-placed.ensures
    (search rules) (search rules) (search rules)

pub returns-then-is_empty-clause-batched : goal.returns-then-is_empty-clause-batched
returns-then-is_empty-clause-batched g c = λ P G accepts front.
    batched_whole P G c.args.self.now front.count (returns-then-is_empty-clause-batched_behind g c P _ accepts front.starts)

pub returns-then-is_empty-clause-told : goal.returns-then-is_empty-clause-told
returns-then-is_empty-clause-told g c = λ _ _. same g (goal.at.returns-then-is_empty-clause-told g c).After-take_all-end

pub returns-then-is_empty-clause-inside : goal.returns-then-is_empty-clause-inside
returns-then-is_empty-clause-inside g c = λ P G f told.
    let before = (goal.at.returns-then-is_empty-clause-inside g c).After-take_all-end in
    unbegun g.D.Disk.seen c.args.self.now _ g.met.D.Disk.only_now (disk_of c.take_all-end.new.journal) (disk g before) P G f told

pub returns-then-is_empty-clause-adds : goal.returns-then-is_empty-clause-adds
returns-then-is_empty-clause-adds g c =
    let before = (goal.at.returns-then-is_empty-clause-adds g c).After-take_all-end in
    adds_nothing g.D.Disk.seen c.args.self.now _ g.met.D.Disk.only_now (only_kept c.self.invariant c.self.view_is)
    (disk_of c.take_all-end.new.journal) (disk g before)

pub returns-then-is_empty-clause-added : goal.returns-then-is_empty-clause-added
returns-then-is_empty-clause-added g c = λ _ P T file accepts start _ is.
    let before = (goal.at.returns-then-is_empty-clause-added g c).After-take_all-end in
    added_nothing c.self.invariant c.self.view_is (none g before) (fills g before) {n = c.len-taken.result} (search rules) (search rules) (disk g before) P T file accepts
    start is

pub returns-then-is_empty-clause-stays : goal.returns-then-is_empty-clause-stays
returns-then-is_empty-clause-stays g c =
    subst (Stays g.D.Disk.seen c.args.self.now) (sym (same g (goal.at.returns-then-is_empty-clause-stays g c).After-take_all-end))
    (stays_same g.D.Disk.seen g.met.D.Disk.only_now c.args.self.now)

-- ---- the disk failed

module _ (g : Over) (c : In-Err g) where
  marked : parts c.self.inside.policy.items c.self.inside.point c.self.inside.before c.self.inside.opening c.self.inside.entries
      (Some c.take_all-end.new.batch.entries) (disk_of c.append_all.new.self)
      ≡ with_mark c.args.self.now c.take_all-end.new.batch.entries (disk_of c.append_all.new.self)
  marked = marked_parts c.self.inside.point c.self.view_is c.take_all-end.new.batch.entries (disk_of c.append_all.new.self) refl refl

pub returns-in-Err-clause-batched_behind : goal.returns-in-Err-clause-batched_behind
returns-in-Err-clause-batched_behind g c = λ P T accepts start.
    let before = (goal.at.returns-in-Err-clause-batched_behind g c).After-take_all-end in
    batched_failed c.self.invariant c.self.view_is (none g before) (fills g before) P T accepts start _
    (c.truncate.ensures.items ∙ ap (take c.take_all-end.new.batch.sure) c.into_vec-placed.ensures) (search rules) refl (search rules) refl

pub returns-in-Err-clause-doubted : goal.returns-in-Err-clause-doubted
returns-in-Err-clause-doubted g c = λ _.
    let before = (goal.at.returns-in-Err-clause-doubted g c).After-take_all-end in
    let inv = c.self.invariant in
    let T = trace_from inv.P inv.begun c.self.inside.entries in
    let f = fills g before in
    let stands = inv.stands (none g before) inv.begun inv.starts in
    let taken = f.taken inv.P T stands in
    let placed = c.take_all-end.new.batch.placed.items in
    let some : changing_after inv.P T (take (length placed) c.args.lines.now) ≢ [] =
    λ nothing.
    let yes : c.is_empty.result ≡ true = c.is_empty.ensures.1 (taken.entries ∙ nothing) in
    let bad : true ≡ false = sym yes ∙ c.if-is_empty.false in
    cc bad in
    let within = (f.surely inv.P T stands).within some in
    let all : length c.into_vec-placed.result.items ≡ length placed = ap length c.into_vec-placed.ensures in
    let cut = ap length c.truncate.ensures.items in
    let few = length-take c.take_all-end.new.batch.sure c.into_vec-placed.result.items in
    let count : c.len-taken.result ≡ length c.into_vec-placed.result.items = search rules in
    omega arith

pub returns-in-Err-clause-batched : goal.returns-in-Err-clause-batched
returns-in-Err-clause-batched g c = λ P G accepts front.
    batched_whole P G c.args.self.now front.count (returns-in-Err-clause-batched_behind g c P _ accepts front.starts)

pub returns-in-Err-clause-inside : goal.returns-in-Err-clause-inside
returns-in-Err-clause-inside g c =
    let before = (goal.at.returns-in-Err-clause-inside g c).After-take_all-end in
    leaves_whole c.self.invariant c.self.view_is (none g before) (fills g before) {n = c.len-taken.result} (search rules)
    (leaves_ready (ready g before) (together g before) c.append_all.ensures.images)

pub returns-in-Err-clause-adds : goal.returns-in-Err-clause-adds
returns-in-Err-clause-adds g c =
    let before = (goal.at.returns-in-Err-clause-adds g c).After-take_all-end in
    adds_whole c.self.invariant c.self.view_is (none g before) (fills g before) {n = c.len-taken.result} (search rules)
    (adds_ready (ready g before) c.append_all.ensures.images)

pub returns-in-Err-clause-stays : goal.returns-in-Err-clause-stays
returns-in-Err-clause-stays g c =
    let before = (goal.at.returns-in-Err-clause-stays g c).After-take_all-end in
    stays_failed (ready g before) (together g before) c.append_all.ensures.images c.append_all.ensures.tells c.in-Err.ensures.cause
    g.met.D.Disk.counts_now (marked g (goal.at.returns-in-Err-clause-stays g c).In-Err)

-- ---- the records are there

module _ (g : Over) (c : In_default g) where
  appended : IsAppended g.D.Disk.seen c.take_all-end.new.journal c.append_all.new.self (batch_of c.take_all-end.new.journal)
  appended = record {
    closed = c.in_default.ensures.closed;
    version = c.append_all.ensures.version;
    gate = omega (arith, c.in_default.ensures.gate, records_many (batch_of c.take_all-end.new.journal));
    only = c.in_default.ensures.only;
    tells = c.append_all.ensures.tells;
    added = c.in_default.ensures.added;
  }

module _ (g : Over) (c : After-drop-entries-inside-2 g) where
  longer : parts c.self.inside.policy.items c.self.inside.point c.self.inside.before c.self.inside.opening c.extend.new.self
      c.self.inside.mark (disk_of c.append_all.new.self)
      ≡ with_entries c.args.self.now c.take_all-end.new.batch.entries (disk_of c.append_all.new.self)
  longer =
      more_parts c.self.inside.point c.self.view_is c.take_all-end.new.batch.entries (disk_of c.append_all.new.self)
      (unmarked c.self.inside.mark (search rules)) c.extend.ensures

pub invariant_of-self-2 : goal.invariant_of-self-2
invariant_of-self-2 g c =
    let before = (goal.at.invariant_of-self-2 g c).After-take_all-end in
    kept_batch c.self.invariant c.self.view_is (none g before) (fills g before) (c.take_all-end.ensures.gate ∙ c.begin_batch.ensures.gate)
    (appended g (goal.at.invariant_of-self-2 g c).In_default) c.append_all.new.self.gate_small refl c.extend.ensures

pub returns-clause-batched_behind : goal.returns-clause-batched_behind
returns-clause-batched_behind g c = λ P T accepts start.
    let before = (goal.at.returns-clause-batched_behind g c).After-take_all-end in
    batched_kept c.self.invariant c.self.view_is (none g before) (fills g before) P T accepts start _ c.into_vec-placed.ensures
    (search rules) (search rules) (ap (λ (s : Kept g.row.D.Denot). s.entries) (longer g c))

pub returns-clause-batched : goal.returns-clause-batched
returns-clause-batched g c = λ P G accepts front.
    batched_whole P G c.args.self.now front.count (returns-clause-batched_behind g c P _ accepts front.starts)

pub returns-clause-told : goal.returns-clause-told
returns-clause-told g c = λ _ still.
    let H = c.args.self.now.entries in
    let es = c.take_all-end.new.batch.entries in
    let grown : H ++ es ≡ H = sym (ap (λ (s : Kept g.row.D.Denot). s.entries) (longer g c)) ∙ still in
    let yes : c.is_empty.result ≡ true = c.is_empty.ensures.1 (nothing_more H es grown) in
    let bad : true ≡ false = sym yes ∙ c.if-is_empty.false in
    absurd (cc bad)

pub returns-clause-inside : goal.returns-clause-inside
returns-clause-inside g c =
    let before = (goal.at.returns-clause-inside g c).After-take_all-end in
    leaves_whole c.self.invariant c.self.view_is (none g before) (fills g before) {n = c.len-taken.result} (search rules)
    (leaves_ready (ready g before) (together g before) c.append_all.ensures.images)

pub returns-clause-adds : goal.returns-clause-adds
returns-clause-adds g c =
    let before = (goal.at.returns-clause-adds g c).After-take_all-end in
    adds_whole c.self.invariant c.self.view_is (none g before) (fills g before) {n = c.len-taken.result} (search rules)
    (adds_ready (ready g before) c.append_all.ensures.images)

pub returns-clause-added : goal.returns-clause-added
returns-clause-added g c = λ _ P T file accepts start _ is.
    let before = (goal.at.returns-clause-added g c).After-take_all-end in
    added_whole c.self.invariant c.self.view_is (none g before) (fills g before) {n = c.len-taken.result} (search rules) P T file accepts start
    (added_ready (ready g before) (appended g (goal.at.returns-clause-added g c).In_default) P T file accepts start is)

pub returns-clause-stays : goal.returns-clause-stays
returns-clause-stays g c =
    let before = (goal.at.returns-clause-stays g c).After-take_all-end in
    stays_ready (ready g before) (together g before) c.append_all.ensures.images (appended g (goal.at.returns-clause-stays g c).In_default)
    c.in_default.ensures.cause (longer g c)
