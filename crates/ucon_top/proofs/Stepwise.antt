-- Lines answered over a store, one after the other.
use Rattle.std.proofs.Common.{◌≡◌, ◌↔◌, Bool, true, false, Result, Ok, Err, ℕ, ◌+◌, ◌<◌, List, [], ◌∷◌, ◌++◌, length, length-append, get_or, take, refl, sym, ap, subst, ◌∙◌, inl, inr, arith}
use Rattle.std.specs.Prelude.{IsTrue, is_some, IsSome, IfOk, IsErrOf, Option, Some, None, if◌then◌else◌}
use Rattle.std.proofs.lemmas.List.{map-append, take_more}
use Rattle.ucon_base.specs.Elements.{each_append}
use Rattle.ucon_model.specs.declared.command.Entry.{Entry}
use Rattle.ucon_model.specs.Action.{Trace}
use Rattle.ucon_model.specs.Block.{after, reply}
use Rattle.ucon_model.specs.Plain.{PlainPolicy, PlainReply}
use Rattle.ucon_model.specs.History.{History, said, changes, grown, trace_from}
use Rattle.ucon_model.specs.LegalRun.{Answer, Answered, disk_fault, no_memory, placed, stopped, is_disk_fault, is_stopped, IsNext, history_after}
use Rattle.ucon_model.specs.StoredRun.{LeadsTo, failed_line}
use Rattle.ucon_model.specs.Views.{reply_of}
use Rattle.ucon_base.specs.Memory.{out_of_memory}
use Rattle.ucon_store.specs.declared.placed.Placed.{Placed}
use Rattle.ucon_store.specs.declared.fault.StepFault.{StepFault}
use Rattle.ucon_store.specs.declared.fault.StepFault.TheVariants as faults
use Rattle.ucon_store.specs.Kept.{Kept}
use Rattle.ucon_store.specs.Marks.{is_marked, marked, none_marked}
use Rattle.ucon_store.specs.Starts.{IsStart}
use Rattle.ucon_store.specs.Steps.{IsPlaced, IsPlacedBehind, HasFailed, HasFailedBehind}
use Rattle.ucon_store.specs.Whole.{IsFront, trace_behind, whole}
use Rattle.ucon_client.specs.Answers.{answer_of, answered_by}
use Rattle.ucon_top.specs.Serial.{AreSerialAfter, IsNextAfter, count_after, count_behind, trace_after, trace_beyond}
use Rattle.ucon_top.specs.Stepping.{HaveSteps, HaveStepsAfter, Steps, StepsAfter, entries_of_all}
use Rattle.ucon_top.proofs.Behind.{trace_append}
use Rattle.ucon_trial.specs.Runs.{IsUnfaulted}
use Rattle.ucon_disk.specs.Seen.{DiskSeen}

abbrev answered : Entry → Answer → Answered
answered e a = record { line = e; answer = a }

-- ---- one answer more

leads_next : (P : PlainPolicy) (G : History) (told : List Answered) (H : History) (mark : Option Entry) (e : Entry) (a : Answer) → mark ≡ None → LeadsTo P G told H mark → IsNext P H e a
    → LeadsTo P G (told ++ answered e a ∷ []) (history_after H e a) None
leads_next P G [] H mark e a none run next = inl (subst (λ (K : History). IsNext P K e a) run.0 next, (ap (λ (K : History). history_after K e a) run.0, refl))
leads_next P G (t ∷ told) H mark e a none (inl n) next = inl (n.0, leads_next P (history_after G t.line t.answer) told H mark e a none n.1 next)
leads_next P G (t ∷ told) H mark e a none (inr off) next = absurd (let no = sym none ∙ off.2 in (cc))

leads_fault : (P : PlainPolicy) (G : History) (told : List Answered) (H : History) (mark : Option Entry) (e : Entry) → mark ≡ None → LeadsTo P G told H mark
    → IsTrue (changes (said P H e.caller e.command)) → LeadsTo P G (told ++ answered e disk_fault ∷ []) H (Some e)
leads_fault P G [] H mark e none run changing =
    inr (record { failed = refl; would_change = subst (λ (K : History). IsTrue (changes (said P K e.caller e.command))) run.0 changing; stops = tt }, run.0, refl)
leads_fault P G (t ∷ told) H mark e none (inl n) changing = inl (n.0, leads_fault P (history_after G t.line t.answer) told H mark e none n.1 changing)
leads_fault P G (t ∷ told) H mark e none (inr off) changing = absurd (let no = sym none ∙ off.2 in (cc))

leads_stopped : (P : PlainPolicy) (G : History) (told : List Answered) (H : History) (failed : Option Entry) (e : Entry) → IsSome failed → LeadsTo P G told H failed
    → LeadsTo P G (told ++ answered e stopped ∷ []) H failed
leads_stopped P G [] H failed e some run = absurd (let no : false ≡ true = sym (ap is_some run.1) ∙ some in cc no)
leads_stopped P G (t ∷ told) H failed e some (inl n) = inl (n.0, leads_stopped P (history_after G t.line t.answer) told H failed e some n.1)
leads_stopped P G (t ∷ told) H failed e some (inr off) = inr (
  record {
    failed = off.0.failed;
    would_change = off.0.would_change;
    stops = each_append (λ (later : Answered). later.answer ≡ stopped) told (answered e stopped ∷ []) off.0.stops (refl, tt);
  },
  off.1,
  off.2,
)

-- ---- from store to store

module _ {D : Type 0} (P : PlainPolicy) where
  -- the answers so far lead from one store to another, whose mark is that of the step that failed, if one did
  record Leads (first : Kept D) (told : List Answered) (new : Kept D) : Type 0 where
    pub failed : Option Entry
    pub mark : new.mark ≡ marked failed
    pub leads : LeadsTo P first.entries told new.entries failed

  leads_more : (first old new : Kept D) (told : List Answered) (e : Entry) (a : Answer) → Leads first told old → Steps P old new e a
      → Leads first (told ++ answered e a ∷ []) new
  leads_more first old new told e a run (inl is) = record {
    failed = None;
    mark = is.mark;
    leads = rw is.entries (leads_next P first.entries told old.entries run.failed e a (none_marked run.failed (sym run.mark ∙ is.unmarked)) run.leads is.next);
  }
  leads_more first old new told e a run (inr (inl is)) = record {
    failed = Some e;
    mark = is.mark;
    leads = rw (is.entries, is.answer) (
        leads_fault P first.entries told old.entries run.failed e (none_marked run.failed (sym run.mark ∙ is.unmarked)) run.leads is.would_change
        );
  }
  leads_more first old new told e a run (inr (inr is)) = record {
    failed = run.failed;
    mark = is.mark ∙ run.mark;
    leads = rw (is.entries, is.answer) (
        leads_stopped P first.entries told old.entries run.failed e (sym (is_marked run.failed) ∙ (ap is_some (sym run.mark) ∙ is.failed)) run.leads
        );
  }

  pub one_line_more : (first old new : Kept D) (lines : List Entry) (i : ℕ) (told : List Answered) (e : Entry) (a : Answer) → i < length lines → e ≡ get_or lines i e
      → HaveSteps P first old (take i lines) told → Steps P old new e a → HaveSteps P first new (take (i + 1) lines) (told ++ answered e a ∷ [])
  one_line_more first old new lines i told e a lt is so_far step =
      let run = leads_more first old new told e a (record { failed = so_far.failed; mark = so_far.mark; leads = so_far.leads }) step in record {
        lines_are = map-append (λ (t : Answered). t.line) told (answered e a ∷ []) ∙ ap (λ (es : List Entry). es ++ e ∷ []) so_far.lines_are
            ∙ ap (λ (x : Entry). take i lines ++ x ∷ []) is ∙ sym (take_more lines i e lt);
        failed = run.failed;
        mark = run.mark;
        leads = run.leads;
      }

  -- no line is answered yet
  pub begun : (store : Kept D) (lines : List Entry) → store.mark ≡ None → HaveSteps P store store (take 0 lines) []
  begun store lines none = record { lines_are = refl; failed = None; mark = none; leads = (refl, refl) }

-- ---- the same after a trace

-- a line that met no disk fault before others
none_tail : (b : Bool) (e : Entry) (rest : Option Entry) → (if b then Some e else rest) ≡ None → rest ≡ None
none_tail true e rest none = absurd (cc none)
none_tail false e rest none = none

none_head : (b : Bool) (e : Entry) (rest more : Option Entry) (x : Option Entry) → (if b then Some e else rest) ≡ None → (rest ≡ None → more ≡ x)
    → (if b then Some e else more) ≡ x
none_head true e rest more x none next = absurd (cc none)
none_head false e rest more x none next = next none

-- one line more behind those of which none met a disk fault, and behind those of which one did
failed_more : (told : List Answered) (t : Answered) → failed_line told ≡ None → failed_line (told ++ t ∷ []) ≡ failed_line (t ∷ [])
failed_more [] t none = refl
failed_more (s ∷ told) t none =
    none_head (is_disk_fault s.answer) s.line (failed_line told) (failed_line (told ++ t ∷ [])) (failed_line (t ∷ [])) none (failed_more told t)

kept_head : (b : Bool) (e : Entry) (rest more : Option Entry) → IsSome (if b then Some e else rest) → (IsSome rest → more ≡ rest)
    → (if b then Some e else more) ≡ (if b then Some e else rest)
kept_head true e rest more some next = refl
kept_head false e rest more some next = next some

failed_kept : (told : List Answered) (t : Answered) → IsSome (failed_line told) → failed_line (told ++ t ∷ []) ≡ failed_line told
failed_kept [] t some = absurd (let no : false ≡ true = some in (cc))
failed_kept (s ∷ told) t some = kept_head (is_disk_fault s.answer) s.line (failed_line told) (failed_line (told ++ t ∷ [])) some (failed_kept told t)

some_tail : (b : Bool) (e : Entry) (rest : Option Entry) → b ≡ false → IsSome (if b then Some e else rest) → IsSome rest
some_tail true e rest unfaulted some = absurd (cc unfaulted)
some_tail false e rest unfaulted some = some

failed_head : (t : Answered) (told : List Answered) → t.answer ≡ disk_fault → failed_line (t ∷ told) ≡ Some t.line
failed_head t told is = ap (λ (b : Bool). if b then Some t.line else failed_line told) (ap is_disk_fault is)

beyond_more : (P : PlainPolicy) (T : Trace) (told : List Answered) (e : Entry) (a : Answer)
    → trace_beyond P T (told ++ answered e a ∷ []) ≡ trace_after P (trace_beyond P T told) e a
beyond_more P T [] e a = refl
beyond_more P T (t ∷ told) e a = beyond_more P (trace_after P T t.line t.answer) told e a

counted_more : (n : ℕ) (told : List Answered) (e : Entry) (a : Answer) → count_behind n (told ++ answered e a ∷ []) ≡ count_after (count_behind n told) a
counted_more n [] e a = refl
counted_more n (t ∷ told) e a = counted_more (count_after n t.answer) told e a

module _ (P : PlainPolicy) where
  -- the next answer is neither of a disk fault nor of one before
  pub next_unfaulted : (T : Trace) (n : ℕ) (e : Entry) (a : Answer) → IsNextAfter P T n e a → (is_disk_fault a ≡ false) × (is_stopped a ≡ false)
  next_unfaulted T n e no_memory next = (refl, refl)
  next_unfaulted T n e (placed place r) next = (refl, refl)
  next_unfaulted T n e disk_fault next = absurd next
  next_unfaulted T n e stopped next = absurd next

  next_unfailed : (T : Trace) (n : ℕ) (e : Entry) (a : Answer) → IsNextAfter P T n e a → failed_line (answered e a ∷ []) ≡ None
  next_unfailed T n e a next = ap (λ (b : Bool). if b then Some e else None) (next_unfaulted T n e a next).0

  serial_next : (T : Trace) (n : ℕ) (told : List Answered) (e : Entry) (a : Answer) → failed_line told ≡ None → AreSerialAfter P T n told
      → IsNextAfter P (trace_beyond P T told) (count_behind n told) e a → AreSerialAfter P T n (told ++ answered e a ∷ [])
  serial_next T n [] e a none so next = inl (next, tt)
  serial_next T n (t ∷ told) e a none (inl s) next =
      inl (
        s.0,
        serial_next (trace_after P T t.line t.answer) (count_after n t.answer) told e a
            (none_tail (is_disk_fault t.answer) t.line (failed_line told) none) s.1 next,
      )
  serial_next T n (t ∷ told) e a none (inr off) next =
      absurd (let no : None ≡ Some t.line = sym none ∙ failed_head t told off.failed in cc no)

  serial_fault : (T : Trace) (n : ℕ) (told : List Answered) (e : Entry) → failed_line told ≡ None → AreSerialAfter P T n told
      → IsTrue (changes (reply P (trace_beyond P T told) e.caller e.command)) → AreSerialAfter P T n (told ++ answered e disk_fault ∷ [])
  serial_fault T n [] e none so changing = inr (record { failed = refl; would_change = changing; stops = tt })
  serial_fault T n (t ∷ told) e none (inl s) changing =
      inl (
        s.0,
        serial_fault (trace_after P T t.line t.answer) (count_after n t.answer) told e
            (none_tail (is_disk_fault t.answer) t.line (failed_line told) none) s.1 changing,
      )
  serial_fault T n (t ∷ told) e none (inr off) changing =
      absurd (let no : None ≡ Some t.line = sym none ∙ failed_head t told off.failed in cc no)

  serial_stopped : (T : Trace) (n : ℕ) (told : List Answered) (e : Entry) → IsSome (failed_line told) → AreSerialAfter P T n told
      → AreSerialAfter P T n (told ++ answered e stopped ∷ [])
  serial_stopped T n [] e some so = absurd (let no : false ≡ true = some in (cc))
  serial_stopped T n (t ∷ told) e some (inl s) =
      inl (
        s.0,
        serial_stopped (trace_after P T t.line t.answer) (count_after n t.answer) told e
            (some_tail (is_disk_fault t.answer) t.line (failed_line told) (next_unfaulted T n t.line t.answer s.0).0 some) s.1,
      )
  serial_stopped T n (t ∷ told) e some (inr off) = inr (record {
    failed = off.failed;
    would_change = off.would_change;
    stops = each_append (λ (later : Answered). later.answer ≡ stopped) told (answered e stopped ∷ []) off.stops (refl, tt);
  })

  -- where none met a disk fault, none was stopped
  pub serial_unfaulted : (T : Trace) (n : ℕ) (told : List Answered) → AreSerialAfter P T n told → failed_line told ≡ None → IsUnfaulted told
  serial_unfaulted T n [] so none = tt
  serial_unfaulted T n (t ∷ told) (inl s) none = (
    next_unfaulted T n t.line t.answer s.0,
    serial_unfaulted (trace_after P T t.line t.answer) (count_after n t.answer) told s.1
        (none_tail (is_disk_fault t.answer) t.line (failed_line told) none),
  )
  serial_unfaulted T n (t ∷ told) (inr off) none = absurd (let no : None ≡ Some t.line = sym none ∙ failed_head t told off.failed in cc no)

-- from store to store
module _ {D : Type 0} (P : PlainPolicy) (T : Trace) where
  -- no line is answered yet
  pub begun_after : (store : Kept D) → store.mark ≡ None → HaveStepsAfter P T store store []
  begun_after store none = record { answers = record { serial = tt; mark = none }; trace_is = λ _. refl; count = λ _. refl }

  pub one_more_after : (first old new : Kept D) (told : List Answered) (e : Entry) (a : Answer) → HaveStepsAfter P T first old told
      → StepsAfter P T old new e a → HaveStepsAfter P T first new (told ++ answered e a ∷ [])
  one_more_after first old new told e a run (inl is) =
      let none : failed_line told ≡ None = none_marked (failed_line told) (sym run.answers.mark ∙ is.unmarked) in
      let U : Trace = trace_behind P T first in
      let n : ℕ = entries_of_all first in
      let there : trace_behind P T old ≡ trace_beyond P U told = run.trace_is is.unmarked in
      let count : entries_of_all old ≡ count_behind n told = run.count is.unmarked in
      let next : IsNextAfter P (trace_beyond P U told) (count_behind n told) e a =
      subst (λ (z : Trace × ℕ). IsNextAfter P z.0 z.1 e a) (λ i. (there i, count i)) is.next in record {
        answers = record {
          serial = serial_next P U n told e a none run.answers.serial next;
          mark = is.mark ∙ ap marked (sym (failed_more told (answered e a) none ∙ next_unfailed P (trace_beyond P U told) (count_behind n told) e a next));
        };
        trace_is = λ _. is.trace_is ∙ (ap (λ (V : Trace). trace_after P V e a) there ∙ sym (beyond_more P U told e a));
        count = λ _. is.count ∙ (ap (λ (m : ℕ). count_after m a) count ∙ sym (counted_more n told e a));
      }
  one_more_after first old new told e a run (inr (inl is)) =
      let none : failed_line told ≡ None = none_marked (failed_line told) (sym run.answers.mark ∙ is.unmarked) in
      let U : Trace = trace_behind P T first in
      let n : ℕ = entries_of_all first in
      let there : trace_behind P T old ≡ trace_beyond P U told = run.trace_is is.unmarked in
      let changing : IsTrue (changes (reply P (trace_beyond P U told) e.caller e.command)) =
      subst (λ (V : Trace). IsTrue (changes (reply P V e.caller e.command))) there is.would_change in
      subst (λ (b : Answer). HaveStepsAfter P T first new (told ++ answered e b ∷ [])) (sym is.answer) (record {
        answers = record {
          serial = serial_fault P U n told e none run.answers.serial changing;
          mark = is.mark ∙ ap marked (sym (failed_more told (answered e disk_fault) none));
        };
        trace_is = λ unmarked. let no : None ≡ Some (e ∷ []) = sym unmarked ∙ is.mark in absurd (cc no);
        count = λ unmarked. let no : None ≡ Some (e ∷ []) = sym unmarked ∙ is.mark in absurd (cc no);
      })
  one_more_after first old new told e a run (inr (inr is)) =
      let some : IsSome (failed_line told) = sym (is_marked (failed_line told)) ∙ (ap is_some (sym run.answers.mark) ∙ is.failed) in
      let marks : new.mark ≡ None → ⊥ =
      λ unmarked. let no : false ≡ true = sym (ap is_some (sym is.mark ∙ unmarked)) ∙ is.failed in cc no in
      subst (λ (b : Answer). HaveStepsAfter P T first new (told ++ answered e b ∷ [])) (sym is.answer) (record {
        answers = record {
          serial = serial_stopped P (trace_behind P T first) (entries_of_all first) told e some run.answers.serial;
          mark = is.mark ∙ (run.answers.mark ∙ ap marked (sym (failed_kept told (answered e stopped) some)));
        };
        trace_is = λ unmarked. absurd (marks unmarked);
        count = λ unmarked. absurd (marks unmarked);
      })

-- ---- what a store's step is, by its answer

not_marked : (mark : Option History) → (IsSome mark → ⊥) → mark ≡ None
not_marked None none = refl
not_marked (Some es) none = absurd (none refl)

module _ {D : Type 0} (seen : D → DiskSeen) (policy : Option PlainPolicy) (P : PlainPolicy) (is : policy ≡ Some P)
    (old new : Kept D) (G : History) (front : IsFront P old G) (e : Entry) where
  -- behind a history that leads to where it begins, a store answers by this and its own entries
  pub store_steps : (said_by : Result Placed StepFault)
      → (IsErrOf said_by faults.Stopped ↔ IsSome old.mark)
      → IfOk said_by (λ p. (Q : PlainPolicy) (F : History) → policy ≡ Some Q → IsFront Q old F → IsPlaced Q (whole F old) (whole F new) e p)
      → (IsErrOf said_by (faults.NoMemory out_of_memory) → new ≡ old)
      → (IsErrOf said_by faults.Stopped → new ≡ old)
      → (IsErrOf said_by faults.DiskFault → (Q : PlainPolicy) (F : History) → policy ≡ Some Q → IsFront Q old F → HasFailed seen Q (whole F old) (whole F new) e)
      → Steps P (whole G old) (whole G new) e (answer_of (answered_by said_by))
  store_steps (Ok p) halted put want still failed =
      let h = put P G is front in
      let H : History = G ++ old.entries in
      let none : old.mark ≡ None = not_marked old.mark (λ some. let no : Ok p ≡ Err faults.Stopped = halted.1 some in absurd (cc no)) in
      let same : history_after H e (answer_of (answered_by (Ok p))) ≡ grown P H e = ap (λ (reply : PlainReply). if changes reply then H ++ e ∷ [] else H) h.reply in
      inl (record { unmarked = none; next = (h.reply, h.place ∙ ap length (h.entries ∙ sym same)); entries = h.entries ∙ sym same; mark = h.unmarked })
  store_steps (Err (faults.NoMemory m)) halted put want still failed =
      let none : old.mark ≡ None = not_marked old.mark (λ some. let no : Err (faults.NoMemory m) ≡ Err faults.Stopped = halted.1 some in absurd (cc no)) in
      let same : new ≡ old = want refl in
      inl (record { unmarked = none; next = tt; entries = ap (λ (s : Kept D). G ++ s.entries) same; mark = ap (λ (s : Kept D). s.mark) same ∙ none })
  store_steps (Err faults.DiskFault) halted put want still failed =
      let h = failed refl P G is front in
      let none : old.mark ≡ None = not_marked old.mark (λ some. let no : Err faults.DiskFault ≡ Err faults.Stopped = halted.1 some in absurd (cc no)) in
      inr (inl (record { unmarked = none; answer = refl; would_change = h.would_change; entries = h.entries; mark = h.mark }))
  store_steps (Err faults.Stopped) halted put want still failed =
      let same : new ≡ old = still refl in
      inr (inr (record { failed = halted.0 refl; answer = refl; entries = ap (λ (s : Kept D). G ++ s.entries) same; mark = ap (λ (s : Kept D). s.mark) same }))

-- ---- the same after a trace that leads to where the store begins

grown_trace : (b : Bool) (P : PlainPolicy) (T : Trace) (H later : History) (e : Entry) → later ≡ (if b then H ++ e ∷ [] else H)
    → trace_from P T later ≡ (if b then after P (trace_from P T H) e.caller e.command else trace_from P T H)
grown_trace true P T H later e is = ap (λ (l : History). trace_from P T l) is ∙ trace_append P T H (e ∷ [])
grown_trace false P T H later e is = ap (λ (l : History). trace_from P T l) is

grown_count : (b : Bool) (H later : History) (e : Entry) (m n : ℕ) → m ≡ n → later ≡ (if b then H ++ e ∷ [] else H)
    → m + length later ≡ (if b then n + length H + 1 else n + length H)
grown_count true H later e m n same is = let long = ap (λ (l : History). length l) is in omega (arith, same, long, length-append H (e ∷ []))
grown_count false H later e m n same is = let long = ap (λ (l : History). length l) is in omega (arith, same, long)

module _ {D : Type 0} (seen : D → DiskSeen) (policy : Option PlainPolicy) (P : PlainPolicy) (is : policy ≡ Some P)
    (old new : Kept D) (T : Trace) (starts : IsStart P old.point old.before T) (before : new.before ≡ old.before) (e : Entry) where
  pub store_steps_after : (said_by : Result Placed StepFault)
      → (IsErrOf said_by faults.Stopped ↔ IsSome old.mark)
      → IfOk said_by (λ p. (Q : PlainPolicy) (U : Trace) → policy ≡ Some Q → IsStart Q old.point old.before U → IsPlacedBehind Q U old new e p)
      → (IsErrOf said_by (faults.NoMemory out_of_memory) → new ≡ old)
      → (IsErrOf said_by faults.Stopped → new ≡ old)
      → (IsErrOf said_by faults.DiskFault → (Q : PlainPolicy) (U : Trace) → policy ≡ Some Q → IsStart Q old.point old.before U
      → HasFailedBehind seen Q U old new e)
      → StepsAfter P T old new e (answer_of (answered_by said_by))
  store_steps_after (Ok p) halted behind want still failed =
      let h = behind P T is starts in
      let r : PlainReply = reply_of p.reply in
      let none : old.mark ≡ None = not_marked old.mark (λ some. let no : Ok p ≡ Err faults.Stopped = halted.1 some in absurd (cc no)) in
      let grown_by : new.entries ≡ (if changes r then old.entries ++ e ∷ [] else old.entries) =
      h.entries ∙ ap (λ (said : PlainReply). if changes said then old.entries ++ e ∷ [] else old.entries) (sym h.reply) in
      let count : entries_of_all new ≡ count_after (entries_of_all old) (placed p.place r) =
      grown_count (changes r) old.entries new.entries e new.before old.before before grown_by in
      inl (record {
        unmarked = none;
        next = (h.reply, h.place ∙ count);
        trace_is = grown_trace (changes r) P T old.entries new.entries e grown_by;
        count = count;
        mark = h.unmarked;
      })
  store_steps_after (Err (faults.NoMemory m)) halted behind want still failed =
      let none : old.mark ≡ None = not_marked old.mark (λ some. let no : Err (faults.NoMemory m) ≡ Err faults.Stopped = halted.1 some in absurd (cc no)) in
      let same : new ≡ old = want refl in
      inl (record {
        unmarked = none;
        next = tt;
        trace_is = ap (λ (s : Kept D). trace_behind P T s) same;
        count = ap (λ (s : Kept D). entries_of_all s) same;
        mark = ap (λ (s : Kept D). s.mark) same ∙ none;
      })
  store_steps_after (Err faults.DiskFault) halted behind want still failed =
      let h = failed refl P T is starts in
      let none : old.mark ≡ None = not_marked old.mark (λ some. let no : Err faults.DiskFault ≡ Err faults.Stopped = halted.1 some in absurd (cc no)) in
      inr (inl (record { unmarked = none; answer = refl; would_change = h.would_change; mark = h.mark }))
  store_steps_after (Err faults.Stopped) halted behind want still failed =
      let same : new ≡ old = still refl in
      inr (inr (record { failed = halted.0 refl; answer = refl; entries = ap (λ (s : Kept D). s.entries) same; mark = ap (λ (s : Kept D). s.mark) same }))
