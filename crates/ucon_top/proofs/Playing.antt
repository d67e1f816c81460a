-- From the opening of a journal to its closing: what was played over it.
use Rattle.std.proofs.Common.{Bool, ⊎_elim, ◌≡◌, ◌⊎◌, ◌↔◌, ℕ, ◌+◌, ◌<◌, ◌≤◌, true, false, List, [], ◌∷◌, ◌++◌, length, length-append, refl, sym, ap, subst, ◌∙◌, inl, inr, arith}
use Rattle.std.specs.Prelude.{Option, Some, None, Ok, is_some, IsSome, IfSome, ⊤}
use Rattle.std.specs.Io.KnownBytes.{Appends}
use Rattle.ucon_flow.specs.Writing.{AppendsPrefix}
use Rattle.ucon_disk.specs.Causes.{raised}
use Rattle.ucon_disk.specs.Disk.{Only}
use Rattle.ucon_disk.specs.Run.{IsAtRest, LeavesAfter, LeavesFrom, LeavesOnly, joined, weaker}
use Rattle.ucon_journal.specs.Found.{counted}
use Rattle.ucon_turn.specs.Lists.{Begins, begins_refl}
use Rattle.ucon_model.specs.declared.command.Caller.{Caller}
use Rattle.ucon_model.specs.declared.command.Entry.{Entry}
use Rattle.ucon_model.specs.Document.{ScriptLine, document_read, entries_of, policy_part}
use Rattle.ucon_model.specs.Action.{Trace}
use Rattle.ucon_model.specs.History.{History, trace_from}
use Rattle.ucon_model.specs.Plain.{Bytes, PlainPolicy}
use Rattle.ucon_model.specs.LegalRun.{Answered, history_made}
use Rattle.ucon_model.specs.StoredRun.{failed_line}
use Rattle.ucon_syntax.specs.Policies.{accepted}
use Rattle.ucon_store.specs.Found.{IsFoundAs, IsFoundMarked, IsFoundWith, found_with}
use Rattle.ucon_store.specs.Keeping.{GrowsFrom, HasSameRecords, KeepsRecords, SameRecords, keeps_on}
use Rattle.ucon_store.specs.Kept.{Kept}
use Rattle.ucon_store.specs.Marks.{is_marked, marked, none_marked, with_marked}
use Rattle.ucon_state.specs.Held.{held_after}
use Rattle.ucon_store.specs.Opened as seens
use Rattle.ucon_store.specs.Opened.{last_point}
use Rattle.ucon_store.specs.Opening.{IsSeenAs, Opens}
use Rattle.ucon_store.specs.Points.{IsOld, SamePlaces, has_points}
use Rattle.ucon_store.specs.Starts.{BeginsAt, IsStart}
use Rattle.ucon_store.specs.Stays.{IsFoundBetween}
use Rattle.ucon_store.specs.Whole.{GoesOnFrom, IsFounded, found_founded, trace_behind, whole}
use Rattle.ucon_top.specs.declared.form.Form.{Form}
use Rattle.ucon_outcome.specs.declared.outcome.Outcome.{Outcome}
use Rattle.ucon_outcome.specs.declared.outcome.Outcome.TheVariants as outcomes
use Rattle.ucon_top.specs.Accepted.{HasPolicy}
use Rattle.ucon_top.specs.Closing.{Closes, IsClosedRun, IsMarkedBy, IsOfRun, IsToldBy}
use Rattle.ucon_top.specs.Form.{output_order, sees_by}
use Rattle.ucon_trial.specs.Runs.{IsUnfaulted}
use Rattle.ucon_top.specs.Seen.{as_it_was}
use Rattle.ucon_top.specs.Keeping.{KeepsFile}
use Rattle.ucon_top.specs.Played.{AreOf, IsAnsweredFrom}
use Rattle.ucon_top.specs.Stepping.{AreAnswered, AreRunAfter, HaveOutput, IsRunAfter, IsRunBetween, entries_of_all}
use Rattle.ucon_top.specs.Traits.{traits}
use Rattle.ucon_top.specs.Unread.{IsUnread}
use Rattle.ucon_top.specs.OwnReading.{HasPlayed, HasPlayedInput, IsFoundSince, IsOwnState, IsPlayed, IsRunOver}
use Rattle.ucon_top.proofs.Answering.{none_faulted}
use Rattle.ucon_top.proofs.Stepwise.{serial_unfaulted}
use Rattle.ucon_top.proofs.Behind.{begins_behind}
use Rattle.ucon_disk.specs.Seen.{DiskSeen}
use Rattle.ucon_flow.specs.Seen.{SinkSeen}

-- what opening saw is what is there after each trace that leads to where the store begins, with its entries behind
pub own_state : {D : Type 0} (P : PlainPolicy) (text : Bytes) (store : Kept D) → store.policy ≡ text → (T : Trace) → IsStart P store.point store.before T
    → (file : Bytes) → IsSeenAs P store.policy store.point store.before store.entries file
    → IsOwnState text P (store.before + length store.entries) (trace_behind P T store) file
own_state P text store policy T starts file (inl fresh) =
    let none : length store.entries ≡ 0 = ap (λ (es : History). length es) fresh.2 in
    let first = subst (λ (p : Option Bytes). IsStart P p store.before T) fresh.1.0 starts in record {
      seen = seens.fresh;
      sees = fresh.0;
      has = (omega (arith, fresh.1.1, none), (λ i. trace_from P (first.1 i) (fresh.2 i)));
    }
own_state P text store policy T starts file (inr holds) = record {
  seen = seens.holds store.policy (store.before + length store.entries) (held_after P (trace_from P T store.entries)) holds.0;
  sees = holds.1 T starts;
  has = (policy, refl, refl);
}

pub if_so : (o : Option Bytes) {so then : Bytes → Type 0} → ((file : Bytes) → so file → then file) → IfSome o so → IfSome o then
if_so None each h = tt
if_so (Some file) each h = each file h

-- where no line met a disk fault, none was stopped
unfaulted : (sees : Caller → Caller → Bool) (threads : Bool) (P : PlainPolicy) (T : Trace) (n : ℕ) (told : List Answered)
    → AreRunAfter sees threads P T n told → failed_line told ≡ None → IsUnfaulted told
unfaulted sees true P T n told legal none = none_faulted P sees T n told legal none
unfaulted sees false P T n told serial none = serial_unfaulted P T n told serial none

-- How a run of lines over a store ended. No line met a fault and the output is whole, or a front of it went out. Or a line met a disk fault, or there
-- was no memory.
abbrev pub RunEnds : Form → Bytes → (List ScriptLine → Type 0) → DiskSeen → DiskSeen → (was written : Option Bytes) → Outcome → Type 0
RunEnds form bytes are old new was written outcomes.Done =
    IsRunOver form bytes are old new (λ told. (failed_line told ≡ None) × IsUnfaulted told) (HaveOutput (Appends was written)) × (new.faults ≡ old.faults)
RunEnds form bytes are old new was written outcomes.SinkFault = IsRunOver form bytes are old new (λ told. ⊤) (HaveOutput (AppendsPrefix was written))
RunEnds form bytes are old new was written outcomes.DiskFault =
    IsRunOver form bytes are old new (λ told. IsSome (failed_line told)) (HaveOutput (Appends was written))
RunEnds form bytes are old new was written (outcomes.NoMemory m) = IsRunOver form bytes are old new (λ told. ⊤) (λ lines told. ⊤)
RunEnds form bytes are old new was written outcome = ⊥

-- what a disk's laws say of moments
pub record HasMoments {D : Type 0} (seen : D → DiskSeen) : Type 0 where
  pub counts_now : (disk : D) (t : ℕ) (c : List ℕ) → t ≤ (seen disk).moment → (seen disk).images c → (seen disk).images_since t c
  pub only_now : (disk : D) (c : List ℕ) → (seen disk).images_since (seen disk).moment c → (seen disk).images c

pub told_file : (o : Option Bytes) → IsSome o → (file : Bytes) × (o ≡ Some file)
told_file None some = absurd (let no : false ≡ true = some in (cc))
told_file (Some file) some = (file, refl)

same_kind : (now was : Bool) (A : Type 0) → A → (now ≡ false) ↔ (A × (was ≡ false)) → now ≡ was
same_kind true true A a old = refl
same_kind false false A a old = refl
same_kind true false A a old = absurd (let no : true ≡ false = old.1 (a, refl) in cc no)
same_kind false true A a old = absurd (let no : true ≡ false = (old.0 refl).1 in cc no)

records_begin : (text file c : Bytes) → HasSameRecords text file c → Begins (counted file) (counted c)
records_begin text file c (inl same) = subst (Begins (counted file)) (sym same) (begins_refl (counted file))
records_begin text file c (inr made) = (counted c, ap (λ (l : List Bytes). l ++ counted c) made.0)

module _ {D : Type 0} (seen : D → DiskSeen) where
  -- what the opening of a store under a policy told
  pub record IsOpened (P : PlainPolicy) (text : Bytes) (disk : D) (store : Kept D) : Type 0 where
    pub policy : store.policy ≡ text
    pub unmarked : store.mark ≡ None
    pub images_kept : LeavesFrom (seen disk) (seen store.disk) (Opens text)
    pub unfailed : (seen store.disk).faults ≡ (seen disk).faults
    pub tells : IsSome (seen disk).contents → IsSome (seen store.disk).contents
    pub begun : Trace
    pub starts : IsStart P store.point store.before begun
    pub own : IfSome (seen disk).contents (IsOwnState text P (store.before + length store.entries) (trace_behind P begun store))
    pub begins : IfSome (seen disk).contents (λ file. BeginsAt (last_point file) store.point store.before)
    pub at_rest : Only (seen store.disk).contents (seen store.disk).images
    pub places : SamePlaces (seen disk).contents (seen store.disk).contents
    pub records : SameRecords text (seen disk).contents (seen store.disk).contents
    pub old : (before now : Bytes) → (seen disk).contents ≡ Some before → (seen store.disk).contents ≡ Some now → (has_points now ≡ false) ↔ IsOld before
    pub founded : (file : Bytes) (H : History) → (seen disk).contents ≡ Some file → IsFoundAs text file H → GoesOnFrom seen P store H

  -- ---- the records of the file, whatever it is found as

  module _ (moments : HasMoments seen) (P : PlainPolicy) (text : Bytes) (disk : D) (store : Kept D) (opened : IsOpened P text disk store) where
    kept_open : (file c : Bytes) → (seen disk).contents ≡ Some file → (seen store.disk).contents ≡ Some c → KeepsRecords file c
    kept_open file c was now = record {
      kind = λ long. same_kind (has_points c) (has_points file) (9 < length file) long (opened.old file c was now);
      records = records_begin text file c (subst (λ (z : Option Bytes × Option Bytes). SameRecords text z.0 z.1) (λ i. (was i, now i)) opened.records);
    }

    opened_rest : (c : Bytes) → (seen store.disk).contents ≡ Some c → IsAtRest (seen store.disk) c
    opened_rest c is = record { told = is; only = subst (λ (o : Option Bytes). Only o (seen store.disk).images) is opened.at_rest }

    module _ (now : D) (grows : LeavesAfter (seen store.disk) (seen now) GrowsFrom) (file : Bytes) (was : (seen disk).contents ≡ Some file) where
      there : (c : Bytes) × ((seen store.disk).contents ≡ Some c)
      there = told_file (seen store.disk).contents (opened.tells (ap is_some was))

      grown : LeavesOnly (seen store.disk) (seen now) (KeepsRecords file)
      grown = weaker (seen store.disk) (seen now) (GrowsFrom there.0) (KeepsRecords file)
          (λ c. keeps_on file there.0 c (kept_open file there.0 was there.1)) (grows.each there.0 (opened_rest there.0 there.1))

      kept_now : (c : Bytes) → (seen now).images c → KeepsRecords file c
      kept_now c image = grown.each c (moments.counts_now now (seen store.disk).moment c grown.later image)

      abbrev KeptOr : Bytes → Type 0
      KeptOr c = (seen disk).images c ⊎ KeepsRecords file c

      kept_since : LeavesOnly (seen disk) (seen now) KeptOr
      kept_since =
          joined (seen disk) (seen store.disk) (seen now) KeptOr
          (weaker (seen disk) (seen store.disk) (λ c. (seen disk).images c ⊎ Opens text file c) KeptOr
          (λ c. ⊎_elim inl (λ o. inr (record { kind = o.kind; records = records_begin text file c o.records }))) (opened.images_kept.each file was))
          (weaker (seen store.disk) (seen now) (KeepsRecords file) KeptOr (λ c. inr) grown)

    pub keeps_file : (now : D) → LeavesAfter (seen store.disk) (seen now) GrowsFrom → KeepsFile (seen disk) (seen now)
    keeps_file now grows = record {
      since = record { each = λ file was. kept_since now grows file was };
      now = λ file was. kept_now now grows file was;
    }

  module _ (moments : HasMoments seen) (P : PlainPolicy) (text : Bytes) (disk : D) (store closed : Kept D) (now : D) (opened : IsOpened P text disk store)
      (closes : Closes seen store closed now) where
    -- ---- images, behind a history on which the store is founded and as which with its entries the file was found

    module _ (file : Bytes) (told : (seen disk).contents ≡ Some file) (G : History) (f : IsFounded seen P store G) (found : IsFoundAs text file (G ++ store.entries)) where
      told_opened : IsSome (seen store.disk).contents
      told_opened = opened.tells (rw told refl)

      -- what a crash leaves where the store was opened
      found_resting : (c : Bytes) → (seen store.disk).images c → IsFoundAs text c (G ++ store.entries)
      found_resting c image =
          subst (λ (t : Bytes). IsFoundAs t c (G ++ store.entries)) opened.policy (found_founded seen P store G f told_opened c image)

      module _ (failed : Option Entry) (marks : closed.mark ≡ marked failed) where
        abbrev Since : Bytes → Type 0
        Since c = IsFoundSince text (G ++ store.entries) (G ++ closed.entries) failed c

        found_at_first : (c : Bytes) → IsFoundAs text c (G ++ store.entries) → Since c
        found_at_first c found = record {
          history = G ++ store.entries;
          found = found;
          begun = begins_refl (G ++ store.entries);
          within = inl (begins_behind G store.entries closed.entries closes.stays.entries);
        }

        found_between : (c : Bytes) → IsFoundBetween (whole G store) (whole G closed) c → Since c
        found_between c b = record {
          history = b.history;
          found = subst (λ (t : Bytes). IsFoundAs t c b.history) (closes.stays.policy ∙ opened.policy) b.found;
          begun = b.begun;
          within = ⊎_elim inl
              (λ (m : (es : History) × (closed.mark ≡ Some es) × (b.history ≡ (G ++ closed.entries) ++ es)).
              inr (with_marked failed m.0 (G ++ closed.entries) b.history (sym marks ∙ m.1) m.2)) b.within;
        }

        abbrev SinceOr : Bytes → Type 0
        SinceOr c = (seen disk).images c ⊎ Since c

        since_opened : LeavesOnly (seen disk) (seen closed.disk) SinceOr
        since_opened =
            joined (seen disk) (seen store.disk) (seen closed.disk) SinceOr
            (weaker (seen disk) (seen store.disk) (λ c. (seen disk).images c ⊎ Opens text file c) SinceOr
            (λ c. ⊎_elim inl (λ o. inr (found_at_first c (o.same (G ++ store.entries) found)))) (opened.images_kept.each file told))
            (weaker (seen store.disk) (seen closed.disk) (λ c. (seen store.disk).images c ⊎ IsFoundBetween (whole G store) (whole G closed) c) SinceOr
            (λ c. ⊎_elim (λ image. inr (found_at_first c (found_resting c image))) (λ b. inr (found_between c b))) (closes.stays.left P G f told_opened))

        since_now : LeavesOnly (seen disk) (seen now) SinceOr
        since_now = subst (λ (d : D). LeavesOnly (seen disk) (seen d) SinceOr) (sym closes.disk_is) since_opened

        -- what a crash leaves behind the closing
        left_now : (c : Bytes) → (seen now).images c → IsFoundWith text (G ++ closed.entries) failed c
        left_now c image =
            found_with accepted text (G ++ closed.entries) failed c
            (subst (λ (z : Bytes × Option History). IsFoundMarked z.0 (G ++ closed.entries) z.1 c) (λ i. ((closes.stays.policy ∙ opened.policy) i, marks i))
            (closes.stays.left_now P G f (closes.stays.tells told_opened) c (subst (λ (d : D). (seen d).images c) closes.disk_is image)))

      -- ---- the run

      played : (sees : Caller → Caller → Bool) (told : List Answered) → IsRunBetween sees P (whole G store) (whole G closed) told
          → IsPlayed sees text P file (G ++ store.entries) (seen disk) (seen now) told
      played sees told run =
          let made : history_made (G ++ store.entries) told ≡ G ++ closed.entries = run.made in
          let failed : Option Entry = failed_line told in record {
            legal = run.legal;
            unfailed = λ none. ap (λ d. (seen d).faults) closes.disk_is ∙ closes.stays.unfailed (ap is_some (run.failed ∙ ap marked none) ∙ sym (ap is_some opened.unmarked)) ∙ opened.unfailed;
            failed = λ e is. ap (λ d. (seen d).faults) closes.disk_is ∙ closes.stays.failed opened.unmarked (e ∷ []) (run.failed ∙ ap marked is) ∙ ap raised opened.unfailed;
            since = rw made (since_now failed run.failed);
            now = λ c image. rw made (left_now failed run.failed c image);
          }

    -- ---- the answers, after the trace that leads to where the store begins

    answered_from : (form : Form) (told : List Answered) → IsRunAfter (sees_by form) (traits form).threads P opened.begun store closed told
        → IsAnsweredFrom form P (trace_behind P opened.begun store) (entries_of_all store) (seen disk) (seen now) told
    answered_from form told after = record {
      answers = after.answers;
      unfailed = λ none. ap (λ d. (seen d).faults) closes.disk_is
          ∙ closes.stays.unfailed (ap is_some (after.failed ∙ ap marked none) ∙ sym (ap is_some opened.unmarked)) ∙ opened.unfailed;
      failed = λ e is. ap (λ d. (seen d).faults) closes.disk_is
          ∙ closes.stays.failed opened.unmarked (e ∷ []) (after.failed ∙ ap marked is) ∙ ap raised opened.unfailed;
    }

    -- ---- all of it

    module _ (form : Form) (bytes : Bytes) (are : List ScriptLine → Type 0) (lines : List ScriptLine) (is_text : text ≡ policy_part bytes)
        (has_policy : HasPolicy bytes P) (says : are lines) (causes : List Answered → Type 0) (so : List Entry → List Answered → Type 0) where
      abbrev Lines : List Entry
      Lines = output_order form (entries_of lines)

      module _ (given : List Answered → Type 0)
          (answers : AreAnswered (sees_by form) (traits form).threads P store closed Lines given)
          (caused : (T : Trace) (n : ℕ) (told : List Answered) → AreRunAfter (sees_by form) (traits form).threads P T n told
          → closed.mark ≡ marked (failed_line told) → causes told)
          (makes : (told : List Answered) → given told → so Lines told) where
        behind : (file : Bytes) (opening : History) → (seen disk).contents ≡ Some file → IsFoundAs text file opening
            → (length opening ≡ entries_of_all store) × IsPlayed (sees_by form) text P file opening (seen disk) (seen now) answers.told
        behind file opening is found =
            let goes = opened.founded file opening is found in
            let G = goes.before in
            let found_so = subst (λ (H : History). IsFoundAs text file H) goes.all found in
            subst (λ (H : History). (length H ≡ entries_of_all store) × IsPlayed (sees_by form) text P file H (seen disk) (seen now) answers.told)
            (sym goes.all) (
              length-append G store.entries ∙ ap (λ (n : ℕ). n + length store.entries) goes.founded.front.count,
              played file is G goes.founded found_so (sees_by form) answers.told (answers.run G goes.founded.front),
            )

        answered_there : IsRunAfter (sees_by form) (traits form).threads P opened.begun store closed answers.told
        answered_there = answers.after opened.begun opened.starts

        pub run_over : IsRunOver form bytes are (seen disk) (seen now) causes so
        run_over = record {
          policy = P;
          lines = lines;
          has_policy = has_policy;
          says = says;
          entries = entries_of_all store;
          actions = trace_behind P opened.begun store;
          own = subst (λ (t : Bytes). IfSome (seen disk).contents (IsOwnState t P (entries_of_all store) (trace_behind P opened.begun store))) is_text opened.own;
          keeps = keeps_file moments P text disk store opened now
              (subst (λ (d : D). LeavesAfter (seen store.disk) (seen d) GrowsFrom) (sym closes.disk_is) closes.stays.grows);
          told = answers.told;
          lines_are = answers.lines_are;
          is_so = makes answers.told answers.is_so;
          caused = caused (trace_behind P opened.begun store) (entries_of_all store) answers.told answered_there.answers answered_there.failed;
          after = answered_from form answers.told answered_there;
          run = subst (λ (t : Bytes). (file : Bytes) (opening : History) → (seen disk).contents ≡ Some file → IsFoundAs t file opening
              → (length opening ≡ entries_of_all store) × IsPlayed (sees_by form) t P file opening (seen disk) (seen now) answers.told)
              is_text behind;
        }

  -- how lines were run, by how the run over the store ended
  module _ (moments : HasMoments seen) (P : PlainPolicy) (text : Bytes) (disk : D) (store : Kept D) (opened : IsOpened P text disk store) (form : Form)
      (bytes : Bytes) (are : List ScriptLine → Type 0) (lines : List ScriptLine)
      (is_text : text ≡ policy_part bytes) (has_policy : HasPolicy bytes P) (says : are lines) (now : D) (was written : SinkSeen) where
    abbrev Entries : List Entry
    Entries = output_order form (entries_of lines)

    module _ (closed : Kept D) (closes : Closes seen store closed now) where
      abbrev EndsSo : Outcome → Type 0
      EndsSo outcome = AreAnswered (sees_by form) (traits form).threads P store closed Entries (IsToldBy Entries was.contents written.contents outcome)

      over : (causes : List Answered → Type 0) (so : List Entry → List Answered → Type 0) (given : List Answered → Type 0)
          → AreAnswered (sees_by form) (traits form).threads P store closed Entries given
          → ((T : Trace) (n : ℕ) (told : List Answered) → AreRunAfter (sees_by form) (traits form).threads P T n told
          → closed.mark ≡ marked (failed_line told) → causes told)
          → ((told : List Answered) → given told → so Entries told)
          → IsRunOver form bytes are (seen disk) (seen now) causes so
      over = run_over moments P text disk store closed now opened closes form bytes are lines is_text has_policy says

      unfailed : closed.mark ≡ None → (seen now).faults ≡ (seen disk).faults
      unfailed none = ap (λ d. (seen d).faults) closes.disk_is ∙ closes.stays.unfailed (ap is_some (none ∙ sym opened.unmarked)) ∙ opened.unfailed

      -- where the store isn't stopped, no line met a disk fault; and where it is, one did
      no_line : closed.mark ≡ None → (told : List Answered) → closed.mark ≡ marked (failed_line told) → failed_line told ≡ None
      no_line by told marks = none_marked (failed_line told) (sym marks ∙ by)

      one_line : IsSome closed.mark → (told : List Answered) → closed.mark ≡ marked (failed_line told) → IsSome (failed_line told)
      one_line by told marks = sym (is_marked (failed_line told)) ∙ (ap is_some (sym marks) ∙ by)

      ends : (outcome : Outcome) → IsOfRun outcome → IsMarkedBy outcome closed.mark → EndsSo outcome
          → RunEnds form bytes are (seen disk) (seen now) was.contents written.contents outcome
      ends outcomes.Done of by e = (
        over (λ told. (failed_line told ≡ None) × IsUnfaulted told) (HaveOutput (Appends was.contents written.contents))
            (HaveOutput (Appends was.contents written.contents) Entries) e
            (λ T n told run marks.
            let none = no_line by told marks in (none, unfaulted (sees_by form) (traits form).threads P T n told run none))
            (λ told output. output),
        unfailed by,
      )
      ends outcomes.SinkFault of by e =
          over (λ told. ⊤) (HaveOutput (AppendsPrefix was.contents written.contents)) (HaveOutput (AppendsPrefix was.contents written.contents) Entries) e
          (λ T n told run marks. tt) (λ told output. output)
      ends outcomes.DiskFault of by e =
          over (λ told. IsSome (failed_line told)) (HaveOutput (Appends was.contents written.contents))
          (HaveOutput (Appends was.contents written.contents) Entries) e
          (λ T n told run marks. one_line by told marks) (λ told output. output)
      ends (outcomes.NoMemory m) of by e =
          over (λ told. ⊤) (λ (es : List Entry) (told : List Answered). ⊤) (λ (told : List Answered). ⊤) e
          (λ T n told run marks. tt) (λ told nothing. tt)
      ends outcome of by e = absurd (cc (of.0, of.1))

    pub over_store : (outcome : Outcome) → IsOfRun outcome
        → IsClosedRun seen (sees_by form) (traits form).threads P store Entries outcome now was.contents written.contents
        → RunEnds form bytes are (seen disk) (seen now) was.contents written.contents outcome
    over_store outcome of run = ends run.closed run.closes outcome of run.marked run.answered

  -- how playing a document ends, by how the run over the store does
  module _ (moments : HasMoments seen) (P : PlainPolicy) (text : Bytes) (disk : D) (store : Kept D) (opened : IsOpened P text disk store) (form : Form)
      (bytes : Bytes) (lines : List ScriptLine)
      (is_text : text ≡ policy_part bytes) (has_policy : HasPolicy bytes P) (says : document_read accepted bytes ≡ Ok lines) (now : D) (was written : SinkSeen) where
    plays : (outcome : Outcome) → IsOfRun outcome → RunEnds form bytes (AreOf accepted bytes) (seen disk) (seen now) was.contents written.contents outcome
        → HasPlayed form outcome bytes (seen disk) (seen now) was written
    plays outcomes.Done of e = e
    plays outcomes.SinkFault of e = e
    plays outcomes.DiskFault of e = inl e
    plays (outcomes.NoMemory m) of e = inr (inr e)
    plays outcome of e = absurd (cc (of.0, of.1))

    pub ends_run : (outcome : Outcome) → IsOfRun outcome
        → IsClosedRun seen (sees_by form) (traits form).threads P store (output_order form (entries_of lines)) outcome now was.contents written.contents
        → HasPlayed form outcome bytes (seen disk) (seen now) was written
    ends_run outcome of run = plays outcome of
        (over_store moments P text disk store opened form bytes (AreOf accepted bytes) lines is_text has_policy says now was written outcome of run)

  -- a run that met a disk fault raised the disk's count
  pub run_raised : (sees : Caller → Caller → Bool) (threads : Bool) (P : PlainPolicy) (disk : D) (store : Kept D) → store.mark ≡ None → (seen store.disk).faults ≡ (seen disk).faults → (lines : List Entry) (now : D) (was written : Option Bytes)
      → IsClosedRun seen sees threads P store lines outcomes.DiskFault now was written → (seen now).faults ≡ raised (seen disk).faults
  run_raised sees threads P disk store unmarked unfailed lines now was written run = by_mark run.closed.mark refl run.marked
    where
      by_mark : (mark : Option History) → run.closed.mark ≡ mark → IsSome mark → (seen now).faults ≡ raised (seen disk).faults
      by_mark None is some = absurd (let no : false ≡ true = some in (cc))
      by_mark (Some es) is some = ap (λ d. (seen d).faults) run.closes.disk_is ∙ run.closes.stays.failed unmarked es is ∙ ap raised unfailed

  -- all that is told where a store is opened
  pub opened_so : (P : PlainPolicy) (text : Bytes) (disk : D) (store : Kept D) → accepted text ≡ Some P
      → (store.policy ≡ text) × (store.opening ≡ store.before + length store.entries) × (store.mark ≡ None)
      → LeavesFrom (seen disk) (seen store.disk) (Opens text) → (seen store.disk).faults ≡ (seen disk).faults
      → is_some (seen store.disk).contents ≡ is_some (seen disk).contents
      → ((P : PlainPolicy) → accepted text ≡ Some P → (T : Trace) × IsStart P store.point store.before T)
      → ((P : PlainPolicy) → accepted text ≡ Some P → IfSome (seen disk).contents (IsSeenAs P store.policy store.point store.before store.entries))
      → IfSome (seen disk).contents (λ file. BeginsAt (last_point file) store.point store.before)
      → Only (seen store.disk).contents (seen store.disk).images → SamePlaces (seen disk).contents (seen store.disk).contents
      → SameRecords text (seen disk).contents (seen store.disk).contents
      → ((before now : Bytes) → (seen disk).contents ≡ Some before → (seen store.disk).contents ≡ Some now → (has_points now ≡ false) ↔ IsOld before)
      → ((P : PlainPolicy) (file : Bytes) (H : History) → accepted text ≡ Some P → (seen disk).contents ≡ Some file → IsFoundAs text file H
      → GoesOnFrom seen P store H)
      → IsOpened P text disk store
  opened_so P text disk store accepts is images_kept unfailed tells leads saw begins at_rest places records old founded = let start = leads P accepts in record {
    policy = is.0;
    unmarked = is.2;
    images_kept = images_kept;
    unfailed = unfailed;
    tells = λ some. tells ∙ some;
    begun = start.0;
    starts = start.1;
    own = if_so (seen disk).contents (own_state P text store is.0 start.0 start.1) (saw P accepts);
    begins = begins;
    at_rest = at_rest;
    places = places;
    records = records;
    old = old;
    founded = λ file H told found. founded P file H accepts told found;
  }

-- how playing ends that comes to no run
module _ (form : Form) where
  -- a document that wasn't read was not played
  pub unread_played : (outcome : Outcome) (input : Option Bytes) (before now : ℕ) (disk : DiskSeen) (was : SinkSeen) → IsUnread input before now outcome
      → HasPlayedInput form outcome input disk disk was was
  unread_played outcome input before now disk was unread = over_input input (λ bytes. by_outcome outcome bytes unread)
    where
      by_outcome : (o : Outcome) (bytes : Bytes) → IsUnread input before now o → HasPlayed form o bytes disk disk was was
      by_outcome outcomes.SourceFault bytes u = as_it_was disk
      by_outcome outcomes.TooLong bytes u = as_it_was disk
      by_outcome (outcomes.NoMemory e) bytes u = inl (as_it_was disk)
      by_outcome o bytes u = absurd u

      over_input : (o : Option Bytes) → ((bytes : Bytes) → HasPlayed form outcome bytes disk disk was was)
          → HasPlayedInput form outcome o disk disk was was
      over_input None so = record { bytes = []; are = tt; played = so [] }
      over_input (Some bytes) so = record { bytes = bytes; are = refl; played = so bytes }
