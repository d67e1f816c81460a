-- Exchanges are a run in text order, and behind a checkpoint that met a disk fault nothing more.
use Rattle.std.proofs.Common.{◌≡◌, ◌⊎◌, inl, inr, ⊎_elim, true, false, ℕ, ◌<◌, ◌≤◌, List, [], ◌∷◌, ◌++◌, length, append_assoc, refl, sym, ap, subst, ◌∙◌}
use Rattle.std.proofs.lemmas.Bool.Decides.{leb_tells}
use Rattle.std.proofs.lemmas.List.{append-nil}
use Rattle.std.specs.Prelude.{Bool, Option, Some, None, IsSome, Result, Ok, Err}
use Rattle.ucon_base.specs.Elements.{Each}
use Rattle.ucon_model.specs.declared.command.Entry.{Entry}
use Rattle.ucon_model.specs.Plain.{Bytes, PlainPolicy}
use Rattle.ucon_model.specs.History.{History}
use Rattle.ucon_model.specs.LegalRun.{Answer, Answered, IsNext, no_memory, disk_fault, is_disk_fault, stopped, placed}
use Rattle.ucon_model.specs.StoredRun.{LeadsTo}
use Rattle.ucon_store.specs.declared.fault.PointFault.{PointFault}
use Rattle.ucon_store.specs.declared.fault.PointFault.TheVariants as faults
use Rattle.ucon_store.specs.Marks.{marked}
use Rattle.ucon_store.specs.Points.{PolicyReading}
use Rattle.ucon_converse.specs.Exchanges.{AnswersEach, Exchange, IsAnswered}
use Rattle.ucon_converse.specs.Conversation.{AreInDoubt, IsMarkOf}
use Rattle.ucon_converse.specs.Due.{is_due_after}
use Rattle.ucon_converse.specs.Replies.{AreAnswersBy, GivesReplyBy, GoesOn, IsAskedAndAnswered, IsPointed, IsTooLong, JoinsDoubt, LeadsOn, Rests, Standing, tried_at}
use Rattle.ucon_converse.specs.Requests.{IsNoRequestBy}
use Rattle.ucon_converse.proofs.Unasked.{no_request, point_asks_nothing}

pub short_or_long : (n m : ℕ) → (n < m) ⊎ (m ≤ n)
short_or_long n m = elim (leb_tells m n) [ inl less ↦ inr less.1 | inr more ↦ inl more.1 ]

none_is_some : {A : Type 0} (o : Option A) → o ≡ None → IsSome o → ⊥
none_is_some None none some = let no : false ≡ true = some in cc no
none_is_some (Some a) none some = let no : Some a ≡ None = none in cc no

-- ---- what a checkpoint may do to what a store stands for

-- nothing; or it stops a store that wasn't stopped, and leaves no entry in doubt
record Drifts (before after : Standing) : Type 0 where
  history : after.history ≡ before.history
  mark : (after.failed ≡ before.failed) ⊎ ((before.failed ≡ None) × (after.failed ≡ Some []))

drifts_not : (before after : Standing) → after ≡ before → Drifts before after
drifts_not before after same = record { history = ap (λ (s : Standing). s.history) same; mark = inl (ap (λ (s : Standing). s.failed) same) }

drifts_tried : (before after : Standing) → after ≡ tried_at before → Drifts before after
drifts_tried before after is = record { history = ap (λ (s : Standing). s.history) is; mark = inl (ap (λ (s : Standing). s.failed) is) }

pointed_drifts : (old : Type 0) (P : PlainPolicy) (text : Bytes) (before after : Standing) (said : Result ℕ PointFault) → IsPointed old P text before after said
    → Drifts before after
pointed_drifts old P text before after (Ok n) is = record { history = ap (λ (s : Standing). s.history) is.2; mark = inl (ap (λ (s : Standing). s.failed) is.2) }
pointed_drifts old P text before after (Err faults.DiskFault) is =
    record { history = ap (λ (s : Standing). s.history) is.1; mark = inr (is.0, ap (λ (s : Standing). s.failed) is.1) }
pointed_drifts old P text before after (Err faults.Stopped) is = drifts_not before after is.1
pointed_drifts old P text before after (Err faults.OldJournal) is = drifts_tried before after is.2
pointed_drifts old P text before after (Err (faults.TooLarge size)) is = drifts_tried before after is.2
pointed_drifts old P text before after (Err (faults.NoMemory e)) is = drifts_tried before after is.1

goes_on_drifts : (old : Type 0) (P : PlainPolicy) (text : Bytes) (before after : Standing) → GoesOn old P text before after → Drifts before after
goes_on_drifts old P text before after goes = by (is_due_after P before.tried before.history) refl
  where
    by : (b : Bool) → is_due_after P before.tried before.history ≡ b → Drifts before after
    by true due = let tried = goes.due due in pointed_drifts old P text before after tried.0 tried.1
    by false due = drifts_not before after (goes.not_due due)

rests_drift : (old : Type 0) (P : PlainPolicy) (text : Bytes) (answer : Answer) (before after : Standing) → Rests old P text answer before after → Drifts before after
rests_drift old P text (placed place reply) before after is = goes_on_drifts old P text before after is
rests_drift old P text no_memory before after is = drifts_not before after is
rests_drift old P text disk_fault before after is = drifts_not before after is
rests_drift old P text stopped before after is = drifts_not before after is

-- what stands in doubt behind the first standing's, where all these were stopped
abbrev pub DoubtsGrow : PlainPolicy → Standing → Standing → List Answered → History → Type 0
DoubtsGrow P first last told doubt =
    (es : History) × (last.failed ≡ Some (doubt ++ es)) × AreInDoubt P (first.history ++ doubt) es told × (doubt ≡ [] → es ≡ [])

-- behind a disk fault all are stopped, and nothing is other but that more may be in doubt
pub record AreStopped (P : PlainPolicy) (first last : Standing) (told : List Answered) : Type 0 where
  pub each : Each (λ later. later.answer ≡ stopped) told
  pub history : last.history ≡ first.history
  pub doubts : (doubt : History) → first.failed ≡ Some doubt → DoubtsGrow P first last told doubt

-- a line more, which isn't in doubt
doubt_skipped : (P : PlainPolicy) (H es : History) (t : Answered) (run : List Answered) → AreInDoubt P H es run → AreInDoubt P H es (t ∷ run)
doubt_skipped P H [] t run is = tt
doubt_skipped P H (e ∷ es) t run is = inr is

-- the next answer of a run is no disk fault
next_is_no_fault : (P : PlainPolicy) (H : History) (line : Entry) (answer : Answer) → IsNext P H line answer → is_disk_fault answer ≡ false
next_is_no_fault P H line no_memory next = refl
next_is_no_fault P H line (placed place reply) next = refl
next_is_no_fault P H line disk_fault next = absurd next
next_is_no_fault P H line stopped next = absurd next

-- A run leads from the first standing to the last, and then answers that the disk had failed, if a checkpoint met a fault.
pub record LeadsOver (P : PlainPolicy) (first last : Standing) (told : List Answered) : Type 0 where
  pub run : List Answered
  pub over : List Answered
  pub all : told ≡ run ++ over
  pub failed : Option Entry
  pub leads : LeadsTo P first.history run last.history failed
  pub stops : Each (λ t. t.answer ≡ stopped) over
  pub mark : (IsMarkOf P last.history last.failed run × (over ≡ [])) ⊎ ((last.failed ≡ Some []) × (failed ≡ None))

module _ (reads : PolicyReading) (P : PlainPolicy) (text : Bytes) (old : Type 0) (limit : ℕ)
    -- a line that is too long is no request
    (long : (line : Bytes) → limit ≤ length line → IsNoRequestBy reads line) where
  abbrev pub Each' : Standing → List (Exchange Standing) → Standing → Type 0
  Each' first xs last = AnswersEach limit (GivesReplyBy reads P text old) IsTooLong first xs last

  -- one line was no request, and a checkpoint was tried at most; or it was answered
  data OneOf (before : Standing) (x : Exchange Standing) : Type 0 where
    nothing_asked : IsNoRequestBy reads x.line → Drifts before x.after → OneOf before x
    asked : IsAskedAndAnswered reads P text old before x.after x.line x.reply → OneOf before x

  one_of : (before : Standing) (x : Exchange Standing) → IsAnswered limit (GivesReplyBy reads P text old) IsTooLong before x → OneOf before x
  one_of before x a = ⊎_elim
      (λ (lt : length x.line < limit). by (a.answer lt))
      (λ (le : limit ≤ length x.line). nothing_asked (long x.line le) (drifts_not before x.after (a.refusal le).0))
      (short_or_long (length x.line) limit)
    where
      by : GivesReplyBy reads P text old before x.after x.line x.reply → OneOf before x
      by (inl is) = asked is
      by (inr (inl is)) = nothing_asked is.none (drifts_not before x.after is.same)
      by (inr (inr (inl is))) = nothing_asked is.none (drifts_not before x.after is.same)
      by (inr (inr (inr (inl is)))) = nothing_asked (λ e q. no_request x.line is.reading e.caller q.text is.asks q.by) (drifts_not before x.after is.same)
      by (inr (inr (inr (inr is)))) = nothing_asked (λ e q. point_asks_nothing x.line e.caller q.text is.asks q.by) (pointed_drifts old P text before x.after is.said is.pointed)

  -- the answers to the requests, from the first standing to the last, of which this is so
  pub record Run (first last : Standing) (xs : List (Exchange Standing)) (so : List Answered → Type 0) : Type 0 where
    pub told : List Answered
    pub among : AreAnswersBy reads xs told
    pub is_so : so told

  -- a store that is stopped stays so
  still_failed : (before after : Standing) → IsSome before.failed → Drifts before after → after.failed ≡ before.failed
  still_failed before after some d =
      ⊎_elim (λ (same : after.failed ≡ before.failed). same)
      (λ (is : (before.failed ≡ None) × (after.failed ≡ Some [])). absurd (none_is_some before.failed is.0 some)) d.mark

  all_stopped : (first last : Standing) (xs : List (Exchange Standing)) → IsSome first.failed → Each' first xs last → Run first last xs (AreStopped P first last)
  all_stopped first last [] some run = record {
    told = [];
    among = refl;
    is_so = record {
      each = tt;
      history = ap (λ (s : Standing). s.history) (sym run);
      doubts = λ doubt is. ([], ap (λ (s : Standing). s.failed) (sym run) ∙ (is ∙ ap Some (sym (append-nil doubt))), tt, λ none. refl);
    };
  }
  all_stopped first last (x ∷ xs) some run = by (λ still. all_stopped x.after last xs still run.1) (one_of first x run.0)
    where
      stopped_on : (IsSome x.after.failed → Run x.after last xs (AreStopped P x.after last)) → (b : IsAskedAndAnswered reads P text old first x.after x.line x.reply)
          → b.told.answer ≡ stopped → (b.steps.between ≡ first) ⊎ JoinsDoubt P first b.steps.between b.told → Run first last (x ∷ xs) (AreStopped P first last)
      stopped_on others b answer (inl still) =
          let same : x.after ≡ first = subst (λ (r : Answer). Rests old P text r b.steps.between x.after) answer b.steps.rests ∙ still in
          let rest = others (subst (λ (s : Standing). IsSome s.failed) (sym same) some) in
          record {
            told = b.told ∷ rest.told;
            among = inr (b.told, rest.told, refl, b.request, b.reply_is, rest.among);
            is_so = record {
              each = (answer, rest.is_so.each);
              history = rest.is_so.history ∙ ap (λ (s : Standing). s.history) same;
              doubts = λ doubt is.
                  let g = rest.is_so.doubts doubt (ap (λ (s : Standing). s.failed) same ∙ is) in (
                    g.0,
                    g.1,
                    doubt_skipped P (first.history ++ doubt) g.0 b.told rest.told (subst (λ (s : Standing). AreInDoubt P (s.history ++ doubt) g.0 rest.told) same g.2),
                    g.3,
                  );
            };
          }
      stopped_on others b answer (inr j) =
          let line = b.told.line in
          let same : x.after ≡ record { history = first.history; failed = Some (j.doubt ++ line ∷ []); points = first.points; tried = first.tried } =
          subst (λ (r : Answer). Rests old P text r b.steps.between x.after) answer b.steps.rests ∙ j.joined in
          let mark : x.after.failed ≡ Some (j.doubt ++ line ∷ []) = ap (λ (s : Standing). s.failed) same in
          let history : x.after.history ≡ first.history = ap (λ (s : Standing). s.history) same in
          let rest = others (subst (λ (o : Option History). IsSome o) (sym mark) refl) in
          record {
            told = b.told ∷ rest.told;
            among = inr (b.told, rest.told, refl, b.request, b.reply_is, rest.among);
            is_so = record {
              each = (answer, rest.is_so.each);
              history = rest.is_so.history ∙ history;
              doubts = λ doubt is.
                  let both : Some j.doubt ≡ Some doubt = sym j.failed ∙ is in
                  let one : j.doubt ≡ doubt = cc both in
                  let g = rest.is_so.doubts (j.doubt ++ line ∷ []) mark in
                  let grown : DoubtsGrow P first last (b.told ∷ rest.told) j.doubt = (
                    line ∷ g.0,
                    g.1 ∙ ap Some (append_assoc j.doubt (line ∷ []) g.0),
                    inl (
                      refl,
                      j.would_change,
                      subst (λ (H : History). AreInDoubt P H g.0 rest.told)
                          (ap (λ (H : History). H ++ (j.doubt ++ line ∷ [])) history ∙ sym (append_assoc first.history j.doubt (line ∷ []))) g.2,
                    ),
                    λ none. absurd (j.some none),
                  ) in
                  subst (DoubtsGrow P first last (b.told ∷ rest.told)) one grown;
            };
          }

      by : (IsSome x.after.failed → Run x.after last xs (AreStopped P x.after last)) → OneOf first x → Run first last (x ∷ xs) (AreStopped P first last)
      by others (nothing_asked none d) =
          let same = still_failed first x.after some d in
          let rest = others (subst (λ (o : Option History). IsSome o) (sym same) some) in
          record {
            told = rest.told;
            among = inl (none, rest.among);
            is_so = record {
              each = rest.is_so.each;
              history = rest.is_so.history ∙ d.history;
              doubts = λ doubt is.
                  let g = rest.is_so.doubts doubt (same ∙ is) in
                  (g.0, g.1, subst (λ (H : History). AreInDoubt P (H ++ doubt) g.0 rest.told) d.history g.2, g.3);
            };
          }
      by others (asked a) = ⊎_elim
          (λ (is : (first.failed ≡ None) × LeadsOn P first a.steps.between (a.told ∷ [])). absurd (none_is_some first.failed is.0 some))
          (λ (is : IsSome first.failed × (a.told.answer ≡ stopped) × ((a.steps.between ≡ first) ⊎ JoinsDoubt P first a.steps.between a.told)).
          stopped_on others a is.1 is.2) a.steps.step

  -- a store that a checkpoint's fault stopped has nothing in doubt
  none_in_doubt : (mid last : Standing) (told : List Answered) → mid.failed ≡ Some [] → AreStopped P mid last told → last.failed ≡ Some []
  none_in_doubt mid last told failed s = let g = s.doubts [] failed in g.1 ∙ ap Some (g.3 refl)

  -- nothing more is told but that the disk had failed, since a checkpoint met a fault here
  over_at : (first mid last : Standing) (told : List Answered) → mid.history ≡ first.history → mid.failed ≡ Some [] → AreStopped P mid last told → LeadsOver P first last told
  over_at first mid last told same failed s = record {
    run = [];
    over = told;
    all = refl;
    failed = None;
    leads = (s.history ∙ same, refl);
    stops = s.each;
    mark = inr (none_in_doubt mid last told failed s, refl);
  }

  -- the same behind one answer more
  over_behind : (first mid last : Standing) (t : Answered) (told : List Answered) → LeadsTo P first.history (t ∷ []) mid.history None → mid.failed ≡ Some []
      → AreStopped P mid last told → LeadsOver P first last (t ∷ told)
  over_behind first mid last t told leads failed s = record {
    run = t ∷ [];
    over = told;
    all = refl;
    failed = None;
    leads = subst (λ (H : History). LeadsTo P first.history (t ∷ []) H None) (sym s.history) leads;
    stops = s.each;
    mark = inr (none_in_doubt mid last told failed s, refl);
  }

  pub exchanges_lead : (first last : Standing) (xs : List (Exchange Standing)) → first.failed ≡ None → Each' first xs last → Run first last xs (LeadsOver P first last)
  exchanges_lead first last [] none run = record {
    told = [];
    among = refl;
    is_so = record {
      run = [];
      over = [];
      all = refl;
      failed = None;
      leads = (ap (λ (s : Standing). s.history) (sym run), refl);
      stops = tt;
      mark = inl (ap (λ (s : Standing). s.failed) (sym run) ∙ none, refl);
    };
  }
  exchanges_lead first last (x ∷ xs) none run =
      by (λ still. all_stopped x.after last xs still run.1) (λ none'. exchanges_lead x.after last xs none' run.1) (one_of first x run.0)
    where
      marked_on : (t : Answered) (run over : List Answered) (failed : Option Entry) → is_disk_fault t.answer ≡ false
          → (IsMarkOf P last.history last.failed run × (over ≡ [])) ⊎ ((last.failed ≡ Some []) × (failed ≡ None))
          → (IsMarkOf P last.history last.failed (t ∷ run) × (over ≡ [])) ⊎ ((last.failed ≡ Some []) × (failed ≡ None))
      marked_on t run over failed calm (inl m) = inl (inr (calm, m.0), m.1)
      marked_on t run over failed calm (inr m) = inr m

      by_step : (IsSome x.after.failed → Run x.after last xs (AreStopped P x.after last)) → (x.after.failed ≡ None → Run x.after last xs (LeadsOver P x.after last))
          → (a : IsAskedAndAnswered reads P text old first x.after x.line x.reply) → Drifts a.steps.between x.after
          → (failed : Option Entry) → a.steps.between.failed ≡ marked failed → LeadsTo P first.history (a.told ∷ []) a.steps.between.history failed
          → Run first last (x ∷ xs) (LeadsOver P first last)
      by_step stops others a d failed mark (inl is) =
          ⊎_elim
          (λ (same : x.after.failed ≡ a.steps.between.failed).
          let rest = others (same ∙ (mark ∙ ap marked is.1.1)) in
          let run : Run first last (x ∷ xs) (LeadsOver P first last) = record {
            told = a.told ∷ rest.told;
            among = inr (a.told, rest.told, refl, a.request, a.reply_is, rest.among);
            is_so = record {
              run = a.told ∷ rest.is_so.run;
              over = rest.is_so.over;
              all = ap (λ (l : List Answered). a.told ∷ l) rest.is_so.all;
              failed = rest.is_so.failed;
              leads = inl (is.0, subst (λ (H : History). LeadsTo P H rest.is_so.run last.history rest.is_so.failed) (d.history ∙ is.1.0) rest.is_so.leads);
              stops = rest.is_so.stops;
              mark = marked_on a.told rest.is_so.run rest.is_so.over rest.is_so.failed (next_is_no_fault P first.history a.told.line a.told.answer is.0) rest.is_so.mark;
            };
          } in run)
          (λ (by_point : (a.steps.between.failed ≡ None) × (x.after.failed ≡ Some [])).
          let rest = stops (subst (λ (o : Option History). IsSome o) (sym by_point.1) refl) in
          let run : Run first last (x ∷ xs) (LeadsOver P first last) = record {
            told = a.told ∷ rest.told;
            among = inr (a.told, rest.told, refl, a.request, a.reply_is, rest.among);
            is_so = over_behind first x.after last a.told rest.told (inl (is.0, (d.history ∙ is.1.0, refl))) by_point.1 rest.is_so;
          } in run)
          d.mark
      by_step stops others a d failed mark (inr is) =
          let mark_is : a.steps.between.failed ≡ Some (a.told.line ∷ []) = mark ∙ ap marked is.2 in
          let same = still_failed a.steps.between x.after (subst (λ (o : Option History). IsSome o) (sym mark_is) refl) d in
          let rest = stops (subst (λ (o : Option History). IsSome o) (sym (same ∙ mark_is)) refl) in
          record {
            told = a.told ∷ rest.told;
            among = inr (a.told, rest.told, refl, a.request, a.reply_is, rest.among);
            is_so = record {
              run = a.told ∷ rest.told;
              over = [];
              all = sym (append-nil (a.told ∷ rest.told));
              failed = Some a.told.line;
              leads =
                  inr (
                    record { failed = is.0.failed; would_change = is.0.would_change; stops = rest.is_so.each },
                    rest.is_so.history ∙ (d.history ∙ is.1),
                    refl,
                  );
              stops = tt;
              mark =
                  let g = rest.is_so.doubts (a.told.line ∷ []) (same ∙ mark_is) in
                  inl (
                    inl (is.0.failed, (g.0, g.1, subst (λ (H : History). AreInDoubt P (H ++ a.told.line ∷ []) g.0 rest.told) (sym rest.is_so.history) g.2)),
                    refl,
                  );
            };
          }

      by : (IsSome x.after.failed → Run x.after last xs (AreStopped P x.after last)) → (x.after.failed ≡ None → Run x.after last xs (LeadsOver P x.after last))
          → OneOf first x → Run first last (x ∷ xs) (LeadsOver P first last)
      by stops others (nothing_asked none' d) = ⊎_elim
          (λ (same : x.after.failed ≡ first.failed).
          let rest = others (same ∙ none) in
          let run : Run first last (x ∷ xs) (LeadsOver P first last) = record {
            told = rest.told;
            among = inl (none', rest.among);
            is_so = record {
              run = rest.is_so.run;
              over = rest.is_so.over;
              all = rest.is_so.all;
              failed = rest.is_so.failed;
              leads = subst (λ (H : History). LeadsTo P H rest.is_so.run last.history rest.is_so.failed) d.history rest.is_so.leads;
              stops = rest.is_so.stops;
              mark = rest.is_so.mark;
            };
          } in run)
          (λ (by_point : (first.failed ≡ None) × (x.after.failed ≡ Some [])).
          let rest = stops (subst (λ (o : Option History). IsSome o) (sym by_point.1) refl) in
          let run : Run first last (x ∷ xs) (LeadsOver P first last) = record {
            told = rest.told;
            among = inl (none', rest.among);
            is_so = over_at first x.after last rest.told d.history by_point.1 rest.is_so;
          } in run)
          d.mark
      by stops others (asked a) =
          let d = rests_drift old P text a.told.answer a.steps.between x.after a.steps.rests in
          ⊎_elim
          (λ (is : (first.failed ≡ None) × LeadsOn P first a.steps.between (a.told ∷ [])). by_step stops others a d is.1.failed is.1.mark is.1.leads)
          (λ (is : IsSome first.failed × (a.told.answer ≡ stopped) × ((a.steps.between ≡ first) ⊎ JoinsDoubt P first a.steps.between a.told)).
          absurd (none_is_some first.failed none is.0)) a.steps.step
