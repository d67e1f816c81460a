-- Requests that are answered together, one by one.
use Rattle.std.proofs.Common.{zero, suc, ◌≡◌, inl, inr, ℕ, ◌+◌, ◌≤◌, ◌<◌, Bool, true, false, List, [], ◌∷◌, ◌++◌, length, take, drop, append_assoc, length-append, refl, sym, ap, subst, ◌∙◌, arith}
use Rattle.std.proofs.lemmas.List.{append-nil}
use Rattle.std.specs.Prelude.{◌≢◌, Option, Some, None, if◌then◌else◌}
use Rattle.ucon_model.specs.declared.command.Entry.{Entry}
use Rattle.ucon_model.specs.Batches.{changing}
use Rattle.ucon_model.specs.History.{History, changes, grown, said, serial}
use Rattle.ucon_model.specs.LegalRun.{Answered, history_after, placed}
use Rattle.ucon_model.specs.Plain.{Bytes, PlainPolicy, PlainReply}
use Rattle.ucon_model.specs.Views.{reply_of}
use Rattle.ucon_store.specs.Batched.{answers}
use Rattle.ucon_store.specs.declared.placed.Placed.{Placed}
use Rattle.ucon_converse.specs.Due.{is_due_after}
use Rattle.ucon_converse.specs.Replies.{GoesOn, IsStep, Standing}
use Rattle.ucon_converse.specs.Together.{StepEach, all_stopped, broken_off, replied}

-- ---- histories

-- the entry of a line, if it changes something
abbrev one_if : Bool → Entry → History
one_if b e = if b then e ∷ [] else []

grown_if : (b : Bool) (H : History) (e : Entry) → (if b then H ++ e ∷ [] else H) ≡ H ++ one_if b e
grown_if true H e = refl
grown_if false H e = sym (append-nil H)

one_few : (b : Bool) (e : Entry) → length (one_if b e) ≤ 1
one_few true e = omega arith
one_few false e = omega arith

pub some_longer : (es : History) (e : Entry) → es ++ e ∷ [] ≢ []
some_longer [] e is = cc is
some_longer (x ∷ es) e is = cc is

-- behind a line the others change what they would change
behind_one : (P : PlainPolicy) (b : Bool) (H : History) (e : Entry) (lines : List Entry)
    → (if b then H ++ e ∷ [] else H) ++ changing P (if b then H ++ e ∷ [] else H) lines ≡ H ++ (if b then e ∷ changing P (H ++ e ∷ []) lines else changing P H lines)
behind_one P true H e lines = append_assoc H (e ∷ []) (changing P (H ++ e ∷ []) lines)
behind_one P false H e lines = refl

none_changes : (P : PlainPolicy) (H : History) (xs ys : List Entry) → changing P H xs ≡ [] → changing P H (xs ++ ys) ≡ changing P H ys
none_changes P H [] ys none = refl
none_changes P H (x ∷ xs) ys none = by (changes (said P H x.caller x.command)) (λ n. none_changes P H xs ys n) none
  where
    by : (b : Bool) → (changing P H xs ≡ [] → changing P H (xs ++ ys) ≡ changing P H ys) → (if b then x ∷ changing P (H ++ x ∷ []) xs else changing P H xs) ≡ []
        → (if b then x ∷ changing P (H ++ x ∷ []) (xs ++ ys) else changing P H (xs ++ ys)) ≡ changing P H ys
    by true next none' = absurd (cc none')
    by false next none' = next none'

-- the first line of those that aren't sure, which would change something
pub first_of : (P : PlainPolicy) (H : History) (n taken : ℕ) (lines : List Entry) → n < taken → taken ≤ length lines → changing P H (take n lines) ≡ []
    → changing P H (take (suc n) lines) ≢ []
    → (e : Entry) × (others : List Entry) × (drop n (take taken lines) ≡ e ∷ others) × (changes (said P H e.caller e.command) ≡ true)
    × (changing P H (take taken lines) ≡ e ∷ changing P (H ++ e ∷ []) others)
first_of P H n zero lines lt le none some = absurd (let no : ⊥ = omega arith in no)
first_of P H n (suc taken) [] lt le none some = absurd (let no : ⊥ = omega arith in no)
first_of P H zero (suc taken) (e ∷ lines) lt le none some = by (changes (said P H e.caller e.command)) refl
  where
    by : (b : Bool) → changes (said P H e.caller e.command) ≡ b
        → (e' : Entry) × (others : List Entry) × (e ∷ take taken lines ≡ e' ∷ others) × (changes (said P H e'.caller e'.command) ≡ true)
        × (changing P H (e ∷ take taken lines) ≡ e' ∷ changing P (H ++ e' ∷ []) others)
    by true is = (e, take taken lines, refl, is, ap (λ (b : Bool). if b then e ∷ changing P (H ++ e ∷ []) (take taken lines) else changing P H (take taken lines)) is)
    by false is = absurd (some (ap (λ (b : Bool). if b then e ∷ [] else []) is))
first_of P H (suc n) (suc taken) (x ∷ lines) lt le none some =
    by (λ none' some'. first_of P H n taken lines (omega arith) (omega arith) none' some') (changes (said P H x.caller x.command)) refl none some
  where
    by : (changing P H (take n lines) ≡ [] → changing P H (take (suc n) lines) ≢ []
        → (e : Entry) × (others : List Entry) × (drop n (take taken lines) ≡ e ∷ others) × (changes (said P H e.caller e.command) ≡ true)
        × (changing P H (take taken lines) ≡ e ∷ changing P (H ++ e ∷ []) others))
        → (b : Bool) → changes (said P H x.caller x.command) ≡ b
        → (if b then x ∷ changing P (H ++ x ∷ []) (take n lines) else changing P H (take n lines)) ≡ []
        → (if b then x ∷ changing P (H ++ x ∷ []) (take (suc n) lines) else changing P H (take (suc n) lines)) ≢ []
        → (e : Entry) × (others : List Entry) × (drop n (take taken lines) ≡ e ∷ others) × (changes (said P H e.caller e.command) ≡ true)
        × ((if changes (said P H x.caller x.command) then x ∷ changing P (H ++ x ∷ []) (take taken lines) else changing P H (take taken lines))
        ≡ e ∷ changing P (H ++ e ∷ []) others)
    by next true is none' some' = absurd (cc none')
    by next false is none' some' =
        let f = next none' some' in
        (f.0, f.1, f.2, f.3, ap (λ (b : Bool). if b then x ∷ changing P (H ++ x ∷ []) (take taken lines) else changing P H (take taken lines)) is ∙ f.4)

module _ (old : Type 0) (P : PlainPolicy) (text : Bytes) (points : List ℕ) (tried : ℕ) where
  abbrev pub at : History → Option History → Standing
  at H failed = record { history = H; failed = failed; points = points; tried = tried }

  -- ---- replies

  -- one request had the next reply
  replied_step : (H : History) (e : Entry) (p : Placed) → p.place ≡ length (grown P H e) → reply_of p.reply ≡ said P H e.caller e.command
      → IsStep P (at H None) (at (grown P H e) None) (record { line = e; answer = placed p.place (reply_of p.reply) })
  replied_step H e p place reply =
      let same : history_after H e (placed p.place (reply_of p.reply)) ≡ grown P H e = ap (λ (r : PlainReply). if changes r then H ++ e ∷ [] else H) reply in
      inl (
        refl,
        record {
          failed = None;
          mark = refl;
          leads = inl ((reply, place ∙ ap (λ (K : History). length K) (sym same)), (sym same, refl));
          points = refl;
          tried = refl;
        },
      )

  not_yet : (s : Standing) → is_due_after P s.tried s.history ≡ false → GoesOn old P text s s
  not_yet s calm = record { due = λ is. absurd (let bad : false ≡ true = sym calm ∙ is in cc bad); not_due = λ _. refl }

  -- requests had the next replies; a checkpoint is due behind the last at most
  pub steps_on : (H : History) (lines : List Entry) (p : Placed) (ps : List Placed) → answers (p ∷ ps) ≡ serial P H (take (length (p ∷ ps)) lines)
      → ((es : History) → length es < length (p ∷ ps) → is_due_after P tried (H ++ es) ≡ false)
      → (last : Standing) → GoesOn old P text (at (H ++ changing P H (take (length (p ∷ ps)) lines)) None) last
      → StepEach old P text (at H None) (replied lines (p ∷ ps)) last
  steps_on H [] p ps is due last goes = absurd (cc is)
  steps_on H (e ∷ lines) p [] is due last goes =
      let both : ◌≡◌ {A = ℕ × PlainReply} (p.place, reply_of p.reply) (length (grown P H e), said P H e.caller e.command) = cc is in
      let b = changes (said P H e.caller e.command) in
      let end : grown P H e ≡ H ++ changing P H (e ∷ []) = grown_if b H e in (
        last,
        record {
          between = at (grown P H e) None;
          step = replied_step H e p (ap (λ (z : ℕ × PlainReply). z.0) both) (ap (λ (z : ℕ × PlainReply). z.1) both);
          rests = subst (λ (K : History). GoesOn old P text (at K None) last) (sym end) goes;
        },
        refl,
      )
  steps_on H (e ∷ lines) p (q ∷ ps) is due last goes =
      let both : ◌≡◌ {A = ℕ × PlainReply} (p.place, reply_of p.reply) (length (grown P H e), said P H e.caller e.command) = cc is in
      let others : answers (q ∷ ps) ≡ serial P (grown P H e) (take (length (q ∷ ps)) lines) = cc is in
      let b = changes (said P H e.caller e.command) in
      let grows : grown P H e ≡ H ++ one_if b e = grown_if b H e in
      let few = one_few b e in
      let here : is_due_after P tried (grown P H e) ≡ false =
      subst (λ (K : History). is_due_after P tried K ≡ false) (sym grows) (due (one_if b e) (omega arith)) in
      let due' : (es : History) → length es < length (q ∷ ps) → is_due_after P tried (grown P H e ++ es) ≡ false =
      λ es lt.
      let all : grown P H e ++ es ≡ H ++ (one_if b e ++ es) = ap (λ (K : History). K ++ es) grows ∙ append_assoc H (one_if b e) es in
      let long = length-append (one_if b e) es in
      subst (λ (K : History). is_due_after P tried K ≡ false) (sym all) (due (one_if b e ++ es) (omega arith)) in
      let end : grown P H e ++ changing P (grown P H e) (take (length (q ∷ ps)) lines) ≡ H ++ changing P H (take (length (p ∷ q ∷ ps)) (e ∷ lines)) =
      behind_one P b H e (take (length (q ∷ ps)) lines) in (
        at (grown P H e) None,
        record {
          between = at (grown P H e) None;
          step = replied_step H e p (ap (λ (z : ℕ × PlainReply). z.0) both) (ap (λ (z : ℕ × PlainReply). z.1) both);
          rests = not_yet (at (grown P H e) None) here;
        },
        steps_on (grown P H e) lines q ps others due' last (subst (λ (K : History). GoesOn old P text (at K None) last) (sym end) goes),
      )

  -- the same where none is due behind the last either
  pub steps_all : (H : History) (lines : List Entry) (ps : List Placed) → answers ps ≡ serial P H (take (length ps) lines)
      → ((es : History) → length es < length ps + 1 → is_due_after P tried (H ++ es) ≡ false) → changing P H (take (length ps) lines) ≡ []
      → StepEach old P text (at H None) (replied lines ps) (at H None)
  steps_all H [] [] is due none = refl
  steps_all H (e ∷ lines) [] is due none = refl
  steps_all H lines (p ∷ ps) is due none =
      let end : H ++ changing P H (take (length (p ∷ ps)) lines) ≡ H = ap (λ (es : History). H ++ es) none ∙ append-nil H in
      steps_on H lines p ps is (λ es lt. due es (omega arith)) (at H None)
      (subst (λ (K : History). GoesOn old P text (at K None) (at H None)) (sym end)
      (not_yet (at H None) (subst (λ (K : History). is_due_after P tried K ≡ false) (append-nil H) (due [] (omega arith)))))

  -- ---- a disk fault

  stops_each : (H : History) (lines : List Entry) (doubt : History) → doubt ≢ []
      → StepEach old P text (at H (Some doubt)) (all_stopped lines) (at H (Some (doubt ++ changing P (H ++ doubt) lines)))
  stops_each H [] doubt some = ap (λ (d : History). at H (Some d)) (sym (append-nil doubt))
  stops_each H (e ∷ lines) doubt some = by (λ d more. stops_each H lines d more) (changes (said P (H ++ doubt) e.caller e.command)) refl
    where
      by : ((d : History) → d ≢ [] → StepEach old P text (at H (Some d)) (all_stopped lines) (at H (Some (d ++ changing P (H ++ d) lines))))
          → (b : Bool) → changes (said P (H ++ doubt) e.caller e.command) ≡ b
          → StepEach old P text (at H (Some doubt)) (all_stopped (e ∷ lines))
          (at H (Some (doubt ++ (if changes (said P (H ++ doubt) e.caller e.command) then e ∷ changing P ((H ++ doubt) ++ e ∷ []) lines else changing P (H ++ doubt) lines))))
      by others true is =
          let next = others (doubt ++ e ∷ []) (some_longer doubt e) in
          let behind : (doubt ++ e ∷ []) ++ changing P (H ++ (doubt ++ e ∷ [])) lines ≡ doubt ++ (e ∷ changing P ((H ++ doubt) ++ e ∷ []) lines) =
          append_assoc doubt (e ∷ []) (changing P (H ++ (doubt ++ e ∷ [])) lines)
          ∙ ap (λ (K : History). doubt ++ (e ∷ changing P K lines)) (sym (append_assoc H doubt (e ∷ []))) in
          let chosen : doubt ++ (e ∷ changing P ((H ++ doubt) ++ e ∷ []) lines) ≡ doubt ++ (if changes (said P (H ++ doubt) e.caller e.command) then e ∷ changing P ((H ++ doubt) ++ e ∷ []) lines else changing P (H ++ doubt) lines) =
          ap (λ (b : Bool). doubt ++ (if b then e ∷ changing P ((H ++ doubt) ++ e ∷ []) lines else changing P (H ++ doubt) lines)) (sym is) in (
            at H (Some (doubt ++ e ∷ [])),
            record {
              between = at H (Some (doubt ++ e ∷ []));
              step = inr (refl, refl, inr (record { doubt = doubt; failed = refl; some = some; would_change = is; joined = refl }));
              rests = refl;
            },
            subst (λ (d : History). StepEach old P text (at H (Some (doubt ++ e ∷ []))) (all_stopped lines) (at H (Some d))) (behind ∙ chosen) next,
          )
      by others false is =
          let next = others doubt some in
          let chosen : doubt ++ changing P (H ++ doubt) lines ≡ doubt ++ (if changes (said P (H ++ doubt) e.caller e.command) then e ∷ changing P ((H ++ doubt) ++ e ∷ []) lines else changing P (H ++ doubt) lines) =
          ap (λ (b : Bool). doubt ++ (if b then e ∷ changing P ((H ++ doubt) ++ e ∷ []) lines else changing P (H ++ doubt) lines)) (sym is) in (
            at H (Some doubt),
            record { between = at H (Some doubt); step = inr (refl, refl, inl refl); rests = refl },
            subst (λ (d : History). StepEach old P text (at H (Some doubt)) (all_stopped lines) (at H (Some d))) chosen next,
          )

  -- lines that were to be written together met a disk fault: the first of them would have changed something
  pub breaks_off : (H : History) (e : Entry) (lines : List Entry) → changes (said P H e.caller e.command) ≡ true
      → StepEach old P text (at H None) (broken_off (e ∷ lines)) (at H (Some (e ∷ changing P (H ++ e ∷ []) lines)))
  breaks_off H e lines would = (
    at H (Some (e ∷ [])),
    record {
      between = at H (Some (e ∷ []));
      step =
          inl (
            refl,
            record {
              failed = Some e;
              mark = refl;
              leads = inr (record { failed = refl; would_change = would; stops = tt }, refl, refl);
              points = refl;
              tried = refl;
            },
          );
      rests = refl;
    },
    stops_each H lines (e ∷ []) (λ no. cc no),
  )

  pub steps_append : (first mid last : Standing) (xs ys : List Answered) → StepEach old P text first xs mid → StepEach old P text mid ys last
      → StepEach old P text first (xs ++ ys) last
  steps_append first mid last [] ys p q = subst (λ (s : Standing). StepEach old P text s ys last) (sym p) q
  steps_append first mid last (x ∷ xs) ys p q = (p.0, p.1, steps_append p.0 mid last xs ys p.2 q)
