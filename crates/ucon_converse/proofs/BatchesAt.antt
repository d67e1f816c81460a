-- Requests that are answered together, one by one, behind the actions so far.
use Rattle.std.proofs.Common.{zero, suc, ◌≡◌, ◌≢◌, inl, inr, ℕ, ◌+◌, ◌≤◌, ◌<◌, Bool, true, false, List, [], ◌∷◌, ◌++◌, length, take, drop, append_assoc, length-append, refl, sym, ap, subst, ◌∙◌, arith}
use Rattle.std.proofs.lemmas.List.{append-nil}
use Rattle.std.specs.Prelude.{Some, None, if◌then◌else◌}
use Rattle.ucon_model.specs.declared.command.Entry.{Entry}
use Rattle.ucon_model.specs.Action.{Trace}
use Rattle.ucon_model.specs.Block.{after, reply}
use Rattle.ucon_model.specs.History.{History, changes, trace_from}
use Rattle.ucon_model.specs.LegalRun.{Answered, placed}
use Rattle.ucon_model.specs.Plain.{PlainPolicy, PlainReply}
use Rattle.ucon_model.specs.Views.{reply_of}
use Rattle.ucon_store.specs.Batched.{answers, answers_after, changing_after}
use Rattle.ucon_store.specs.declared.batch.BatchEnd.{BatchEnd}
use Rattle.ucon_store.specs.declared.batch.BatchEnd.TheVariants as ends
use Rattle.ucon_store.specs.declared.placed.Placed.{Placed}
use Rattle.ucon_store.specs.Kept.{Kept}
use Rattle.ucon_converse.specs.Reached.{IsStepAt, MayStop, Reached, StepEachAt, led_on, reached_by}
use Rattle.ucon_converse.specs.Together.{all_stopped, answered_so, broken_off, is_answered, replied, unheard_first}
use Rattle.ucon_converse.proofs.Batches.{some_longer}
use Rattle.ucon_converse.proofs.Reaching.{may_same}
use Rattle.ucon_converse.proofs.Tellings.{trace_append}

-- the first line of those that aren't sure, which would change something
first_at : (P : PlainPolicy) (T : Trace) (n taken : ℕ) (lines : List Entry) → n < taken → taken ≤ length lines → changing_after P T (take n lines) ≡ []
    → changing_after P T (take (suc n) lines) ≢ []
    → (e : Entry) × (others : List Entry) × (drop n (take taken lines) ≡ e ∷ others) × (changes (reply P T e.caller e.command) ≡ true)
    × (changing_after P T (take taken lines) ≡ e ∷ changing_after P (after P T e.caller e.command) others)
first_at P T n zero lines lt le none some = absurd (let bad : ⊥ = omega arith in bad)
first_at P T n (suc taken) [] lt le none some = absurd (let bad : ⊥ = omega arith in bad)
first_at P T zero (suc taken) (e ∷ lines) lt le none some = by (changes (reply P T e.caller e.command)) refl
  where
    by : (b : Bool) → changes (reply P T e.caller e.command) ≡ b
        → (e' : Entry) × (others : List Entry) × (e ∷ take taken lines ≡ e' ∷ others) × (changes (reply P T e'.caller e'.command) ≡ true)
        × (changing_after P T (e ∷ take taken lines) ≡ e' ∷ changing_after P (after P T e'.caller e'.command) others)
    by true is = (
      e,
      take taken lines,
      refl,
      is,
      ap (λ (b : Bool). if b then e ∷ changing_after P (after P T e.caller e.command) (take taken lines) else changing_after P T (take taken lines)) is,
    )
    by false is = absurd (some (ap (λ (b : Bool). if b then e ∷ [] else []) is))
first_at P T (suc n) (suc taken) (x ∷ lines) lt le none some =
    by (λ none' some'. first_at P T n taken lines (omega arith) (omega arith) none' some') (changes (reply P T x.caller x.command)) refl none some
  where
    by : (changing_after P T (take n lines) ≡ [] → changing_after P T (take (suc n) lines) ≢ []
        → (e : Entry) × (others : List Entry) × (drop n (take taken lines) ≡ e ∷ others) × (changes (reply P T e.caller e.command) ≡ true)
        × (changing_after P T (take taken lines) ≡ e ∷ changing_after P (after P T e.caller e.command) others))
        → (b : Bool) → changes (reply P T x.caller x.command) ≡ b
        → (if b then x ∷ changing_after P (after P T x.caller x.command) (take n lines) else changing_after P T (take n lines)) ≡ []
        → (if b then x ∷ changing_after P (after P T x.caller x.command) (take (suc n) lines) else changing_after P T (take (suc n) lines)) ≢ []
        → (e : Entry) × (others : List Entry) × (drop n (take taken lines) ≡ e ∷ others) × (changes (reply P T e.caller e.command) ≡ true)
        × ((if changes (reply P T x.caller x.command) then x ∷ changing_after P (after P T x.caller x.command) (take taken lines) else changing_after P T (take taken lines))
        ≡ e ∷ changing_after P (after P T e.caller e.command) others)
    by next true is none' some' = absurd (cc none')
    by next false is none' some' =
        let f = next none' some' in (
          f.0,
          f.1,
          f.2,
          f.3,
          ap (λ (b : Bool). if b then x ∷ changing_after P (after P T x.caller x.command) (take taken lines) else changing_after P T (take taken lines)) is ∙ f.4,
        )

module _ (P : PlainPolicy) where
  -- behind the entries of these lines
  abbrev behind_all : Reached → History → Reached
  behind_all x es = record { actions = trace_from P x.actions es; entries = x.entries + length es; failed = x.failed }

  -- behind one entry
  abbrev behind_one : Reached → Entry → Reached
  behind_one x e = record { actions = after P x.actions e.caller e.command; entries = x.entries + 1; failed = x.failed }

  changed_step : (x : Reached) → x.failed ≡ None → (e : Entry) (p : Placed) → changes (reply P x.actions e.caller e.command) ≡ true → p.place ≡ x.entries + 1
      → reply_of p.reply ≡ reply P x.actions e.caller e.command → (y : Reached) → MayStop (behind_one x e) y
      → IsStepAt P x y (record { line = e; answer = placed p.place (reply_of p.reply) })
  changed_step x none e p is place said y m =
      let led : led_on P x e (reply_of p.reply) ≡ behind_one x e =
      ap (λ (q : PlainReply). if changes q then behind_one x e else x) said ∙ ap (λ (b : Bool). if b then behind_one x e else x) is in
      inl (none, (said, place ∙ ap (λ (z : Reached). z.entries) (sym led), subst (λ (z : Reached). MayStop z y) (sym led) m))

  still_step : (x : Reached) → x.failed ≡ None → (e : Entry) (p : Placed) → changes (reply P x.actions e.caller e.command) ≡ false → p.place ≡ x.entries
      → reply_of p.reply ≡ reply P x.actions e.caller e.command → (y : Reached) → MayStop x y
      → IsStepAt P x y (record { line = e; answer = placed p.place (reply_of p.reply) })
  still_step x none e p is place said y m =
      let led : led_on P x e (reply_of p.reply) ≡ x =
      ap (λ (q : PlainReply). if changes q then behind_one x e else x) said ∙ ap (λ (b : Bool). if b then behind_one x e else x) is in
      inl (none, (said, place ∙ ap (λ (z : Reached). z.entries) (sym led), subst (λ (z : Reached). MayStop z y) (sym led) m))

  -- requests had the next replies, and behind the last a checkpoint may have met a disk fault
  replied_at : (x : Reached) → x.failed ≡ None → (lines : List Entry) (p : Placed) (ps : List Placed)
      → answers (p ∷ ps) ≡ answers_after P x.actions x.entries (take (length (p ∷ ps)) lines) → (last : Reached)
      → MayStop (behind_all x (changing_after P x.actions (take (length (p ∷ ps)) lines))) last → StepEachAt P x (replied lines (p ∷ ps)) last
  replied_at x none [] p ps is last m = absurd (cc is)
  replied_at x none (e ∷ lines) p [] is last m = by (changes (reply P x.actions e.caller e.command)) refl is m
    where
      by : (b : Bool) → changes (reply P x.actions e.caller e.command) ≡ b
          → answers (p ∷ []) ≡ (if b then (x.entries + 1, reply P x.actions e.caller e.command) ∷ [] else (x.entries, reply P x.actions e.caller e.command) ∷ [])
          → MayStop (behind_all x (if b then e ∷ [] else [])) last → StepEachAt P x (replied (e ∷ lines) (p ∷ [])) last
      by true is' told m' =
          let both : ◌≡◌ {A = ℕ × PlainReply} (p.place, reply_of p.reply) (x.entries + 1, reply P x.actions e.caller e.command) = cc told in
          let stop : MayStop (behind_one x e) last = record { actions = m'.actions; entries = let n = m'.entries in omega arith; failed = m'.failed } in
          (last, changed_step x none e p is' (ap (λ (z : ℕ × PlainReply). z.0) both) (ap (λ (z : ℕ × PlainReply). z.1) both) last stop, refl)
      by false is' told m' =
          let both : ◌≡◌ {A = ℕ × PlainReply} (p.place, reply_of p.reply) (x.entries, reply P x.actions e.caller e.command) = cc told in
          let stop : MayStop x last = record { actions = m'.actions; entries = let n = m'.entries in omega arith; failed = m'.failed } in
          (last, still_step x none e p is' (ap (λ (z : ℕ × PlainReply). z.0) both) (ap (λ (z : ℕ × PlainReply). z.1) both) last stop, refl)
  replied_at x none (e ∷ lines) p (q ∷ ps) is last m =
      by (λ told stop. replied_at (behind_one x e) none lines q ps told last stop) (λ told stop. replied_at x none lines q ps told last stop)
      (changes (reply P x.actions e.caller e.command)) refl is m
    where
      by : (answers (q ∷ ps) ≡ answers_after P (after P x.actions e.caller e.command) (x.entries + 1) (take (length (q ∷ ps)) lines) → MayStop (behind_all (behind_one x e) (changing_after P (after P x.actions e.caller e.command) (take (length (q ∷ ps)) lines))) last
          → StepEachAt P (behind_one x e) (replied lines (q ∷ ps)) last)
          → (answers (q ∷ ps) ≡ answers_after P x.actions x.entries (take (length (q ∷ ps)) lines) → MayStop (behind_all x (changing_after P x.actions (take (length (q ∷ ps)) lines))) last
          → StepEachAt P x (replied lines (q ∷ ps)) last)
          → (b : Bool) → changes (reply P x.actions e.caller e.command) ≡ b
          → answers (p ∷ q ∷ ps) ≡ (if b then (x.entries + 1, reply P x.actions e.caller e.command) ∷ answers_after P (after P x.actions e.caller e.command) (x.entries + 1) (take (length (q ∷ ps)) lines)
          else (x.entries, reply P x.actions e.caller e.command) ∷ answers_after P x.actions x.entries (take (length (q ∷ ps)) lines))
          → MayStop (behind_all x (if b then e ∷ changing_after P (after P x.actions e.caller e.command) (take (length (q ∷ ps)) lines) else changing_after P x.actions (take (length (q ∷ ps)) lines))) last
          → StepEachAt P x (replied (e ∷ lines) (p ∷ q ∷ ps)) last
      by with_it without true is' told m' =
          let both : ◌≡◌ {A = ℕ × PlainReply} (p.place, reply_of p.reply) (x.entries + 1, reply P x.actions e.caller e.command) = cc told in
          let others : answers (q ∷ ps) ≡ answers_after P (after P x.actions e.caller e.command) (x.entries + 1) (take (length (q ∷ ps)) lines) = cc told in
          let stop : MayStop (behind_all (behind_one x e) (changing_after P (after P x.actions e.caller e.command) (take (length (q ∷ ps)) lines))) last =
          record { actions = m'.actions; entries = let n = m'.entries in omega arith; failed = m'.failed } in (
            behind_one x e,
            changed_step x none e p is' (ap (λ (z : ℕ × PlainReply). z.0) both) (ap (λ (z : ℕ × PlainReply). z.1) both) (behind_one x e) (may_same (behind_one x e)),
            with_it others stop,
          )
      by with_it without false is' told m' =
          let both : ◌≡◌ {A = ℕ × PlainReply} (p.place, reply_of p.reply) (x.entries, reply P x.actions e.caller e.command) = cc told in
          let others : answers (q ∷ ps) ≡ answers_after P x.actions x.entries (take (length (q ∷ ps)) lines) = cc told in (
            x,
            still_step x none e p is' (ap (λ (z : ℕ × PlainReply). z.0) both) (ap (λ (z : ℕ × PlainReply). z.1) both) x (may_same x),
            without others m',
          )

  -- the same where none of them changed anything
  surely_at : (x : Reached) → x.failed ≡ None → (lines : List Entry) (ps : List Placed) → answers ps ≡ answers_after P x.actions x.entries (take (length ps) lines)
      → changing_after P x.actions (take (length ps) lines) ≡ [] → StepEachAt P x (replied lines ps) x
  surely_at x none lines [] is sure = refl
  surely_at x none lines (p ∷ ps) is sure =
      let same : behind_all x (changing_after P x.actions (take (length (p ∷ ps)) lines)) ≡ behind_all x [] = ap (behind_all x) sure in
      replied_at x none lines p ps is x (subst (λ (z : Reached). MayStop z x) (sym same) (record { actions = refl; entries = omega arith; failed = inl refl }))

  -- ---- a disk fault

  abbrev failing : Trace → ℕ → History → Reached
  failing T n doubt = record { actions = T; entries = n; failed = Some doubt }

  stops_at : (T : Trace) (n : ℕ) (lines : List Entry) (doubt : History) → doubt ≢ []
      → StepEachAt P (failing T n doubt) (all_stopped lines) (failing T n (doubt ++ changing_after P (trace_from P T doubt) lines))
  stops_at T n [] doubt some = ap (failing T n) (sym (append-nil doubt))
  stops_at T n (e ∷ lines) doubt some = by (λ d more. stops_at T n lines d more) (changes (reply P (trace_from P T doubt) e.caller e.command)) refl
    where
      by : ((d : History) → d ≢ [] → StepEachAt P (failing T n d) (all_stopped lines) (failing T n (d ++ changing_after P (trace_from P T d) lines)))
          → (b : Bool) → changes (reply P (trace_from P T doubt) e.caller e.command) ≡ b
          → StepEachAt P (failing T n doubt) (all_stopped (e ∷ lines)) (failing T n (doubt ++ (if changes (reply P (trace_from P T doubt) e.caller e.command) then e ∷ changing_after P (after P (trace_from P T doubt) e.caller e.command) lines else changing_after P (trace_from P T doubt) lines)))
      by others true is =
          let longer : History = doubt ++ e ∷ [] in
          let behind : longer ++ changing_after P (trace_from P T longer) lines ≡ doubt ++ (e ∷ changing_after P (after P (trace_from P T doubt) e.caller e.command) lines) =
          append_assoc doubt (e ∷ []) (changing_after P (trace_from P T longer) lines)
          ∙ ap (λ (U : Trace). doubt ++ (e ∷ changing_after P U lines)) (trace_append P T doubt (e ∷ [])) in (
            failing T n longer,
            inr (refl, refl, inr (record { doubt = doubt; failed = refl; some = some; would_change = is; joined = refl })),
            subst (λ (d : History). StepEachAt P (failing T n longer) (all_stopped lines) (failing T n d)) (behind ∙ ap (λ (b : Bool). doubt ++ (if b then e ∷ changing_after P (after P (trace_from P T doubt) e.caller e.command) lines else changing_after P (trace_from P T doubt) lines)) (sym is))
                (others longer (some_longer doubt e)),
          )
      by others false is = (
        failing T n doubt,
        inr (refl, refl, inl refl),
        subst (λ (d : History). StepEachAt P (failing T n doubt) (all_stopped lines) (failing T n d)) (ap (λ (b : Bool). doubt ++ (if b then e ∷ changing_after P (after P (trace_from P T doubt) e.caller e.command) lines else changing_after P (trace_from P T doubt) lines)) (sym is)) (others doubt some),
      )

  breaks_at : (T : Trace) (n : ℕ) (e : Entry) (lines : List Entry) → changes (reply P T e.caller e.command) ≡ true
      → StepEachAt P (record { actions = T; entries = n; failed = None }) (broken_off (e ∷ lines))
      (failing T n (e ∷ changing_after P (after P T e.caller e.command) lines))
  breaks_at T n e lines would = (
    failing T n (e ∷ []),
    inl (refl, (would, refl)),
    stops_at T n lines (e ∷ []) (λ is. cc is),
  )

  append_at : (first mid last : Reached) (xs ys : List Answered) → StepEachAt P first xs mid → StepEachAt P mid ys last → StepEachAt P first (xs ++ ys) last
  append_at first mid last [] ys p q = subst (λ (s : Reached). StepEachAt P s ys last) (sym p) q
  append_at first mid last (x ∷ xs) ys p q = (p.0, p.1, append_at p.0 mid last xs ys p.2 q)

one_more : (n : ℕ) → n + 1 ≡ suc n
one_more n = omega arith

-- ---- over a store

module _ {D : Type 0} (P : PlainPolicy) (T : Trace) (old new : Kept D) (lines : List Entry) (none : old.mark ≡ None) (before : new.before ≡ old.before) where
  abbrev U : Trace
  U = trace_from P T old.entries

  abbrev count : ℕ
  count = old.before + length old.entries

  abbrev was : Reached
  was = reached_by P T old

  -- what was reached with these entries more
  grown_at : (es : History) → new.entries ≡ old.entries ++ es → new.mark ≡ None → reached_by P T new ≡ behind_all P was es
  grown_at es is mark =
      let longer : old.before + length (old.entries ++ es) ≡ count + length es = omega (arith, length-append old.entries es) in
      λ i. record {
        actions = (ap (trace_from P T) is ∙ trace_append P T old.entries es) i;
        entries = ((λ j. before j + length (is j)) ∙ longer) i;
        failed = (mark ∙ sym none) i;
      }

  some_at : (p : Placed) (ps : List Placed) (taken : ℕ) → answers (p ∷ ps) ≡ answers_after P U count (take (length (p ∷ ps)) lines) → length (p ∷ ps) ≡ taken
      → new.entries ≡ old.entries ++ changing_after P U (take taken lines) → new.mark ≡ None → (last : Reached) → MayStop (reached_by P T new) last
      → StepEachAt P was (replied lines (p ∷ ps)) last
  some_at p ps taken is same all mark last m =
      let entries : new.entries ≡ old.entries ++ changing_after P U (take (length (p ∷ ps)) lines) =
      all ∙ ap (λ (n : ℕ). old.entries ++ changing_after P U (take n lines)) (sym same) in
      replied_at P was none lines p ps is last (subst (λ (z : Reached). MayStop z last) (grown_at (changing_after P U (take (length (p ∷ ps)) lines)) entries mark) m)

  -- lines had replies, and behind the last a checkpoint may have met a disk fault
  pub answered_at : (end : BatchEnd) (ps : List Placed) (taken : ℕ) → is_answered end ps ≡ true → answers ps ≡ answers_after P U count (take (length ps) lines)
      → (end ≢ ends.DiskFault → length ps ≡ taken) → (end ≢ ends.DiskFault → new.entries ≡ old.entries ++ changing_after P U (take taken lines))
      → (end ≢ ends.DiskFault → new.mark ≡ None) → (last : Reached) → MayStop (reached_by P T new) last → StepEachAt P was (answered_so end lines ps taken) last
  answered_at ends.All [] taken holds is same all mark last m = absurd (cc holds)
  answered_at ends.Full [] taken holds is same all mark last m = absurd (cc holds)
  answered_at (ends.NoMemory e) [] taken holds is same all mark last m = absurd (cc holds)
  answered_at ends.DiskFault [] taken holds is same all mark last m = absurd (cc holds)
  answered_at ends.Stopped [] taken holds is same all mark last m = absurd (cc holds)
  answered_at ends.DiskFault (p ∷ ps) taken holds is same all mark last m = absurd (cc holds)
  answered_at ends.Stopped (p ∷ ps) taken holds is same all mark last m = absurd (cc holds)
  answered_at ends.All (p ∷ ps) taken holds is same all mark last m = some_at p ps taken is (same (λ bad. cc bad)) (all (λ bad. cc bad)) (mark (λ bad. cc bad)) last m
  answered_at ends.Full (p ∷ ps) taken holds is same all mark last m = some_at p ps taken is (same (λ bad. cc bad)) (all (λ bad. cc bad)) (mark (λ bad. cc bad)) last m
  answered_at (ends.NoMemory e) (p ∷ ps) taken holds is same all mark last m =
      some_at p ps taken is (same (λ bad. cc bad)) (all (λ bad. cc bad)) (mark (λ bad. cc bad)) last m

  unheard_at : (ls : List Entry) → lines ≡ ls → 0 < length lines → (taken : ℕ) → 0 ≡ taken → new.entries ≡ old.entries ++ changing_after P U (take taken lines) → new.mark ≡ None
      → StepEachAt P was (unheard_first ls) (reached_by P T new)
  unheard_at [] is some taken same all mark = let nothing : length lines ≡ 0 = ap (λ (l : List Entry). length l) is in absurd (let bad : ⊥ = omega arith in bad)
  unheard_at (e ∷ ls) is some taken same all mark =
      let entries : new.entries ≡ old.entries ++ [] = all ∙ ap (λ (n : ℕ). old.entries ++ changing_after P U (take n lines)) (sym same) in
      let there : reached_by P T new ≡ was =
      λ i. record {
        actions = trace_from P T ((entries ∙ append-nil old.entries) i);
        entries = before i + length ((entries ∙ append-nil old.entries) i);
        failed = (mark ∙ sym none) i;
      } in
      (reached_by P T new, inl (none, there), refl)

  failed_at : (ps : List Placed) (taken : ℕ) → answers ps ≡ answers_after P U count (take (length ps) lines) → length ps < taken → taken ≤ length lines
      → new.entries ≡ old.entries → new.mark ≡ Some (changing_after P U (take taken lines)) → changing_after P U (take (length ps) lines) ≡ []
      → changing_after P U (take (length ps + 1) lines) ≢ [] → StepEachAt P was (answered_so ends.DiskFault lines ps taken) (reached_by P T new)
  failed_at ps taken is few within same mark sure first =
      let next : changing_after P U (take (suc (length ps)) lines) ≢ [] = subst (λ (n : ℕ). changing_after P U (take n lines) ≢ []) (one_more (length ps)) first in
      let f = first_at P U (length ps) taken lines few within sure next in
      let clean : Reached = record { actions = U; entries = count; failed = None } in
      let here : clean ≡ was = λ i. record { actions = U; entries = count; failed = sym none i } in
      let there : failing P U count (f.0 ∷ changing_after P (after P U f.0.caller f.0.command) f.1) ≡ reached_by P T new =
      λ i. record { actions = trace_from P T (sym same i); entries = sym before i + length (sym same i); failed = sym (mark ∙ ap Some f.4) i } in
      let broken = subst (λ (z : Reached × List Entry × Reached). StepEachAt P z.0 (broken_off z.1) z.2) (λ i. (here i, sym f.2 i, there i))
      (breaks_at P U count f.0 f.1 f.3) in
      append_at P was was (reached_by P T new) (replied lines ps) (broken_off (drop (length ps) (take taken lines))) (surely_at P was none lines ps is sure) broken

  -- no line had a reply that holds, or the disk failed
  pub unanswered_at : (end : BatchEnd) (ps : List Placed) (taken : ℕ) → is_answered end ps ≡ false → 0 < length lines → (end ≡ ends.Stopped → ⊥)
      → (end ≡ ends.All → taken ≡ length lines) → (end ≡ ends.Full → 0 < taken)
      → answers ps ≡ answers_after P U count (take (length ps) lines) → (end ≢ ends.DiskFault → length ps ≡ taken) → (end ≡ ends.DiskFault → length ps < taken)
      → taken ≤ length lines → (end ≢ ends.DiskFault → new.entries ≡ old.entries ++ changing_after P U (take taken lines)) → (end ≢ ends.DiskFault → new.mark ≡ None)
      → (end ≡ ends.DiskFault → new.entries ≡ old.entries) → (end ≡ ends.DiskFault → new.mark ≡ Some (changing_after P U (take taken lines)))
      → (end ≡ ends.DiskFault → changing_after P U (take (length ps) lines) ≡ []) → (end ≡ ends.DiskFault → changing_after P U (take (length ps + 1) lines) ≢ [])
      → StepEachAt P was (answered_so end lines ps taken) (reached_by P T new)
  unanswered_at ends.All (p ∷ ps) taken fails some halted every full is same few within all mark still failed sure first = absurd (cc fails)
  unanswered_at ends.Full (p ∷ ps) taken fails some halted every full is same few within all mark still failed sure first = absurd (cc fails)
  unanswered_at (ends.NoMemory e) (p ∷ ps) taken fails some halted every full is same few within all mark still failed sure first = absurd (cc fails)
  unanswered_at ends.Stopped ps taken fails some halted every full is same few within all mark still failed sure first = absurd (halted refl)
  unanswered_at ends.All [] taken fails some halted every full is same few within all mark still failed sure first =
      let nothing : 0 ≡ taken = same (λ bad. cc bad) in let total = every refl in absurd (let bad : ⊥ = omega arith in bad)
  unanswered_at ends.Full [] taken fails some halted every full is same few within all mark still failed sure first =
      let nothing : 0 ≡ taken = same (λ bad. cc bad) in let one = full refl in absurd (let bad : ⊥ = omega arith in bad)
  unanswered_at (ends.NoMemory e) [] taken fails some halted every full is same few within all mark still failed sure first =
      unheard_at lines refl some taken (same (λ bad. cc bad)) (all (λ bad. cc bad)) (mark (λ bad. cc bad))
  unanswered_at ends.DiskFault ps taken fails some halted every full is same few within all mark still failed sure first =
      failed_at ps taken is (few refl) within (still refl) (failed refl) (sure refl) (first refl)
