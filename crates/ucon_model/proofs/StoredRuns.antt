-- A run in text order over a store is a legal run.
use Rattle.std.proofs.Common.{◌≡◌, ℕ, ◌+◌, ◌≤◌, true, List, [], ◌∷◌, ◌++◌, map, length, refl, sym, ap, subst, ◌∙◌, arith, inl, inr}
use Rattle.std.specs.Prelude.{IsTrue, Option, count_by, if◌then◌else◌}
use Rattle.std.specs.List.{fold, list_any}
use Rattle.std.proofs.lemmas.List.{append-nil}
use Rattle.ucon_base.specs.Elements.{Each, each_map}
use Rattle.ucon_model.specs.declared.command.Entry.{Entry}
use Rattle.ucon_model.specs.Plain.{PlainPolicy}
use Rattle.ucon_model.specs.History.{History, said, changes}
use Rattle.ucon_model.specs.LegalRun.{Answer, no_memory, disk_fault, stopped, placed, Answered, with_record, recorded, by_place, history_made, AreNumberedFrom, IsSaid, Saw, StaysStopped, AreInOrder, is_disk_fault, is_stopped, IsLegalRun, in_text_order, history_after}
use Rattle.ucon_model.specs.StoredRun.{failed_line, BreaksOff, LeadsTo}
use Rattle.ucon_model.proofs.SerialRuns.{Has, by_place-numbered, grown_after, has_next, has_still, led_next, led_to, numbered_next, said_next, saw_next, sound_next}

-- ---- lines that are stopped

none_recorded : (told : List Answered) → Each (λ t. t.answer ≡ stopped) told → recorded told ≡ []
none_recorded [] h = refl
none_recorded (t ∷ told) h = ap (λ a. with_record t.line a (recorded told)) h.0 ∙ none_recorded told h.1

broken_recorded : (P : PlainPolicy) (G : History) (t : Answered) (told : List Answered) → BreaksOff P G t told → recorded (t ∷ told) ≡ []
broken_recorded P G t told off = ap (λ a. with_record t.line a (recorded told)) off.failed ∙ none_recorded told off.stops

no_faults_more : (n : ℕ) (told : List Answered) → Each (λ t. t.answer ≡ stopped) told → fold (λ (k : ℕ) (t : Answered). k + (if is_disk_fault t.answer then 1 else 0)) n told ≡ n
no_faults_more n [] h = refl
no_faults_more n (t ∷ told) h = rw h.0 (no_faults_more (n + 0) told h.1 ∙ omega arith)

-- ---- the history that is led to

module _ (P : PlainPolicy) where
  numbered : (G : History) (told : List Answered) (H : History) (failed : Option Entry) → LeadsTo P G told H failed → AreNumberedFrom (length G) (recorded told)
  numbered G [] H failed run = tt
  numbered G (t ∷ told) H failed (inl next) =
      numbered_next P G t.line t.answer (recorded told) next.0 (numbered (history_after G t.line t.answer) told H failed next.1)
  numbered G (t ∷ told) H failed (inr off) = subst (AreNumberedFrom (length G)) (sym (broken_recorded P G t told off.0)) tt

  led : (G : History) (told : List Answered) (H : History) (failed : Option Entry) → LeadsTo P G told H failed → led_to G told ≡ H
  led G [] H failed run = append-nil G ∙ sym run.0
  led G (t ∷ told) H failed (inl next) =
      led_next G t.line t.answer (recorded told) ∙ led (history_after G t.line t.answer) told H failed next.1
  led G (t ∷ told) H failed (inr off) = ap (λ (xs : List (ℕ × Entry)). G ++ map (λ x. x.1) xs) (broken_recorded P G t told off.0) ∙ append-nil G ∙ sym off.1

  marked : (G : History) (told : List Answered) (H : History) (failed : Option Entry) → LeadsTo P G told H failed → failed_line told ≡ failed
  marked G [] H failed run = sym run.1
  marked G (t ∷ told) H failed (inl next) =
      rw (sound_next P G t.line t.answer next.0).0 (marked (history_after G t.line t.answer) told H failed next.1)
  marked G (t ∷ told) H failed (inr off) = rw off.0.failed (sym off.2)

  -- ---- the replies

  all_said : (opening : ℕ) (whole G : History) (told : List Answered) (H : History) (failed : Option Entry) → LeadsTo P G told H failed → opening ≤ length G
      → whole ≡ led_to G told → Each (λ t. IsSaid P opening whole t.line t.answer) told
  all_said opening whole G [] H failed run le e = tt
  all_said opening whole G (t ∷ told) H failed (inl next) le e = (
    said_next P opening whole G (map (λ x. x.1) (recorded (t ∷ told))) t.line t.answer next.0 le e,
    all_said opening whole (history_after G t.line t.answer) told H failed next.1 (omega (arith, le, grown_after G t.line t.answer)) (e ∙ led_next G t.line t.answer (recorded told)),
  )
  all_said opening whole G (t ∷ told) H failed (inr off) le e = (
    subst (IsSaid P opening whole t.line) (sym off.0.failed) tt,
    each_map (λ (x : Answered). x.answer ≡ stopped) (λ (x : Answered). IsSaid P opening whole x.line x.answer) (λ x is. subst (IsSaid P opening whole x.line) (sym is) tt) told off.0.stops,
  )

  -- ---- the order

  -- whoever was told a reply is told nothing more
  saw_stopped : (G : History) (earlier : Answer) → Has G earlier → Saw earlier stopped × StaysStopped earlier stopped
  saw_stopped G no_memory has = (tt, tt)
  saw_stopped G disk_fault has = absurd has
  saw_stopped G stopped has = absurd has
  saw_stopped G (placed place reply) has = (tt, tt)

  saw_fault : (G : History) (earlier : Answer) → Has G earlier → Saw earlier disk_fault × StaysStopped earlier disk_fault
  saw_fault G no_memory has = (tt, tt)
  saw_fault G disk_fault has = absurd has
  saw_fault G stopped has = absurd has
  saw_fault G (placed place reply) has = (tt, tt)

  abbrev Follows : Answer → Answered → Type 0
  Follows earlier later = IsTrue true → Saw earlier later.answer × StaysStopped earlier later.answer

  saw_later : (G : History) (earlier : Answer) (told : List Answered) (H : History) (failed : Option Entry) → Has G earlier → LeadsTo P G told H failed → Each (Follows earlier) told
  saw_later G earlier [] H failed has run = tt
  saw_later G earlier (t ∷ told) H failed has (inl next) = (
    λ sees. saw_next P G t.line earlier t.answer has next.0,
    saw_later (history_after G t.line t.answer) earlier told H failed (has_still G t.line t.answer earlier has) next.1,
  )
  saw_later G earlier (t ∷ told) H failed has (inr off) = (
    λ sees. subst (λ (a : Answer). Saw earlier a × StaysStopped earlier a) (sym off.0.failed) (saw_fault G earlier has),
    each_map (λ (x : Answered). x.answer ≡ stopped) (Follows earlier) (λ x is sees. subst (λ (a : Answer). Saw earlier a × StaysStopped earlier a) (sym is) (saw_stopped G earlier has)) told off.0.stops,
  )

  stopped_by : (earlier : Answer) → ((later : Answer) → later ≡ stopped → Saw earlier later × StaysStopped earlier later) → (told : List Answered)
      → Each (λ t. t.answer ≡ stopped) told → Each (Follows earlier) told
  stopped_by earlier f told h = each_map (λ (x : Answered). x.answer ≡ stopped) (Follows earlier) (λ x is sees. f x.answer is) told h

  stopped_in_order : (told : List Answered) → Each (λ t. t.answer ≡ stopped) told → AreInOrder in_text_order told
  stopped_in_order [] h = tt
  stopped_in_order (t ∷ told) h =
      (subst (λ (a : Answer). Each (Follows a) told) (sym h.0) (stopped_by stopped (λ later is. (tt, is)) told h.1), stopped_in_order told h.1)

  in_order : (G : History) (told : List Answered) (H : History) (failed : Option Entry) → LeadsTo P G told H failed → AreInOrder in_text_order told
  in_order G [] H failed run = tt
  in_order G (t ∷ told) H failed (inl next) = (
    saw_later (history_after G t.line t.answer) t.answer told H failed (has_next P G t.line t.answer next.0) next.1,
    in_order (history_after G t.line t.answer) told H failed next.1,
  )
  in_order G (t ∷ told) H failed (inr off) = (
    subst (λ (a : Answer). Each (Follows a) told) (sym off.0.failed) (stopped_by disk_fault (λ later is. (tt, is)) told off.0.stops),
    stopped_in_order told off.0.stops,
  )

  -- ---- the causes

  once : (G : History) (told : List Answered) (H : History) (failed : Option Entry) → LeadsTo P G told H failed → count_by (λ t. is_disk_fault t.answer) told ≤ 1
  once G [] H failed run = omega arith
  once G (t ∷ told) H failed (inl next) = rw (sound_next P G t.line t.answer next.0).0 (once (history_after G t.line t.answer) told H failed next.1)
  once G (t ∷ told) H failed (inr off) = rw off.0.failed (omega (arith, no_faults_more 1 told off.0.stops))

  abbrev WouldChange : History → Answered → Type 0
  WouldChange whole t = IsTrue (is_disk_fault t.answer) → IsTrue (changes (said P whole t.line.caller t.line.command))

  would_change : (whole G : History) (told : List Answered) (H : History) (failed : Option Entry) → LeadsTo P G told H failed → whole ≡ H → Each (WouldChange whole) told
  would_change whole G [] H failed run e = tt
  would_change whole G (t ∷ told) H failed (inl next) e = (
    λ fault. absurd (let none = (sound_next P G t.line t.answer next.0).0 in (cc)),
    would_change whole (history_after G t.line t.answer) told H failed next.1 e,
  )
  would_change whole G (t ∷ told) H failed (inr off) e = (
    λ fault. subst (λ (K : History). IsTrue (changes (said P K t.line.caller t.line.command))) (sym (e ∙ off.1)) off.0.would_change,
    each_map (λ (x : Answered). x.answer ≡ stopped) (WouldChange whole) (λ x is fault. absurd (let no = ap is_disk_fault is in (cc))) told off.0.stops,
  )

  by_fault : (G : History) (told : List Answered) (H : History) (failed : Option Entry) → LeadsTo P G told H failed
      → IsTrue (list_any (λ t. is_stopped t.answer) told) → IsTrue (list_any (λ t. is_disk_fault t.answer) told)
  by_fault G [] H failed run = λ some. some
  by_fault G (t ∷ told) H failed (inl next) =
      let sound = sound_next P G t.line t.answer next.0 in
      rw (sound.0, sound.1) (by_fault (history_after G t.line t.answer) told H failed next.1)
  by_fault G (t ∷ told) H failed (inr off) = rw off.0.failed (λ some. refl)

  -- ---- the law

  pub stored-legal : (G : History) (told : List Answered) (H : History) (failed : Option Entry) → LeadsTo P G told H failed → IsLegalRun P in_text_order G told
  stored-legal G told H failed run =
      let places : by_place (recorded told) ≡ recorded told = by_place-numbered (length G) (recorded told) (numbered G told H failed run) in
      let made : history_made G told ≡ led_to G told = ap (λ (xs : List (ℕ × Entry)). G ++ map (λ x. x.1) xs) places in
      record {
        places = subst (AreNumberedFrom (length G)) (sym places) (numbered G told H failed run);
        replies = all_said (length G) (history_made G told) G told H failed run (omega arith) made;
        order = in_order G told H failed run;
        causes = record {
          once = once G told H failed run;
          would_change = would_change (history_made G told) G told H failed run (made ∙ led G told H failed run);
          by_fault = by_fault G told H failed run;
        };
      }

  pub stored-made : (G : History) (told : List Answered) (H : History) (failed : Option Entry) → LeadsTo P G told H failed → history_made G told ≡ H
  stored-made G told H failed run =
      ap (λ (xs : List (ℕ × Entry)). G ++ map (λ x. x.1) xs) (by_place-numbered (length G) (recorded told) (numbered G told H failed run)) ∙ led G told H failed run

  pub stored-failed : (G : History) (told : List Answered) (H : History) (failed : Option Entry) → LeadsTo P G told H failed → failed_line told ≡ failed
  stored-failed = marked
