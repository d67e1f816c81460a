-- What a store has reached behind a trace that leads to where it begins, step by step.
use Rattle.std.proofs.Common.{◌≡◌, ◌≢◌, ◌↔◌, inl, inr, ⊎_elim, true, false, Result, Ok, Err, ℕ, ◌+◌, [], ◌∷◌, ◌++◌, length, length-append, refl, sym, ap, subst, ◌∙◌, arith}
use Rattle.std.specs.Prelude.{Bool, Option, Some, None, IsSome, IfOk, IfErr, IsErrOf, is_ok, if◌then◌else◌}
use Rattle.ucon_base.specs.Memory.{out_of_memory}
use Rattle.ucon_disk.specs.Seen.{DiskSeen}
use Rattle.ucon_model.specs.declared.command.Entry.{Entry}
use Rattle.ucon_model.specs.Action.{Trace}
use Rattle.ucon_model.specs.Block.{after}
use Rattle.ucon_model.specs.History.{History, changes, trace_from}
use Rattle.ucon_model.specs.Plain.{PlainPolicy, PlainReply}
use Rattle.ucon_model.specs.Views.{reply_of}
use Rattle.ucon_store.specs.declared.placed.Placed.{Placed}
use Rattle.ucon_store.specs.declared.fault.StepFault.{StepFault}
use Rattle.ucon_store.specs.declared.fault.StepFault.TheVariants as faults
use Rattle.ucon_store.specs.declared.fault.PointFault.{PointFault}
use Rattle.ucon_store.specs.declared.fault.PointFault.TheVariants as points
use Rattle.ucon_store.specs.Kept.{Kept}
use Rattle.ucon_store.specs.Pointing.{HasFailedPoint, IsSameStore}
use Rattle.ucon_store.specs.Starts.{IsStart}
use Rattle.ucon_store.specs.Steps.{HasFailedBehind, IsPlacedBehind}
use Rattle.ucon_store.specs.Whole.{trace_behind}
use Rattle.ucon_converse.specs.Reached.{IsStepAt, MayStop, Reached, led_on, reached_by}
use Rattle.ucon_converse.specs.Said.{answer_said}
use Rattle.ucon_converse.proofs.Stepping.{not_marked}
use Rattle.ucon_converse.proofs.Tellings.{trace_append}

some_none : {A : Type 0} (a : A) → Some a ≡ None → ⊥
some_none a e = cc e

pub may_same : (x : Reached) → MayStop x x
may_same x = record { actions = refl; entries = refl; failed = inl refl }

pub may_again : (x y z : Reached) → MayStop x y → MayStop y z → MayStop x z
may_again x y z p q = record {
  actions = q.actions ∙ p.actions;
  entries = q.entries ∙ p.entries;
  failed = ⊎_elim
      (λ (same : y.failed ≡ x.failed). ⊎_elim
      (λ (still : z.failed ≡ y.failed). inl (still ∙ same))
      (λ (stops : (y.failed ≡ None) × (z.failed ≡ Some [])). inr (sym same ∙ stops.0, stops.1)) q.failed)
      (λ (stopped : (x.failed ≡ None) × (y.failed ≡ Some [])). ⊎_elim
      (λ (still : z.failed ≡ y.failed). inr (stopped.0, still ∙ stopped.1))
      (λ (stops : (y.failed ≡ None) × (z.failed ≡ Some [])). absurd (some_none {A = History} [] (sym stopped.1 ∙ stops.0))) q.failed) p.failed;
}

-- a reply goes out, and then a checkpoint may meet a disk fault
pub step_rests : (P : PlainPolicy) (x y z : Reached) (e : Entry) (said : Result Placed StepFault) → is_ok said ≡ true
    → IsStepAt P x y (record { line = e; answer = answer_said said }) → MayStop y z → IsStepAt P x z (record { line = e; answer = answer_said said })
step_rests P x y z e (Ok p) ok (inl next) m = inl (next.0, (next.1.0, next.1.1, may_again (led_on P x e (reply_of p.reply)) y z next.1.2 m))
step_rests P x y z e (Ok p) ok (inr bad) m = absurd (cc bad.1)
step_rests P x y z e (Err fault) ok step m = absurd (cc ok)

module _ {D : Type 0} (seen : D → DiskSeen) (P : PlainPolicy) (T : Trace) (old new : Kept D) (before : new.before ≡ old.before) where
  -- the entry is added if the reply changes something
  led_reached : (e : Entry) (r : PlainReply) → new.entries ≡ (if changes r then old.entries ++ e ∷ [] else old.entries) → new.mark ≡ old.mark
      → reached_by P T new ≡ led_on P (reached_by P T old) e r
  led_reached e r entries mark = by (changes r) entries
    where
      by : (b : Bool) → new.entries ≡ (if b then old.entries ++ e ∷ [] else old.entries) → reached_by P T new
          ≡ (if b then record { actions = after P (trace_behind P T old) e.caller e.command; entries = (old.before + length old.entries) + 1; failed = old.mark }
          else reached_by P T old)
      by true is =
          let longer : old.before + length (old.entries ++ e ∷ []) ≡ (old.before + length old.entries) + 1 = omega (arith, length-append old.entries (e ∷ [])) in
          λ i. record {
            actions = (ap (trace_from P T) is ∙ trace_append P T old.entries (e ∷ [])) i;
            entries = ((λ j. before j + length (is j)) ∙ longer) i;
            failed = mark i;
          }
      by false is = λ i. record { actions = trace_from P T (is i); entries = before i + length (is i); failed = mark i }

  -- a step of a store
  pub steps_at : (policy : Option PlainPolicy) → policy ≡ Some P → IsStart P old.point old.before T → (e : Entry) (said : Result Placed StepFault)
      → (IsErrOf said faults.Stopped ↔ IsSome old.mark)
      → IfOk said (λ p. (Q : PlainPolicy) (U : Trace) → policy ≡ Some Q → IsStart Q old.point old.before U → IsPlacedBehind Q U old new e p)
      → (IsErrOf said (faults.NoMemory out_of_memory) → new ≡ old)
      → (IsErrOf said faults.Stopped → new ≡ old)
      → (IsErrOf said faults.DiskFault → (Q : PlainPolicy) (U : Trace) → policy ≡ Some Q → IsStart Q old.point old.before U → HasFailedBehind seen Q U old new e)
      → IsStepAt P (reached_by P T old) (reached_by P T new) (record { line = e; answer = answer_said said })
  steps_at policy is starts e (Ok p) halted placed no_memory still failed =
      let h = placed P T is starts in
      let none : old.mark ≡ None = not_marked old.mark (λ some. let no : Ok p ≡ Err faults.Stopped = halted.1 some in absurd (cc no)) in
      let r = reply_of p.reply in
      let entries : new.entries ≡ (if changes r then old.entries ++ e ∷ [] else old.entries) =
      h.entries ∙ ap (λ (q : PlainReply). if changes q then old.entries ++ e ∷ [] else old.entries) (sym h.reply) in
      let there : reached_by P T new ≡ led_on P (reached_by P T old) e r = led_reached e r entries (h.unmarked ∙ sym none) in
      let rests : MayStop (led_on P (reached_by P T old) e r) (reached_by P T new) =
      subst (λ (x : Reached). MayStop (led_on P (reached_by P T old) e r) x) (sym there) (may_same (led_on P (reached_by P T old) e r)) in
      inl (none, (h.reply, h.place ∙ ap (λ (x : Reached). x.entries) there, rests))
  steps_at policy is starts e (Err (faults.NoMemory m)) halted placed no_memory still failed =
      let none : old.mark ≡ None = not_marked old.mark (λ some. let no : Err (faults.NoMemory m) ≡ Err faults.Stopped = halted.1 some in absurd (cc no)) in
      inl (none, ap (reached_by P T) (no_memory refl))
  steps_at policy is starts e (Err faults.DiskFault) halted placed no_memory still failed =
      let h = failed refl P T is starts in
      let none : old.mark ≡ None = not_marked old.mark (λ some. let no : Err faults.DiskFault ≡ Err faults.Stopped = halted.1 some in absurd (cc no)) in
      inl (
        none,
        (
          h.would_change,
          λ i. record { actions = trace_from P T (h.entries i); entries = before i + length (h.entries i); failed = h.mark i },
        ),
      )
  steps_at policy is starts e (Err faults.Stopped) halted placed no_memory still failed =
      inr (halted.0 refl, refl, inl (ap (reached_by P T) (still refl)))

  same_may : new ≡ old → MayStop (reached_by P T old) (reached_by P T new)
  same_may same = subst (λ (s : Kept D). MayStop (reached_by P T old) (reached_by P T s)) (sym same) (may_same (reached_by P T old))

  -- a checkpoint that a store tried to make
  pub point_still : (said : Result ℕ PointFault) → IfErr said (λ fault. fault ≢ points.DiskFault → new ≡ old)
      → IfOk said (λ n. IsSameStore old new × (n ≡ old.before + length old.entries) × (old.mark ≡ None))
      → (IsErrOf said points.DiskFault → HasFailedPoint seen old new) → MayStop (reached_by P T old) (reached_by P T new)
  point_still (Ok n) same pointed failed =
      let is = pointed.0 in
      record { actions = ap (trace_from P T) is.entries; entries = λ i. before i + length (is.entries i); failed = inl is.mark }
  point_still (Err points.DiskFault) same pointed failed =
      let f = failed refl in
      record { actions = ap (trace_from P T) f.entries; entries = λ i. before i + length (f.entries i); failed = inr (f.unmarked, f.mark) }
  point_still (Err points.Stopped) same pointed failed = same_may (same (λ bad. absurd (cc bad)))
  point_still (Err points.OldJournal) same pointed failed = same_may (same (λ bad. absurd (cc bad)))
  point_still (Err (points.TooLarge size)) same pointed failed = same_may (same (λ bad. absurd (cc bad)))
  point_still (Err (points.NoMemory e)) same pointed failed = same_may (same (λ bad. absurd (cc bad)))
