-- What a store's step says, by its answer; and that its moment doesn't fall.
use Rattle.std.proofs.Common.{◌≡◌, ◌↔◌, true, false, Result, Ok, Err, ℕ, ◌≤◌, List, [], ◌∷◌, ◌++◌, length, refl, sym, ap, subst, ◌∙◌, inl, inr, arith}
use Rattle.std.specs.Prelude.{is_ok, OnErr, OnOk, IsSome, IsOk, IfOk, IsErrOf, Option, Some, None, if◌then◌else◌}
use Rattle.ucon_base.specs.Memory.{out_of_memory}
use Rattle.ucon_disk.specs.Seen.{DiskSeen}
use Rattle.ucon_model.specs.declared.command.Entry.{Entry}
use Rattle.ucon_model.specs.Plain.{Bytes, PlainPolicy, PlainReply}
use Rattle.ucon_model.specs.History.{History, changes, grown}
use Rattle.ucon_model.specs.LegalRun.{history_after}
use Rattle.ucon_store.specs.declared.placed.Placed.{Placed}
use Rattle.ucon_store.specs.declared.fault.StepFault.{StepFault}
use Rattle.ucon_store.specs.declared.fault.StepFault.TheVariants as faults
use Rattle.ucon_store.specs.Kept.{Kept}
use Rattle.ucon_store.specs.Starts.{IsStart}
use Rattle.ucon_store.specs.Stays.{Stays}
use Rattle.ucon_syntax.specs.Policies.{accepted}
use Rattle.ucon_store.specs.Steps.{IsPlaced, HasFailed}
use Rattle.ucon_store.specs.Whole.{IsFront, whole}
use Rattle.ucon_converse.specs.Holding.{stands}
use Rattle.ucon_converse.specs.Keeping.{IsLed, moment_by, moment_of}
use Rattle.ucon_converse.specs.Replies.{GoesOn, IsStep, Rests, Standing}
use Rattle.ucon_converse.specs.Said.{answer_said}

pub not_marked : (mark : Option History) → (IsSome mark → ⊥) → mark ≡ None
not_marked None none = refl
not_marked (Some es) none = absurd (none refl)

pub ok_is : {A E : Type 0} (r : Result A E) → IsOk r → (a : A) × (r ≡ Ok a)
ok_is (Ok a) is = (a, refl)
ok_is (Err e) is = absurd (let no : false ≡ true = is in cc no)

-- there was no memory, and nothing changed
pub no_memory_step : {D : Type 0} (P : PlainPolicy) (G : History) (points : List ℕ) (tried : ℕ) (old new : Kept D) (e : Entry) → old.mark ≡ None → new ≡ old
    → IsStep P (stands G points tried old) (stands G points tried new) (record { line = e; answer = answer_said (Err (faults.NoMemory out_of_memory)) })
no_memory_step P G points tried old new e none same = inl (
  none,
  record {
    failed = None;
    mark = ap (λ (s : Kept _). s.mark) same ∙ none;
    leads = inl (tt, (ap (λ (s : Kept _). G ++ s.entries) same, refl));
    points = refl;
    tried = refl;
  },
)

pub stopped_step : {D : Type 0} (P : PlainPolicy) (G : History) (points : List ℕ) (tried : ℕ) (old new : Kept D) (e : Entry) → IsSome old.mark → new ≡ old
    → IsStep P (stands G points tried old) (stands G points tried new) (record { line = e; answer = answer_said (Err faults.Stopped) })
stopped_step P G points tried old new e some same = inr (some, refl, inl (ap (stands G points tried) same))

module _ {D : Type 0} (seen : D → DiskSeen) (policy : Option PlainPolicy) (P : PlainPolicy) (is : policy ≡ Some P)
    (old new : Kept D) (G : History) (points : List ℕ) (tried : ℕ) (front : IsFront P old G) (e : Entry) where
  -- behind a history that leads to where it begins, a store answers by this and its own entries
  pub store_steps : (said_by : Result Placed StepFault)
      → (IsErrOf said_by faults.Stopped ↔ IsSome old.mark)
      → IfOk said_by (λ p. (Q : PlainPolicy) (F : History) → policy ≡ Some Q → IsFront Q old F → IsPlaced Q (whole F old) (whole F new) e p)
      → (IsErrOf said_by (faults.NoMemory out_of_memory) → new ≡ old)
      → (IsErrOf said_by faults.Stopped → new ≡ old)
      → (IsErrOf said_by faults.DiskFault → (Q : PlainPolicy) (F : History) → policy ≡ Some Q → IsFront Q old F → HasFailed seen Q (whole F old) (whole F new) e)
      → IsStep P (stands G points tried old) (stands G points tried new) (record { line = e; answer = answer_said said_by })
  store_steps (Ok p) halted placed no_memory still failed =
      let h = placed P G is front in
      let H : History = G ++ old.entries in
      let none : old.mark ≡ None = not_marked old.mark (λ some. let no : Ok p ≡ Err faults.Stopped = halted.1 some in absurd (cc no)) in
      let same : history_after H e (answer_said (Ok p)) ≡ grown P H e = ap (λ (reply : PlainReply). if changes reply then H ++ e ∷ [] else H) h.reply in
      inl (
        none,
        record {
          failed = None;
          mark = h.unmarked;
          leads = inl ((h.reply, h.place ∙ ap length (h.entries ∙ sym same)), (h.entries ∙ sym same, refl));
          points = refl;
          tried = refl;
        },
      )
  store_steps (Err (faults.NoMemory m)) halted placed no_memory still failed =
      let none : old.mark ≡ None = not_marked old.mark (λ some. let no : Err (faults.NoMemory m) ≡ Err faults.Stopped = halted.1 some in absurd (cc no)) in
      no_memory_step P G points tried old new e none (no_memory refl)
  store_steps (Err faults.DiskFault) halted placed no_memory still failed =
      let h = failed refl P G is front in
      let none : old.mark ≡ None = not_marked old.mark (λ some. let no : Err faults.DiskFault ≡ Err faults.Stopped = halted.1 some in absurd (cc no)) in
      inl (
        none,
        record {
          failed = Some e;
          mark = h.mark;
          leads = inr (record { failed = refl; would_change = h.would_change; stops = tt }, h.entries, refl);
          points = refl;
          tried = refl;
        },
      )
  store_steps (Err faults.Stopped) halted placed no_memory still failed = stopped_step P G points tried old new e (halted.0 refl) (still refl)

rises : (o p : Option Bytes) (m n : ℕ) → ((file : Bytes) → o ≡ Some file → m ≤ n) → (IsSome o → IsSome p) → moment_by o m ≤ moment_by p n
rises None p m n le tells = omega arith
rises (Some file) None m n le tells = absurd (let no : false ≡ true = tells refl in cc no)
rises (Some file) (Some now) m n le tells = le file refl

-- where a disk tells and goes on telling, its moment doesn't fall
pub moments_rise : (old new : DiskSeen) → ((file : Bytes) → old.contents ≡ Some file → old.moment ≤ new.moment) → (IsSome old.contents → IsSome new.contents)
    → moment_of old ≤ moment_of new
moments_rise old new = rises old.contents new.contents old.moment new.moment

-- ---- behind a step

-- a trace that leads to where a store begins leads to where it begins later
pub led_later : {D : Type 0} (seen : D → DiskSeen) (x y : Kept D) → IsLed x → Stays seen x y → IsLed y
led_later seen x y led stays = record {
  P = led.P;
  accepts = ap accepted stays.policy ∙ led.accepts;
  begun = led.begun;
  starts = subst (λ (z : Option Bytes × ℕ). IsStart led.P z.0 z.1 led.begun) (λ i. (sym stays.point i, sym stays.before i)) led.starts;
}

pub rests_ok : (old : Type 0) (P : PlainPolicy) (text : Bytes) (r : Result Placed StepFault) (before after : Standing) → is_ok r ≡ true → GoesOn old P text before after
    → Rests old P text (answer_said r) before after
rests_ok old P text (Ok p) before after ok goes = goes
rests_ok old P text (Err e) before after ok goes = absurd (cc ok)

pub rests_err : (old : Type 0) (P : PlainPolicy) (text : Bytes) (r : Result Placed StepFault) (s : Standing) → is_ok r ≡ false → Rests old P text (answer_said r) s s
rests_err old P text (Ok p) s bad = absurd (cc bad)
rests_err old P text (Err (faults.NoMemory e)) s bad = refl
rests_err old P text (Err faults.DiskFault) s bad = refl
rests_err old P text (Err faults.Stopped) s bad = refl

pub if_ok : {T E : Type 0} (r : Result T E) (So : T → Type 0) (A : Type 0) → ((v : T) → So v → A) → IfOk r So → OnOk r A
if_ok (Ok v) So A f is = f v is
if_ok (Err e) So A f is = tt

pub on_ok : {T E : Type 0} (r : Result T E) (A : Type 0) → is_ok r ≡ true → OnOk r A → A
on_ok (Ok v) A ok a = a
on_ok (Err e) A ok a = absurd (cc ok)

pub always_err : {T E : Type 0} (r : Result T E) (A : Type 0) → A → OnErr r A
always_err (Ok v) A a = tt
always_err (Err e) A a = a
