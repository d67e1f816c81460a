-- One answer more, and the parts of all clients.
use Rattle.std.proofs.Common.{◌≡◌, ◌↔◌, ℕ, zero, suc, ◌<◌, Bool, false, append_assoc, List, [], ◌∷◌, ◌++◌, Option, Some, None, Result, Ok, Err, map, length, get_or, refl, sym, ap, ◌∙◌, subst, arith}
use Rattle.std.specs.Prelude.{IsSome, IfOk, IsErrOf, is_some, true, if◌then◌else◌}
use Rattle.std.proofs.lemmas.List.{length-append}
use Rattle.ucon_base.specs.Elements.{Each}
use Rattle.ucon_model.specs.declared.command.Entry.{Entry}
use Rattle.ucon_model.specs.Action.{Trace}
use Rattle.ucon_model.specs.Block.{reply}
use Rattle.ucon_model.specs.declared.command.Caller.{Caller}
use Rattle.ucon_model.specs.declared.command.Command.{Command}
use Rattle.ucon_model.specs.History.{History, changes, trace_from}
use Rattle.ucon_model.specs.Plain.{PlainPolicy}
use Rattle.ucon_script.specs.declared.document.Line.{Line}
use Rattle.ucon_store.specs.declared.placed.Placed.{Placed}
use Rattle.ucon_store.specs.declared.fault.StepFault.{StepFault}
use Rattle.ucon_store.specs.declared.fault.StepFault.TheVariants as faults
use Rattle.ucon_client.specs.declared.answer.Answer.{Answer}
use Rattle.ucon_base.specs.Memory.{out_of_memory}
use Rattle.ucon_store.specs.Kept.{Kept}
use Rattle.ucon_store.specs.Marks.{is_marked, marked, none_marked, one_marked, same_marked}
use Rattle.ucon_store.specs.Starts.{IsStart}
use Rattle.ucon_store.specs.Steps.{IsPlacedBehind, HasFailedBehind}
use Rattle.ucon_client.specs.Answers.{entry_of, answer_of, answered_by}
use Rattle.ucon_client.specs.Clients.{Replies, Stepped, answered}
use Rattle.ucon_disk.specs.Seen.{DiskSeen}

-- ---- what a step answers

no_mark : (mark : Option History) → (IsSome mark → ⊥) → mark ≡ None
no_mark None none = refl
no_mark (Some es) none = absurd (none refl)

grown_so : (b c : Bool) (G H later : History) (e : Entry) → b ≡ c → later ≡ (if c then H ++ e ∷ [] else H)
    → G ++ later ≡ (if b then (G ++ H) ++ e ∷ [] else G ++ H)
grown_so true true G H later e same is = ap (λ (l : History). G ++ l) is ∙ sym (append_assoc G H (e ∷ []))
grown_so false false G H later e same is = ap (λ (l : History). G ++ l) is
grown_so true false G H later e same is = absurd (cc same)
grown_so false true G H later e same is = absurd (cc same)

-- A step's answer, from what the store says of it after a trace that leads to where it begins. Behind a history of as many entries the same has to
-- be said. The store's marks are those of steps.
module _ {D : Type 0} (seen : D → DiskSeen) (policy : Option PlainPolicy) (P : PlainPolicy) (is : policy ≡ Some P) (T : Trace) (says : Replies) (G : History)
    (agree : (K : History) (caller : Caller) (c : Command) → says (G ++ K) caller c ≡ reply P (trace_from P T K) caller c)
    (old new : Kept D) (starts : IsStart P old.point old.before T) (count : length G ≡ old.before) (before : new.before ≡ old.before)
    (m n : Option Entry) (was : old.mark ≡ marked m) (now : new.mark ≡ marked n) (e : Entry) where
  pub answers_step : (said_by : Result Placed StepFault)
      → (IsErrOf said_by faults.Stopped ↔ IsSome old.mark)
      → IfOk said_by (λ p. (Q : PlainPolicy) (U : Trace) → policy ≡ Some Q → IsStart Q old.point old.before U → IsPlacedBehind Q U old new e p)
      → (IsErrOf said_by (faults.NoMemory out_of_memory) → new ≡ old)
      → (IsErrOf said_by faults.Stopped → new ≡ old)
      → (IsErrOf said_by faults.DiskFault → (Q : PlainPolicy) (U : Trace) → policy ≡ Some Q → IsStart Q old.point old.before U → HasFailedBehind seen Q U old new e)
      → Stepped says e (G ++ old.entries) m (G ++ new.entries) n (answer_of (answered_by said_by))
  answers_step (Ok p) stopped placed no_memory still failed =
      let h = placed P T is starts in
      let none : old.mark ≡ None = no_mark old.mark (λ some. let no : Ok p ≡ Err faults.Stopped = stopped.1 some in absurd (cc no)) in
      let said = agree old.entries e.caller e.command in (
        none_marked m (sym was ∙ none),
        h.reply ∙ sym said,
        h.place ∙ omega (arith, before, count, length-append G new.entries),
        grown_so (changes (says (G ++ old.entries) e.caller e.command)) (changes (reply P (trace_from P T old.entries) e.caller e.command)) G old.entries
            new.entries e (ap changes said) h.entries,
        none_marked n (sym now ∙ h.unmarked),
      )
  answers_step (Err (faults.NoMemory w)) stopped placed no_memory still failed =
      let none : old.mark ≡ None = no_mark old.mark (λ some. let no : Err (faults.NoMemory w) ≡ Err faults.Stopped = stopped.1 some in absurd (cc no)) in
      let same : new ≡ old = no_memory refl in
      (none_marked m (sym was ∙ none), ap (λ (s : Kept D). G ++ s.entries) same, none_marked n (sym now ∙ (ap (λ (s : Kept D). s.mark) same ∙ none)))
  answers_step (Err faults.DiskFault) stopped placed no_memory still failed =
      let h = failed refl P T is starts in
      let none : old.mark ≡ None = no_mark old.mark (λ some. let no : Err faults.DiskFault ≡ Err faults.Stopped = stopped.1 some in absurd (cc no)) in (
        none_marked m (sym was ∙ none),
        ap changes (agree old.entries e.caller e.command) ∙ h.would_change,
        ap (λ (l : History). G ++ l) h.entries,
        one_marked n e (sym now ∙ h.mark),
      )
  answers_step (Err faults.Stopped) stopped placed no_memory still failed =
      let same : new ≡ old = still refl in
      let some : is_some m ≡ true = sym (is_marked m) ∙ (ap is_some (sym was) ∙ stopped.0 refl) in
      (some, ap (λ (s : Kept D). G ++ s.entries) same, same_marked n m (sym now ∙ (ap (λ (s : Kept D). s.mark) same ∙ was)))

-- ---- one answer more

pub answered_none : (lines : List Entry) → answered lines [] ≡ []
answered_none [] = refl
answered_none (line ∷ lines) = refl

pub answered_next : (lines : List Line) (answers : List Answer) (line : Line) (a : Answer) → length answers < length lines → line ≡ get_or lines (length answers) line
    → answered (map entry_of lines) (map answer_of (answers ++ a ∷ []))
    ≡ answered (map entry_of lines) (map answer_of answers) ++ record { line = entry_of line; answer = answer_of a } ∷ []
answered_next [] answers line a lt is = absurd (omega arith)
answered_next (l ∷ lines) [] line a lt is = λ i. record { line = entry_of (sym is i); answer = answer_of a } ∷ answered_none (map entry_of lines) i
answered_next (l ∷ lines) (b ∷ answers) line a lt is =
    ap (λ told. record { line = entry_of l; answer = answer_of b } ∷ told) (answered_next lines answers line a (omega arith) is)

-- the line at a place is the client's
pub line_at : (Q : Line → Type 0) (lines : List Line) (n : ℕ) (line : Line) → n < length lines → line ≡ get_or lines n line → Each Q lines → Q line
line_at Q [] n line lt is h = absurd (omega arith)
line_at Q (l ∷ lines) zero line lt is h = subst Q (sym is) h.0
line_at Q (l ∷ lines) (suc n) line lt is h = line_at Q lines n line (omega arith) is h.1

-- ---- all parts

-- lists that agree in each place, by a view
pub same_by_place : {X Y : Type 0} (f : X → Y) (xs ys : List X) → length ys ≡ length xs
    → ((k : ℕ) (d : X) → k < length xs → f (get_or ys k d) ≡ f (get_or xs k d)) → map f ys ≡ map f xs
same_by_place f [] [] long h = refl
same_by_place f [] (y ∷ ys) long h = absurd (omega (arith, long))
same_by_place f (x ∷ xs) [] long h = absurd (omega (arith, long))
same_by_place f (x ∷ xs) (y ∷ ys) long h =
    λ i. h 0 x (omega arith) i ∷ same_by_place f xs ys (omega (arith, long)) (λ k d lt. h (suc k) d (omega (arith, lt))) i
