-- Lines that were answered over a store by a legal run, and the output of their answers.
use Rattle.std.proofs.Common.{◌≡◌, ℕ, Bool, true, false, true≢false, List, [], ◌∷◌, map, refl, sym, ap, ◌∙◌, inl, subst}
use Rattle.std.specs.Prelude.{◌<◌, ◌||◌, IsTrue, Option, Some, None, if◌then◌else◌, ⊤}
use Rattle.std.specs.Option.{option_to_list}
use Rattle.std.specs.List.{filter, list_any}
use Rattle.std.proofs.lemmas.Bool.{false_from_ne_true, or_parts}
use Rattle.ucon_base.specs.Elements.{Each, each_map}
use Rattle.ucon_model.specs.declared.command.Caller.{Caller}
use Rattle.ucon_model.specs.declared.command.Entry.{Entry}
use Rattle.ucon_model.specs.Action.{Trace}
use Rattle.ucon_model.specs.Plain.{Bytes, PlainPolicy}
use Rattle.ucon_model.specs.Output.{FitsLine, answers_read, output}
use Rattle.ucon_model.specs.Block.{reply}
use Rattle.ucon_model.specs.History.{History, changes, trace_from}
use Rattle.ucon_client.specs.LegalAfter.{IsLegalRunAfter, IsSaidAfter}
use Rattle.ucon_model.specs.LegalRun.{Answered, no_memory, Saw, StaysStopped, AreInOrder, AreNumberedFrom, IsLegalRun, by_place, history_made, in_text_order, is_disk_fault, is_stopped, recorded}
use Rattle.ucon_model.specs.StoredRun.{LeadsTo, failed_line}
use Rattle.ucon_store.specs.Kept.{Kept}
use Rattle.ucon_store.specs.Marks.{marked}
use Rattle.ucon_store.specs.Starts.{IsStart}
use Rattle.ucon_store.specs.Whole.{IsFront, trace_behind, whole}
use Rattle.ucon_client.specs.Clients.{faulted}
use Rattle.ucon_trial.specs.Runs.{IsUnfaulted}
use Rattle.ucon_top.specs.Serial.{AreSerialAfter}
use Rattle.ucon_top.specs.Stepping.{AreAnswered, AreAnsweredAfter, HaveOutput, HaveSteps, AreRunAfter, IsRunAfter, IsRunBetween, entries_of_all}

-- what the laws of runs over a store say
pub record AreLegal : Type 0 where
  pub legal : (P : PlainPolicy) (G : History) (told : List Answered) (H : History) (failed : Option Entry) → LeadsTo P G told H failed → IsLegalRun P in_text_order G told
  pub made : (P : PlainPolicy) (G : History) (told : List Answered) (H : History) (failed : Option Entry) → LeadsTo P G told H failed → history_made G told ≡ H
  pub failed : (P : PlainPolicy) (G : History) (told : List Answered) (H : History) (failed : Option Entry) → LeadsTo P G told H failed → failed_line told ≡ failed

-- who sees fewer answers is owed less
fewer_seen : (sees : Caller → Caller → Bool) (told : List Answered) → AreInOrder in_text_order told → AreInOrder sees told
fewer_seen sees [] h = tt
fewer_seen sees (t ∷ told) h = (
  each_map (λ (later : Answered). IsTrue (in_text_order t.line.caller later.line.caller) → Saw t.answer later.answer × StaysStopped t.answer later.answer)
      (λ (later : Answered). IsTrue (sees t.line.caller later.line.caller) → Saw t.answer later.answer × StaysStopped t.answer later.answer)
      (λ later owed seen. owed refl) told h.0,
  fewer_seen sees told h.1,
)

abbrev wants_memory : Entry → Answered
wants_memory e = record { line = e; answer = no_memory }

lines_wanting : (lines : List Entry) → map (λ (t : Answered). t.line) (map wants_memory lines) ≡ lines
lines_wanting [] = refl
lines_wanting (e ∷ lines) = ap (λ (es : List Entry). e ∷ es) (lines_wanting lines)

serial_wanting : (P : PlainPolicy) (T : Trace) (n : ℕ) (lines : List Entry) → AreSerialAfter P T n (map wants_memory lines)
serial_wanting P T n [] = tt
serial_wanting P T n (e ∷ lines) = inl (tt, serial_wanting P T n lines)

none_failed : (lines : List Entry) → failed_line (map wants_memory lines) ≡ None
none_failed [] = refl
none_failed (e ∷ lines) = none_failed lines

none_recorded : (lines : List Entry) → recorded (map wants_memory lines) ≡ []
none_recorded [] = refl
none_recorded (e ∷ lines) = none_recorded lines

nothing_said : (P : PlainPolicy) (T : Trace) (n : ℕ) (H : History) (lines : List Entry)
    → Each (λ (t : Answered). IsSaidAfter P T n H t.line t.answer) (map wants_memory lines)
nothing_said P T n H [] = tt
nothing_said P T n H (e ∷ lines) = (tt, nothing_said P T n H lines)

nothing_fails : (P : PlainPolicy) (T : Trace) (lines : List Entry)
    → Each (λ (t : Answered). IsTrue (is_disk_fault t.answer) → IsTrue (changes (reply P T t.line.caller t.line.command))) (map wants_memory lines)
nothing_fails P T [] = tt
nothing_fails P T (e ∷ lines) = ((λ fault. absurd (true≢false (sym fault))), nothing_fails P T lines)

leads_nowhere : (P : PlainPolicy) (H : History) (lines : List Entry) → LeadsTo P H (map wants_memory lines) H None
leads_nowhere P H [] = (refl, refl)
leads_nowhere P H (e ∷ lines) = inl (tt, leads_nowhere P H lines)

-- steps in the order of the text, after a trace
pub run_after_steps : {D : Type 0} (P : PlainPolicy) (T : Trace) (old new : Kept D) (told : List Answered) → AreAnsweredAfter P T old new told
    → IsRunAfter in_text_order false P T old new told
run_after_steps P T old new told steps = record { answers = steps.serial; failed = steps.mark }

-- that there was no memory for any line is a run after each trace
legal_wanting : AreLegal → (P : PlainPolicy) (sees : Caller → Caller → Bool) (T : Trace) (n : ℕ) (lines : List Entry)
    → IsLegalRunAfter P sees T n (map wants_memory lines)
legal_wanting laws P sees T n lines =
    let told : List Answered = map wants_memory lines in
    let legal = laws.legal P [] told [] None (leads_nowhere P [] lines) in record {
      places = subst (λ (es : List (ℕ × Entry)). AreNumberedFrom n (by_place es)) (sym (none_recorded lines)) tt;
      replies = nothing_said P T n (history_made [] told) lines;
      order = fewer_seen sees told legal.order;
      causes = record {
        once = legal.causes.once;
        would_change = nothing_fails P (trace_from P T (history_made [] told)) lines;
        by_fault = legal.causes.by_fault;
      };
    }

run_wanting : AreLegal → (P : PlainPolicy) (sees : Caller → Caller → Bool) (threads : Bool) (T : Trace) (n : ℕ) (lines : List Entry)
    → AreRunAfter sees threads P T n (map wants_memory lines)
run_wanting laws P sees true T n lines = legal_wanting laws P sees T n lines
run_wanting laws P sees false T n lines = serial_wanting P T n lines

module _ {D : Type 0} (laws : AreLegal) (P : PlainPolicy) where
  -- steps in the order of the text
  pub run_of_steps : (old new : Kept D) (lines : List Entry) (told : List Answered) → HaveSteps P old new lines told → IsRunBetween in_text_order P old new told
  run_of_steps old new lines told steps = record {
    legal = laws.legal P old.entries told new.entries steps.failed steps.leads;
    made = laws.made P old.entries told new.entries steps.failed steps.leads;
    failed = steps.mark ∙ ap marked (sym (laws.failed P old.entries told new.entries steps.failed steps.leads));
  }

  -- where there is no room for the answers, there was no memory for any line
  unanswered_run : (sees : Caller → Caller → Bool) (store : Kept D) (lines : List Entry) → store.mark ≡ None
      → IsRunBetween sees P store store (map wants_memory lines)
  unanswered_run sees store lines none =
      let run = leads_nowhere P store.entries lines in
      let legal = laws.legal P store.entries (map wants_memory lines) store.entries None run in record {
        legal = record {
          places = legal.places;
          replies = legal.replies;
          order = fewer_seen sees (map wants_memory lines) legal.order;
          causes = legal.causes;
        };
        made = laws.made P store.entries (map wants_memory lines) store.entries None run;
        failed = none ∙ ap marked (sym (laws.failed P store.entries (map wants_memory lines) store.entries None run));
      }

  pub unanswered : (sees : Caller → Caller → Bool) (threads : Bool) (store : Kept D) (lines : List Entry) → store.mark ≡ None
      → AreAnswered sees threads P store store lines (λ told. ⊤)
  unanswered sees threads store lines none = record {
    told = map wants_memory lines;
    lines_are = lines_wanting lines;
    after = λ T starts. record {
      answers = run_wanting laws P sees threads (trace_behind P T store) (entries_of_all store) lines;
      failed = none ∙ ap marked (sym (none_failed lines));
    };
    run = λ G front. unanswered_run sees (whole G store) lines none;
    is_so = tt;
  }

-- ---- where no line met a disk fault, none was stopped

by_head : (b : Bool) (e : Entry) (rest : Option Entry) (any : Bool) → (if b then Some e else rest) ≡ None → (rest ≡ None → any ≡ false) → (b || any) ≡ false
by_head true e rest any none tails = absurd (cc none)
by_head false e rest any none tails = tails none

no_fault : (told : List Answered) → failed_line told ≡ None → list_any (λ t. is_disk_fault t.answer) told ≡ false
no_fault [] none = refl
no_fault (t ∷ told) none = by_head (is_disk_fault t.answer) t.line (failed_line told) (list_any (λ t. is_disk_fault t.answer) told) none (no_fault told)

each_unfaulted : (told : List Answered) → list_any (λ t. is_disk_fault t.answer) told ≡ false → list_any (λ t. is_stopped t.answer) told ≡ false → IsUnfaulted told
each_unfaulted [] faults stops = tt
each_unfaulted (t ∷ told) faults stops =
    let fault = or_parts (is_disk_fault t.answer) (list_any (λ t. is_disk_fault t.answer) told) faults in
    let stop = or_parts (is_stopped t.answer) (list_any (λ t. is_stopped t.answer) told) stops in ((fault.0, stop.0), each_unfaulted told fault.1 stop.1)

pub none_faulted : (P : PlainPolicy) (sees : Caller → Caller → Bool) (T : Trace) (n : ℕ) (told : List Answered) → IsLegalRunAfter P sees T n told
    → failed_line told ≡ None → IsUnfaulted told
none_faulted P sees T n told legal none =
    let faults = no_fault told none in
    each_unfaulted told faults (false_from_ne_true (list_any (λ t. is_stopped t.answer) told)
    (λ stopped. let bad : true ≡ false = sym (legal.causes.by_fault stopped) ∙ faults in absurd (cc bad)))

-- ---- the output

abbrev pub AreReadBack : Type 0
AreReadBack = (told : List Answered) → Each (λ t. FitsLine t.answer) told → Each (λ t. t.line.caller.0 < 256) told
    → answers_read (map (λ t. t.line) told) (output told) ≡ Some told

module _ {D : Type 0} (sees : Caller → Caller → Bool) (threads : Bool) (P : PlainPolicy) (old new : Kept D) (lines : List Entry) (told : List Answered)
    (lines_are : map (λ (t : Answered). t.line) told ≡ lines)
    (after : (T : Trace) → IsStart P old.point old.before T → IsRunAfter sees threads P T old new told)
    (run : (G : History) → IsFront P old G → IsRunBetween sees P (whole G old) (whole G new) told) where
  -- the output of answers is read back
  pub text_read : AreReadBack → (text : Bytes) → text ≡ output told → Each (λ t. FitsLine t.answer) told → Each (λ t. t.line.caller.0 < 256) told
      → AreAnswered sees threads P old new lines (HaveOutput (λ out. out ≡ text) lines)
  text_read back text is fits clients = record {
    told = told;
    lines_are = lines_are;
    after = after;
    run = run;
    is_so = (ap (λ (es : List Entry). answers_read es (output told)) (sym lines_are) ∙ back told fits clients, sym is);
  }

  -- answers that are not written
  pub untold : AreAnswered sees threads P old new lines (λ told. ⊤)
  untold = record { told = told; lines_are = lines_are; after = after; run = run; is_so = tt }

-- ---- the line that failed

failed_by : (b : Bool) (t : Answered) (told : List Answered) (mark : Option Entry)
    → (map (λ (s : Answered). s.line) (filter (λ (s : Answered). is_disk_fault s.answer) told) ≡ option_to_list mark → failed_line told ≡ mark)
    → map (λ (s : Answered). s.line) (if b then t ∷ filter (λ (s : Answered). is_disk_fault s.answer) told else filter (λ (s : Answered). is_disk_fault s.answer) told) ≡ option_to_list mark
    → (if b then Some t.line else failed_line told) ≡ mark
failed_by true t told None later is = absurd (cc is)
failed_by true t told (Some e) later is = let same : t.line ≡ e = cc (is) in ap Some same
failed_by false t told mark later is = later is

-- where the lines that met a disk fault are one at most, the first one is that
pub failed_first : (told : List Answered) (mark : Option Entry) → faulted told ≡ option_to_list mark → failed_line told ≡ mark
failed_first [] None is = refl
failed_first [] (Some e) is = absurd (cc is)
failed_first (t ∷ told) mark is = failed_by (is_disk_fault t.answer) t told mark (failed_first told mark) is
