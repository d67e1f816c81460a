-- A script, read line by line.
use Rattle.std.proofs.Common.{◌≡◌, ℕ, ◌+◌, ◌<◌, List, [], ◌∷◌, ◌++◌, length, refl, sym, ap, ◌∙◌, ⊎_elim, arith, append_assoc, length-drop}
use Rattle.std.specs.Prelude.{Option, None, option_to_list, Result, Ok, Err, ◌==◌}
use Rattle.std.specs.List.{position_or_len}
use Rattle.std.proofs.lemmas.List.{append-nil}
use Rattle.ucon_command.specs.declared.line_fault.LineFault.{LineFault}
use Rattle.ucon_command.specs.declared.line_fault.LineFault.TheVariants as faults
use Rattle.ucon_model.specs.declared.command.Caller.{Caller}
use Rattle.ucon_model.specs.Plain.{Bytes}
use Rattle.ucon_model.specs.Document.{ScriptLine, DocumentRefusal, client_below, command_lines, line_told, before_next, script_told, lines_of}
use Rattle.ucon_syntax.specs.Policies.{accepted}
use Rattle.ucon_script.specs.declared.doc_fault.DocFault.{DocFault}
use Rattle.ucon_script.specs.declared.doc_fault.DocFault.TheVariants.{BadHeading, BadLine, TooManyClients, TooManyLines, NoMemory}
use Rattle.ucon_script.specs.Document.{IsLineCause, IsCause}
use Rattle.ucon_script.specs.Lines.{after_told, client_after, count_after, told_from}
use Rattle.ucon_script.proofs.Cuts.{first_line, next_lines, cut_or_last}

-- what is told from a line on is told below the lines above it
pub told_below : (above ls : List Bytes) (n : ℕ) → told_from n (client_below above) (command_lines above) ls ≡ script_told accepted n above ls
told_below above [] n = refl
told_below above (l ∷ ls) n = ap (before_next (line_told accepted n (client_below above) (command_lines above) l)) (told_below (l ∷ above) ls (n + 1))

-- the first line, and those behind it
pub first_told : (n : ℕ) (client : Option Caller) (said : ℕ) (text : Bytes)
    → told_from n client said (lines_of text) ≡ before_next (line_told accepted n client said (first_line text)) (told_from (n + 1) (client_after client (first_line text)) (count_after said (first_line text)) (lines_of (next_lines text)))
first_told n client said text = ⊎_elim (λ cut. rw cut.lines refl) (λ last. rw (last.lines, last.behind) refl) (cut_or_last text)

joined_told : (told : List ScriptLine) (o : Option ScriptLine) (next : Result (List ScriptLine) DocumentRefusal) → after_told (told ++ option_to_list o) next ≡ after_told told (before_next (Ok o) next)
joined_told told o (Ok next) = simp append_assoc refl
joined_told told o (Err r) = refl

-- one line more is told
pub told_more : (told : List ScriptLine) (n : ℕ) (client : Option Caller) (said : ℕ) (text : Bytes) (o : Option ScriptLine) (all : Result (List ScriptLine) DocumentRefusal)
    → after_told told (told_from n client said (lines_of text)) ≡ all → line_told accepted n client said (first_line text) ≡ Ok o
    → after_told (told ++ option_to_list o) (told_from (n + 1) (client_after client (first_line text)) (count_after said (first_line text)) (lines_of (next_lines text))) ≡ all
told_more told n client said text o all h line =
    joined_told told o _ ∙ ap (after_told told) (ap (λ (r : Result (Option ScriptLine) DocumentRefusal). before_next r (told_from (n + 1) (client_after client (first_line text)) (count_after said (first_line text)) (lines_of (next_lines text)))) (sym line) ∙ sym (first_told n client said text)) ∙ h

-- the same of what the code keeps
pub kept : (told told' : List ScriptLine) (n n' : ℕ) (client client' : Option Caller) (said said' : ℕ) (text line next : Bytes) (o : Option ScriptLine) (all : Result (List ScriptLine) DocumentRefusal)
    → after_told told (told_from n client said (lines_of text)) ≡ all → line ≡ first_line text → next ≡ next_lines text
    → line_told accepted n client said line ≡ Ok o → told' ≡ told ++ option_to_list o
    → n' ≡ n + 1 → client' ≡ client_after client line → said' ≡ count_after said line
    → after_told told' (told_from n' client' said' (lines_of next)) ≡ all
kept told told' n n' client client' said said' text line next o all h front back spoken grown number whose count =
    rw (grown, number, whose, count, front, back) (told_more told n client said text o all h (rw front at spoken))

-- some is read of a text that has some
pub shorter : (text next : Bytes) → next ≡ next_lines text → 0 < length text → length next < length text
shorter text next back some = omega (arith, ap length back, length-drop (position_or_len (λ b. b == 10) text + 1) text)

-- the first line that is refused decides
pub refused : (told : List ScriptLine) (n : ℕ) (client : Option Caller) (said : ℕ) (text : Bytes) (all : Result (List ScriptLine) DocumentRefusal) (r : DocumentRefusal)
    → after_told told (told_from n client said (lines_of text)) ≡ all → line_told accepted n client said (first_line text) ≡ Err r → all ≡ Err r
refused told n client said text all r h line =
    let e : told_from n client said (lines_of text) ≡ Err r = first_told n client said text ∙ ap (λ (a : Result (Option ScriptLine) DocumentRefusal). before_next a (told_from (n + 1) (client_after client (first_line text)) (count_after said (first_line text)) (lines_of (next_lines text)))) line in
    sym h ∙ ap (after_told told) e

bad_line_stays : {A B : Type 0} (n : ℕ) (f : LineFault) (a : Result A DocumentRefusal) (b : Result B DocumentRefusal) → ((r : DocumentRefusal) → a ≡ Err r → b ≡ Err r) → IsLineCause n a f → IsLineCause n b f
bad_line_stays n (faults.TooLong k) a b stays h = stays _ h
bad_line_stays n faults.NoWord a b stays h = stays _ h
bad_line_stays n faults.UnknownWord a b stays h = stays _ h
bad_line_stays n (faults.WrongCount k) a b stays h = stays _ h
bad_line_stays n (faults.BadWord p) a b stays h = stays _ h
bad_line_stays n (faults.NoMemory e) a b stays h = absurd h

-- a cause stays where each refusal does
pub cause_stays : {A B : Type 0} (f : DocFault) (a : Result A DocumentRefusal) (b : Result B DocumentRefusal) → ((r : DocumentRefusal) → a ≡ Err r → b ≡ Err r) → IsCause a f → IsCause b f
cause_stays (BadHeading n) a b stays h = stays _ h
cause_stays (BadLine n f) a b stays h = bad_line_stays n f a b stays h
cause_stays (TooManyClients n) a b stays h = stays _ h
cause_stays (TooManyLines n) a b stays h = stays _ h
cause_stays (NoMemory e) a b stays h = tt

-- the fault of a line is that of the whole script
pub line_refused : (told : List ScriptLine) (n : ℕ) (client : Option Caller) (said : ℕ) (text : Bytes) (number : ℕ) (whole : Bytes) (f : DocFault)
    → after_told told (told_from n client said (lines_of text)) ≡ told_from number None 0 (lines_of whole)
    → IsCause (line_told accepted n client said (first_line text)) f → IsCause (script_told accepted number [] (lines_of whole)) f
line_refused told n client said text number whole f h cause =
    cause_stays f (line_told accepted n client said (first_line text)) (script_told accepted number [] (lines_of whole)) (λ r line. sym (told_below [] (lines_of whole) number) ∙ refused told n client said text _ r h line) cause

-- behind the last line all is told
pub all_told : (told : List ScriptLine) (n : ℕ) (client : Option Caller) (said : ℕ) (text : Bytes) (number : ℕ) (whole : Bytes)
    → after_told told (told_from n client said (lines_of text)) ≡ told_from number None 0 (lines_of whole)
    → length text ≡ 0 → script_told accepted number [] (lines_of whole) ≡ Ok told
all_told told n client said (b ∷ bs) number whole h none = absurd (omega (arith, none))
all_told told n client said [] number whole h none = sym (told_below [] (lines_of whole) number) ∙ sym h ∙ ap (λ (ls : List ScriptLine). Ok ls) (append-nil told)
