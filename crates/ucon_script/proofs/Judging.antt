-- Lines of a script that are judged as they come.
use Rattle.std.proofs.Common.{◌≡◌, ◌+◌, ◌<◌, Bool, true, false, List, [], ◌∷◌, ◌++◌, length, refl, sym, ap, ◌∙◌, subst, arith, append_assoc, length-append}
use Rattle.std.specs.Prelude.{Option, None, Some, IfSome, option_to_list, Result, Ok, Err}
use Rattle.std.specs.Io.KnownBytes.{Consumes, IsAtEnd}
use Rattle.std.proofs.KnownBytes.{Consumes-trans}
use Rattle.std.proofs.lemmas.List.{append-nil}
use Rattle.ucon_flow.specs.Lines.{IsBare, first_line}
use Rattle.ucon_flow.specs.Seen.{SourceSeen}
use Rattle.ucon_flow.specs.declared.source.ReadFault.{ReadFault}
use Rattle.ucon_flow.specs.declared.source.ReadFault.TheVariants as reads
use Rattle.ucon_model.specs.Plain.{Bytes}
use Rattle.ucon_model.specs.Document.{DocumentRefusal, ScriptLine, before_next, document_read, line_told, lines_of, script_lines, script_number, script_told}
use Rattle.ucon_syntax.specs.Policies.{accepted}
use Rattle.ucon_script.specs.declared.coming_script.ComingScript.{ComingScript}
use Rattle.ucon_script.specs.declared.doc_fault.DocFault.{DocFault}
use Rattle.ucon_script.specs.declared.doc_fault.DocFault.TheVariants as faults
use Rattle.ucon_script.specs.declared.script_stop.ScriptStop.TheVariants.{Refused}
use Rattle.ucon_script.specs.declared.script_stop.ScriptStop.TheVariants as stops
use Rattle.ucon_base.specs.declared.no_memory.NoMemory.{NoMemory}
use Rattle.ucon_script.specs.Coming.{Coming, text_of, ComesLine, ComeLines, Gives, HoldsMore, MayCome, lines_left, HasOpened}
use Rattle.ucon_script.specs.ComingScript.{told_next, told_left, Says, IsRefusal, StopsBy, Stops, IsFedBy, IsFedToFaultBy, IsFedToLimitBy, IsFedToRefusalBy, IsFedWholeBy}
use Rattle.ucon_script.specs.Document.{IsCause}
use Rattle.ucon_script.specs.Lines.{after_told, client_after, count_after, told_from}
use Rattle.ucon_script.specs.Stopping.{stop_of_line, stop_of_reading}
use Rattle.ucon_script.proofs.Arriving.{line_ends, more_lines, no_line, one_line, only_line, takes_line}
use Rattle.ucon_script.proofs.Scripts.{cause_stays, told_below}

-- ---- one line

one_told : (o : Option ScriptLine) (r : Result (List ScriptLine) DocumentRefusal) → before_next (Ok o) r ≡ after_told (option_to_list o) r
one_told o (Ok next) = refl
one_told o (Err e) = refl

pub twice_told : (told next : List ScriptLine) (r : Result (List ScriptLine) DocumentRefusal) → after_told told (after_told next r) ≡ after_told (told ++ next) r
twice_told told next (Ok rest) = ap (λ (l : List ScriptLine). Ok l) (sym (append_assoc told next rest))
twice_told told next (Err e) = refl

-- the refusal of its first line is that of a script
pub first_refused : (s : ComingScript) (text : Bytes) (next : List Bytes) (f : DocFault)
    → IsCause (line_told accepted s.reader.number s.reader.client s.reader.said text) f → IsCause (told_next s (text ∷ next)) f
first_refused s text next f cause =
    cause_stays f (line_told accepted s.reader.number s.reader.client s.reader.said text) (told_next s (text ∷ next))
    (λ r e. ap (λ (l : Result (Option ScriptLine) DocumentRefusal). before_next l (told_from (s.reader.number + 1) (client_after s.reader.client text) (count_after s.reader.said text) next)) e)
    cause

module _ {S : Type 0} (seen : S → SourceSeen) where
  pub one_said : (old new : ComingScript) (first last : S) (line text : Bytes) (o : Option ScriptLine) → old.lines.over ≡ false
      → ComesLine seen old.lines new.lines first last line → text ≡ text_of line
      → line_told accepted old.reader.number old.reader.client old.reader.said text ≡ Ok o
      → new.reader.number ≡ old.reader.number + 1 → new.reader.client ≡ client_after old.reader.client text
      → new.reader.said ≡ count_after old.reader.said text → Says seen old new first last (option_to_list o)
  one_said old new first last line text o running comes cut told number client said = record {
    given = text ∷ [];
    come = subst (λ (t : Bytes). ComeLines seen old.lines new.lines first last (t ∷ [])) (sym cut) (one_line seen old.lines new.lines first last line running comes);
    says = λ next. rw (told, number, client, said) (one_told o (told_from (old.reader.number + 1) (client_after old.reader.client text) (count_after old.reader.said text) next));
  }

  -- nothing was read yet
  pub nothing_said : (s : ComingScript) (at : S) → Says seen s s at at []
  nothing_said s at = record { given = []; come = no_line seen s.lines at; says = λ next. same (told_next s next) }
    where
      same : (r : Result (List ScriptLine) DocumentRefusal) → r ≡ after_told [] r
      same (Ok next) = refl
      same (Err e) = refl

  pub more_said : (a b c : ComingScript) (first mid last : S) (told next : List ScriptLine) → b.lines.over ≡ false
      → Says seen a b first mid told → Says seen b c mid last next → Says seen a c first last (told ++ next)
  more_said a b c first mid last told next running s t = record {
    given = s.given ++ t.given;
    come = more_lines seen a.lines b.lines c.lines first mid last s.given t.given running s.come t.come;
    says = λ rest.
        ap (λ (l : List Bytes). told_next a l) (append_assoc s.given t.given rest)
        ∙ (s.says (t.given ++ rest) ∙ (ap (λ (r : Result (List ScriptLine) DocumentRefusal). after_told told r) (t.says rest) ∙ twice_told told next (told_next c rest)));
  }

  -- ---- what stops

  by_line : (old new : ComingScript) (read line : Bytes) (f : DocFault) → Gives old.lines new.lines read (line ∷ [])
      → ((next : List Bytes) → IsCause (told_next old (line ∷ next)) f) → StopsBy old new read (stop_of_line f)
  by_line old new read line (faults.NoMemory e) given cause = tt
  by_line old new read line (faults.BadHeading n) given cause = record { line = line; given = given; refused = cause }
  by_line old new read line (faults.BadLine n f) given cause = record { line = line; given = given; refused = cause }
  by_line old new read line (faults.TooManyClients n) given cause = record { line = line; given = given; refused = cause }
  by_line old new read line (faults.TooManyLines n) given cause = record { line = line; given = given; refused = cause }

  pub line_stops : (old new : ComingScript) (first last : S) (line text : Bytes) (f : DocFault) → old.lines.over ≡ false
      → ComesLine seen old.lines new.lines first last line → text ≡ text_of line
      → IsCause (line_told accepted old.reader.number old.reader.client old.reader.said text) f → Stops seen old new first last (stop_of_line f)
  line_stops old new first last line text f running comes cut cause =
      let one = one_line seen old.lines new.lines first last line running comes in
      let caused = subst (λ (t : Bytes). IsCause (line_told accepted old.reader.number old.reader.client old.reader.said t) f) cut cause in record {
        read = one.read;
        takes = one.takes;
        by = by_line old new one.read (text_of line) f one.lines (λ next. first_refused old (text_of line) next f caused);
        at_end = one.at_end;
      }

  -- there was no memory for a line's command
  pub memory_stops : (old new : ComingScript) (first last : S) (line : Bytes) (want : NoMemory) → ComesLine seen old.lines new.lines first last line
      → Stops seen old new first last (stops.NoMemory want)
  memory_stops old new first last line want comes = record { read = comes.read; takes = takes_line seen old.lines new.lines first last line comes; by = tt; at_end = line_ends seen old.lines new.lines first last line comes }

  by_reading : (old new : ComingScript) (read : Bytes) (f : ReadFault) → (f ≡ reads.TooLong → old.lines.room < length (first_line (old.lines.held ++ read)))
      → (f ≡ reads.SourceFault → IsBare (old.lines.held ++ read))
      → StopsBy old new read (stop_of_reading f)
  by_reading old new read reads.SourceFault long bare = bare refl
  by_reading old new read reads.TooLong long bare = long refl
  by_reading old new read (reads.NoMemory e) long bare = tt

  pub reading_stops : (old new : ComingScript) (first last : S) (f : ReadFault) → HoldsMore seen old.lines new.lines first last
      → (f ≡ reads.TooLong → new.lines.room < length (first_line new.lines.held)) → (f ≡ reads.SourceFault → IsBare new.lines.held) → Stops seen old new first last (stop_of_reading f)
  reading_stops old new first last f h long bare =
      let kept : new.lines.room ≡ old.lines.room = ap (λ (c : Coming). c.room) h.same in
      let held : new.lines.held ≡ old.lines.held ++ h.read = ap (λ (c : Coming). c.held) h.same in
      record {
        read = h.read;
        takes = record { consumed = h.consumed; out = []; all = sym held; room = omega (arith, kept) };
        by = by_reading old new h.read f (λ e. omega (arith, long e, kept, ap (λ (x : Bytes). length (first_line x)) held)) (λ e. subst IsBare held (bare e));
        at_end = λ running over. absurd (cc (running, ap (λ (c : Coming). c.over) h.same, over));
      }

  -- ---- a document

  told_refusal : (told : List ScriptLine) (r : Result (List ScriptLine) DocumentRefusal) (f : DocFault) → IsRefusal r f → IsRefusal (after_told told r) f
  told_refusal told r (faults.NoMemory e) refused = refused
  told_refusal told r (faults.BadHeading n) refused = cause_stays (faults.BadHeading n) r (after_told told r) (λ x e. ap (after_told told) e) refused
  told_refusal told r (faults.BadLine n f) refused = cause_stays (faults.BadLine n f) r (after_told told r) (λ x e. ap (after_told told) e) refused
  told_refusal told r (faults.TooManyClients n) refused = cause_stays (faults.TooManyClients n) r (after_told told r) (λ x e. ap (after_told told) e) refused
  told_refusal told r (faults.TooManyLines n) refused = cause_stays (faults.TooManyLines n) r (after_told told r) (λ x e. ap (after_told told) e) refused

  nil_front : (xs ys : List Bytes) → xs ++ ys ≡ [] → xs ≡ []
  nil_front [] ys e = refl
  nil_front (x ∷ xs) ys e = absurd (cc e)

  -- what the lines say that were given out
  said_all : (a b : ComingScript) (first last : S) (told : List ScriptLine) → (s : Says seen a b first last told) → told_next a s.given ≡ Ok told
  said_all a b first last told s =
      ap (λ (l : List Bytes). told_next a l) (sym (append-nil s.given)) ∙ (s.says [] ∙ ap (λ (l : List ScriptLine). Ok l) (append-nil told))

  -- what comes behind the policy part
  may_open : (a b : ComingScript) (first last : S) (told : List ScriptLine) (s : Says seen a b first last told) (more : Bytes) → MayCome b.lines more → MayCome a.lines (s.come.read ++ more)
  may_open a b first last told s more may over =
      let e = s.come.ended over in
      let none : more ≡ [] = may (ap (λ (c : Coming). c.over) e.0 ∙ over) in
      rw (e.1, none) refl

  -- the lines that were given out say this from the script's first line on
  all_said : (policy : Bytes) (a b : ComingScript) (first mid last : S) (told : List ScriptLine) (more : Bytes)
      → (o : HasOpened seen policy a.lines a.reader.number first mid) → a.reader.client ≡ None → a.reader.said ≡ 0
      → (s : Says seen a b mid last told) → MayCome b.lines more → (over : Bool) → a.lines.over ≡ over
      → script_told accepted (script_number (lines_of (o.read ++ (s.come.read ++ more)))) [] s.given ≡ Ok told
  all_said policy a b first mid last told more o client said s may false e =
      let counted : script_number (lines_of (o.read ++ (s.come.read ++ more))) ≡ a.reader.number = o.opens.numbered (s.come.read ++ more) e in
      rw counted (sym (told_below [] s.given a.reader.number) ∙ rw (client, said) at (said_all a b mid last told s))
  all_said policy a b first mid last told more o client said s may true e =
      let nothing : s.given ++ lines_left b.lines more ≡ [] = sym (s.come.lines more may) ∙ rw e refl in
      let none : s.given ≡ [] = nil_front s.given (lines_left b.lines more) nothing in
      let empty : Ok [] ≡ Ok told = rw none at (said_all a b mid last told s) in
      rw none empty

  pub fed : (policy : Bytes) (a b : ComingScript) (first mid last : S) (told : List ScriptLine) (more : Bytes)
      → (o : HasOpened seen policy a.lines a.reader.number first mid) → a.reader.client ≡ None → a.reader.said ≡ 0
      → (s : Says seen a b mid last told) → MayCome b.lines more → IsFedBy accepted (o.read ++ (s.come.read ++ more)) told
  fed policy a b first mid last told more o client said s may =
      let bytes : Bytes = o.read ++ (s.come.read ++ more) in
      let left : script_lines (lines_of bytes) ≡ lines_left a.lines (s.come.read ++ more) = o.opens.script (s.come.read ++ more) (may_open a b mid last told s more may) in record {
        given = s.given;
        rest = lines_left b.lines more;
        script_is = left ∙ s.come.lines more may;
        says = all_said policy a b first mid last told more o client said s may a.lines.over refl;
      }

  -- what a document says is what the lines say that were given out, and what those say that come next
  document_is : (policy : Bytes) (a b : ComingScript) (first mid last : S) (told : List ScriptLine) (more : Bytes)
      → (o : HasOpened seen policy a.lines a.reader.number first mid) → a.reader.client ≡ None → a.reader.said ≡ 0 → a.lines.over ≡ false
      → (s : Says seen a b mid last told) → MayCome b.lines more
      → document_read accepted (o.read ++ (s.come.read ++ more)) ≡ after_told told (told_left b more)
  unfolding document_read
  document_is policy a b first mid last told more o client said running s may =
      let bytes : Bytes = o.read ++ (s.come.read ++ more) in
      let counted : script_number (lines_of bytes) ≡ a.reader.number = o.opens.numbered (s.come.read ++ more) running in
      let left : script_lines (lines_of bytes) ≡ s.given ++ lines_left b.lines more =
      o.opens.script (s.come.read ++ more) (λ over. absurd (cc (running, over))) ∙ s.come.lines more may in
      rw (counted, left) (sym (told_below [] (s.given ++ lines_left b.lines more) a.reader.number) ∙ rw (client, said) at (s.says (lines_left b.lines more)))

  -- a document without a divider says nothing
  nothing_read : (policy : Bytes) (a b : ComingScript) (first mid last : S) (told : List ScriptLine)
      → (o : HasOpened seen policy a.lines a.reader.number first mid) → a.reader.client ≡ None → a.reader.said ≡ 0
      → (s : Says seen a b mid last told) → a.lines.over ≡ true → document_read accepted (o.read ++ s.come.read) ≡ Ok told
  unfolding document_read
  nothing_read policy a b first mid last told o client said s over =
      let e = s.come.ended over in
      let ends : b.lines.over ≡ true = ap (λ (c : Coming). c.over) e.0 ∙ over in
      let none : script_lines (lines_of (o.read ++ s.come.read)) ≡ [] =
      rw e.1 (o.opens.script [] (λ _. refl) ∙ rw over refl) in
      let given : s.given ++ lines_left b.lines [] ≡ [] = sym (s.come.lines [] (λ _. refl)) ∙ rw over refl in
      let nothing : s.given ≡ [] = nil_front s.given (lines_left b.lines []) given in
      rw none (rw nothing at (said_all a b mid last told s))

  runs_before : (a b : ComingScript) (first last : S) (told : List ScriptLine) → (s : Says seen a b first last told) → b.lines.over ≡ false → a.lines.over ≡ false
  runs_before a b first last told s running = by_over a.lines.over refl
    where
      by_over : (over : Bool) → a.lines.over ≡ over → over ≡ false
      by_over false e = refl
      by_over true e = absurd (cc (running, ap (λ (c : Coming). c.over) (s.come.ended e).0, e))

  whole : (policy : Bytes) (a b : ComingScript) (first mid last : S) (told : List ScriptLine)
      → (o : HasOpened seen policy a.lines a.reader.number first mid) → a.reader.client ≡ None → a.reader.said ≡ 0
      → (s : Says seen a b mid last told) → b.lines.over ≡ true → document_read accepted (o.read ++ s.come.read) ≡ Ok told
  whole policy a b first mid last told o client said s over = by_over a.lines.over refl
    where
      last_told : after_told told (told_left b []) ≡ Ok told
      last_told = rw over (ap (λ (l : List ScriptLine). Ok l) (append-nil told))

      by_over : (running : Bool) → a.lines.over ≡ running → document_read accepted (o.read ++ s.come.read) ≡ Ok told
      by_over false e =
          ap (λ (r : Bytes). document_read accepted (o.read ++ r)) (sym (append-nil s.come.read))
          ∙ (document_is policy a b first mid last told [] o client said e s (λ _. refl) ∙ last_told)
      by_over true e = nothing_read policy a b first mid last told o client said s e

  all_read : (input left : Option Bytes) (read : Bytes) → Consumes input left read → IsAtEnd left → IfSome input (λ known. known ≡ read)
  all_read None left read c e = tt
  all_read (Some x) None read c e = absurd c
  all_read (Some x) (Some y) read c e = c ∙ (ap (λ (l : Bytes). read ++ l) e ∙ append-nil read)

  pub to_end : (policy : Bytes) (a b : ComingScript) (first mid last : S) (told : List ScriptLine)
      → (o : HasOpened seen policy a.lines a.reader.number first mid) → a.reader.client ≡ None → a.reader.said ≡ 0
      → (s : Says seen a b mid last told) → b.lines.over ≡ true → IsFedWholeBy accepted (seen first).left (o.read ++ s.come.read) told
  to_end policy a b first mid last told o client said s over = by_over a.lines.over refl
    where
      opened : length o.read ≡ length o.front + length a.lines.held
      opened = ap (λ (x : Bytes). length x) o.all ∙ length-append o.front a.lines.held

      given : length a.lines.held + length s.come.read ≡ length s.come.takes.out + length b.lines.held
      given = sym (length-append a.lines.held s.come.read) ∙ (ap (λ (x : Bytes). length x) s.come.takes.all ∙ length-append s.come.takes.out b.lines.held)

      by_over : (running : Bool) → a.lines.over ≡ running → IsFedWholeBy accepted (seen first).left (o.read ++ s.come.read) told
      by_over false e =
          let ended = s.come.at_end e over in
          record {
            all = all_read (seen first).left (seen last).left (o.read ++ s.come.read)
                (Consumes-trans (seen first).left (seen mid).left (seen last).left o.read s.come.read o.consumed s.come.takes.consumed) ended.1;
            short = omega (arith, opened, given, o.room, s.come.takes.room, ap (λ (x : Bytes). length x) ended.0, length-append o.read s.come.read);
            says = whole policy a b first mid last told o client said s over;
          }
      by_over true e =
          let ended = o.at_end e in
          let nothing = (s.come.ended e).1 in
          record {
            all = rw nothing (rw (append-nil o.read) (all_read (seen first).left (seen mid).left o.read o.consumed ended.1));
            short = rw nothing (omega (arith, opened, o.room, ap (λ (x : Bytes). length x) ended.0, ap (λ (x : Bytes). length x) (append-nil o.read)));
            says = whole policy a b first mid last told o client said s over;
          }

  module _ (policy : Bytes) (a b c : ComingScript) (first mid at last : S) (told : List ScriptLine) (o : HasOpened seen policy a.lines a.reader.number first mid)
      (client : a.reader.client ≡ None) (count : a.reader.said ≡ 0) (s : Says seen a b mid at told) (running : b.lines.over ≡ false) where
    may_all : (more : Bytes) → MayCome b.lines more
    may_all more over = absurd (cc (running, over))

    script_at : (more : Bytes) → script_lines (lines_of (o.read ++ (s.come.read ++ more))) ≡ s.given ++ lines_left b.lines more
    script_at more = o.opens.script (s.come.read ++ more) (may_open a b mid at told s more (may_all more)) ∙ s.come.lines more (may_all more)

    says_at : (more : Bytes) → script_told accepted (script_number (lines_of (o.read ++ (s.come.read ++ more)))) [] s.given ≡ Ok told
    says_at more = all_said policy a b first mid at told more o client count s (may_all more) a.lines.over refl

    -- the lines that were given out, and those that come next
    next_told : (more : Bytes) (next : List Bytes) (f : DocFault) → IsRefusal (told_next b next) f
        → IsRefusal (script_told accepted (script_number (lines_of (o.read ++ (s.come.read ++ more)))) [] (s.given ++ next)) f
    next_told more next f refused =
        let counted : script_number (lines_of (o.read ++ (s.come.read ++ more))) ≡ a.reader.number = o.opens.numbered (s.come.read ++ more) (runs_before a b mid at told s running) in
        let said : script_told accepted a.reader.number [] (s.given ++ next) ≡ after_told told (told_next b next) =
        sym (told_below [] (s.given ++ next) a.reader.number) ∙ rw (client, count) at (s.says next) in
        rw counted (subst (λ (d : Result (List ScriptLine) DocumentRefusal). IsRefusal d f) (sym said) (told_refusal told (told_next b next) f refused))

    pub to_refusal : (f : DocFault) (more : Bytes) → (r : Stops seen b c at last (Refused f)) → MayCome c.lines more
        → IsFedToRefusalBy accepted (o.read ++ (s.come.read ++ (r.read ++ more))) f told
    to_refusal f more r may =
        let left : lines_left b.lines (r.read ++ more) ≡ r.by.line ∷ lines_left c.lines more = r.by.given more may in
        let same = document_is policy a b first mid at told (r.read ++ more) o client count (runs_before a b mid at told s running) s (may_all (r.read ++ more)) in
        let next : IsRefusal (told_left b (r.read ++ more)) f =
        subst (λ (ls : List Bytes). IsRefusal (told_next b ls) f) (sym left) (r.by.refused (lines_left c.lines more)) in
        record {
          given = s.given;
          line = r.by.line;
          rest = lines_left c.lines more;
          script_is = script_at (r.read ++ more) ∙ ap (λ (ls : List Bytes). s.given ++ ls) left;
          says = says_at (r.read ++ more);
          first = next_told (r.read ++ more) (r.by.line ∷ []) f (r.by.refused []);
          refused = subst (λ (d : Result (List ScriptLine) DocumentRefusal). IsRefusal d f) (sym same) (told_refusal told (told_left b (r.read ++ more)) f next);
        }

    -- what was read, up to the lines that were not given out
    parts_of : (more : Bytes) → o.read ++ (s.come.read ++ more) ≡ (o.front ++ s.come.takes.out) ++ (b.lines.held ++ more)
    parts_of more =
        ap (λ (x : Bytes). x ++ (s.come.read ++ more)) o.all
        ∙ (append_assoc o.front a.lines.held (s.come.read ++ more)
        ∙ (ap (λ (x : Bytes). o.front ++ x) (sym (append_assoc a.lines.held s.come.read more)
        ∙ (ap (λ (x : Bytes). x ++ more) s.come.takes.all ∙ append_assoc s.come.takes.out b.lines.held more))
        ∙ sym (append_assoc o.front s.come.takes.out (b.lines.held ++ more))))

    left_is : (more : Bytes) → lines_left b.lines more ≡ lines_of (b.lines.held ++ more)
    left_is more = rw running refl

    pub to_limit : (r : Stops seen b c at last stops.TooLong) → IsFedToLimitBy accepted (o.read ++ (s.come.read ++ r.read)) told
    to_limit r =
        let out : length (o.front ++ s.come.takes.out) ≡ length o.front + length s.come.takes.out = length-append o.front s.come.takes.out in
        record {
          front = o.front ++ s.come.takes.out;
          rest = b.lines.held ++ r.read;
          given = s.given;
          read_is = parts_of r.read;
          script_is = script_at r.read ∙ ap (λ (ls : List Bytes). s.given ++ ls) (left_is r.read);
          says = says_at r.read;
          within = omega (arith, out, o.room, s.come.takes.room);
          long = omega (arith, out, o.room, s.come.takes.room, r.by);
        }

    pub to_fault : (r : Stops seen b c at last stops.SourceFault) → IsFedToFaultBy accepted (o.read ++ (s.come.read ++ r.read)) told
    to_fault r =
        record {
          given = s.given;
          begun = b.lines.held ++ r.read;
          bare = r.by;
          script_is = script_at r.read ∙ ap (λ (ls : List Bytes). s.given ++ ls) (left_is r.read ∙ only_line (b.lines.held ++ r.read) r.by);
          says = says_at r.read;
        }
