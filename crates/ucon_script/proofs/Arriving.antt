-- Lines that are given out one by one, and the text that they are.
use Rattle.std.proofs.Common.{◌≡◌, ℕ, ◌+◌, ◌<◌, ◌≤◌, Bool, true, false, List, [], ◌∷◌, ◌++◌, length, take, drop, refl, sym, ap, ◌∙◌, subst, ⊎_elim, arith, append_assoc, length-append}
use Rattle.std.specs.Prelude.{Result, Ok, Err, OnErr, ◌==◌, nat_lt, position, Option, None, Some, option_map, not, if◌then◌else◌}
use Rattle.std.specs.Io.KnownBytes.{Consumes, IsAtEnd}
use Rattle.std.proofs.KnownBytes.{Consumes-nil, Consumes-trans}
use Rattle.std.specs.List.{after_first}
use Rattle.std.proofs.Math.Seq.{take-append_seam, drop-append_seam}
use Rattle.std.proofs.lemmas.List.{append-nil, drop-drop, take_all}
use Rattle.std.proofs.lemmas.List.Sums.{fails_before_first, prefix_len-le-length}
use Rattle.std.proofs.lemmas.List.Folds.{prefix_len-append}
use Rattle.std.proofs.lemmas.List.Splits.{slice_split_first, slice_split_none}
use Rattle.ucon_flow.specs.Lines.{newline, IsBare, IsLine, first_line}
use Rattle.ucon_flow.specs.Reading.{ReadsFront}
use Rattle.ucon_flow.specs.Seen.{SourceSeen}
use Rattle.ucon_model.specs.Plain.{Bytes}
use Rattle.ucon_model.specs.Document.{is_divider, before_divider, lines_of, policy_part, script_lines, script_number}
use Rattle.ucon_script.specs.Coming.{Coming, text_of, IsNext, ComesLine, HoldsMore, HasOpened, lines_left, Takes, ComeLines, IsEnded, IsAbove, IsLongPart, IsUndivided, Opens, most_lines}

-- ---- one line

newline_behind : (text rest : Bytes) → IsBare text → newline (text ++ 10 ∷ rest) ≡ length text
newline_behind text rest bare = let p = prefix_len-append (λ b. not (b == 10)) text (10 ∷ rest) in grind arith

pub text_of_line : (text rest : Bytes) → IsBare text → text_of (text ++ 10 ∷ rest) ≡ text
text_of_line text rest bare = ap (λ (n : ℕ). take n (text ++ 10 ∷ rest)) (newline_behind text rest bare) ∙ take-append_seam text (10 ∷ rest)

behind_line : (text rest : Bytes) → IsBare text → after_first (λ b. b == 10) (text ++ 10 ∷ rest) ≡ rest
behind_line text rest bare =
    ap (λ (n : ℕ). drop (n + 1) (text ++ 10 ∷ rest)) (newline_behind text rest bare)
    ∙ (sym (drop-drop 1 (length text) (text ++ 10 ∷ rest)) ∙ ap (λ (l : Bytes). drop 1 l) (drop-append_seam text (10 ∷ rest)))

pub text_of_bare : (line : Bytes) → IsBare line → text_of line ≡ line
text_of_bare line bare = take_all (newline line) line (omega (arith, bare))

pub first_of_lines : (text rest : Bytes) → IsBare text → lines_of (text ++ 10 ∷ rest) ≡ text ∷ lines_of rest
first_of_lines text rest bare =
    let lt : newline (text ++ 10 ∷ rest) < length (text ++ 10 ∷ rest) = omega (arith, newline_behind text rest bare, length-append text (10 ∷ rest)) in
    slice_split_first (λ b. b == 10) (text ++ 10 ∷ rest) 0 lt
    ∙ (ap (λ (l : Bytes). l ∷ lines_of (after_first (λ b. b == 10) (text ++ 10 ∷ rest))) (text_of_line text rest bare)
    ∙ ap (λ (l : Bytes). text ∷ lines_of l) (behind_line text rest bare))

pub only_line : (line : Bytes) → IsBare line → lines_of line ≡ line ∷ []
only_line line bare = slice_split_none (λ b. b == 10) line (λ k d lt. fails_before_first (λ b. b == 10) line k d (omega (arith, lt, bare)))

-- ---- lines one after the other

module _ {S : Type 0} (seen : S → SourceSeen) where
  pub takes_line : (old new : Coming) (first last : S) (line : Bytes) → (h : ComesLine seen old new first last line) → Takes seen old new first last h.read
  takes_line old new first last line h = record {
    consumed = h.consumed;
    out = line;
    all = h.all;
    room = h.room;
  }

  -- nothing comes behind the last line
  pub line_ends : (old new : Coming) (first last : S) (line : Bytes) → ComesLine seen old new first last line → old.over ≡ false → new.over ≡ true
      → IsEnded seen new last
  line_ends old new first last line h running over = ⊎_elim (λ n. absurd (cc (n.0, over))) (λ l. (l.2, l.3)) h.next

  pub one_line : (old new : Coming) (first last : S) (line : Bytes) → old.over ≡ false → ComesLine seen old new first last line
      → ComeLines seen old new first last (text_of line ∷ [])
  one_line old new first last line running h = record {
    read = h.read;
    takes = takes_line old new first last line h;
    lines = λ more may. left_is more ∙ ⊎_elim (with_newline more) (λ l. the_last more l (may l.0)) h.next;
    ended = λ over. absurd (cc (running, over));
    at_end = line_ends old new first last line h;
  }
    where
      left_is : (more : Bytes) → lines_left old (h.read ++ more) ≡ lines_of ((line ++ new.held) ++ more)
      left_is more = rw running (ap lines_of (sym (append_assoc old.held h.read more) ∙ ap (λ (t : Bytes). t ++ more) h.all))

      with_newline : (more : Bytes) → (new.over ≡ false) × IsLine line → lines_of ((line ++ new.held) ++ more) ≡ (text_of line ∷ []) ++ lines_left new more
      with_newline more n =
          let l = n.1 in
          let text : (line ++ new.held) ++ more ≡ l.text ++ 10 ∷ (new.held ++ more) = rw l.line_is (simp append_assoc refl) in
          let named : text_of line ≡ l.text = ap text_of l.line_is ∙ text_of_line l.text [] l.bare in
          rw (n.0, named) (ap lines_of text ∙ first_of_lines l.text (new.held ++ more) l.bare)

      the_last : (more : Bytes) → (new.over ≡ true) × IsBare line × (new.held ≡ []) × IsAtEnd (seen last).left → more ≡ []
          → lines_of ((line ++ new.held) ++ more) ≡ (text_of line ∷ []) ++ lines_left new more
      the_last more l none =
          let text : (line ++ new.held) ++ more ≡ line = rw (l.2, none) (append-nil (line ++ []) ∙ append-nil line) in
          rw (l.0, text_of_bare line l.1) (ap lines_of text ∙ only_line line l.1)

  -- nothing was given out yet
  pub no_line : (c : Coming) (s : S) → ComeLines seen c c s s []
  no_line c s = record {
    read = [];
    takes = record { consumed = Consumes-nil (seen s).left; out = []; all = append-nil c.held; room = omega arith };
    lines = λ more may. refl;
    ended = λ over. (refl, refl);
    at_end = λ running over. absurd (cc (running, over));
  }

  -- further lines were given out
  pub more_lines : (a b c : Coming) (first mid last : S) (given next : List Bytes) → b.over ≡ false
      → ComeLines seen a b first mid given → ComeLines seen b c mid last next → ComeLines seen a c first last (given ++ next)
  more_lines a b c first mid last given next running g n = record {
    read = g.read ++ n.read;
    takes = record {
      consumed = Consumes-trans (seen first).left (seen mid).left (seen last).left g.read n.read g.takes.consumed n.takes.consumed;
      out = g.takes.out ++ n.takes.out;
      all = sym (append_assoc a.held g.read n.read)
          ∙ (ap (λ (x : Bytes). x ++ n.read) g.takes.all
          ∙ (append_assoc g.takes.out b.held n.read
          ∙ (ap (λ (x : Bytes). g.takes.out ++ x) n.takes.all ∙ sym (append_assoc g.takes.out n.takes.out c.held))));
      room = omega (arith, g.takes.room, n.takes.room, length-append g.takes.out n.takes.out);
    };
    lines = λ more may.
        ap (λ (t : Bytes). lines_left a t) (append_assoc g.read n.read more)
        ∙ (g.lines (n.read ++ more) (λ over. absurd (cc (running, over)))
        ∙ (ap (λ (l : List Bytes). given ++ l) (n.lines more may) ∙ sym (append_assoc given next (lines_left c more))));
    ended = λ over. absurd (cc (running, ap (λ (k : Coming). k.over) (g.ended over).0, over));
    at_end = λ _ over. n.at_end running over;
  }

-- ---- above the divider

map_nothing : (o : Option Bytes) → option_map (λ (text : Bytes). [] ++ text) o ≡ o
map_nothing None = refl
map_nothing (Some text) = refl

pub nothing_above : IsAbove [] 0
nothing_above = record {
  policy = λ rest. sym (map_nothing (before_divider (lines_of rest)));
  script = λ rest. refl;
  number = λ rest. omega arith;
}

behind_text : (text line : Bytes) (o : Option Bytes)
    → option_map (λ (t : Bytes). text ++ t) (option_map (λ (t : Bytes). line ++ 10 ∷ t) o) ≡ option_map (λ (t : Bytes). (text ++ (line ++ 10 ∷ [])) ++ t) o
behind_text text line None = refl
behind_text text line (Some t) = simp append_assoc refl

not_here : (l : Bytes) (ls : List Bytes) → is_divider l ≡ false → before_divider (l ∷ ls) ≡ option_map (λ text. l ++ 10 ∷ text) (before_divider ls)
not_here l ls e = rw e refl

not_before : (l : Bytes) (ls : List Bytes) → is_divider l ≡ false → script_lines (l ∷ ls) ≡ script_lines ls
not_before l ls e = rw e refl

not_counted : (l : Bytes) (ls : List Bytes) → is_divider l ≡ false → script_number (l ∷ ls) ≡ script_number ls + 1
not_counted l ls e = rw e refl

-- one line more, which isn't the divider
pub one_above : (text line : Bytes) (n : ℕ) → IsAbove text n → IsLine line → is_divider (text_of line) ≡ false → IsAbove (text ++ line) (n + 1)
one_above text line n above l other =
    let t = l.text in
    let named : text_of line ≡ t = ap text_of l.line_is ∙ text_of_line t [] l.bare in
    let not_it : is_divider t ≡ false = rw (sym named) other in
    let whole : (rest : Bytes) → (text ++ line) ++ rest ≡ text ++ (t ++ 10 ∷ rest) = λ rest. rw l.line_is (simp append_assoc refl) in
    let joined : text ++ line ≡ text ++ (t ++ 10 ∷ []) = ap (λ (x : Bytes). text ++ x) l.line_is in
    let cut : (rest : Bytes) → lines_of (t ++ 10 ∷ rest) ≡ t ∷ lines_of rest = λ rest. first_of_lines t rest l.bare in record {
      policy = λ rest.
          ap (λ (x : Bytes). before_divider (lines_of x)) (whole rest) ∙ (above.policy (t ++ 10 ∷ rest)
          ∙ (ap (λ (o : Option Bytes). option_map (λ (p : Bytes). text ++ p) o) (ap before_divider (cut rest) ∙ not_here t (lines_of rest) not_it)
          ∙ (behind_text text t (before_divider (lines_of rest)) ∙ ap (λ (x : Bytes). option_map (λ (p : Bytes). x ++ p) (before_divider (lines_of rest))) (sym joined))));
      script = λ rest.
          ap (λ (x : Bytes). script_lines (lines_of x)) (whole rest) ∙ (above.script (t ++ 10 ∷ rest)
          ∙ (ap script_lines (cut rest) ∙ not_before t (lines_of rest) not_it));
      number = λ rest.
          let a = ap (λ (x : Bytes). script_number (lines_of x)) (whole rest) in
          let b = above.number (t ++ 10 ∷ rest) in
          let c = ap script_number (cut rest) in
          let d = not_counted t (lines_of rest) not_it in
          omega (arith, a, b, c, d);
    }

-- ---- the divider, or the end

module _ (policy line : Bytes) (above : ℕ) (new : Coming) (left : Option Bytes) (before : IsAbove policy above) where
  -- the divider's line was given out
  pub opened : IsNext line new left → is_divider (text_of line) ≡ true → Opens policy new (above + 2) (policy ++ (line ++ new.held))
  opened next here = ⊎_elim running ended next
    where
      divided : (l : Bytes) (ls : List Bytes) → is_divider l ≡ true → (before_divider (l ∷ ls) ≡ Some []) × (script_lines (l ∷ ls) ≡ ls) × (script_number (l ∷ ls) ≡ 2)
      divided l ls e = (rw e refl, rw e refl, rw e refl)

      part_is : (rest : Bytes) (l : Bytes) (ls : List Bytes) → lines_of rest ≡ l ∷ ls → is_divider l ≡ true
          → (policy_part (policy ++ rest) ≡ policy) × (script_lines (lines_of (policy ++ rest)) ≡ ls) × (script_number (lines_of (policy ++ rest)) ≡ above + 2)
      part_is rest l ls lines e =
          let d = divided l ls e in
          let found : before_divider (lines_of (policy ++ rest)) ≡ Some (policy ++ []) =
          before.policy rest ∙ ap (λ (o : Option Bytes). option_map (λ (p : Bytes). policy ++ p) o) (ap before_divider lines ∙ d.0) in
          (rw found (append-nil policy), before.script rest ∙ (ap script_lines lines ∙ d.1), before.number rest ∙ ap (λ (n : ℕ). above + n) (ap script_number lines ∙ d.2))

      running : (new.over ≡ false) × IsLine line → Opens policy new (above + 2) (policy ++ (line ++ new.held))
      running n =
          let l = n.1 in
          let named : text_of line ≡ l.text = ap text_of l.line_is ∙ text_of_line l.text [] l.bare in
          let divides : is_divider l.text ≡ true = rw (sym named) here in
          let whole : (more : Bytes) → (policy ++ (line ++ new.held)) ++ more ≡ policy ++ (l.text ++ 10 ∷ (new.held ++ more)) =
          λ more. rw l.line_is (simp append_assoc refl) in
          let is : (more : Bytes) → (policy_part (policy ++ (l.text ++ 10 ∷ (new.held ++ more))) ≡ policy)
          × (script_lines (lines_of (policy ++ (l.text ++ 10 ∷ (new.held ++ more)))) ≡ lines_of (new.held ++ more))
          × (script_number (lines_of (policy ++ (l.text ++ 10 ∷ (new.held ++ more)))) ≡ above + 2) =
          λ more. part_is (l.text ++ 10 ∷ (new.held ++ more)) l.text (lines_of (new.held ++ more)) (first_of_lines l.text (new.held ++ more) l.bare) divides in record {
            part = λ more may. ap policy_part (whole more) ∙ (is more).0;
            script = λ more may. rw n.0 (ap (λ (x : Bytes). script_lines (lines_of x)) (whole more) ∙ (is more).1);
            numbered = λ more running. ap (λ (x : Bytes). script_number (lines_of x)) (whole more) ∙ (is more).2;
          }

      ended : (new.over ≡ true) × IsBare line × (new.held ≡ []) × IsAtEnd left → Opens policy new (above + 2) (policy ++ (line ++ new.held))
      ended n =
          let divides : is_divider line ≡ true = rw (sym (text_of_bare line n.1)) here in
          let is = part_is line line [] (only_line line n.1) divides in
          let whole : (more : Bytes) → more ≡ [] → (policy ++ (line ++ new.held)) ++ more ≡ policy ++ line =
          λ more none. rw (n.2, none) (append-nil (policy ++ (line ++ [])) ∙ ap (λ (x : Bytes). policy ++ x) (append-nil line)) in record {
            part = λ more may. ap policy_part (whole more (may n.0)) ∙ is.0;
            script = λ more may. rw n.0 (ap (λ (x : Bytes). script_lines (lines_of x)) (whole more (may n.0)) ∙ is.1);
            numbered = λ more running. absurd (cc (n.0, running));
          }

  -- the last line was given out, and there is no divider
  pub undivided : (n : ℕ) → (new.over ≡ true) × IsBare line × (new.held ≡ []) × IsAtEnd left → is_divider (text_of line) ≡ false
      → Opens (policy ++ line) new n (policy ++ (line ++ new.held))
  undivided n e other =
      let not_it : is_divider line ≡ false = rw (sym (text_of_bare line e.1)) other in
      let none : before_divider (line ∷ []) ≡ None = rw not_it refl in
      let nothing : script_lines (line ∷ []) ≡ [] = rw not_it refl in
      let whole : (more : Bytes) → more ≡ [] → (policy ++ (line ++ new.held)) ++ more ≡ policy ++ line =
      λ more empty. rw (e.2, empty) (append-nil (policy ++ (line ++ [])) ∙ ap (λ (x : Bytes). policy ++ x) (append-nil line)) in
      let missing : before_divider (lines_of (policy ++ line)) ≡ None =
      before.policy line ∙ ap (λ (o : Option Bytes). option_map (λ (p : Bytes). policy ++ p) o) (ap before_divider (only_line line e.1) ∙ none) in
      let all : policy_part (policy ++ line) ≡ policy ++ line = rw missing refl in record {
        part = λ more may. ap policy_part (whole more (may e.0)) ∙ all;
        script = λ more may. rw e.0 (ap (λ (x : Bytes). script_lines (lines_of x)) (whole more (may e.0)) ∙ (before.script line ∙ (ap script_lines (only_line line e.1) ∙ nothing)));
        numbered = λ more running. absurd (cc (e.0, running));
      }

-- ---- newlines

found_or_not : (n : ℕ) (b : Bool) → (if b then Some n else None) ≡ None → b ≡ false
found_or_not n true e = absurd (cc e)
found_or_not n false e = refl

-- where none is found there is none
pub none_found : (bytes : Bytes) → position (λ b. b == 10) bytes ≡ None → IsBare bytes
none_found bytes e =
    let f = found_or_not (newline bytes) (nat_lt (newline bytes) (length bytes)) e in
    let within = prefix_len-le-length (λ b. not (b == 10)) bytes in
    grind arith

-- ---- a policy part that is being read

pub on_err : {A E : Type 0} (r : Result A E) (P : Type 0) → P → OnErr r P
on_err (Ok a) P p = tt
on_err (Err e) P p = p

-- a policy part so far, and what is held behind it, are what was read
pub record IsReading {S : Type 0} (seen : S → SourceSeen) (policy : Bytes) (c : Coming) (above : ℕ) (first now : S) : Type 0 where
  pub consumed : Consumes (seen first).left (seen now).left (policy ++ c.held)
  pub room : c.room + length policy ≡ 4194304
  pub running : c.over ≡ false
  pub none : IsAbove policy above
  pub few : above ≤ length policy

module _ {S : Type 0} (seen : S → SourceSeen) (policy : Bytes) (old new : Coming) (above : ℕ) (first mid last : S) (so_far : IsReading seen policy old above first mid) where
  -- one line more was read
  pub read_on : (line : Bytes) → ComesLine seen old new mid last line → Consumes (seen first).left (seen last).left (policy ++ (line ++ new.held))
  read_on line h = subst (λ (r : Bytes). Consumes (seen first).left (seen last).left r) (append_assoc policy old.held h.read ∙ ap (λ (r : Bytes). policy ++ r) h.all)
      (Consumes-trans (seen first).left (seen mid).left (seen last).left (policy ++ old.held) h.read so_far.consumed h.consumed)

  -- a line that has come has a newline, unless it is the last
  pub has_newline : (line : Bytes) → ComesLine seen old new mid last line → new.over ≡ false → IsLine line
  has_newline line h running = ⊎_elim (λ n. n.1) (λ l. absurd (cc (l.0, running))) h.next

  has_some : (line : Bytes) → IsLine line → 0 < length line
  has_some line l = omega (arith, ap length l.line_is, length-append l.text (10 ∷ []))

  pub one_more : (line policy' : Bytes) → ComesLine seen old new mid last line → is_divider (text_of line) ≡ false → new.over ≡ false → policy' ≡ policy ++ line
      → IsReading seen policy' new (above + 1) first last
  one_more line policy' h other running grown =
      let l = has_newline line h running in
      let some = has_some line l in
      let size : length policy' ≡ length policy + length line = ap length grown ∙ length-append policy line in record {
        consumed = subst (λ (r : Bytes). Consumes (seen first).left (seen last).left r)
            (sym (append_assoc policy line new.held) ∙ ap (λ (p : Bytes). p ++ new.held) (sym grown)) (read_on line h);
        room = omega (arith, h.room, so_far.room);
        running = running;
        none = subst (λ (p : Bytes). IsAbove p (above + 1)) (sym grown) (one_above policy line above so_far.none l other);
        few = omega (arith, so_far.few);
      }

  pub falls : (line : Bytes) → ComesLine seen old new mid last line → new.over ≡ false → new.room < old.room
  falls line h running = omega (arith, h.room, has_some line (has_newline line h running))

  -- the divider has come
  pub opened_at : (line : Bytes) → ComesLine seen old new mid last line → is_divider (text_of line) ≡ true
      → HasOpened seen policy new (above + 2) first last
  opened_at line h here = record {
    read = policy ++ (line ++ new.held);
    consumed = read_on line h;
    front = policy ++ line;
    all = sym (append_assoc policy line new.held);
    room = omega (arith, h.room, so_far.room, length-append policy line);
    at_end = λ over. ⊎_elim (λ n. absurd (cc (n.0, over))) (λ l. (l.2, l.3)) h.next;
    opens = opened policy line above new (seen last).left so_far.none h.next here;
  }

  -- the end has come
  pub opened_whole : (line policy' : Bytes) → ComesLine seen old new mid last line → is_divider (text_of line) ≡ false → new.over ≡ true → policy' ≡ policy ++ line
      → HasOpened seen policy' new (above + 2) first last
  opened_whole line policy' h other over grown =
      let ended : (new.over ≡ true) × IsBare line × (new.held ≡ []) × IsAtEnd (seen last).left = ⊎_elim (λ n. absurd (cc (n.0, over))) (λ l. l) h.next in record {
        read = policy ++ (line ++ new.held);
        consumed = read_on line h;
        front = policy ++ line;
        all = sym (append_assoc policy line new.held);
        room = omega (arith, h.room, so_far.room, length-append policy line);
        at_end = λ _. (ended.2, ended.3);
        opens = subst (λ (p : Bytes). Opens p new (above + 2) (policy ++ (line ++ new.held))) (sym grown)
            (undivided policy line above new (seen last).left so_far.none (above + 2) ended other);
      }

  -- what was read when a line couldn't be given out
  pub front_held : HoldsMore seen old new mid last → ReadsFront (seen first).left (seen last).left
  front_held h = ((policy ++ old.held) ++ h.read, Consumes-trans (seen first).left (seen mid).left (seen last).left (policy ++ old.held) h.read so_far.consumed h.consumed)

  pub too_long : HoldsMore seen old new mid last → new.room < length (first_line new.held)
      → (read : Bytes) × Consumes (seen first).left (seen last).left read × IsLongPart read
  too_long h over =
      let kept : new.room ≡ old.room = ap (λ (c : Coming). c.room) h.same in
      let held : new.held ≡ old.held ++ h.read = ap (λ (c : Coming). c.held) h.same in
      let all = Consumes-trans (seen first).left (seen mid).left (seen last).left (policy ++ old.held) h.read so_far.consumed h.consumed in (
        (policy ++ old.held) ++ h.read,
        all,
        record {
          front = policy;
          rest = new.held;
          lines = above;
          bytes_are = append_assoc policy old.held h.read ∙ ap (λ (x : Bytes). policy ++ x) (sym held);
          above = so_far.none;
          long = omega (arith, over, kept, so_far.room);
        },
      )

  pub undivided_yet : HoldsMore seen old new mid last → IsBare new.held
      → (read : Bytes) × Consumes (seen first).left (seen last).left read × IsUndivided read
  undivided_yet h bare =
      let held : new.held ≡ old.held ++ h.read = ap (λ (c : Coming). c.held) h.same in
      let all = Consumes-trans (seen first).left (seen mid).left (seen last).left (policy ++ old.held) h.read so_far.consumed h.consumed in (
        (policy ++ old.held) ++ h.read,
        all,
        record {
          front = policy;
          rest = new.held;
          lines = above;
          bytes_are = append_assoc policy old.held h.read ∙ ap (λ (x : Bytes). policy ++ x) (sym held);
          above = so_far.none;
          bare = bare;
        },
      )

-- a line that is given out leaves fewer
pub fewer : {S : Type 0} (seen : S → SourceSeen) (old new : Coming) (first last : S) (line : Bytes) → old.over ≡ false → ComesLine seen old new first last line → most_lines new < most_lines old
fewer seen old new first last line running h = rw running (⊎_elim one last_one h.next)
  where
    one : (new.over ≡ false) × IsLine line → most_lines new < old.room + 1
    one n = rw n.0 (omega (arith, h.room, ap length n.1.line_is, length-append n.1.text (10 ∷ [])))

    last_one : (new.over ≡ true) × IsBare line × (new.held ≡ []) × IsAtEnd (seen last).left → most_lines new < old.room + 1
    last_one l = rw l.0 (omega arith)
