-- The answers that a client holds, and what its turn makes of them.
use Rattle.std.proofs.Common.{◌≡◌, ℕ, zero, suc, ◌+◌, ◌<◌, ◌≤◌, List, [], ◌∷◌, ◌++◌, Option, Some, None, map, length, get_or, drop, refl, sym, ap, ◌∙◌, subst, arith}
use Rattle.std.proofs.lemmas.List.{append-nil, length-append, length-drop, map-append}
use Rattle.ucon_base.specs.Elements.{each_append, each_map}
use Rattle.ucon_base.specs.Seen.{Seen}
use Rattle.ucon_model.specs.declared.command.Command.TheVariants as commands
use Rattle.ucon_model.specs.History.{History}
use Rattle.ucon_model.specs.LegalRun.{Answered}
use Rattle.ucon_board.specs.Board.{Board, GoesOn, state_in}
use Rattle.ucon_script.specs.declared.document.Line.{Line}
use Rattle.ucon_store.specs.declared.event.Event.{Event}
use Rattle.ucon_client.specs.declared.answer.Answer.{Answer}
use Rattle.ucon_client.specs.declared.looks.Looks.{Looks}
use Rattle.ucon_client.specs.declared.part.Part.{Part}
use Rattle.ucon_client.specs.Answers.{AreHeld, IsPart, answer_of, entry_of, held_in, told_of}
use Rattle.ucon_client.specs.Clients.{AreRight, Replies, answered}
use Rattle.ucon_client.specs.Looks.{HasReached, IsConfirmed, IsRead, IsUpTo, Look, answered_look, last_place}
use Rattle.ucon_client.specs.Reading.{GoesOnReading, HasRead, HoldsOn}
use Rattle.ucon_client.proofs.Counting.{answered_next, answered_none, line_at}
use Rattle.ucon_client.proofs.Holding.{last_more, looks_are_right, reached_on, read_on, rise_more, true_in, wider}

-- ---- one look more

get_drop : {X : Type 0} (xs : List X) (a k j : ℕ) (d : X) → j ≡ a + k → get_or (drop a xs) k d ≡ get_or xs j d
get_drop xs zero k j d e = ap (λ (i : ℕ). get_or xs i d) (omega (arith, e))
get_drop [] (suc a) k j d e = refl
get_drop (x ∷ xs) (suc a) k zero d e = absurd (omega (arith, e))
get_drop (x ∷ xs) (suc a) k (suc j) d e = get_drop xs a k j d (omega (arith, e))

pub one_held : (p : Part) (old new : Looks) (line : Line) (n : ℕ) → IsPart p → AreHeld p old
    → length p.answers.items + length old.held.items < length p.lines.items
    → line ≡ get_or p.lines.items (length p.answers.items + length old.held.items) line → line.command ≡ commands.Look n
    → GoesOn old.reader.board new.reader.board → HasRead old new n → AreHeld p new
one_held p old new line n part h more at looks on r =
    let a = length p.answers.items in
    let rest : List Line = drop a p.lines.items in
    let l : Look = record { caller = line.caller; session = n; place = new.last; state = state_in new.reader.board n } in
    let few : length old.held.items < length rest = omega (arith, more, length-drop a p.lines.items) in
    let here : line ≡ get_or rest (length old.held.items) line = at ∙ sym (get_drop p.lines.items a (length old.held.items) (a + length old.held.items) line refl) in
    let one : record { line = entry_of line; answer = answer_of r.answer } ≡ answered_look l =
    λ i. record { line = record { caller = line.caller; command = looks i }; answer = r.is i } in
    record {
      few = omega (arith, more, ap length r.held, length-append old.held.items (r.answer ∷ []));
      from = h.from;
      reached = h.reached;
      looks = h.looks ++ l ∷ [];
      are = ap (held_in p) r.held ∙ (answered_next rest old.held.items line r.answer few here
          ∙ ((λ i. h.are i ++ one i ∷ []) ∙ sym (map-append answered_look h.looks (l ∷ []))));
      own = each_append (λ x. x.caller.0 ≡ p.number) h.looks (l ∷ []) h.own
          (line_at (λ x. x.caller.0 ≡ p.number) p.lines.items (a + length old.held.items) line more at part.own, tt);
      read = each_append (IsRead new.reader.board) h.looks (l ∷ []) (read_on old.reader.board new.reader.board on h.looks h.read)
          ((new.reader.board, itself new.reader.board, r.place, refl), tt);
      rise = rise_more h.from h.looks l h.rise (omega (arith, h.last, r.rises));
      last = sym (last_more h.from h.looks l);
    }
  where
    itself : (b : Board) → GoesOn b b
    itself b = record { opened_at = refl; sessions = refl; replies = ([], append-nil b.replies) }

-- none more is, as the reader reads on
pub still_held : (p : Part) (old new : Looks) → AreHeld p old → new.held.items ≡ old.held.items → new.last ≡ old.last
    → GoesOn old.reader.board new.reader.board → AreHeld p new
still_held p old new h same last on = record {
  few = omega (arith, h.few, ap length same);
  from = h.from;
  reached = h.reached;
  looks = h.looks;
  are = ap (held_in p) same ∙ h.are;
  own = h.own;
  read = read_on old.reader.board new.reader.board on h.looks h.read;
  rise = h.rise;
  last = last ∙ h.last;
}

-- ---- none

pub none_held : (p : Part) (l : Looks) → length p.answers.items ≤ length p.lines.items → l.held.items ≡ [] → HasReached l.last (told_of p) → AreHeld p l
none_held p l few none reached = record {
  few = omega (arith, few, ap length none);
  from = l.last;
  reached = reached;
  looks = [];
  are = ap (held_in p) none ∙ answered_none (map entry_of (drop (length p.answers.items) p.lines.items));
  own = tt;
  read = tt;
  rise = tt;
  last = refl;
}

-- ---- all of them among the answers

answered_more : (lines : List Line) (answers more : List Answer)
    → answered (map entry_of lines) (map answer_of (answers ++ more))
    ≡ answered (map entry_of lines) (map answer_of answers) ++ answered (map entry_of (drop (length answers) lines)) (map answer_of more)
answered_more lines [] more = ap (λ told. told ++ answered (map entry_of lines) (map answer_of more)) (sym (answered_none (map entry_of lines)))
answered_more [] (b ∷ answers) more = refl
answered_more (l ∷ lines) (b ∷ answers) more = ap (λ told. record { line = entry_of l; answer = answer_of b } ∷ told) (answered_more lines answers more)

pub told_more : (was now : Part) (held : List Answer) → now.lines ≡ was.lines → now.answers.items ≡ was.answers.items ++ held
    → told_of now ≡ told_of was ++ held_in was held
told_more was now held lines is =
    (λ i. answered (map entry_of (lines i).items) (map answer_of (is i))) ∙ answered_more was.lines.items was.answers.items held

pub confirmed_right : (says : Replies) (H : History) (log : List Event) (p : Part) (old new : Looks)
    → AreRight says p.number H log (told_of p) → AreHeld p old → GoesOn old.reader.board new.reader.board → IsConfirmed says log new.reader.board
    → length H ≤ new.reader.board.opened_at → AreRight says p.number H log (told_of p ++ held_in p old.held.items)
confirmed_right says H log p old new right h on c le =
    subst (λ (l : List Answered). AreRight says p.number H log (told_of p ++ l)) (sym h.are)
    (looks_are_right says p.number H log (told_of p) h.from h.looks right h.reached h.own
    (true_in says H log new.reader.board c le h.looks (read_on old.reader.board new.reader.board on h.looks h.read)) h.rise)

pub all_reached : (p : Part) (l : Looks) (k : ℕ) → AreHeld p l → l.last ≤ k → HasReached k (told_of p ++ held_in p l.held.items)
all_reached p l k h le =
    let all : HasReached (last_place h.from h.looks) (told_of p ++ map answered_look h.looks) = reached_on h.from (told_of p) h.looks h.reached h.rise in
    subst (λ (t : List Answered). HasReached k (told_of p ++ t)) (sym h.are)
    (each_map (λ (t : Answered). IsUpTo (last_place h.from h.looks) t.answer) (λ (t : Answered). IsUpTo k t.answer)
    (λ t up. wider (last_place h.from h.looks) k t.answer (omega (arith, le, h.last)) up) (told_of p ++ map answered_look h.looks) all)

-- ---- the answer of a turn

-- the element at a place
pub there : {X : Type 0} (xs : List X) (k : ℕ) → k < length xs → (x : X) × (x ≡ get_or xs k x)
there [] k lt = absurd (omega arith)
there (x ∷ xs) zero lt = (x, refl)
there (x ∷ xs) (suc k) lt = there xs k (omega (arith, lt))

-- the answers held, and one more behind them
pub told_by_turn : (was now : Part) (held : List Answer) (line : Line) (a : Answer) → now.lines ≡ was.lines
    → now.answers.items ≡ (was.answers.items ++ held) ++ a ∷ [] → length was.answers.items + length held < length was.lines.items
    → line ≡ get_or was.lines.items (length was.answers.items + length held) line
    → told_of now ≡ (told_of was ++ held_in was held) ++ record { line = entry_of line; answer = answer_of a } ∷ []
told_by_turn was now held line a lines is lt at =
    let middle : List Answer = was.answers.items ++ held in
    let long : length middle ≡ length was.answers.items + length held = length-append was.answers.items held in
    (λ i. answered (map entry_of (lines i).items) (map answer_of (is i)))
    ∙ (answered_next was.lines.items middle line a (omega (arith, long, lt)) (at ∙ ap (λ k. get_or was.lines.items k line) (sym long))
    ∙ ap (λ (t : List Answered). t ++ record { line = entry_of line; answer = answer_of a } ∷ [])
    (told_more was (record was { answers = record was.answers { items = middle } }) held refl refl))

-- nothing is held any more behind an answer that stops nobody
pub taken_in : (was now : Part) (l new : Looks) (a : Answer) → AreHeld was l → now.lines ≡ was.lines
    → now.answers.items ≡ (was.answers.items ++ l.held.items) ++ a ∷ [] → length was.answers.items + length l.held.items < length was.lines.items
    → new.held.items ≡ [] → l.last ≤ new.last → IsUpTo new.last (answer_of a) → AreHeld now new
taken_in was now l new a h lines is lt none above up =
    let few : length now.answers.items ≤ length now.lines.items =
    omega (
      arith,
      lt,
      ap length is,
      length-append (was.answers.items ++ l.held.items) (a ∷ []),
      length-append was.answers.items l.held.items,
      ap (λ (x : Seen Line). length x.items) lines,
    ) in
    let line = there was.lines.items (length was.answers.items + length l.held.items) lt in
    none_held now new few none
    (subst (HasReached new.last) (sym (told_by_turn was now l.held.items line.0 a lines is lt line.1))
    (each_append (λ (t : Answered). IsUpTo new.last t.answer) (told_of was ++ held_in was l.held.items) (record { line = entry_of line.0; answer = answer_of a } ∷ [])
    (all_reached was l new.last h above) (up, tt)))

pub reads_on : (was now : Part) (l settled : Looks) (o : Option Looks) (a : Answer) → AreHeld was l → now.lines ≡ was.lines
    → now.answers.items ≡ (was.answers.items ++ l.held.items) ++ a ∷ [] → length was.answers.items + length l.held.items < length was.lines.items
    → (settled.reader ≡ l.reader) × (settled.held.items ≡ []) × (settled.last ≡ l.last) → GoesOnReading settled o (answer_of a) → HoldsOn now l o
reads_on was now l settled None a h lines is lt s on = tt
reads_on was now l settled (Some new) a h lines is lt s on =
    (on.reader ∙ s.0, on.held ∙ s.1, taken_in was now l new a h lines is lt (on.held ∙ s.1) (omega (arith, on.above, s.2)) on.up_to)
