-- What a turn makes of a client's answers.
use Rattle.std.proofs.Common.{◌≡◌, ℕ, Bool, ◌+◌, ◌<◌, ◌≤◌, true, List, [], ◌∷◌, ◌++◌, Option, Some, None, map, length, get_or, refl, sym, ap, ◌∙◌, subst, inl, arith}
use Rattle.std.specs.Prelude.{IfSome, option_map}
use Rattle.std.proofs.lemmas.List.{length-append}
use Rattle.ucon_base.specs.Elements.{Each}
use Rattle.ucon_base.specs.Seen.{Seen}
use Rattle.ucon_turn.specs.Lists.{Continues, ByOthers, continues_refl}
use Rattle.ucon_turn.specs.Turns.{IsSeatOf, Opening, Knowledge}
use Rattle.ucon_model.specs.History.{History}
use Rattle.ucon_model.specs.LegalRun.{Answered}
use Rattle.ucon_board.specs.Board.{Known}
use Rattle.ucon_script.specs.declared.document.Line.{Line}
use Rattle.ucon_store.specs.declared.event.Event.{Event}
use Rattle.ucon_store.specs.declared.event.Event.TheVariants.{Done}
use Rattle.ucon_store.specs.Events.{number_of}
use Rattle.ucon_client.specs.declared.answer.Answer.{Answer}
use Rattle.ucon_client.specs.declared.looks.Looks.{Looks}
use Rattle.ucon_client.specs.declared.part.Part.{Part}
use Rattle.ucon_client.specs.Answers.{AreHeld, HoldsLooks, IsPart, IsReaderAt, Keeps, SaysFromStore, Serves, ServesWith, answer_of, entry_of, held_in, taken, told_of}
use Rattle.ucon_client.specs.Boarded.{Sharing, identity}
use Rattle.ucon_client.specs.Clients.{AreRight, Replies, Steps, answered}
use Rattle.ucon_client.specs.Events.{EndsAtMark}
use Rattle.ucon_client.specs.Looks.{HasReached}
use Rattle.ucon_client.specs.Steps.{HasAnswered, HasConfirmed, IsOfBase, base_of}
use Rattle.ucon_client.proofs.Counting.{answered_next}
use Rattle.ucon_client.specs.Reading.{HoldsOn}
use Rattle.ucon_client.proofs.Held.{all_reached, confirmed_right, none_held, told_by_turn, told_more}
use Rattle.ucon_client.proofs.OneClient.{others_change_nothing, stays_right}
use Rattle.ucon_client.proofs.Seats.{continues_behind}

of_base : (o : Option Known) (r : Known) → IfSome o (λ k. r.which ≡ k.which) → IfSome (option_map identity o) (λ k. r.which ≡ k.which)
of_base None r h = tt
of_base (Some k) r h = h

pub asks : {D : Type 0} (turn : Opening (Sharing D)) (p : Part) (l : Looks) → HoldsLooks turn p l → IsOfBase (base_of turn.opened) l
asks turn p l h = of_base turn.opened.board l.reader h.reader.0

module _ {D : Type 0} (turn : Opening (Sharing D)) (was : Part) (seat : Knowledge (Sharing D) Event) (s : Serves turn was seat) (says : Replies) (G : History)
    (from : SaysFromStore turn.opened.store says G) where
  abbrev H : History
  H = G ++ turn.opened.store.entries

  module _ (before : List Event) (others : Continues (ByOthers number_of seat.number seat.taken) seat.seen before) (ends : EndsAtMark (map Done G ++ before)) where
    still : AreRight says was.number H (map Done G ++ before) (told_of was)
    still =
        others_change_nothing says was.number H (map Done G ++ seat.seen) (map Done G ++ before) (told_of was) seat.number seat.taken (s.right says G from)
        (inl (sym s.number)) (continues_behind (ByOthers number_of seat.number seat.taken) (map Done G) seat.seen before others) ends

    pub one_confirmed : (old new : Looks) → HoldsLooks turn was old → HasConfirmed (base_of turn.opened) old new before true
        → AreRight says was.number H (map Done G ++ before) (told_of was ++ held_in was old.held.items)
    one_confirmed old new h c =
        confirmed_right says H (map Done G ++ before) was old new still h.held c.later (c.true_of refl says G from)
        (omega (arith, length-append G turn.opened.store.entries, from.count, h.reader.1, c.later.opened_at))

  pub turned : (before seen : List Event) (old new : Looks) (line : Line) (a : Answer) → Continues (ByOthers number_of seat.number seat.taken) seat.seen before
      → HoldsLooks turn was old → HasConfirmed (base_of turn.opened) old new before true → line.caller.0 ≡ was.number
      → Steps says (entry_of line) (map Done G ++ before) (map Done G ++ seen) (answer_of a)
      → AreRight says was.number H (map Done G ++ seen) ((told_of was ++ held_in was old.held.items) ++ record { line = entry_of line; answer = answer_of a } ∷ [])
  turned before seen old new line a others h c own step =
      let log : List Event = map Done G ++ before in
      stays_right says was.number H log log (map Done G ++ seen) (told_of was ++ held_in was old.held.items) (entry_of line) (answer_of a) seat.number seat.taken
      (one_confirmed before others step.ends old new h c) own (inl (sym s.number)) (continues_refl (ByOthers number_of seat.number seat.taken) log) step

-- ---- what is held, behind a turn

module _ {D : Type 0} (turn : Opening (Sharing D)) where
  pub reader_on : (l k : Looks) → IsReaderAt turn.opened l.reader → k.reader.which ≡ l.reader.which
      → k.reader.board.opened_at ≡ l.reader.board.opened_at → IsReaderAt turn.opened k.reader
  reader_on l k h which at = (by_board turn.opened.board h.0, at ∙ h.1)
    where
      by_board : (o : Option Known) → IfSome o (λ b. l.reader.which ≡ b.which) → IfSome o (λ b. k.reader.which ≡ b.which)
      by_board None i = tt
      by_board (Some b) i = which ∙ i

  pub looks_on : (was now : Part) (old mid : Looks) (new : Option Looks) (before : List Event) (confirmed : Bool) → HoldsLooks turn was old
      → HasConfirmed (base_of turn.opened) old mid before confirmed → HoldsOn now mid new → IfSome new (HoldsLooks turn now)
  looks_on was now old mid None before confirmed h c on = tt
  looks_on was now old mid (Some new) before confirmed h c on = record {
    reader = subst (IsReaderAt turn.opened) (sym on.0) (reader_on old mid h.reader c.which c.later.opened_at);
    held = on.2;
  }

-- one answer more, behind what was held
pub serves_next : {D : Type 0} (turn : Opening (Sharing D)) (was now : Part) (seat next : Knowledge (Sharing D) Event) (old mid : Looks)
    (new : Option Looks) (line : Line) (a : Answer) (before : List Event) → Serves turn was seat → HoldsLooks turn was old → IsSeatOf turn next
    → next.number ≡ seat.number → Keeps was now → IsPart now → now.answers.items ≡ (was.answers.items ++ mid.held.items) ++ a ∷ []
    → length was.answers.items + length old.held.items < length was.lines.items
    → line ≡ get_or was.lines.items (length was.answers.items + length old.held.items) line → line.caller.0 ≡ was.number
    → Continues (ByOthers number_of seat.number seat.taken) seat.seen before → HasConfirmed (base_of turn.opened) old mid before true
    → HasAnswered (base_of turn.opened) line before next.seen a → HoldsOn now mid new → ServesWith turn now next new
serves_next turn was now seat next old mid new line a before s h seated number kept part answers lt at own others c steps on =
    let told : told_of now ≡ (told_of was ++ held_in was old.held.items) ++ record { line = entry_of line; answer = answer_of a } ∷ [] =
    told_by_turn was now old.held.items line a kept.1 (answers ∙ ap (λ (l : List Answer). (was.answers.items ++ l) ++ a ∷ []) c.held) lt at in (
      record {
        seated = seated;
        number = number ∙ (s.number ∙ ap (λ n. n + 1) (sym kept.0));
        part = part;
        right = λ says G from.
            subst (λ (z : ℕ × List Answered). AreRight says z.0 (G ++ turn.opened.store.entries) (map Done G ++ next.seen) z.1) (λ i. (sym kept.0 i, sym told i))
            (turned turn was seat s says G from before next.seen old mid line a others h c own
            (steps says G from));
      },
      looks_on turn was now old mid new before true h c on,
    )

-- nothing is answered, and others may have had their turns
pub serves_on : {D : Type 0} (turn : Opening (Sharing D)) (p : Part) (seat next : Knowledge (Sharing D) Event) (before : List Event) → Serves turn p seat
    → IsSeatOf turn next → next.number ≡ seat.number → Continues (ByOthers number_of seat.number seat.taken) seat.seen before → next.seen ≡ before
    → ((G : History) → EndsAtMark (map Done G ++ before)) → ServesWith turn p next None
serves_on turn p seat next before s seated number others seen ends = (
  record {
    seated = seated;
    number = number ∙ s.number;
    part = s.part;
    right = λ says G from.
        subst (λ (l : List Event). AreRight says p.number (G ++ turn.opened.store.entries) (map Done G ++ l) (told_of p)) (sym seen)
        (others_change_nothing says p.number (G ++ turn.opened.store.entries) (map Done G ++ seat.seen) (map Done G ++ before) (told_of p) seat.number seat.taken
        (s.right says G from) (inl (sym s.number)) (continues_behind (ByOthers number_of seat.number seat.taken) (map Done G) seat.seen before others) (ends G));
  },
  tt,
)

-- ---- one answer more, without a reader

pub serves_alone : {D : Type 0} (turn : Opening (Sharing D)) (was now : Part) (seat next : Knowledge (Sharing D) Event) (line : Line) (a : Answer)
    (before : List Event) → Serves turn was seat → IsSeatOf turn next → next.number ≡ seat.number → Keeps was now → IsPart now
    → now.answers.items ≡ was.answers.items ++ a ∷ [] → length was.answers.items < length was.lines.items
    → line ≡ get_or was.lines.items (length was.answers.items) line → line.caller.0 ≡ was.number
    → Continues (ByOthers number_of seat.number seat.taken) seat.seen before → HasAnswered (base_of turn.opened) line before next.seen a
    → Serves turn now next
serves_alone turn was now seat next line a before s seated number kept part answers lt at own others steps =
    let told : told_of now ≡ told_of was ++ record { line = entry_of line; answer = answer_of a } ∷ [] =
    (λ i. answered (map entry_of (kept.1 i).items) (map answer_of (answers i))) ∙ answered_next was.lines.items was.answers.items line a lt at in
    record {
      seated = seated;
      number = number ∙ (s.number ∙ ap (λ n. n + 1) (sym kept.0));
      part = part;
      right = λ says G from.
          let done : List Event = map Done G in
          subst (λ (z : ℕ × List Answered). AreRight says z.0 (G ++ turn.opened.store.entries) (done ++ next.seen) z.1) (λ i. (sym kept.0 i, sym told i))
          (stays_right says was.number (G ++ turn.opened.store.entries) (done ++ seat.seen) (done ++ before) (done ++ next.seen) (told_of was) (entry_of line)
          (answer_of a) seat.number seat.taken (s.right says G from) own (inl (sym s.number))
          (continues_behind (ByOthers number_of seat.number seat.taken) done seat.seen before others) (steps says G from));
    }

-- no more lines are taken than there are
pub few_taken : {D : Type 0} (turn : Opening (Sharing D)) (p : Part) (seat : Knowledge (Sharing D) Event) (looks : Option Looks) → ServesWith turn p seat looks
    → taken p looks ≤ length p.lines.items
few_taken turn p seat None s = omega (arith, s.0.part.first)
few_taken turn p seat (Some l) s = s.1.held.few

-- a board that was read on is held for the part as before
pub reads_more : {D : Type 0} (turn : Opening (Sharing D)) (p : Part) (l k : Looks) → HoldsLooks turn p l → k.reader.which ≡ l.reader.which
    → k.reader.board.opened_at ≡ l.reader.board.opened_at → AreHeld p k → HoldsLooks turn p k
reads_more turn p l k h which at held = record { reader = reader_on turn l k h.reader which at; held = held }

-- what is confirmed behind the last line is answered
pub serves_settled : {D : Type 0} (turn : Opening (Sharing D)) (was now : Part) (seat next : Knowledge (Sharing D) Event) (l k new : Looks) (before : List Event)
    → Serves turn was seat → HoldsLooks turn was l → IsSeatOf turn next → next.number ≡ seat.number → Keeps was now
    → now.answers.items ≡ was.answers.items ++ k.held.items → was.answers.spare ≤ now.answers.spare + length k.held.items
    → Continues (ByOthers number_of seat.number seat.taken) seat.seen before → next.seen ≡ before
    → HasConfirmed (base_of turn.opened) l k before true → (new.reader ≡ k.reader) × (new.held.items ≡ []) × (new.last ≡ k.last)
    → ServesWith turn now next (Some new)
serves_settled turn was now seat next l k new before s h seated number kept answers spare others seen c on =
    let told : told_of now ≡ told_of was ++ held_in was l.held.items =
    told_more was now k.held.items kept.1 answers ∙ ap (λ (a : List Answer). told_of was ++ held_in was a) c.held in
    let long : length now.answers.items ≡ length was.answers.items + length l.held.items =
    omega (arith, ap length answers, length-append was.answers.items k.held.items, ap length c.held) in
    let lines : length now.lines.items ≡ length was.lines.items = ap (λ (x : Seen Line). length x.items) kept.1 in
    let few : length now.answers.items ≤ length now.lines.items = omega (arith, long, lines, h.held.few) in (
      record {
        seated = seated;
        number = number ∙ (s.number ∙ ap (λ n. n + 1) (sym kept.0));
        part = record {
          few = omega (arith, kept.0, s.part.few);
          own = subst (λ (z : ℕ × List Line). Each (λ l. l.caller.0 ≡ z.0) z.1) (λ i. (sym kept.0 i, (sym kept.1 i).items)) s.part.own;
          first = few;
          room = omega (arith, long, lines, s.part.room, spare, ap length c.held);
        };
        right = λ says G from.
            subst (λ (z : ℕ × List Answered × List Event). AreRight says z.0 (G ++ turn.opened.store.entries) (map Done G ++ z.2) z.1)
            (λ i. (sym kept.0 i, sym told i, sym seen i))
            (one_confirmed turn was seat s says G from before others (c.true_of refl says G from).ends l k h c);
      },
      record {
        reader = subst (IsReaderAt turn.opened) (sym on.0) (reader_on turn l k h.reader c.which c.later.opened_at);
        held = none_held now new few on.1
            (subst (HasReached new.last) (sym told) (all_reached was l new.last h.held (omega (arith, on.2, c.last))));
      },
    )
