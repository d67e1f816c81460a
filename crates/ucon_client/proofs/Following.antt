-- A board follows its store, and what was read off it is confirmed.
use Rattle.std.proofs.Common.{◌≡◌, ℕ, zero, suc, ◌+◌, ◌≤◌, Bool, true, false, List, [], ◌∷◌, ◌++◌, Option, Some, None, map, length, take, refl, sym, ap, ◌∙◌, subst, arith, append_assoc, true≢false}
use Rattle.std.specs.Prelude.{if◌then◌else◌, option_map, Result, Ok, Err, IfOk, IsErrOf}
use Rattle.std.proofs.lemmas.List.{append-nil, length-append}
use Rattle.ucon_model.specs.declared.command.Caller.{Caller}
use Rattle.ucon_model.specs.declared.command.Command.TheVariants as commands
use Rattle.ucon_model.specs.declared.command.Entry.{Entry}
use Rattle.ucon_model.specs.Action.{Trace}
use Rattle.ucon_model.specs.Block.{after, reply}
use Rattle.ucon_model.specs.History.{History, changes, trace_from}
use Rattle.ucon_model.specs.Plain.{PlainPolicy}
use Rattle.ucon_model.specs.Views.{reply_of}
use Rattle.ucon_board.specs.Board.{Board, GoesOn, Written, opening_state, place_of, state_in}
use Rattle.ucon_board.specs.States.{IsTrueOf, ShowsFirst, look_reply, state_after}
use Rattle.ucon_model.specs.declared.session.SessionRow.{SessionRow}
use Rattle.ucon_model.specs.declared.session.SessionState.{SessionState}
use Rattle.ucon_state.specs.Following.{Follows}
use Rattle.ucon_state.specs.Shown.{Shown}
use Rattle.ucon_state.specs.Tables.{session_in}
use Rattle.ucon_syntax.specs.Policies.{accepted}
use Rattle.ucon_store.specs.declared.event.Event.{Event}
use Rattle.ucon_store.specs.declared.event.Event.TheVariants.{Done}
use Rattle.ucon_store.specs.declared.placed.Placed.{Placed}
use Rattle.ucon_store.specs.declared.fault.StepFault.{StepFault}
use Rattle.ucon_store.specs.declared.fault.StepFault.TheVariants as faults
use Rattle.ucon_base.specs.Memory.{out_of_memory}
use Rattle.ucon_disk.specs.Seen.{DiskSeen}
use Rattle.ucon_store.specs.Events.{events, events_behind, events_of}
use Rattle.ucon_store.specs.Kept.{Kept}
use Rattle.ucon_store.specs.Marks.{marked}
use Rattle.ucon_store.specs.Starts.{IsStart}
use Rattle.ucon_store.specs.Steps.{HasFailedBehind, IsPlacedBehind}
use Rattle.ucon_store.specs.Whole.{trace_behind}
use Rattle.ucon_client.specs.Answers.{SaysFromStore}
use Rattle.ucon_client.specs.Clients.{Replies}
use Rattle.ucon_client.specs.Boarded.{IsOfSteps, IsShownBy, Publish, Publishes, ShowsBehind, ShowsStore, identity, known_by}
use Rattle.ucon_client.specs.Events.{EndsAtMark}
use Rattle.ucon_client.specs.Looks.{IsConfirmed}
use Rattle.ucon_client.proofs.Listing.{ends_events, entries_in-events}

pub trace_append : (P : PlainPolicy) (T : Trace) (G H : History) → trace_from P T (G ++ H) ≡ trace_from P (trace_from P T G) H
trace_append P T [] H = refl
trace_append P T (e ∷ G) H = trace_append P (after P T e.caller e.command) G H

module _ {D : Type 0} (P : PlainPolicy) (T : Trace) (old new : Kept D) (w v : Written) (e : Entry) (p : Placed) (s : ShowsBehind P T old w.board)
    (before : new.before ≡ old.before) (published : Publishes p w v) (placed : IsPlacedBehind P T old new e p) where
  said : reply_of p.reply ≡ reply P (trace_from P (trace_from P T s.opened) s.since) e.caller e.command
  said = placed.reply ∙ ap (λ (U : Trace). reply P U e.caller e.command) (ap (trace_from P T) s.entries ∙ trace_append P T s.opened s.since)

  grown : (b : Bool) → changes (reply_of p.reply) ≡ b → new.entries ≡ (if b then old.entries ++ e ∷ [] else old.entries)
  grown b is = placed.entries ∙ ap (λ (c : Bool). if c then old.entries ++ e ∷ [] else old.entries) (ap changes (sym placed.reply) ∙ is)

  at : v.board.opened_at ≡ new.before + length s.opened
  at = ap (λ (b : Board). b.opened_at) published.opened ∙ (s.opened_at ∙ ap (λ (n : ℕ). n + length s.opened) (sym before))

  shown_by : (b : Bool) → changes (reply_of p.reply) ≡ b → ShowsBehind P T new v.board
  shown_by false is = record {
    opened = s.opened;
    since = s.since;
    entries = grown false is ∙ s.entries;
    opened_at = at;
    shows = subst (λ (k : Written). ShowsFirst P (trace_from P T s.opened) s.since k.board true) (sym (published.told is)) s.shows;
  }
  shown_by true is =
      let more : new.entries ≡ old.entries ++ e ∷ [] = grown true is in
      record {
        opened = s.opened;
        since = s.since ++ e ∷ [];
        entries = more ∙ (ap (λ (l : History). l ++ e ∷ []) s.entries ∙ append_assoc s.opened s.since (e ∷ []));
        opened_at = at;
        shows = published.follows P (trace_from P T s.opened) s.since e s.shows is said
            (omega (arith, placed.place, before, s.opened_at, ap length more, length-append old.entries (e ∷ []), ap length s.entries, length-append s.opened s.since));
      }

  pub still_shown : ShowsBehind P T new v.board
  still_shown = shown_by (changes (reply_of p.reply)) refl

-- a board that was opened with a store's sessions behind all of its entries shows it
pub opened_shows : {D : Type 0} (s : Kept D) (b : Board) (sessions : List SessionState) (state : Shown)
    → b ≡ record { opened_at = s.before + length s.entries; sessions = sessions; replies = [] }
    → ((n : ℕ) → opening_state sessions n ≡ option_map (λ row. row.state) (session_in state.tables n))
    → ((P : PlainPolicy) (T : Trace) → accepted s.policy ≡ Some P → IsStart P s.point s.before T → Follows state P (trace_behind P T s)) → ShowsStore s b
opened_shows s b sessions state is states follows P T accepts starts = record {
  opened = s.entries;
  since = [];
  entries = sym (append-nil s.entries);
  opened_at = ap (λ (k : Board). k.opened_at) is;
  shows = subst (λ (k : Board). ShowsFirst P (trace_behind P T s) [] k true) (sym is) (record {
    states = λ n. states n ∙ ap (option_map (λ (row : SessionRow). row.state)) ((follows P T accepts starts).tables.sessions.rows n);
    within = omega arith;
    replies = refl;
    in_step = λ no. absurd (true≢false no);
  });
}

-- where no entry was added, what was shown still is
same_shown : {D : Type 0} (P : PlainPolicy) (T : Trace) (old new : Kept D) (w : Board) → ShowsBehind P T old w → new.before ≡ old.before → new.entries ≡ old.entries
    → ShowsBehind P T new w
same_shown P T old new w s before same = record {
  opened = s.opened;
  since = s.since;
  entries = same ∙ s.entries;
  opened_at = s.opened_at ∙ ap (λ (n : ℕ). n + length s.opened) (sym before);
  shows = s.shows;
}

-- ---- a step

-- where a store begins is where it began
abbrev pub Begins : {D : Type 0} → (old new : Kept D) → Type 0
Begins old new = (new.policy ≡ old.policy) × (new.point ≡ old.point) × (new.before ≡ old.before)

module _ {D : Type 0} (seen : D → DiskSeen) (old new : Kept D) (b : Begins old new) (e : Entry) where
  module _ (P : PlainPolicy) (T : Trace) (is : accepted new.policy ≡ Some P) (starts : IsStart P new.point new.before T) where
    is_old : accepted old.policy ≡ Some P
    is_old = ap accepted (sym b.0) ∙ is

    starts_old : IsStart P old.point old.before T
    starts_old = subst (λ (z : Option (List ℕ) × ℕ). IsStart P z.0 z.1 T) (λ i. (b.1 i, b.2 i)) starts

  shown_on : (w v : Written) (p : Placed) → ShowsStore old w.board → Publishes p w v
      → ((P : PlainPolicy) (T : Trace) → accepted old.policy ≡ Some P → IsStart P old.point old.before T → IsPlacedBehind P T old new e p)
      → ShowsStore new v.board
  shown_on w v p shown published placed P T is starts =
      let is' = is_old P T is starts in
      let starts' = starts_old P T is starts in
      still_shown P T old new w v e p (shown P T is' starts') b.2 published (placed P T is' starts')

  stays_shown : (w : Written) → ShowsStore old w.board
      → ((P : PlainPolicy) (T : Trace) → accepted old.policy ≡ Some P → IsStart P old.point old.before T → new.entries ≡ old.entries) → ShowsStore new w.board
  stays_shown w shown same P T is starts =
      let is' = is_old P T is starts in
      let starts' = starts_old P T is starts in
      same_shown P T old new w.board (shown P T is' starts') b.2 (same P T is' starts')

  unsaid : (w : Option Written) → IsShownBy old w
      → ((P : PlainPolicy) (T : Trace) → accepted old.policy ≡ Some P → IsStart P old.point old.before T → new.entries ≡ old.entries) → IsShownBy new w
  unsaid None shown same = tt
  unsaid (Some w) shown same = stays_shown w shown same

  said_so : (w v : Option Written) (p : Placed) → IsShownBy old w → Publish (Ok p) w v
      → ((P : PlainPolicy) (T : Trace) → accepted old.policy ≡ Some P → IsStart P old.point old.before T → IsPlacedBehind P T old new e p)
      → IsShownBy new v
  said_so None v p shown published placed = subst (IsShownBy new) (sym published) tt
  said_so (Some w) None p shown published placed = absurd published
  said_so (Some w) (Some v) p shown published placed = shown_on w v p shown published placed

  -- the board follows the store through a step
  pub followed : (said_by : Result Placed StepFault) (w v : Option Written) → IsShownBy old w → Publish said_by w v
      → IfOk said_by (λ p. (P : PlainPolicy) (T : Trace) → accepted old.policy ≡ Some P → IsStart P old.point old.before T → IsPlacedBehind P T old new e p)
      → (IsErrOf said_by (faults.NoMemory out_of_memory) → new ≡ old) → (IsErrOf said_by faults.Stopped → new ≡ old)
      → (IsErrOf said_by faults.DiskFault → (P : PlainPolicy) (T : Trace) → accepted old.policy ≡ Some P → IsStart P old.point old.before T
      → HasFailedBehind seen P T old new e)
      → IsShownBy new v
  followed (Ok p) w v shown published placed no_memory stopped failed = said_so w v p shown published placed
  followed (Err (faults.NoMemory m)) w v shown published placed no_memory stopped failed =
      subst (IsShownBy new) (sym published) (unsaid w shown (λ P T is starts. ap (λ (k : Kept D). k.entries) (no_memory refl)))
  followed (Err faults.Stopped) w v shown published placed no_memory stopped failed =
      subst (IsShownBy new) (sym published) (unsaid w shown (λ P T is starts. ap (λ (k : Kept D). k.entries) (stopped refl)))
  followed (Err faults.DiskFault) w v shown published placed no_memory stopped failed =
      subst (IsShownBy new) (sym published) (unsaid w shown (λ P T is starts. (failed refl P T is starts).entries))

-- which board it is, and how it was opened, stays
pub same_board : (said_by : Result Placed StepFault) (w v : Option Written) → Publish said_by w v
    → option_map identity (option_map known_by v) ≡ option_map identity (option_map known_by w)
same_board (Ok p) None v is = ap (λ (o : Option Written). option_map identity (option_map known_by o)) is
same_board (Ok p) (Some w) None is = absurd is
same_board (Ok p) (Some w) (Some v) is = λ i. Some (record { which = is.which i; board = is.opened i })
same_board (Err e) w v is = ap (λ (o : Option Written). option_map identity (option_map known_by o)) is

-- ---- a confirmation

pub take_seam : (xs ys : History) (n k : ℕ) → k ≡ length xs + n → take k (xs ++ ys) ≡ xs ++ take n ys
take_seam [] ys n k e = ap (λ (j : ℕ). take j ys) (omega (arith, e))
take_seam (x ∷ xs) ys n zero e = absurd (omega (arith, e))
take_seam (x ∷ xs) ys n (suc k) e = ap (λ (l : History). x ∷ l) (take_seam xs ys n k (omega (arith, e)))

-- nothing follows a mark in a store's list, with a history before it
pub log_ends : {D : Type 0} (s : Kept D) → IsOfSteps s.mark → (G : History) → EndsAtMark (map Done G ++ events_of s)
log_ends s steps G =
    subst EndsAtMark (sym (sym (events_behind G s.entries s.mark) ∙ ap (events (G ++ s.entries)) steps.is)) (ends_events (G ++ s.entries) steps.failed)

-- what a look is answered, by the state of its session, as the law says it
abbrev pub LooksTell : Type 0
LooksTell = (P : PlainPolicy) (T : Trace) (caller : Caller) (n : ℕ) → reply P T caller (commands.Look n) ≡ look_reply n (state_after T n)

-- what was ever read off a board that shows some entries, as the law says it
abbrev pub AreTrue : Type 0
AreTrue = (P : PlainPolicy) (T : Trace) (H : History) (b w : Board) (behind : Bool) → ShowsFirst P T H w behind → GoesOn b w → IsTrueOf P T H b

module _ {D : Type 0} (true_of : AreTrue) (tell : LooksTell) (says : Replies) (G : History) (s : Kept D) (w : Board) (steps : IsOfSteps s.mark)
    (from : SaysFromStore s says G) (shown : ShowsStore s w) where
  log_is : map Done G ++ events_of s ≡ events (G ++ s.entries) (marked steps.failed)
  log_is = sym (events_behind G s.entries s.mark) ∙ ap (events (G ++ s.entries)) steps.is

  abbrev Here : ShowsBehind from.P from.begun s w
  Here = shown from.P from.begun from.accepts from.starts

  all : G ++ s.entries ≡ G ++ (Here.opened ++ Here.since)
  all = ap (λ (l : History). G ++ l) Here.entries

  long : length (G ++ s.entries) ≡ length G + (length Here.opened + length Here.since)
  long = omega (arith, ap length all, length-append G (Here.opened ++ Here.since), length-append Here.opened Here.since)

  module _ (b : Board) (on : GoesOn b w) where
    abbrev Truth : IsTrueOf from.P (trace_from from.P from.begun Here.opened) Here.since b
    Truth = true_of from.P (trace_from from.P from.begun Here.opened) Here.since b w true Here.shows on

    place : place_of b ≡ length G + (length Here.opened + length b.replies)
    place = omega (arith, on.opened_at, Here.opened_at, from.count)

    within : place_of b ≤ length (G ++ s.entries)
    within = omega (arith, place, long, Truth.within)

    first : take (place_of b) (G ++ s.entries) ≡ G ++ (Here.opened ++ take (length b.replies) Here.since)
    first =
        ap (take (place_of b)) all
        ∙ (take_seam G (Here.opened ++ Here.since) (length Here.opened + length b.replies) (place_of b) place
        ∙ ap (λ (l : History). G ++ l) (take_seam Here.opened Here.since (length b.replies) (length Here.opened + length b.replies) refl))

    states : (caller : Caller) (n : ℕ) → look_reply n (state_in b n) ≡ says (take (place_of b) (G ++ s.entries)) caller (commands.Look n)
    states caller n =
        let shown_first : History = take (length b.replies) Here.since in
        let behind : Trace = trace_from from.P (trace_from from.P from.begun Here.opened) shown_first in
        ap (look_reply n) (Truth.states n)
        ∙ (sym (tell from.P behind caller n)
        ∙ (ap (λ (T : Trace). reply from.P T caller (commands.Look n)) (sym (trace_append from.P from.begun Here.opened shown_first))
        ∙ (sym (from.replies (Here.opened ++ shown_first) caller (commands.Look n))
        ∙ ap (λ (K : History). says K caller (commands.Look n)) (sym first))))

  pub confirmed : IsConfirmed says (map Done G ++ events_of s) w
  confirmed =
      let H : History = G ++ s.entries in
      subst (λ (log : List Event). IsConfirmed says log w) (sym log_is) (record {
        ends = ends_events H steps.failed;
        within = λ b on. subst (λ (l : History). place_of b ≤ length l) (sym (entries_in-events H steps.failed)) (within b on);
        states = λ b on caller n.
            subst (λ (l : History). look_reply n (state_in b n) ≡ says (take (place_of b) l) caller (commands.Look n)) (sym (entries_in-events H steps.failed))
            (states b on caller n);
      })
