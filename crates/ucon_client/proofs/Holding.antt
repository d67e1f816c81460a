-- Held looks among a client's answers.
use Rattle.std.proofs.Common.{◌≡◌, ℕ, ◌≤◌, false, true≢false, List, [], ◌∷◌, ◌++◌, map, length, take, refl, sym, ap, ◌∙◌, arith, append_assoc}
use Rattle.std.specs.Prelude.{Option, Some, None}
use Rattle.std.proofs.lemmas.List.{append-nil}
use Rattle.ucon_base.specs.Elements.{Each, each_append, each_map}
use Rattle.ucon_model.specs.declared.command.Command.TheVariants as commands
use Rattle.ucon_model.specs.declared.session.SessionState.{SessionState}
use Rattle.ucon_model.specs.History.{History, changes}
use Rattle.ucon_model.specs.LegalRun.{Answer, no_memory, disk_fault, stopped, placed, Answered, recorded, stands_on, AreInOrder, own_answers}
use Rattle.ucon_board.specs.Board.{Board, GoesOn, place_of}
use Rattle.ucon_board.specs.States.{look_reply}
use Rattle.ucon_store.specs.declared.event.Event.{Event}
use Rattle.ucon_client.specs.Events.{entries_in}
use Rattle.ucon_client.specs.Clients.{faulted, Replies, Shows, IsSaidIn, WouldChange, AreRight}
use Rattle.ucon_client.specs.Looks.{HasReached, IsConfirmed, IsRead, IsTrueIn, IsUpTo, Look, Rise, answered_look, last_place}
use Rattle.ucon_client.proofs.OneClient.{Follows, SeenFollows, recorded-append, faulted-append, in_order-append}

-- ---- a look changes nothing

no_change : (n : ℕ) (o : Option SessionState) → changes (look_reply n o) ≡ false
no_change n None = refl
no_change n (Some state) = refl

stands : (l : Look) → stands_on l.place (look_reply l.session l.state) ≡ l.place
stands l = rw (no_change l.session l.state) refl

said_look : (says : Replies) (G : History) (log : List Event) (l : Look) → IsTrueIn says G log l → IsSaidIn says G log (answered_look l)
said_look says G log l t =
    let at = stands l in (
      omega (arith, at, t.0),
      omega (arith, at, t.1),
      t.2 ∙ ap (λ k. says (take k (entries_in log)) l.caller (commands.Look l.session)) (sym at),
    )

-- ---- what each part of being right says of looks

none_recorded : (looks : List Look) → recorded (map answered_look looks) ≡ []
none_recorded [] = refl
none_recorded (l ∷ looks) = rw (no_change l.session l.state) (none_recorded looks)

none_faulted : (looks : List Look) → faulted (map answered_look looks) ≡ []
none_faulted [] = refl
none_faulted (l ∷ looks) = none_faulted looks

callers_of : (client : ℕ) (looks : List Look) → Each (λ l. l.caller.0 ≡ client) looks → Each (λ t. t.line.caller.0 ≡ client) (map answered_look looks)
callers_of client [] h = tt
callers_of client (l ∷ looks) h = (h.0, callers_of client looks h.1)

replies_of : (says : Replies) (G : History) (log : List Event) (looks : List Look) → Each (IsTrueIn says G log) looks → Each (IsSaidIn says G log) (map answered_look looks)
replies_of says G log [] h = tt
replies_of says G log (l ∷ looks) h = (said_look says G log l h.0, replies_of says G log looks h.1)

shown_of : (says : Replies) (G : History) (log : List Event) (looks : List Look) → Each (IsTrueIn says G log) looks → Each (λ t. Shows log t.answer) (map answered_look looks)
shown_of says G log [] h = tt
shown_of says G log (l ∷ looks) h = (h.0.1, shown_of says G log looks h.1)

would_change_of : (says : Replies) (log : List Event) (looks : List Look) → Each (WouldChange says log) (map answered_look looks)
would_change_of says log [] = tt
would_change_of says log (l ∷ looks) = ((λ f. absurd (true≢false (sym f))), would_change_of says log looks)

-- ---- order

follows_by : (from : ℕ) (a : Answer) (l : Look) → IsUpTo from a → from ≤ l.place → Follows a (answered_look l).answer
follows_by from (placed place reply) l up le = (omega (arith, stands l, up, le), tt)
follows_by from no_memory l up le = (tt, tt)
follows_by from disk_fault l up le = absurd up
follows_by from stopped l up le = absurd up

pub wider : (from to : ℕ) (a : Answer) → from ≤ to → IsUpTo from a → IsUpTo to a
wider from to (placed place reply) le up = omega (arith, le, up)
wider from to no_memory le up = tt
wider from to disk_fault le up = up
wider from to stopped le up = up

all_follow : (from : ℕ) (t : Answered) (looks : List Look) → IsUpTo from t.answer → Rise from looks → Each (SeenFollows own_answers t) (map answered_look looks)
all_follow from t [] up rise = tt
all_follow from t (l ∷ looks) up rise =
    ((λ sees. follows_by from t.answer l up rise.0), all_follow l.place t looks (wider from l.place t.answer rise.0 up) rise.1)

in_order : (from : ℕ) (looks : List Look) → Rise from looks → AreInOrder own_answers (map answered_look looks)
in_order from [] rise = tt
in_order from (l ∷ looks) rise =
    let here : l.place ≤ l.place = omega arith in
    (all_follow l.place (answered_look l) looks here rise.1, in_order l.place looks rise.1)

-- ---- together

pub looks_are_right : (says : Replies) (client : ℕ) (G : History) (log : List Event) (told : List Answered) (from : ℕ) (looks : List Look)
    → AreRight says client G log told → HasReached from told → Each (λ l. l.caller.0 ≡ client) looks → Each (IsTrueIn says G log) looks → Rise from looks
    → AreRight says client G log (told ++ map answered_look looks)
looks_are_right says client G log told from looks r reached own all rise =
    let later = map answered_look looks in
    record {
      opened = r.opened;
      ends = r.ends;
      callers = each_append (λ t. t.line.caller.0 ≡ client) told later r.callers (callers_of client looks own);
      replies = each_append (IsSaidIn says G log) told later r.replies (replies_of says G log looks all);
      order = in_order-append own_answers told later r.order (in_order from looks rise)
          (each_map (λ t. IsUpTo from t.answer) (λ t. Each (SeenFollows own_answers t) later) (λ t up. all_follow from t looks up rise) told reached);
      records = recorded-append told later ∙ (ap (λ l. recorded told ++ l) (none_recorded looks) ∙ (append-nil (recorded told) ∙ r.records));
      faults = faulted-append told later ∙ (ap (λ l. faulted told ++ l) (none_faulted looks) ∙ (append-nil (faulted told) ∙ r.faults));
      would_change = each_append (WouldChange says log) told later r.would_change (would_change_of says log looks);
      shown = each_append (λ t. Shows log t.answer) told later r.shown (shown_of says G log looks all);
    }

pub last_above : (from : ℕ) (looks : List Look) → Rise from looks → from ≤ last_place from looks
last_above from [] rise = omega arith
last_above from (l ∷ looks) rise = omega (arith, rise.0, last_above l.place looks rise.1)

looks_reached : (from : ℕ) (looks : List Look) → Rise from looks → HasReached (last_place from looks) (map answered_look looks)
looks_reached from [] rise = tt
looks_reached from (l ∷ looks) rise = (last_above l.place looks rise.1, looks_reached l.place looks rise.1)

pub reached_on : (from : ℕ) (told : List Answered) (looks : List Look) → HasReached from told → Rise from looks
    → HasReached (last_place from looks) (told ++ map answered_look looks)
reached_on from told looks reached rise =
    each_append (λ t. IsUpTo (last_place from looks) t.answer) told (map answered_look looks)
    (each_map (λ t. IsUpTo from t.answer) (λ t. IsUpTo (last_place from looks) t.answer) (λ t up. wider from (last_place from looks) t.answer (last_above from looks rise) up) told reached)
    (looks_reached from looks rise)

-- ---- what a confirmation tells of them

pub true_in : (says : Replies) (G : History) (log : List Event) (board : Board) → IsConfirmed says log board → length G ≤ board.opened_at
    → (looks : List Look) → Each (IsRead board) looks → Each (IsTrueIn says G log) looks
true_in says G log board c le [] h = tt
true_in says G log board c le (l ∷ looks) h =
    let b : Board = h.0.0 in
    let on : GoesOn b board = h.0.1 in
    let place : l.place ≡ place_of b = h.0.2 in
    let within = c.within b on in (
      (
        omega (arith, le, place, on.opened_at),
        omega (arith, place, within),
        ap (look_reply l.session) h.0.3
            ∙ (c.states b on l.caller l.session ∙ ap (λ k. says (take k (entries_in log)) l.caller (commands.Look l.session)) (sym place)),
      ),
      true_in says G log board c le looks h.1,
    )

-- what was read is still that, as the reader reads on
goes_further : (a b c : Board) → GoesOn a b → GoesOn b c → GoesOn a c
goes_further a b c p q = record {
  opened_at = q.opened_at ∙ p.opened_at;
  sessions = q.sessions ∙ p.sessions;
  replies = (p.replies.0 ++ q.replies.0, sym (append_assoc a.replies p.replies.0 q.replies.0) ∙ (ap (λ l. l ++ q.replies.0) p.replies.1 ∙ q.replies.1));
}

pub read_on : (old new : Board) → GoesOn old new → (looks : List Look) → Each (IsRead old) looks → Each (IsRead new) looks
read_on old new on looks h =
    each_map (IsRead old) (IsRead new) (λ l r. (r.0, goes_further r.0 old new r.1 on, r.2, r.3)) looks h

-- ---- one look more

pub rise_more : (from : ℕ) (looks : List Look) (l : Look) → Rise from looks → last_place from looks ≤ l.place → Rise from (looks ++ l ∷ [])
rise_more from [] l h le = (le, tt)
rise_more from (x ∷ looks) l h le = (h.0, rise_more x.place looks l h.1 le)

pub last_more : (from : ℕ) (looks : List Look) (l : Look) → last_place from (looks ++ l ∷ []) ≡ l.place
last_more from [] l = refl
last_more from (x ∷ looks) l = last_more x.place looks l
