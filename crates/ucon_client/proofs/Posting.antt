-- What a writer publishes, and the states that a board begins with.
use Rattle.std.proofs.Common.{◌≡◌, ℕ, zero, suc, ◌+◌, ◌≤◌, true, false, List, [], ◌∷◌, ◌++◌, Some, Result, Ok, Err, map, length, take, take_all, refl, sym, ap, ◌∙◌, subst, arith}
use Rattle.std.specs.Prelude.{Bool, IfOk, IsErrOf, not, option_map, slice_get}
use Rattle.ucon_base.specs.Memory.{out_of_memory}
use Rattle.ucon_model.specs.declared.command.Entry.{Entry}
use Rattle.ucon_model.specs.declared.session.SessionRow.{SessionRow}
use Rattle.ucon_model.specs.declared.session.SessionState.{SessionState}
use Rattle.ucon_model.specs.Action.{Trace}
use Rattle.ucon_model.specs.Block.{reply}
use Rattle.ucon_model.specs.History.{History, changes, trace_from}
use Rattle.ucon_model.specs.Plain.{PlainPolicy, PlainReply}
use Rattle.ucon_model.specs.Views.{reply_of}
use Rattle.ucon_board.specs.Board.{Board, Written, opening_state, place_of, posted}
use Rattle.ucon_board.specs.States.{IsPosted, ShowsFirst}
use Rattle.ucon_board.specs.declared.mark_fault.MarkFault.{MarkFault}
use Rattle.ucon_board.specs.declared.mark_fault.MarkFault.TheVariants as faults
use Rattle.ucon_state.specs.Tables.{TablesOf, session_in}
use Rattle.ucon_store.specs.declared.placed.Placed.{Placed}
use Rattle.ucon_client.specs.Boarded.{Publishes, bare}

-- ---- one reply

-- what is shown with one entry more, as the laws say it
abbrev pub Unpublished : Type 0
Unpublished = (P : PlainPolicy) (T : Trace) (H : History) (w : Board) (behind : Bool) (e : Entry) → ShowsFirst P T H w behind → ShowsFirst P T (H ++ e ∷ []) w true

abbrev pub Published : Type 0
Published = (P : PlainPolicy) (T : Trace) (H : History) (w new : Board) (e : Entry) (r : PlainReply) (done : Bool)
    → ShowsFirst P T H w false → r ≡ reply P (trace_from P T H) e.caller e.command → IsPosted done r w new → ShowsFirst P T (H ++ e ∷ []) new (not done)

-- the first entries are shown, whether all are or not
first_shown : (P : PlainPolicy) (T : Trace) (H : History) (b : Board) (behind : Bool) → ShowsFirst P T H b behind → ShowsFirst P T H b true
first_shown P T H b behind s = record {
  states = s.states;
  within = s.within;
  replies = s.replies;
  in_step = λ no. absurd (let bad : true ≡ false = no in cc bad);
}

-- a board that shows as many replies as there are entries shows all
all_shown : (P : PlainPolicy) (T : Trace) (H : History) (b : Board) → ShowsFirst P T H b true → length b.replies ≡ length H → ShowsFirst P T H b false
all_shown P T H b s long = record { states = s.states; within = s.within; replies = s.replies; in_step = λ _. long }

module _ (unpublished : Unpublished) (published : Published) (p : Placed) (old new : Written) (changed : changes (reply_of p.reply) ≡ true) where
  not_posted : new.which ≡ old.which → new.board ≡ old.board → Publishes p old new
  not_posted which same = record {
    which = which;
    opened = ap bare same;
    told = λ no. absurd (let bad : true ≡ false = sym changed ∙ no in cc bad);
    follows = λ P T H e shows _ is place. subst (λ (b : Board). ShowsFirst P T (H ++ e ∷ []) b true) (sym same) (unpublished P T H old.board true e shows);
  }

  was_posted : p.place ≡ place_of old.board + 1 → new ≡ record old { board = posted old.board (reply_of p.reply) } → Publishes p old new
  was_posted at same = record {
    which = ap (λ (w : Written). w.which) same;
    opened = ap (λ (w : Written). bare w.board) same;
    told = λ no. absurd (let bad : true ≡ false = sym changed ∙ no in cc bad);
    follows = λ P T H e shows _ is place.
        first_shown P T (H ++ e ∷ []) new.board false
        (published P T H old.board new.board e (reply_of p.reply) true (all_shown P T H old.board shows (omega (arith, at, place))) is
        (ap (λ (w : Written). w.board) same));
  }

  pub publishes : (said : Result (Unit {0}) MarkFault) → p.place ≡ place_of old.board + 1
      → IfOk said (λ _. new ≡ record old { board = posted old.board (reply_of p.reply) })
      → (IsErrOf said (faults.NoMemory out_of_memory) → new ≡ record old { still = true }) → (IsErrOf said faults.Still → new ≡ old) → Publishes p old new
  publishes (Ok u) at ok no_memory still = was_posted at ok
  publishes (Err (faults.NoMemory m)) at ok no_memory still =
      let same = no_memory refl in not_posted (ap (λ (w : Written). w.which) same) (ap (λ (w : Written). w.board) same)
  publishes (Err faults.Still) at ok no_memory still =
      let same = still refl in not_posted (ap (λ (w : Written). w.which) same) (ap (λ (w : Written). w.board) same)

-- ---- the states of sessions

abbrev pub state_of_row : SessionRow → SessionState
state_of_row row = row.state

session_at : {S : Type 0} (t : TablesOf S) (m k : ℕ) → m ≡ k + 1 → session_in t m ≡ slice_get t.sessions k
session_at t zero k e = absurd (omega (arith, e))
session_at t (suc m) k e = ap (slice_get t.sessions) (omega (arith, e))

one_more : (rows : List SessionRow) (k j : ℕ) (s : SessionState) → j ≡ k + 1 → Some s ≡ option_map state_of_row (slice_get rows k)
    → map state_of_row (take j rows) ≡ map state_of_row (take k rows) ++ s ∷ []
one_more [] k j s e is = absurd (cc is)
one_more (r ∷ rows) zero zero s e is = absurd (omega (arith, e))
one_more (r ∷ rows) zero (suc j) s e is =
    let none : j ≡ 0 = omega (arith, e) in
    let same : s ≡ r.state = cc is in
    (λ i. sym same i ∷ map state_of_row (take (none i) rows))
one_more (r ∷ rows) (suc k) zero s e is = absurd (omega (arith, e))
one_more (r ∷ rows) (suc k) (suc j) s e is = ap (λ (l : List SessionState). r.state ∷ l) (one_more rows k j s (omega (arith, e)) is)

pub one_more_state : (t : TablesOf SessionRow) (k m : ℕ) (s : SessionState) (states : List SessionState) → m ≡ k + 1
    → states ≡ map state_of_row (take k t.sessions) → Some s ≡ option_map state_of_row (session_in t m)
    → states ++ s ∷ [] ≡ map state_of_row (take m t.sessions)
one_more_state t k m s states e so is =
    ap (λ (l : List SessionState). l ++ s ∷ []) so
    ∙ sym (one_more t.sessions k m s e (is ∙ ap (option_map state_of_row) (session_at t m k e)))

get_states : (rows : List SessionRow) (n : ℕ) → slice_get (map state_of_row rows) n ≡ option_map state_of_row (slice_get rows n)
get_states [] n = refl
get_states (r ∷ rows) zero = refl
get_states (r ∷ rows) (suc n) = get_states rows n

pub all_states : (t : TablesOf SessionRow) (k : ℕ) (states : List SessionState) → length t.sessions ≤ k → states ≡ map state_of_row (take k t.sessions)
    → (n : ℕ) → opening_state states n ≡ option_map state_of_row (session_in t n)
all_states t k states all so zero = refl
all_states t k states all so (suc n) =
    ap (λ (l : List SessionState). slice_get l n) (so ∙ ap (map state_of_row) (take_all k t.sessions all)) ∙ get_states t.sessions n
