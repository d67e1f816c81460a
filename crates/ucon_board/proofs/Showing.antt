-- What a board shows of entries behind a trace, and what it still shows with one entry more.
use Rattle.std.proofs.Common.{◌≡◌, ℕ, zero, suc, ◌≤◌, Bool, true, false, List, [], ◌∷◌, ◌++◌, length, take, take_all, length-append, refl, sym, ap, ◌∙◌, subst, arith}
use Rattle.std.proofs.lemmas.List.{take-append-le}
use Rattle.std.specs.Prelude.{not}
use Rattle.std.specs.Option.{option_or}
use mathlib.Core.List.{IsPrefix}
use Rattle.ucon_model.specs.declared.command.Entry.{Entry}
use Rattle.ucon_model.specs.Action.{Trace}
use Rattle.ucon_model.specs.Block.{after, reply}
use Rattle.ucon_model.specs.History.{History, trace_from}
use Rattle.ucon_model.specs.Plain.{PlainPolicy, PlainReply}
use Rattle.ucon_board.specs.Board.{Board, GoesOn, all_namings, last_state, opening_state, posted, state_in}
use Rattle.ucon_board.specs.States.{IsPosted, IsTrueOf, ShowsFirst, replies_behind, state_after}
use Rattle.ucon_board.proofs.Prefixes.{prefix_self, prefix_trans}

-- what all replies to entries say
abbrev pub AllSay : Type 0
AllSay = (P : PlainPolicy) (T : Trace) (H : History) (n : ℕ)
    → option_or (last_state (all_namings (replies_behind P T H)) n) (state_after T n) ≡ state_after (trace_from P T H) n

board_says : AllSay → (P : PlainPolicy) (T : Trace) (H : History) (b : Board) → b.replies ≡ replies_behind P T H
    → ((n : ℕ) → opening_state b.sessions n ≡ state_after T n) → (n : ℕ) → state_in b n ≡ state_after (trace_from P T H) n
board_says all P T H b are opening n =
    ap (λ rs. option_or (last_state (all_namings rs) n) (opening_state b.sessions n)) are
    ∙ (ap (option_or (last_state (all_namings (replies_behind P T H)) n)) (opening n) ∙ all P T H n)

-- ---- a board that was read earlier

prefix_replies : (xs : List PlainReply) (P : PlainPolicy) (T : Trace) (H : History) → IsPrefix xs (replies_behind P T H) → xs ≡ replies_behind P T (take (length xs) H)
prefix_replies [] P T [] p = refl
prefix_replies [] P T (e ∷ H) p = refl
prefix_replies (x ∷ xs) P T [] p = absurd (cc (p.1))
prefix_replies (x ∷ xs) P T (e ∷ H) p =
    let first : x ≡ reply P T e.caller e.command = cc (p.1) in
    let rest = prefix_replies xs P (after P T e.caller e.command) H (p.0, cc (p.1)) in
    λ i. first i ∷ rest i

prefix_count : (xs : List PlainReply) (P : PlainPolicy) (T : Trace) (H : History) → IsPrefix xs (replies_behind P T H) → length xs ≤ length H
prefix_count [] P T H p = omega arith
prefix_count (x ∷ xs) P T [] p = absurd (cc (p.1))
prefix_count (x ∷ xs) P T (e ∷ H) p = omega (arith, prefix_count xs P (after P T e.caller e.command) H (p.0, cc (p.1)))

take_take : (j k : ℕ) (H : History) → j ≤ k → take j (take k H) ≡ take j H
take_take zero k [] le = refl
take_take zero zero (e ∷ H) le = refl
take_take zero (suc k) (e ∷ H) le = refl
take_take (suc j) zero H le = absurd (omega (arith, le))
take_take (suc j) (suc k) [] le = refl
take_take (suc j) (suc k) (e ∷ H) le = ap (λ l. e ∷ l) (take_take j k H (omega (arith, le)))

count_take : (k : ℕ) (H : History) → k ≤ length H → length (take k H) ≡ k
count_take zero [] le = refl
count_take zero (e ∷ H) le = refl
count_take (suc k) [] le = absurd (omega (arith, le))
count_take (suc k) (e ∷ H) le = ap suc (count_take k H (omega (arith, le)))

pub true_of : AllSay → (P : PlainPolicy) (T : Trace) (H : History) (b w : Board) (behind : Bool) → ShowsFirst P T H w behind → GoesOn b w → IsTrueOf P T H b
true_of all P T H b w behind s on =
    let K : History = take (length w.replies) H in
    let shows : IsPrefix w.replies (replies_behind P T K) = subst (λ l. IsPrefix w.replies l) s.replies (prefix_self w.replies) in
    let begins = prefix_trans b.replies w.replies (replies_behind P T K) on.replies shows in
    let few : length b.replies ≤ length K = prefix_count b.replies P T K begins in
    let le : length b.replies ≤ length w.replies = omega (arith, few, count_take (length w.replies) H s.within) in
    record {
      within = omega (arith, le, s.within);
      states = λ n. board_says all P T (take (length b.replies) K) b (prefix_replies b.replies P T K begins)
          (λ m. ap (λ l. opening_state l m) (sym on.sessions) ∙ s.states m) n
          ∙ ap (λ (L : History). state_after (trace_from P T L) n) (take_take (length b.replies) (length w.replies) H le);
    }

-- ---- one entry more

pub unpublished : (P : PlainPolicy) (T : Trace) (H : History) (w : Board) (behind : Bool) (e : Entry) → ShowsFirst P T H w behind → ShowsFirst P T (H ++ e ∷ []) w true
unpublished P T H w behind e s = record {
  states = s.states;
  within = omega (arith, s.within, length-append H (e ∷ []));
  replies = s.replies ∙ ap (replies_behind P T) (sym (take-append-le (length w.replies) H (e ∷ []) s.within));
  in_step = λ no. absurd (let bad : true ≡ false = no in cc bad);
}

replies_more : (P : PlainPolicy) (T : Trace) (H : History) (e : Entry)
    → replies_behind P T (H ++ e ∷ []) ≡ replies_behind P T H ++ reply P (trace_from P T H) e.caller e.command ∷ []
replies_more P T [] e = refl
replies_more P T (f ∷ H) e = ap (λ rs. reply P T f.caller f.command ∷ rs) (replies_more P (after P T f.caller f.command) H e)

one_more : (P : PlainPolicy) (T : Trace) (H : History) (w : Board) (e : Entry) → ShowsFirst P T H w false
    → ShowsFirst P T (H ++ e ∷ []) (posted w (reply P (trace_from P T H) e.caller e.command)) false
one_more P T H w e s =
    let r = reply P (trace_from P T H) e.caller e.command in
    let all = s.in_step refl in
    let count : length (w.replies ++ r ∷ []) ≡ length (H ++ e ∷ []) = omega (arith, all, length-append H (e ∷ []), length-append w.replies (r ∷ [])) in
    let whole : w.replies ≡ replies_behind P T H = s.replies ∙ ap (replies_behind P T) (take_all (length w.replies) H (omega (arith, all))) in
    record {
      states = s.states;
      within = omega (arith, count);
      replies = ap (λ l. l ++ r ∷ []) whole ∙ (sym (replies_more P T H e)
          ∙ ap (replies_behind P T) (sym (take_all (length (w.replies ++ r ∷ [])) (H ++ e ∷ []) (omega (arith, count)))));
      in_step = λ _. count;
    }

pub published : (P : PlainPolicy) (T : Trace) (H : History) (w new : Board) (e : Entry) (r : PlainReply) (done : Bool) → ShowsFirst P T H w false
    → r ≡ reply P (trace_from P T H) e.caller e.command → IsPosted done r w new → ShowsFirst P T (H ++ e ∷ []) new (not done)
published P T H w new e r true s is now =
    subst (λ (v : Board). ShowsFirst P T (H ++ e ∷ []) v false) (sym (now ∙ ap (posted w) is)) (one_more P T H w e s)
published P T H w new e r false s is now = subst (λ (v : Board). ShowsFirst P T (H ++ e ∷ []) v true) (sym now) (unpublished P T H w false e s)
