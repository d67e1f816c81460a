-- A run by what is said behind a history, as a legal run: behind a history, or after a trace.
use Rattle.std.proofs.Common.{◌≡◌, ℕ, zero, suc, ◌+◌, ◌-◌, Some, List, [], ◌∷◌, ◌++◌, map, length, take, drop, append_assoc, refl, sym, ap, ◌∙◌, subst, arith}
use Rattle.std.specs.Prelude.{IsTrue}
use Rattle.std.proofs.Math.Seq.{drop-append_seam}
use Rattle.std.proofs.lemmas.List.{length-append}
use Rattle.ucon_base.specs.Elements.{each_map}
use Rattle.ucon_model.specs.Action.{Trace}
use Rattle.ucon_model.specs.Block.{reply}
use Rattle.ucon_model.specs.declared.command.Caller.{Caller}
use Rattle.ucon_model.specs.declared.command.Command.{Command}
use Rattle.ucon_model.specs.declared.command.Command.TheVariants.{Look}
use Rattle.ucon_model.specs.declared.command.Entry.{Entry}
use Rattle.ucon_model.specs.History.{History, changes, said, trace, trace_from}
use Rattle.ucon_client.specs.LegalAfter.{IsLegalRunAfter, IsSaidAfter}
use Rattle.ucon_model.specs.LegalRun.{Answer, Answered, IsLegalRun, IsSaid, by_place, disk_fault, history_made, is_disk_fault, no_memory, own_answers, placed, recorded, stands_on, stopped}
use Rattle.ucon_model.specs.Plain.{PlainPolicy, PlainReply}
use Rattle.ucon_store.specs.Kept.{Kept}
use Rattle.ucon_store.specs.Starts.{IsStart}
use Rattle.ucon_store.specs.Whole.{IsFront}
use Rattle.ucon_syntax.specs.Policies.{accepted}
use Rattle.ucon_client.specs.Answers.{SaysFromStore}
use Rattle.ucon_client.specs.Clients.{IsSaidBy, Replies}
use Rattle.ucon_client.proofs.Following.{take_seam, trace_append}
use Rattle.ucon_client.proofs.Together.{IsRunBy}

-- ---- behind a history

said_so : (P : PlainPolicy) (n : ℕ) (H : History) (line : Entry) (a : Answer) → IsSaidBy (said P) n H line a → IsSaid P n H line a
said_so P n H line (placed place r) is = is
said_so P n H line no_memory is = tt
said_so P n H line disk_fault is = tt
said_so P n H line stopped is = tt

pub legal_run : (P : PlainPolicy) (G : History) (told : List Answered) → IsRunBy (said P) G told → IsLegalRun P own_answers G told
legal_run P G told run = record {
  places = run.places;
  replies = each_map (λ (t : Answered). IsSaidBy (said P) (length G) (history_made G told) t.line t.answer)
      (λ (t : Answered). IsSaid P (length G) (history_made G told) t.line t.answer)
      (λ t. said_so P (length G) (history_made G told) t.line t.answer) told run.replies;
  order = run.order;
  causes = record { once = run.once; would_change = run.would_change; by_fault = run.by_fault };
}

-- ---- after a trace

-- the history that is made is what is made behind none, behind the opening one
abbrev made_by : List Answered → History
made_by told = map (λ (x : ℕ × Entry). x.1) (by_place (recorded told))

module _ (says : Replies) (P : PlainPolicy) (T : Trace) (G H : History)
    (agree : (K : History) (caller : Caller) (c : Command) → says (G ++ K) caller c ≡ reply P (trace_from P T K) caller c) where
  abbrev front : History
  front = G ++ H

  abbrev opened : Trace
  opened = trace_from P T H

  says_behind : (es : History) (caller : Caller) (c : Command) → says (front ++ es) caller c ≡ reply P (trace_from P opened es) caller c
  says_behind es caller c =
      ap (λ (K : History). says K caller c) (append_assoc G H es) ∙ (agree (H ++ es) caller c ∙ ap (λ (U : Trace). reply P U caller c) (trace_append P T H es))

  said_after : (es : History) (line : Entry) (a : Answer) → IsSaidBy says (length front) (front ++ es) line a → IsSaidAfter P opened (length front) es line a
  said_after es line (placed place r) is = (
    is.0,
    omega (arith, is.1, length-append front es),
    is.2 ∙ (ap (λ (K : History). says K line.caller line.command) (take_seam front es (stands_on place r - length front) (stands_on place r) (omega (arith, is.0)))
        ∙ says_behind (take (stands_on place r - length front) es) line.caller line.command),
  )
  said_after es line no_memory is = tt
  said_after es line disk_fault is = tt
  said_after es line stopped is = tt

  pub legal_after : (told : List Answered) → IsRunBy says front told → IsLegalRunAfter P own_answers opened (length front) told
  legal_after told run =
      let es : History = made_by told in record {
        places = run.places;
        replies = each_map (λ (t : Answered). IsSaidBy says (length front) (front ++ es) t.line t.answer)
            (λ (t : Answered). IsSaidAfter P opened (length front) es t.line t.answer) (λ t. said_after es t.line t.answer) told run.replies;
        order = run.order;
        causes = record {
          once = run.once;
          would_change = each_map (λ (t : Answered). IsTrue (is_disk_fault t.answer) → IsTrue (changes (says (front ++ es) t.line.caller t.line.command)))
              (λ (t : Answered). IsTrue (is_disk_fault t.answer) → IsTrue (changes (reply P (trace_from P opened es) t.line.caller t.line.command)))
              (λ t each fault. subst (λ (r : PlainReply). IsTrue (changes r)) (says_behind es t.line.caller t.line.command) (each fault)) told run.would_change;
          by_fault = run.by_fault;
        };
      }

-- ---- replies after a trace, behind any history that is as long as what stands before

module _ (P : PlainPolicy) (T : Trace) (n : ℕ) where
  abbrev pub replies_after : Replies
  replies_after H caller c = reply P (trace_from P T (drop n H)) caller c

  pub replies_agree : (G : History) → length G ≡ n → (K : History) (caller : Caller) (c : Command) → replies_after (G ++ K) caller c ≡ reply P (trace_from P T K) caller c
  replies_agree G long K caller c =
      ap (λ (m : ℕ). reply P (trace_from P T (drop m (G ++ K))) caller c) (sym long) ∙ ap (λ (l : History). reply P (trace_from P T l) caller c) (drop-append_seam G K)

-- a history of this length, of no matter which entries
abbrev as_long : ℕ → History
as_long zero = []
as_long (suc n) = record { caller = record { 0 = 0 }; command = Look 0 } ∷ as_long n

as_long_is : (n : ℕ) → length (as_long n) ≡ n
as_long_is zero = refl
as_long_is (suc n) = ap suc (as_long_is n)

-- ---- from a store

module _ {D : Type 0} (P : PlainPolicy) (s : Kept D) (accepts : accepted s.policy ≡ Some P) where
  -- behind a history that leads to where it begins
  pub says_behind_history : (G : History) → IsFront P s G → SaysFromStore s (said P) G
  says_behind_history G front = record {
    P = P;
    accepts = accepts;
    begun = trace P G;
    starts = front.starts;
    count = front.count;
    replies = λ H caller c. ap (λ (U : Trace). reply P U caller c) (trace_append P [] G H);
  }

  -- after a trace that leads there
  pub says_after_trace : (T : Trace) → IsStart P s.point s.before T → (G : History) → length G ≡ s.before
      → SaysFromStore s (replies_after P T s.before) G
  says_after_trace T starts G long = record {
    P = P;
    accepts = accepts;
    begun = T;
    starts = starts;
    count = long;
    replies = replies_agree P T s.before G long;
  }

  module _ (T : Trace) (starts : IsStart P s.point s.before T) where
    abbrev Before : History
    Before = as_long s.before

    from : SaysFromStore s (replies_after P T s.before) Before
    from = says_after_trace T starts Before (as_long_is s.before)

    -- what each way to say so makes a run of is legal after the trace
    pub legal_behind_trace : (told : List Answered)
        → ((says : Replies) (G : History) → SaysFromStore s says G → IsRunBy says (G ++ s.entries) told)
        → IsLegalRunAfter P own_answers (trace_from P T s.entries) (s.before + length s.entries) told
    legal_behind_trace told each =
        let all : length (Before ++ s.entries) ≡ s.before + length s.entries = omega (arith, length-append Before s.entries, as_long_is s.before) in
        subst (λ (n : ℕ). IsLegalRunAfter P own_answers (trace_from P T s.entries) n told) all
        (legal_after (replies_after P T s.before) P T Before s.entries (replies_agree P T s.before Before (as_long_is s.before)) told
        (each (replies_after P T s.before) Before from))

    -- the entries that they make stand behind the store's
    pub made_behind_trace : (told : List Answered) (later : History)
        → ((says : Replies) (G : History) → SaysFromStore s says G → history_made (G ++ s.entries) told ≡ G ++ later)
        → history_made s.entries told ≡ later
    made_behind_trace told later each =
        sym (drop-append_seam Before (s.entries ++ made_by told))
        ∙ (ap (drop (length Before)) (sym (append_assoc Before s.entries (made_by told)) ∙ each (replies_after P T s.before) Before from)
        ∙ drop-append_seam Before later)

    -- and what is so by each way is so
    pub so_behind_trace : (A : Type 0) → ((says : Replies) (G : History) → SaysFromStore s says G → A) → A
    so_behind_trace A each = each (replies_after P T s.before) Before from
