-- One client's answers, as the list grows.
use Rattle.std.proofs.Common.{◌≡◌, ◌≢◌, ℕ, ◌+◌, ◌-◌, ◌<◌, ◌≤◌, Bool, true, false, true≢false, List, [], ◌∷◌, ◌++◌, map, length, get_or, take, drop, refl, sym, ap, ◌∙◌, subst, ⊎_elim, arith}
use Rattle.std.specs.Prelude.{IsTrue, nat_eq, if◌then◌else◌}
use Rattle.std.specs.List.{filter}
use Rattle.std.proofs.Math.Seq.{drop-length}
use Rattle.std.proofs.lemmas.Bool.{eq-eqb, ne_eqb}
use Rattle.std.proofs.lemmas.List.{append-nil, length-append, map-append, take-append-le, take_at}
use Rattle.std.proofs.lemmas.List.Elements.{filter-append}
use Rattle.ucon_turn.specs.Lists.{Has, Begins, Continues, ByOthers}
use Rattle.ucon_client.proofs.Seats.{has_each, continues_map}
use Rattle.ucon_model.specs.declared.command.Caller.{Caller}
use Rattle.ucon_model.specs.declared.command.Entry.{Entry}
use Rattle.ucon_model.specs.History.{History, changes}
use Rattle.ucon_model.specs.LegalRun.{Answer, no_memory, disk_fault, stopped, placed, Answered, with_record, recorded, stands_on, Saw, StaysStopped, AreInOrder, own_answers, is_disk_fault}
use Rattle.ucon_store.specs.declared.event.Event.{Event}
use Rattle.ucon_store.specs.declared.event.Event.TheVariants.{Done, Failed}
use Rattle.ucon_store.specs.Events.{number_of}
use Rattle.ucon_client.specs.Events.{entries_in, marks_in, EndsAtMark, appended}
use Rattle.ucon_client.specs.Clients.{AreRight, IsSaidBy, IsSaidIn, Replies, Shows, Steps, Tells, WouldChange, answered, behind, faulted, numbered_from}
use Rattle.ucon_base.specs.Elements.{Each, each_append, each_both, each_map}
use Rattle.ucon_client.proofs.Listing.{entries_append, marks_append, entries_done, marks_done, ends_done, ends_more, no_front, no_rest, nothing_more, behind_append}

-- whether a line is the client's
abbrev own_line : ℕ → Entry → Bool
own_line client e = nat_eq client e.caller.0

-- whether an entry under its place is the client's
abbrev own_record : ℕ → ℕ × Entry → Bool
own_record client x = nat_eq client x.1.caller.0

-- ---- answers behind answers

kept_append : {T : Type 0} (b : Bool) (x : T) (xs ys : List T) → (if b then x ∷ (xs ++ ys) else xs ++ ys) ≡ (if b then x ∷ xs else xs) ++ ys
kept_append true x xs ys = refl
kept_append false x xs ys = refl

with_record-append : (line : Entry) (a : Answer) (xs ys : List (ℕ × Entry)) → with_record line a (xs ++ ys) ≡ with_record line a xs ++ ys
with_record-append line no_memory xs ys = refl
with_record-append line disk_fault xs ys = refl
with_record-append line stopped xs ys = refl
with_record-append line (placed place reply) xs ys = kept_append (changes reply) (place, line) xs ys

pub recorded-append : (xs ys : List Answered) → recorded (xs ++ ys) ≡ recorded xs ++ recorded ys
recorded-append [] ys = refl
recorded-append (t ∷ xs) ys = ap (with_record t.line t.answer) (recorded-append xs ys) ∙ with_record-append t.line t.answer (recorded xs) (recorded ys)

pub faulted-append : (xs ys : List Answered) → faulted (xs ++ ys) ≡ faulted xs ++ faulted ys
faulted-append xs ys =
    ap (map (λ (t : Answered). t.line)) (filter-append (λ (t : Answered). is_disk_fault t.answer) xs ys)
    ∙ map-append (λ (t : Answered). t.line) (filter (λ (t : Answered). is_disk_fault t.answer) xs) (filter (λ (t : Answered). is_disk_fault t.answer) ys)

-- what an answer owes to an earlier one
abbrev pub Follows : Answer → Answer → Type 0
Follows earlier later = Saw earlier later × StaysStopped earlier later

abbrev pub SeenFollows : (Caller → Caller → Bool) → Answered → Answered → Type 0
SeenFollows sees t later = IsTrue (sees t.line.caller later.line.caller) → Follows t.answer later.answer

pub in_order-append : (sees : Caller → Caller → Bool) (xs ys : List Answered) → AreInOrder sees xs → AreInOrder sees ys
    → Each (λ t. Each (SeenFollows sees t) ys) xs → AreInOrder sees (xs ++ ys)
in_order-append sees [] ys p q h = q
in_order-append sees (t ∷ xs) ys p q h = (each_append (SeenFollows sees t) xs ys p.0 h.0, in_order-append sees xs ys p.1 q h.1)

-- ---- an answer over a longer list

said_on : (says : Replies) (opening : ℕ) (H more : History) (line : Entry) (a : Answer) → IsSaidBy says opening H line a → IsSaidBy says opening (H ++ more) line a
said_on says opening H more line no_memory h = tt
said_on says opening H more line disk_fault h = tt
said_on says opening H more line stopped h = tt
said_on says opening H more line (placed place reply) h = (
  h.0,
  omega (arith, h.1, length-append H more),
  h.2 ∙ ap (λ K. says K line.caller line.command) (sym (take-append-le (stands_on place reply) H more h.1)),
)

some_marks_on : (log more : List Event) → marks_in log ≢ [] → marks_in (log ++ more) ≢ []
some_marks_on log more some e = some (no_front (marks_in log) (marks_in more) (sym (marks_append log more) ∙ e))

shows_on : (log more : List Event) (a : Answer) → Shows log a → Shows (log ++ more) a
shows_on log more no_memory h = tt
shows_on log more disk_fault h = some_marks_on log more h
shows_on log more stopped h = some_marks_on log more h
shows_on log more (placed place reply) h = omega (arith, h, ap length (entries_append log more), length-append (entries_in log) (entries_in more))

-- a disk fault's reply would still change something, since nothing was appended behind its mark
changes_on : (says : Replies) (log more : List Event) (line : Entry) (a : Answer) → EndsAtMark (log ++ more) → Shows log a
    → (IsTrue (is_disk_fault a) → IsTrue (changes (says (entries_in log) line.caller line.command)))
    → IsTrue (is_disk_fault a) → IsTrue (changes (says (entries_in (log ++ more)) line.caller line.command))
changes_on says log more line no_memory ends shows h f = absurd (true≢false (sym f))
changes_on says log more line stopped ends shows h f = absurd (true≢false (sym f))
changes_on says log more line (placed place reply) ends shows h f = absurd (true≢false (sym f))
changes_on says log more line disk_fault ends shows h f =
    let same : log ≡ log ++ more = sym (ap (λ l. log ++ l) (nothing_more log more ends shows) ∙ append-nil log) in
    subst (λ l. IsTrue (changes (says (entries_in l) line.caller line.command))) same (h f)

-- ---- the list goes on, and so do the answers

-- what is asked of answers that follow others, where these log are appended
record AreNext (says : Replies) (client : ℕ) (G : History) (log more : List Event) (told : List Answered) : Type 0 where
  pub callers : Each (λ t. t.line.caller.0 ≡ client) told
  pub replies : Each (IsSaidIn says G (log ++ more)) told
  pub order : AreInOrder own_answers told
  pub earlier : (a : Answer) → Shows log a → Each (λ t. Follows a t.answer) told
  pub records : recorded told ≡ filter (own_record client) (numbered_from (length (entries_in log)) (entries_in more))
  pub faults : faulted told ≡ filter (own_line client) (marks_in more)
  pub would_change : Each (WouldChange says (log ++ more)) told
  pub shown : Each (λ t. Shows (log ++ more) t.answer) told

goes_on : (says : Replies) (client : ℕ) (G : History) (log more : List Event) (told later : List Answered) → AreRight says client G log told
    → EndsAtMark (log ++ more) → AreNext says client G log more later → AreRight says client G (log ++ more) (told ++ later)
goes_on says client G log more told later r ends n = record {
  opened = omega (arith, r.opened, ap length (entries_append log more), length-append (entries_in log) (entries_in more));
  ends = ends;
  callers = each_append (λ t. t.line.caller.0 ≡ client) told later r.callers n.callers;
  replies = each_append (IsSaidIn says G (log ++ more)) told later
      (each_map (IsSaidIn says G log) (IsSaidIn says G (log ++ more))
      (λ t h. subst (λ H. IsSaidBy says (length G) H t.line t.answer) (sym (entries_append log more)) (said_on says (length G) (entries_in log) (entries_in more) t.line t.answer h))
      told r.replies)
      n.replies;
  order = in_order-append own_answers told later r.order n.order
      (each_map (λ t. Shows log t.answer) (λ t. Each (SeenFollows own_answers t) later)
      (λ t h. each_map (λ s. Follows t.answer s.answer) (SeenFollows own_answers t) (λ s f sees. f) later (n.earlier t.answer h))
      told r.shown);
  records = recorded-append told later ∙ ((λ i. r.records i ++ n.records i)
      ∙ sym (ap (filter (own_record client)) (behind_append G log more r.opened)
      ∙ filter-append (own_record client) (behind G log) (numbered_from (length (entries_in log)) (entries_in more))));
  faults = faulted-append told later ∙ ((λ i. r.faults i ++ n.faults i)
      ∙ sym (ap (filter (own_line client)) (marks_append log more) ∙ filter-append (own_line client) (marks_in log) (marks_in more)));
  would_change = each_append (WouldChange says (log ++ more)) told later
      (each_both (λ t. Shows log t.answer) (WouldChange says log) (WouldChange says (log ++ more))
      (λ t s h. changes_on says log more t.line t.answer ends s h) told r.shown r.would_change)
      n.would_change;
  shown = each_append (λ t. Shows (log ++ more) t.answer) told later
      (each_map (λ t. Shows log t.answer) (λ t. Shows (log ++ more) t.answer) (λ t h. shows_on log more t.answer h) told r.shown) n.shown;
}

-- ---- log of others

not_own : (client : ℕ) (e : Entry) → e.caller.0 + 1 ≢ client + 1 → own_line client e ≡ false
not_own client e h = ne_eqb client e.caller.0 (λ same. h (ap (λ k. k + 1) (sym same)))

no_own_records : (client n : ℕ) (more : List Event) → Each (λ i. number_of i ≢ client + 1) more → filter (own_record client) (numbered_from n (entries_in more)) ≡ []
no_own_records client n [] h = refl
no_own_records client n (Done e ∷ more) h = rw (not_own client e h.0) (no_own_records client (n + 1) more h.1)
no_own_records client n (Failed e ∷ more) h = no_own_records client n more h.1

no_own_marks : (client : ℕ) (more : List Event) → Each (λ i. number_of i ≢ client + 1) more → filter (own_line client) (marks_in more) ≡ []
no_own_marks client [] h = refl
no_own_marks client (Done e ∷ more) h = no_own_marks client more h.1
no_own_marks client (Failed e ∷ more) h = rw (not_own client e h.0) (no_own_marks client more h.1)

-- a client's answers stay right where others append
pub others_append : (says : Replies) (client : ℕ) (G : History) (log later : List Event) (told : List Answered) → AreRight says client G log told
    → Continues (λ i. number_of i ≢ client + 1) log later → EndsAtMark later → AreRight says client G later told
others_append says client G log later told r c ends =
    let whole : AreRight says client G (log ++ c.0) (told ++ []) = goes_on says client G log c.0 told [] r (subst EndsAtMark (sym c.1) ends) (record {
      callers = tt;
      replies = tt;
      order = tt;
      earlier = λ a h. tt;
      records = sym (no_own_records client (length (entries_in log)) c.0 c.2);
      faults = sym (no_own_marks client c.0 c.2);
      would_change = tt;
      shown = tt;
    }) in
    subst (λ l. AreRight says client G l told) c.1 (subst (λ l. AreRight says client G (log ++ c.0) l) (append-nil told) whole)

-- what a seat is told of others' log, in a call or in a join
others_are : (client n : ℕ) (taken : List ℕ) → Has (n ∷ taken) (client + 1) → (i : Event) → ByOthers number_of n taken i → number_of i ≢ client + 1
others_are client n taken has i by = ⊎_elim
    (λ (e : client + 1 ≡ n). λ (same : number_of i ≡ client + 1). by.0 (same ∙ e))
    (λ (h : Has taken (client + 1)). has_each (λ k. number_of i ≢ k) (client + 1) taken by.1 h) has

pub others_change_nothing : (says : Replies) (client : ℕ) (G : History) (seen later : List Event) (told : List Answered) (n : ℕ) (taken : List ℕ)
    → AreRight says client G seen told → Has (n ∷ taken) (client + 1) → Continues (ByOthers number_of n taken) seen later → EndsAtMark later
    → AreRight says client G later told
others_change_nothing says client G seen later told n taken r has c ends =
    others_append says client G seen later told r
    (continues_map (ByOthers number_of n taken) (λ i. number_of i ≢ client + 1) (others_are client n taken has) seen later c) ends

-- ---- no answers yet

pub begins_right : (says : Replies) (client : ℕ) (G : History) (seen : List Event) → Continues (λ i. number_of i ≢ client + 1) (map Done G) seen
    → EndsAtMark seen → AreRight says client G seen []
begins_right says client G seen c ends =
    let none : drop (length G) (entries_in (map Done G)) ≡ [] = ap (drop (length G)) (entries_done G) ∙ drop-length G in
    others_append says client G (map Done G) seen [] (record {
      opened = omega (arith, ap length (entries_done G));
      ends = ends_done G;
      callers = tt;
      replies = tt;
      order = tt;
      records = ap (λ l. filter (own_record client) (numbered_from (length G) l)) (sym none);
      faults = ap (filter (own_line client)) (sym (marks_done G));
      would_change = tt;
      shown = tt;
    }) c ends

-- ---- one more line

entries_more : (log : List Event) (line : Entry) → length (entries_in (log ++ Done line ∷ [])) ≡ length (entries_in log) + 1
entries_more log line = ap length (entries_append log (Done line ∷ [])) ∙ length-append (entries_in log) (line ∷ [])

-- a reply stands on the list before its step
stands_by : (b : Bool) (log : List Event) (line : Entry) (place : ℕ) → place ≡ length (entries_in (log ++ (if b then Done line ∷ [] else [])))
    → (if b then place - 1 else place) ≡ length (entries_in log)
stands_by true log line place e = omega (arith, e, entries_more log line)
stands_by false log line place e = e ∙ ap (λ l. length (entries_in l)) (append-nil log)

-- the answer comes after each that the list before shows
after_earlier : (says : Replies) (log : List Event) (line : Entry) (earlier a : Answer) → Shows log earlier → Tells says line log (log ++ appended line a) a
    → Follows earlier a
after_earlier says log line no_memory a shows t = (tt, tt)
after_earlier says log line disk_fault no_memory shows t = absurd (shows t)
after_earlier says log line disk_fault disk_fault shows t = absurd (shows t.0)
after_earlier says log line disk_fault stopped shows t = (tt, refl)
after_earlier says log line disk_fault (placed place reply) shows t = absurd (shows t.0)
after_earlier says log line stopped no_memory shows t = absurd (shows t)
after_earlier says log line stopped disk_fault shows t = absurd (shows t.0)
after_earlier says log line stopped stopped shows t = (tt, refl)
after_earlier says log line stopped (placed place reply) shows t = absurd (shows t.0)
after_earlier says log line (placed place reply) no_memory shows t = (tt, tt)
after_earlier says log line (placed place reply) disk_fault shows t = (tt, tt)
after_earlier says log line (placed place reply) stopped shows t = (tt, tt)
after_earlier says log line (placed place reply) (placed later more) shows t = (omega (arith, shows, stands_by (changes more) log line later t.2), tt)

recorded_by : (b : Bool) (client : ℕ) (log : List Event) (line : Entry) (place : ℕ) → line.caller.0 ≡ client
    → place ≡ length (entries_in (log ++ (if b then Done line ∷ [] else [])))
    → (if b then (place, line) ∷ [] else []) ≡ filter (own_record client) (numbered_from (length (entries_in log)) (entries_in (if b then Done line ∷ [] else [])))
recorded_by true client log line place own e = rw (eq-eqb client line.caller.0 (sym own)) (ap (λ k. (k, line) ∷ []) (e ∙ entries_more log line))
recorded_by false client log line place own e = refl

no_marks_by : (b : Bool) (client : ℕ) (line : Entry) → [] ≡ filter (own_line client) (marks_in (if b then Done line ∷ [] else []))
no_marks_by true client line = refl
no_marks_by false client line = refl

ends_by : (b : Bool) (line : Entry) → EndsAtMark (if b then Done line ∷ [] else [])
ends_by true line = tt
ends_by false line = tt

marked_last : (log : List Event) (line : Entry) → marks_in (log ++ Failed line ∷ []) ≢ []
marked_last log line e = absurd (let none = no_rest (marks_in log) (line ∷ []) (sym (marks_append log (Failed line ∷ [])) ∙ e) in (cc))

-- what one step's answer says
next_by_step : (says : Replies) (client : ℕ) (G : History) (log : List Event) (line : Entry) (a : Answer) → line.caller.0 ≡ client → length G ≤ length (entries_in log)
    → Tells says line log (log ++ appended line a) a → AreNext says client G log (appended line a) (record { line = line; answer = a } ∷ [])
next_by_step says client G log line no_memory own le t = record {
  callers = (own, tt);
  replies = (tt, tt);
  order = (tt, tt);
  earlier = λ b h. (after_earlier says log line b no_memory h t, tt);
  records = refl;
  faults = refl;
  would_change = ((λ f. absurd (true≢false (sym f))), tt);
  shown = (tt, tt);
}
next_by_step says client G log line stopped own le t = record {
  callers = (own, tt);
  replies = (tt, tt);
  order = (tt, tt);
  earlier = λ b h. (after_earlier says log line b stopped h t, tt);
  records = refl;
  faults = refl;
  would_change = ((λ f. absurd (true≢false (sym f))), tt);
  shown = (some_marks_on log [] t, tt);
}
next_by_step says client G log line disk_fault own le t = record {
  callers = (own, tt);
  replies = (tt, tt);
  order = (tt, tt);
  earlier = λ b h. (after_earlier says log line b disk_fault h t, tt);
  records = refl;
  faults = rw (eq-eqb client line.caller.0 (sym own));
  would_change = ((λ f. subst (λ H. IsTrue (changes (says H line.caller line.command))) (sym (entries_append log (Failed line ∷ []) ∙ append-nil (entries_in log))) t.1), tt);
  shown = (marked_last log line, tt);
}
next_by_step says client G log line (placed place reply) own le t =
    let more : List Event = appended line (placed place reply) in
    let stands : stands_on place reply ≡ length (entries_in log) = stands_by (changes reply) log line place t.2 in
    let seen : take (stands_on place reply) (entries_in (log ++ more)) ≡ entries_in log =
    ap (take (stands_on place reply)) (entries_append log more) ∙ take_at (entries_in log) (entries_in more) (stands_on place reply) (sym stands) in
    record {
      callers = (own, tt);
      replies = (
        (
          omega (arith, le, stands),
          omega (arith, stands, ap length (entries_append log more), length-append (entries_in log) (entries_in more)),
          t.1 ∙ ap (λ K. says K line.caller line.command) (sym seen),
        ),
        tt,
      );
      order = (tt, tt);
      earlier = λ b h. (after_earlier says log line b (placed place reply) h t, tt);
      records = recorded_by (changes reply) client log line place own t.2;
      faults = no_marks_by (changes reply) client line;
      would_change = ((λ f. absurd (true≢false (sym f))), tt);
      shown = (omega (arith, t.2), tt);
    }

ends_after : (says : Replies) (log : List Event) (line : Entry) (a : Answer) → EndsAtMark log → Tells says line log (log ++ appended line a) a
    → EndsAtMark (log ++ appended line a)
ends_after says log line no_memory h t = ends_more log [] t tt
ends_after says log line disk_fault h t = ends_more log (Failed line ∷ []) t.0 refl
ends_after says log line stopped h t = subst EndsAtMark (sym (append-nil log)) h
ends_after says log line (placed place reply) h t = ends_more log (appended line (placed place reply)) t.0 (ends_by (changes reply) line)

-- one answer more
answered_none : (lines : List Entry) → answered lines [] ≡ []
answered_none [] = refl
answered_none (line ∷ lines) = refl

pub answered-push : (lines : List Entry) (answers : List Answer) (line : Entry) (a : Answer) → length answers < length lines → line ≡ get_or lines (length answers) line
    → answered lines (answers ++ a ∷ []) ≡ answered lines answers ++ record { line = line; answer = a } ∷ []
answered-push [] answers line a lt is = absurd (omega arith)
answered-push (l ∷ lines) [] line a lt is = λ i. record { line = sym is i; answer = a } ∷ answered_none lines i
answered-push (l ∷ lines) (b ∷ answers) line a lt is = ap (λ told. record { line = l; answer = b } ∷ told) (answered-push lines answers line a (omega arith) is)

pub stays_right : (says : Replies) (client : ℕ) (G : History) (seen before after : List Event) (told : List Answered) (line : Entry) (a : Answer) (n : ℕ) (taken : List ℕ)
    → AreRight says client G seen told → line.caller.0 ≡ client
    → Has (n ∷ taken) (client + 1) → Continues (ByOthers number_of n taken) seen before → Steps says line before after a
    → AreRight says client G after (told ++ record { line = line; answer = a } ∷ [])
stays_right says client G seen before after told line a n taken r own has c s =
    let still : AreRight says client G before told = others_change_nothing says client G seen before told n taken r has c s.ends in
    let tells : Tells says line before (before ++ appended line a) a = subst (λ l. Tells says line before l a) s.appends s.tells in
    subst (λ l. AreRight says client G l (told ++ record { line = line; answer = a } ∷ [])) (sym s.appends)
    (goes_on says client G before (appended line a) told (record { line = line; answer = a } ∷ []) still (ends_after says before line a s.ends tells)
    (next_by_step says client G before line a own still.opened tells))

-- a mark that was seen is still there
pub seen_mark_stops : (says : Replies) (seen before after : List Event) (line : Entry) (a : Answer)
    → Begins seen before → Steps says line before after a → marks_in seen ≢ [] → a ≡ stopped
seen_mark_stops says seen before after line no_memory b s some = absurd (some_marks_on seen b.0 some (subst (λ l. marks_in l ≡ []) (sym b.1) s.tells))
seen_mark_stops says seen before after line disk_fault b s some = absurd (some_marks_on seen b.0 some (subst (λ l. marks_in l ≡ []) (sym b.1) s.tells.0))
seen_mark_stops says seen before after line stopped b s some = refl
seen_mark_stops says seen before after line (placed place reply) b s some = absurd (some_marks_on seen b.0 some (subst (λ l. marks_in l ≡ []) (sym b.1) s.tells.0))
