-- The answers of all clients, over the list of the closed store.
use Rattle.std.proofs.Common.{◌≡◌, ◌≢◌, ℕ, ◌+◌, ◌<◌, ◌≤◌, Bool, true, false, true≢false, List, [], ◌∷◌, ◌++◌, Option, None, map, length, drop, refl, sym, ap, ◌∙◌, subst, ⊎_elim, arith}
use Rattle.std.specs.Prelude.{◌||◌, IsTrue, nat_eq, count_by, if◌then◌else◌, ⊤}
use Rattle.std.specs.List.{filter, list_any}
use Rattle.std.proofs.lemmas.Bool.{eq-eqb, eqb-true, ne_eqb, or_cases, or_from, or_left, or_right}
use Rattle.std.proofs.lemmas.List.{length-map}
use Rattle.std.proofs.lemmas.List.Sums.{length-filter}
use Rattle.ucon_turn.specs.Lists.{Has, Continues}
use Rattle.std.specs.Option.{option_to_list}
use Rattle.ucon_client.proofs.Seats.{has_each}
use Rattle.ucon_model.specs.declared.command.Entry.{Entry}
use Rattle.ucon_model.specs.History.{History, changes}
use Rattle.ucon_model.specs.LegalRun.{Answer, no_memory, disk_fault, stopped, placed, Answered, recorded, by_place, history_made, AreNumberedFrom, AreInOrder, own_answers, is_disk_fault, is_stopped}
use Rattle.ucon_store.specs.declared.event.Event.{Event}
use Rattle.ucon_store.specs.declared.event.Event.TheVariants.{Done, Failed}
use Rattle.ucon_store.specs.Events.{events, number_of}
use Rattle.ucon_store.specs.Marks.{marked}
use Rattle.ucon_client.specs.Events.{entries_in, marks_in, EndsAtMark}
use Rattle.ucon_client.specs.Clients.{AreJoined, AreRight, AreRising, IsSaidBy, IsSaidIn, Replies, Served, Shows, WouldChange, behind, faulted, numbered_from, told_by}
use Rattle.ucon_base.specs.Elements.{Each, each_always, each_append, each_both, each_map, filter_all, filter_none}
use Rattle.ucon_client.proofs.Placing.{put_all, by_place-append, are_numbered, numbered_entries, joined_numbered}
use Rattle.ucon_client.proofs.Listing.{entries_append, marks_append, entries_done, marks_done, entries_in-events, marks_in-events, one_mark, behind_done}
use Rattle.ucon_client.proofs.Joining.{number}
use Rattle.ucon_client.proofs.OneClient.{recorded-append, faulted-append, SeenFollows, in_order-append}

-- ---- whose lines

-- what holds of all lines of each client
pub each_told : (Q : Answered → Type 0) (clients : List Served) → Each (λ c. Each Q c.told) clients → Each Q (told_by clients)
each_told Q [] h = tt
each_told Q (c ∷ clients) h = each_append Q c.told (told_by clients) h.0 (each_told Q clients h.1)

-- whether a client has this number
abbrev listed : List Served → ℕ → Bool
listed [] k = false
listed (c ∷ clients) k = nat_eq c.number k || listed clients k

abbrev listed_line : List Served → Entry → Bool
listed_line clients e = listed clients e.caller.0

abbrev listed_record : List Served → ℕ × Entry → Bool
listed_record clients x = listed clients x.1.caller.0

not_listed : (n : ℕ) (clients : List Served) → Each (λ d. n ≢ d.number) clients → (k : ℕ) → nat_eq n k ≡ true → listed clients k ≡ false
not_listed n [] apart k e = refl
not_listed n (c ∷ clients) apart k e =
    or_from (nat_eq c.number k) (listed clients k) (ne_eqb c.number k (λ same. apart.0 (eqb-true n k e ∙ sym same))) (not_listed n clients apart.1 k e)

is_listed : (clients : List Served) (k : ℕ) → Has (map (λ c. c.number + 1) clients) (k + 1) → listed clients k ≡ true
is_listed [] k h = absurd h
is_listed (c ∷ clients) k h = ⊎_elim
    (λ (e : k + 1 ≡ c.number + 1). or_left (nat_eq c.number k) (listed clients k) (eq-eqb c.number k (omega arith)))
    (λ (later : Has (map (λ d. d.number + 1) clients) (k + 1)). or_right (nat_eq c.number k) (listed clients k) (is_listed clients k later)) h

module _ (clients : List Served) (taken : List ℕ) (ours : Each (Has (map (λ c. c.number + 1) clients)) taken) where
  -- nobody has the number 0
  taken_listed : (k : ℕ) → Has (0 ∷ taken) (k + 1) → listed clients k ≡ true
  taken_listed k h = ⊎_elim
      (λ (e : k + 1 ≡ 0). absurd (omega arith))
      (λ (t : Has taken (k + 1)). is_listed clients k (has_each (λ j. Has (map (λ c. c.number + 1) clients) j) (k + 1) taken ours t)) h

  records_listed : (n : ℕ) (rest : List Event) → Each (λ i. Has (0 ∷ taken) (number_of i)) rest → Each (λ x. listed_record clients x ≡ true) (numbered_from n (entries_in rest))
  records_listed n [] h = tt
  records_listed n (Done e ∷ rest) h = (taken_listed e.caller.0 h.0, records_listed (n + 1) rest h.1)
  records_listed n (Failed e ∷ rest) h = records_listed n rest h.1

  marks_listed : (rest : List Event) → Each (λ i. Has (0 ∷ taken) (number_of i)) rest → Each (λ e. listed_line clients e ≡ true) (marks_in rest)
  marks_listed [] h = tt
  marks_listed (Done e ∷ rest) h = marks_listed rest h.1
  marks_listed (Failed e ∷ rest) h = (taken_listed e.caller.0 h.0, marks_listed rest h.1)

-- no two clients have one number
abbrev AreApart : List Served → Type 0
AreApart [] = ⊤
AreApart (c ∷ clients) = Each (λ d. c.number ≢ d.number) clients × AreApart clients

above_apart : (n : ℕ) (clients : List Served) → Each (λ m. n < m) (map number clients) → Each (λ d. n ≢ d.number) clients
above_apart n [] up = tt
above_apart n (d ∷ clients) up = (λ same. absurd (let lt : n < d.number = up.0 in omega (arith, lt, same)), above_apart n clients up.1)

rising_apart : (clients : List Served) → AreRising (map number clients) → AreApart clients
rising_apart [] up = tt
rising_apart (c ∷ clients) up = (above_apart c.number clients up.0, rising_apart clients up.1)

-- ---- one mark

one_by : {T : Type 0} (a b : Bool) (x : T) → (a ≡ true → b ≡ false) → (if a then x ∷ [] else []) ++ (if b then x ∷ [] else []) ≡ (if a || b then x ∷ [] else [])
one_by true true x apart = absurd (true≢false (apart refl))
one_by true false x apart = refl
one_by false b x apart = refl

-- parts of a list of at most one
one_joined : (p q : Entry → Bool) (marks : List Entry) → length marks ≤ 1 → ((e : Entry) → p e ≡ true → q e ≡ false)
    → filter p marks ++ filter q marks ≡ filter (λ e. p e || q e) marks
one_joined p q [] le apart = refl
one_joined p q (e ∷ []) le apart = one_by (p e) (q e) e (apart e)
one_joined p q (e ∷ (f ∷ marks)) le apart = absurd (omega arith)

some_by : (b : Bool) (t : Answered) (faults : List Answered) (later : Bool) → (map (λ s. s.line) faults ≢ [] → later ≡ true)
    → map (λ s. s.line) (if b then t ∷ faults else faults) ≢ [] → (b || later) ≡ true
some_by true t faults later h some = refl
some_by false t faults later h some = h some

some_fault : (told : List Answered) → faulted told ≢ [] → list_any (λ t. is_disk_fault t.answer) told ≡ true
some_fault [] some = absurd (some refl)
some_fault (t ∷ told) some =
    some_by (is_disk_fault t.answer) t (filter (λ s. is_disk_fault s.answer) told) (list_any (λ s. is_disk_fault s.answer) told) (some_fault told) some

stop_shows : (log : List Event) (a : Answer) → Shows log a → is_stopped a ≡ true → marks_in log ≢ []
stop_shows log no_memory h e = absurd (true≢false (sym e))
stop_shows log disk_fault h e = h
stop_shows log stopped h e = h
stop_shows log (placed place reply) h e = absurd (true≢false (sym e))

-- lines are stopped by a mark alone
some_mark : (log : List Event) (told : List Answered) → Each (λ t. Shows log t.answer) told → list_any (λ t. is_stopped t.answer) told ≡ true → marks_in log ≢ []
some_mark log [] h e = absurd (true≢false (sym e))
some_mark log (t ∷ told) h e = ⊎_elim
    (λ (here : is_stopped t.answer ≡ true). stop_shows log t.answer h.0 here)
    (λ (later : list_any (λ s. is_stopped s.answer) told ≡ true). some_mark log told h.1 later)
    (or_cases (is_stopped t.answer) (list_any (λ s. is_stopped s.answer) told) e)

-- ---- all together

module _ (says : Replies) (G : History) (log : List Event) where
  -- the records of all clients, put by their places, are the entries behind the opening history that are theirs
  records_together : (clients : List Served) → Each (λ c. AreRight says c.number G log c.told) clients → AreApart clients
      → by_place (recorded (told_by clients)) ≡ filter (listed_record clients) (behind G log)
  records_together [] right apart = sym (filter_none (λ x. false) (behind G log) (each_always (λ x. false ≡ false) (λ x. refl) (behind G log)))
  records_together (c ∷ clients) right apart =
      ap by_place (recorded-append c.told (told_by clients)) ∙ (by_place-append (recorded c.told) (recorded (told_by clients))
      ∙ ((λ i. put_all (right.0.records i) (records_together clients right.1 apart.1 i))
      ∙ joined_numbered (λ x. nat_eq c.number x.1.caller.0) (listed_record clients) (length G) (drop (length G) (entries_in log))
      (λ x e. not_listed c.number clients apart.0 x.1.caller.0 e)))

  -- and so are the lines with a disk fault the marks that are theirs
  faults_together : (clients : List Served) → Each (λ c. AreRight says c.number G log c.told) clients → AreApart clients → EndsAtMark log
      → faulted (told_by clients) ≡ filter (listed_line clients) (marks_in log)
  faults_together [] right apart ends = sym (filter_none (λ e. false) (marks_in log) (each_always (λ e. false ≡ false) (λ e. refl) (marks_in log)))
  faults_together (c ∷ clients) right apart ends =
      faulted-append c.told (told_by clients) ∙ ((λ i. right.0.faults i ++ faults_together clients right.1 apart.1 ends i)
      ∙ one_joined (λ e. nat_eq c.number e.caller.0) (listed_line clients) (marks_in log) (one_mark log ends)
      (λ e own. not_listed c.number clients apart.0 e.caller.0 own))

  -- no client sees another's answers
  order_together : (clients : List Served) → Each (λ c. AreRight says c.number G log c.told) clients → AreApart clients → AreInOrder own_answers (told_by clients)
  order_together [] right apart = tt
  order_together (c ∷ clients) right apart =
      let others : Each (λ t. c.number ≢ t.line.caller.0) (told_by clients) = each_told (λ t. c.number ≢ t.line.caller.0) clients
      (each_both (λ d. c.number ≢ d.number) (λ d. AreRight says d.number G log d.told) (λ d. Each (λ t. c.number ≢ t.line.caller.0) d.told)
      (λ d other r. each_map (λ t. t.line.caller.0 ≡ d.number) (λ t. c.number ≢ t.line.caller.0) (λ t e same. other (same ∙ e)) d.told r.callers)
      clients apart.0 right.1) in
      in_order-append own_answers c.told (told_by clients) right.0.order (order_together clients right.1 apart.1)
      (each_map (λ t. t.line.caller.0 ≡ c.number) (λ t. Each (SeenFollows own_answers t) (told_by clients))
      (λ t own. each_map (λ s. c.number ≢ s.line.caller.0) (SeenFollows own_answers t)
      (λ s other sees. absurd (other (sym own ∙ eqb-true t.line.caller.0 s.line.caller.0 sees))) (told_by clients) others)
      c.told right.0.callers)

  each_client : (Q : Answered → Type 0) (clients : List Served) → ((c : Served) → AreRight says c.number G log c.told → Each Q c.told)
      → Each (λ c. AreRight says c.number G log c.told) clients → Each Q (told_by clients)
  each_client Q clients f right = each_told Q clients (each_map (λ c. AreRight says c.number G log c.told) (λ c. Each Q c.told) f clients right)

-- ---- what the run is, by what is said behind a history

-- a run is legal behind an opening history, as a legal run is, by these replies
pub record IsRunBy (says : Replies) (G : History) (told : List Answered) : Type 0 where
  pub places : AreNumberedFrom (length G) (by_place (recorded told))
  pub replies : Each (λ t. IsSaidBy says (length G) (history_made G told) t.line t.answer) told
  pub order : AreInOrder own_answers told
  pub once : count_by (λ t. is_disk_fault t.answer) told ≤ 1
  pub would_change : Each (λ t. IsTrue (is_disk_fault t.answer) → IsTrue (changes (says (history_made G told) t.line.caller t.line.command))) told
  pub by_fault : IsTrue (list_any (λ t. is_stopped t.answer) told) → IsTrue (list_any (λ t. is_disk_fault t.answer) told)

-- the list begins with the opening history, and behind it stand log of clients
legal_behind : (says : Replies) (G : History) (rest : List Event) (clients : List Served) (taken : List ℕ)
    → Each (λ c. AreRight says c.number G (map Done G ++ rest) c.told) clients → AreApart clients → EndsAtMark (map Done G ++ rest)
    → Each (λ i. Has (0 ∷ taken) (number_of i)) rest → Each (Has (map (λ c. c.number + 1) clients)) taken
    → IsRunBy says G (told_by clients) × (history_made G (told_by clients) ≡ entries_in (map Done G ++ rest))
    × (faulted (told_by clients) ≡ marks_in (map Done G ++ rest))
legal_behind says G rest clients taken right apart ends theirs ours =
    let log : List Event = map Done G ++ rest in
    let told : List Answered = told_by clients in
    let records : by_place (recorded told) ≡ numbered_from (length G) (entries_in rest) =
    records_together says G log clients right apart ∙ (ap (filter (listed_record clients)) (behind_done G rest)
    ∙ filter_all (listed_record clients) (numbered_from (length G) (entries_in rest)) (records_listed clients taken ours (length G) rest theirs)) in
    let made : history_made G told ≡ entries_in log =
    ap (λ xs. G ++ map (λ x. x.1) xs) records ∙ (ap (λ l. G ++ l) (numbered_entries (length G) (entries_in rest))
    ∙ sym (entries_append (map Done G) rest ∙ ap (λ l. l ++ entries_in rest) (entries_done G))) in
    let marks : marks_in log ≡ marks_in rest = marks_append (map Done G) rest ∙ ap (λ l. l ++ marks_in rest) (marks_done G) in
    let faults : faulted told ≡ marks_in log =
    faults_together says G log clients right apart ends ∙ (ap (filter (listed_line clients)) marks
    ∙ (filter_all (listed_line clients) (marks_in rest) (marks_listed clients taken ours rest theirs) ∙ sym marks)) in
    let count : count_by (λ t. is_disk_fault t.answer) told ≡ length (marks_in log) =
    sym (length-filter (λ t. is_disk_fault t.answer) told) ∙ (sym (length-map (filter (λ t. is_disk_fault t.answer) told) (λ t. t.line)) ∙ ap length faults) in (
      record {
        places = subst (AreNumberedFrom (length G)) (sym records) (are_numbered (length G) (entries_in rest));
        replies = subst (λ H. Each (λ t. IsSaidBy says (length G) H t.line t.answer) told) (sym made)
            (each_client says G log (IsSaidIn says G log) clients (λ c r. r.replies) right);
        order = order_together says G log clients right apart;
        once = omega (arith, count, one_mark log ends);
        would_change = subst (λ H. Each (λ t. IsTrue (is_disk_fault t.answer) → IsTrue (changes (says H t.line.caller t.line.command))) told) (sym made)
            (each_client says G log (WouldChange says log) clients (λ c r. r.would_change) right);
        by_fault = λ some. some_fault told (subst (λ l. l ≢ []) (sym faults)
            (some_mark log told (each_client says G log (λ t. Shows log t.answer) clients (λ c r. r.shown) right) some));
      },
      made,
      faults,
    )

pub legal_together : (says : Replies) (G H : History) (mark : Option Entry) (taken : List ℕ) (clients : List Served)
    → AreJoined says G (events H (marked mark)) taken clients
    → Continues (λ i. Has (0 ∷ taken) (number_of i)) (events G None) (events H (marked mark))
    → IsRunBy says G (told_by clients) × (history_made G (told_by clients) ≡ H) × (faulted (told_by clients) ≡ option_to_list mark)
legal_together says G H mark taken clients j c =
    let legal = legal_behind says G c.0 clients taken
    (subst (λ l. Each (λ d. AreRight says d.number G l d.told) clients) (sym c.1) j.right) (rising_apart clients j.rising) (subst EndsAtMark (sym c.1) j.ends) c.2 j.known in
    (legal.0, legal.1 ∙ (ap entries_in c.1 ∙ entries_in-events H mark), legal.2 ∙ (ap marks_in c.1 ∙ marks_in-events H mark))
