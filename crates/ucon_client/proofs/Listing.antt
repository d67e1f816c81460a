-- The list of a store, as it grows.
use Rattle.std.proofs.Common.{◌≡◌, ◌≢◌, ◌+◌, ◌≤◌, List, [], ◌∷◌, ◌++◌, Option, Some, None, map, length, drop, refl, ap, ◌∙◌, arith}
use Rattle.std.specs.Option.{option_to_list}
use Rattle.std.proofs.Math.Seq.{drop-append_seam}
use Rattle.std.proofs.lemmas.List.{append-nil, drop-append-le, length-drop}
use Rattle.ucon_model.specs.declared.command.Entry.{Entry}
use Rattle.ucon_model.specs.History.{History}
use Rattle.ucon_store.specs.declared.event.Event.{Event}
use Rattle.ucon_store.specs.declared.event.Event.TheVariants.{Done, Failed}
use Rattle.ucon_store.specs.Events.{events}
use Rattle.ucon_store.specs.Marks.{marked}
use Rattle.ucon_client.specs.Events.{entries_in, marks_in, EndsAtMark}
use Rattle.ucon_client.specs.Clients.{numbered_from, behind}
use Rattle.ucon_client.proofs.Placing.{numbered_append}

pub entries_append : (xs ys : List Event) → entries_in (xs ++ ys) ≡ entries_in xs ++ entries_in ys
entries_append [] ys = refl
entries_append (Done e ∷ xs) ys = ap (λ l. e ∷ l) (entries_append xs ys)
entries_append (Failed e ∷ xs) ys = entries_append xs ys

pub marks_append : (xs ys : List Event) → marks_in (xs ++ ys) ≡ marks_in xs ++ marks_in ys
marks_append [] ys = refl
marks_append (Done e ∷ xs) ys = marks_append xs ys
marks_append (Failed e ∷ xs) ys = ap (λ l. e ∷ l) (marks_append xs ys)

pub entries_done : (G : History) → entries_in (map Done G) ≡ G
entries_done [] = refl
entries_done (e ∷ G) = ap (λ l. e ∷ l) (entries_done G)

pub marks_done : (G : History) → marks_in (map Done G) ≡ []
marks_done [] = refl
marks_done (e ∷ G) = marks_done G

pub ends_done : (G : History) → EndsAtMark (map Done G)
ends_done [] = tt
ends_done (e ∷ G) = ends_done G

pub entries_in-events : (H : History) (mark : Option Entry) → entries_in (events H (marked mark)) ≡ H
entries_in-events H None = entries_done H
entries_in-events H (Some e) = entries_append (map Done H) (Failed e ∷ []) ∙ (ap (λ l. l ++ []) (entries_done H) ∙ append-nil H)

pub marks_in-events : (H : History) (mark : Option Entry) → marks_in (events H (marked mark)) ≡ option_to_list mark
marks_in-events H None = marks_done H
marks_in-events H (Some e) = marks_append (map Done H) (Failed e ∷ []) ∙ ap (λ l. l ++ e ∷ []) (marks_done H)

pub ends_more : (xs ys : List Event) → marks_in xs ≡ [] → EndsAtMark ys → EndsAtMark (xs ++ ys)
ends_more [] ys m h = h
ends_more (Done e ∷ xs) ys m h = ends_more xs ys m h
ends_more (Failed e ∷ xs) ys m h = absurd (cc)

pub ends_events : (H : History) (mark : Option Entry) → EndsAtMark (events H (marked mark))
ends_events H None = ends_done H
ends_events H (Some e) = ends_more (map Done H) (Failed e ∷ []) (marks_done H) refl

-- both parts of an empty list are empty
pub no_front : {T : Type 0} (xs ys : List T) → xs ++ ys ≡ [] → xs ≡ []
no_front [] ys e = refl
no_front (x ∷ xs) ys e = absurd (cc)

pub no_rest : {T : Type 0} (xs ys : List T) → xs ++ ys ≡ [] → ys ≡ []
no_rest [] ys e = e
no_rest (x ∷ xs) ys e = absurd (cc)

-- nothing was appended behind a mark
pub nothing_more : (xs ys : List Event) → EndsAtMark (xs ++ ys) → marks_in xs ≢ [] → ys ≡ []
nothing_more [] ys h m = absurd (m refl)
nothing_more (Done e ∷ xs) ys h m = nothing_more xs ys h m
nothing_more (Failed e ∷ xs) ys h m = no_rest xs ys h

pub one_mark : (log : List Event) → EndsAtMark log → length (marks_in log) ≤ 1
one_mark [] h = omega arith
one_mark (Done e ∷ log) h = one_mark log h
one_mark (Failed e ∷ log) h = omega (arith, ap (λ l. length (e ∷ marks_in l)) h)

-- the entries behind an opening history, of a longer list
pub behind_append : (G : History) (log more : List Event) → length G ≤ length (entries_in log)
    → behind G (log ++ more) ≡ behind G log ++ numbered_from (length (entries_in log)) (entries_in more)
behind_append G log more le =
    let e : length G + length (drop (length G) (entries_in log)) ≡ length (entries_in log) = omega (arith, length-drop (length G) (entries_in log)) in
    ap (λ l. numbered_from (length G) (drop (length G) l)) (entries_append log more)
    ∙ (ap (numbered_from (length G)) (drop-append-le (length G) (entries_in log) (entries_in more) le)
    ∙ (numbered_append (length G) (drop (length G) (entries_in log)) (entries_in more)
    ∙ ap (λ k. behind G log ++ numbered_from k (entries_in more)) e))

-- the entries behind an opening history are those of the log behind it
pub behind_done : (G : History) (rest : List Event) → behind G (map Done G ++ rest) ≡ numbered_from (length G) (entries_in rest)
behind_done G rest =
    ap (λ l. numbered_from (length G) (drop (length G) l)) (entries_append (map Done G) rest ∙ ap (λ l. l ++ entries_in rest) (entries_done G))
    ∙ ap (numbered_from (length G)) (drop-append_seam G (entries_in rest))
