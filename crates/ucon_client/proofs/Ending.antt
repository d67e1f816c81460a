-- The parts of all clients, once they are answered and their seats are back.
use Rattle.std.proofs.Common.{◌≡◌, ℕ, ◌+◌, ◌<◌, List, [], ◌∷◌, ◌++◌, None, map, length, get_or, suc, arith, refl, sym, ap, ◌∙◌, subst, Option}
use Rattle.ucon_turn.specs.Lists.{Has, Continues}
use Rattle.ucon_model.specs.History.{History}
use Rattle.std.proofs.lemmas.List.{length-map, map-append}
use Rattle.ucon_model.specs.declared.command.Entry.{Entry}
use Rattle.ucon_model.specs.LegalRun.{Answer as Told, Answered, history_made}
use Rattle.ucon_script.specs.declared.document.Line.{Line}
use Rattle.ucon_store.specs.declared.event.Event.{Event}
use Rattle.ucon_client.specs.declared.part.Part.{Part}
use Rattle.ucon_store.specs.Kept.{Kept}
use Rattle.ucon_store.specs.declared.event.Event.TheVariants.{Done}
use Rattle.ucon_store.specs.Events.{events, events_behind, events_of, number_of}
use Rattle.ucon_store.specs.Marks.{marked}
use Rattle.ucon_client.specs.Boarded.{IsMarkOf, IsOfSteps}
use Rattle.ucon_client.specs.Answers.{IsAnswered, IsPart, Keeps, answer_of, asked, entry_of, lines_in, number, told_in, told_of}
use Rattle.ucon_client.specs.Clients.{AreRising, AreJoined, Replies, Served, answered, told_by, faulted}
use Rattle.ucon_base.specs.Elements.{Each, each_append}
use Rattle.ucon_client.proofs.Counting.{same_by_place}
use Rattle.ucon_client.proofs.Parts.{seat_number, all_back}
use Rattle.ucon_client.proofs.Seats.{continues_behind}
use Rattle.ucon_client.proofs.Together.{IsRunBy, legal_together}

map_map : {X Y Z : Type 0} (f : Y → Z) (g : X → Y) (xs : List X) → map f (map g xs) ≡ map (λ x. f (g x)) xs
map_map f g [] = refl
map_map f g (x ∷ xs) = ap (λ l. f (g x) ∷ l) (map_map f g xs)

-- clients keep what they were asked
pub asked_still : {C : Type 0} (part_of : C → Part) (old new : List C) (parts : List Part) → length new ≡ length old
    → ((k : ℕ) (d : C) → k < length old → Keeps (part_of (get_or old k d)) (part_of (get_or new k d)))
    → map part_of old ≡ parts → map asked (map part_of new) ≡ map asked parts
asked_still {C} part_of old new parts long keeps is =
    let f : C → ℕ × List Line = λ c. asked (part_of c) in
    map_map asked part_of new
    ∙ (same_by_place f old new long (λ k d lt i. ((keeps k d lt).0 i, ap (λ l. l.items) (keeps k d lt).1 i))
    ∙ (sym (map_map asked part_of old) ∙ ap (map asked) is))

numbers_asked : (parts : List Part) → map number parts ≡ map (λ (a : ℕ × List Line). a.0) (map asked parts)
numbers_asked parts = sym (map_map (λ (a : ℕ × List Line). a.0) asked parts)

same_numbers : (xs ys : List Part) → map asked xs ≡ map asked ys → map number xs ≡ map number ys
same_numbers xs ys same = numbers_asked xs ∙ (ap (map (λ (a : ℕ × List Line). a.0)) same ∙ sym (numbers_asked ys))

pub rising_still : (xs ys : List Part) → map asked xs ≡ map asked ys → AreRising (map number ys) → AreRising (map number xs)
rising_still xs ys same up = subst AreRising (sym (same_numbers xs ys same)) up

seats_of : (parts : List Part) → map seat_number parts ≡ map (λ n. n + 1) (map number parts)
seats_of parts = sym (map_map (λ n. n + 1) number parts)

-- all that was given is back, where the parts are still those
pub back_still : (xs ys : List Part) (given taken : List ℕ) → map asked xs ≡ map asked ys → Each (Has (map seat_number ys)) given
    → Each (λ p. Has taken (p.number + 1)) xs → Each (Has taken) given
back_still xs ys given taken same g back =
    let seats : map seat_number ys ≡ map seat_number xs = seats_of ys ∙ (ap (map (λ n. n + 1)) (sym (same_numbers xs ys same)) ∙ sym (seats_of xs)) in
    all_back xs given taken (subst (λ l. Each (Has l) given) seats g) back

-- what holds of each client's part, by its place
pub each_part : {C : Type 0} (Q : Part → Type 0) (part_of : C → Part) (xs : List C)
    → ((k : ℕ) (d : C) → k < length xs → Q (part_of (get_or xs k d))) → Each Q (map part_of xs)
each_part Q part_of [] h = tt
each_part Q part_of (x ∷ xs) h = (h 0 x (omega arith), each_part Q part_of xs (λ k d lt. h (suc k) d (omega (arith, lt))))

-- what closing the turn says of all clients, with a history before the store's own
pub closed_legal : {D : Type 0} (says : Replies) (G : History) (opened store closed : Kept D) (seen : List Event) (taken : List ℕ) (clients : List Served)
    → opened ≡ store → store.mark ≡ None → AreJoined says (G ++ opened.entries) (map Done G ++ seen) taken clients → events_of closed ≡ seen
    → Continues (λ e. Has (0 ∷ taken) (number_of e)) (events_of opened) (events_of closed) → IsOfSteps closed.mark
    → IsRunBy says (G ++ store.entries) (told_by clients) × (history_made (G ++ store.entries) (told_by clients) ≡ G ++ closed.entries)
    × IsMarkOf closed.mark (faulted (told_by clients))
closed_legal {D} says G opened store closed seen taken clients same none joined list callers by_steps =
    let failed : Option Entry = by_steps.failed in
    let done : List Event = map Done G in
    let theirs : Event → Type 0 = λ e. Has (0 ∷ taken) (number_of e) in
    let first : done ++ events_of opened ≡ events (G ++ store.entries) None =
    ap (λ (l : List Event). done ++ l) (ap events_of same ∙ ap (events store.entries) none) ∙ sym (events_behind G store.entries None) in
    let last : done ++ events_of closed ≡ events (G ++ closed.entries) (marked failed) =
    sym (events_behind G closed.entries closed.mark) ∙ ap (events (G ++ closed.entries)) by_steps.is in
    let all =
    legal_together says (G ++ store.entries) (G ++ closed.entries) failed taken clients
    (subst (λ (z : Kept D × List Event). AreJoined says (G ++ z.0.entries) z.1 taken clients)
    (λ i. (same i, (ap (λ (l : List Event). done ++ l) (sym list) ∙ last) i)) joined)
    (subst (λ (z : List Event × List Event). Continues theirs z.0 z.1) (λ i. (first i, last i))
    (continues_behind theirs done (events_of opened) (events_of closed) callers)) in
    (all.0, all.1, record { failed = failed; is = by_steps.is; lines_are = all.2 })

-- ---- the lines

pub answered_lines : (lines : List Entry) (answers : List Told) → length answers ≡ length lines → map (λ t. t.line) (answered lines answers) ≡ lines
answered_lines [] answers long = refl
answered_lines (line ∷ lines) [] long = absurd (omega (arith, long))
answered_lines (line ∷ lines) (a ∷ answers) long = ap (λ l. line ∷ l) (answered_lines lines answers (omega (arith, long)))

-- where all lines are answered, those that were told are those that were asked
told_lines : (parts : List Part) → Each IsAnswered parts → map (λ t. t.line) (told_in parts) ≡ lines_in parts
told_lines [] all = refl
told_lines (p ∷ parts) all =
    let long : length (map answer_of p.answers.items) ≡ length (map entry_of p.lines.items) = omega (arith, all.0, length-map p.answers.items answer_of, length-map p.lines.items entry_of) in
    map-append (λ (t : Answered). t.line) (told_of p) (told_in parts)
    ∙ (λ i. answered_lines (map entry_of p.lines.items) (map answer_of p.answers.items) long i ++ told_lines parts all.1 i)

abbrev asked_lines : List (ℕ × List Line) → List Entry
asked_lines [] = []
asked_lines (a ∷ all) = map entry_of a.1 ++ asked_lines all

lines_asked : (parts : List Part) → lines_in parts ≡ asked_lines (map asked parts)
lines_asked [] = refl
lines_asked (p ∷ parts) = ap (λ l. map entry_of p.lines.items ++ l) (lines_asked parts)

pub lines_still : (xs ys : List Part) → map asked xs ≡ map asked ys → Each IsAnswered xs → map (λ t. t.line) (told_in xs) ≡ lines_in ys
lines_still xs ys same all = told_lines xs all ∙ (lines_asked xs ∙ (ap asked_lines same ∙ sym (lines_asked ys)))

own_told : (n : ℕ) (lines : List Line) (answers : List Told) → n < 64 → Each (λ l. l.caller.0 ≡ n) lines → Each (λ t. t.line.caller.0 < 64) (answered (map entry_of lines) answers)
own_told n [] answers lt own = tt
own_told n (l ∷ lines) [] lt own = tt
own_told n (l ∷ lines) (a ∷ answers) lt own = (omega (arith, lt, own.0), own_told n lines answers lt own.1)

-- whose lines they are
pub clients_told : (parts : List Part) → Each IsPart parts → Each (λ t. t.line.caller.0 < 64) (told_in parts)
clients_told [] h = tt
clients_told (p ∷ parts) h = each_append (λ t. t.line.caller.0 < 64) (told_of p) (told_in parts)
    (own_told p.number p.lines.items (map answer_of p.answers.items) h.0.few h.0.own) (clients_told parts h.1)
