use Rattle.std.proofs.Common.{rules, ◌≡◌, ℕ, ◌+◌, ◌<◌, List, [], ◌∷◌, ◌++◌, None, map, length, get_or, take, drop, ap, refl, sym, ◌∙◌, subst, inl, inr, ⊎_elim}
use Rattle.std.proofs.lemmas.List.{drop_more, map-append, map_more, take-append-drop}
use Rattle.ucon_turn.specs.Lists.{Has, Continues, ByOthers}
use Rattle.ucon_client.specs.declared.client.Client.{Client}
use Rattle.ucon_store.specs.declared.event.Event.{Event}
use Rattle.ucon_store.specs.declared.event.Event.TheVariants.{Done}
use Rattle.ucon_client.specs.declared.part.Part.{Part}
use Rattle.ucon_client.specs.Answers.{ServesWith, number, served_of}
use Rattle.ucon_client.specs.Clients.{AreJoined, AreRising, Served}
use Rattle.ucon_store.specs.Events.{events, events_behind, number_of}
use Rattle.ucon_base.specs.Elements.{Each, each_append, each_map}
use Rattle.ucon_client.proofs.Joining.{begins_joined, stays_joined}
use Rattle.ucon_client.proofs.Parts.{rising_parts, below_served}
use Rattle.ucon_client.proofs.Seats.{continues_behind}
use Rattle.ucon_client.proofs.serving.join_all.Goals as goal

pub loop-place-init : goal.loop-place-init
loop-place-init g c =
    let opened = c.args.turn.now.opened.store in
    let none : c.args.parts.now.items ≡ [] = c.requires.room.0 in
    let seen : events opened.entries opened.mark ≡ c.args.seat.now.seen = sym c.requires.seen.1 in
    record {
      turn = (c.requires.turn.0, c.requires.turn.1, refl);
      joined = λ says H from.
          let list : map Done (H ++ opened.entries) ≡ map Done H ++ c.args.seat.now.seen =
          events_behind H opened.entries None ∙ ap (λ (l : List Event). map Done H ++ l) (ap (events opened.entries) (sym c.requires.seen.0) ∙ seen) in
          subst (λ (z : List Event × List ℕ × List Part). AreJoined says (H ++ opened.entries) z.0 z.1 (map served_of z.2))
          (λ j. (list j, sym c.requires.turn.2 j, sym none j)) (begins_joined says (H ++ opened.entries));
      back = subst (Each (λ p. Has c.args.seat.now.taken (p.number + 1))) (sym none) tt;
      answered = none;
      rest = refl;
      room = search rules;
    }

pub loop-place-preserved : goal.loop-place-preserved
loop-place-preserved g c =
    let i = c.loop-place.invariant in
    let j = c.join.ensures in
    let opened = c.args.turn.now.opened.store in
    let C : Type 0 = Client g.row.E.Denot g.row.D.Denot in
    let part_of : C → Part = λ d. d.part in
    let client : C = c.remove-part.result in
    let all : List C = c.args.clients.items in
    let n : ℕ = c.loop-place._place in
    let lt : n < length all = search rules in
    let done : List C = take n all in
    let rest : List C = drop (n + 1) all in
    let was = c.loop-place.seat in
    let now = c.join.new.seat in
    let before : List Part = c.loop-place.parts.items in
    let left : c.loop-place.clients.items ≡ get_or all n client ∷ rest = i.rest ∙ drop_more all n client lt in
    let at : client ≡ get_or all n client = c.remove-part.ensures.value ∙ ap (λ l. get_or l 0 client) left in
    let clients : all ≡ done ++ client ∷ rest =
    sym (take-append-drop n all) ∙ ap (λ l. done ++ l) (drop_more all n client lt ∙ ap (λ (d : C). d ∷ rest) (sym at)) in
    let s = (subst (λ (d : C). ServesWith c.args.turn.now d.part d.seat d.looks) (sym at) (c.requires.serves n client lt)).0 in
    let k : ℕ = client.part.number in
    let numbers : map number (map part_of all) ≡ map number (map part_of done ++ client.part ∷ map part_of rest) =
    ap (map number) (ap (map part_of) clients ∙ map-append part_of done (client ∷ rest)) in
    let lower : Each (λ m. m < k) (map number before) =
    subst (λ l. Each (λ m. m < k) (map number l)) (sym i.answered)
    (rising_parts (map part_of done) client.part (map part_of rest) (subst AreRising numbers c.requires.rising)) in
    let items : c.push_reserved.new.self.items ≡ before ++ client.part ∷ [] = c.push_reserved.ensures.items in
    let taken : now.taken ≡ (k + 1) ∷ was.taken = j.taken ∙ ap (λ m. m ∷ was.taken) s.number in
    let served : map served_of c.push_reserved.new.self.items ≡ map served_of before ++ served_of client.part ∷ [] =
    ap (map served_of) items ∙ map-append served_of before (client.part ∷ []) in
    record {
      turn = (j.turn, j.kept.0, j.kept.1 ∙ i.turn.2);
      joined = λ says H from.
          let done : List Event = map Done H in
          let theirs : Continues (ByOthers number_of (k + 1) []) client.seat.seen now.seen =
          subst (λ m. Continues (ByOthers number_of m []) client.seat.seen now.seen) s.number j.theirs in
          subst (λ (z : List ℕ × List Served). AreJoined says (H ++ opened.entries) (done ++ now.seen) z.0 z.1) (λ m. (sym taken m, sym served m))
          (stays_joined says (H ++ opened.entries) (done ++ was.seen) (done ++ client.seat.seen) (done ++ now.seen) was.taken (map served_of before)
          (served_of client.part) (i.joined says H from) (s.right says H from) (below_served k before lower)
          (⊎_elim (λ e. inl (ap (λ (l : List Event). done ++ l) e)) (λ e. inr (ap (λ (l : List Event). done ++ l) e)) j.longer)
          (continues_behind (ByOthers number_of 0 was.taken) done was.seen now.seen j.ours)
          (continues_behind (ByOthers number_of (k + 1) []) done client.seat.seen now.seen theirs));
      back = subst (λ (z : List ℕ × List Part). Each (λ p. Has z.0 (p.number + 1)) z.1) (λ m. (sym taken m, sym items m))
          (each_append (λ p. Has ((k + 1) ∷ was.taken) (p.number + 1)) before (client.part ∷ [])
          (each_map (λ p. Has was.taken (p.number + 1)) (λ p. Has ((k + 1) ∷ was.taken) (p.number + 1)) (λ p h. inr h) before i.back)
          (inl refl, tt));
      answered = items ∙ (ap (λ l. l ++ client.part ∷ []) i.answered
          ∙ (ap (λ (d : C). map part_of done ++ d.part ∷ []) at ∙ sym (map_more part_of all n client lt)));
      rest = c.remove-part.ensures.by_index.2 ∙ ap (λ l. take 0 l ++ drop 1 l) left;
      room = search rules;
    }
