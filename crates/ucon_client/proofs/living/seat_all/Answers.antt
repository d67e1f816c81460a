use Rattle.std.proofs.Common.{rules, ◌≡◌, ℕ, ◌+◌, ◌<◌, All, List, [], ◌∷◌, ◌++◌, false, map, length, get_or, arith, refl, sym, ap, ◌∙◌, subst}
use Rattle.std.proofs.lemmas.List.{append_assoc, get_or_at, length-append, length-map, length_push, map-append}
use Rattle.std.proofs.lemmas.List.Elements.{All-push}
use Rattle.ucon_base.specs.Elements.{Each, each_map}
use Rattle.ucon_turn.specs.Lists.{Has}
use Rattle.ucon_client.specs.declared.live_client.LiveClient.{LiveClient}
use Rattle.ucon_client.specs.Inbox.{nothing}
use Rattle.ucon_client.specs.Live.{AreFrom, Lives}
use Rattle.ucon_client.proofs.AllLive.{from_push}
use Rattle.ucon_client.proofs.Seats.{has_front, has_last}
use Rattle.ucon_client.proofs.living.seat_all.Goals as goal

pub loop-taker-preserved : goal.loop-taker-preserved
loop-taker-preserved g c =
    let i = c.loop-taker.invariant in
    let s = c.split-token.ensures in
    let C : Type 0 = LiveClient g.row.E.Denot g.row.D.Denot in
    let number_of : C → ℕ = λ d. d.client.part.number in
    let seat_of : C → ℕ = λ d. d.client.part.number + 1 in
    let client : C = c.new.result in
    let clients : List C = c.loop-taker.clients.items in
    let taker = c.in-Some.taker in
    let done = c.loop-taker.yielded in
    let rest = c.next.new.self.rest.items in
    let Fair : C → Type 0 = λ d. Lives c.args.turn.now d.client d.taker.taken.lines d.short × (d.taker.taken.ended ≡ false) in
    let takers : c.args.takers.items ≡ done ++ taker ∷ rest = i.takers ∙ ap (λ l. done ++ l) c.in-Some.ensures.steps.0 in
    let long : length (done ++ taker ∷ []) ≡ length done + 1 = length_push done taker in
    let few : length done < length c.args.takers.items = omega (arith, ap length takers, length-append done (taker ∷ rest)) in
    let there : get_or c.args.takers.items (length done) taker ≡ taker = ap (λ l. get_or l (length done) taker) takers ∙ get_or_at done taker rest taker (length done) refl in
    let none : taker.taken ≡ nothing = subst (λ t. t.taken ≡ nothing) there (c.requires.takers.1 (length done) taker few) in
    let ended : client.taker.taken.ended ≡ false = ap (λ t. t.taken.ended) c.new.ensures.taker ∙ ap (λ t. t.ended) none in
    let items : c.push_reserved.new.self.items ≡ clients ++ client ∷ [] = c.push_reserved.ensures.items in
    let as_many : length clients ≡ length done = sym (length-map clients (λ (d : C). d.taker)) ∙ ap length i.taken in
    let at : number_of client ≡ length done = omega (arith, c.new.ensures.number, c.len-number.ensures, i.room.0, i.room.1, few, c.requires.takers.0) in
    let given : c.split-token.new.seat.given ≡ (number_of client + 1) ∷ c.loop-taker.seat.given =
    s.given ∙ ap (λ n. (n + 1) ∷ c.loop-taker.seat.given) (sym c.new.ensures.number) in
    let seats : map seat_of (clients ++ client ∷ []) ≡ map seat_of clients ++ (number_of client + 1) ∷ [] = map-append seat_of clients (client ∷ []) in
    let numbers : map number_of (clients ++ client ∷ []) ≡ map number_of clients ++ number_of client ∷ [] = map-append number_of clients (client ∷ []) in
    record {
      turn = (s.turn.0, s.kept.0, s.kept.2 ∙ i.turn.2, s.kept.1 ∙ i.turn.3);
      given = subst (λ (z : List C × List ℕ). Each (Has (map seat_of z.0)) z.1) (λ j. (sym items j, sym given j))
          (subst (λ l. Each (Has l) ((number_of client + 1) ∷ c.loop-taker.seat.given)) (sym seats) (
            has_last (map seat_of clients) (number_of client + 1),
            each_map (Has (map seat_of clients)) (Has (map seat_of clients ++ (number_of client + 1) ∷ []))
                (λ k h. has_front (map seat_of clients) ((number_of client + 1) ∷ []) k h) c.loop-taker.seat.given i.given,
          ));
      below = subst (Each (λ k. k < length (done ++ taker ∷ []) + 1)) (sym given) (
        omega (arith, at, long),
        each_map (λ k. k < length done + 1) (λ k. k < length (done ++ taker ∷ []) + 1) (λ k lt. omega (arith, lt, long)) c.loop-taker.seat.given i.below,
      );
      live = subst (All Fair) (sym items) (All-push Fair clients client i.live (c.new.ensures.lives, ended));
      taken = ap (map (λ (d : C). d.taker)) items ∙ (map-append (λ (d : C). d.taker) clients (client ∷ []) ∙ (λ j. i.taken j ++ c.new.ensures.taker j ∷ []));
      numbers = subst (λ (ls : List C). AreFrom 0 (map number_of ls)) (sym items)
          (subst (AreFrom 0) (sym numbers) (from_push 0 (map number_of clients) (number_of client) i.numbers (omega (arith, at, as_many, length-map clients number_of))));
      takers = takers ∙ sym (append_assoc done (taker ∷ []) rest);
      room = search rules;
    }
