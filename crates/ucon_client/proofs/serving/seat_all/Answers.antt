use Rattle.std.proofs.Common.{rules, ◌≡◌, ◌+◌, All, [], ◌∷◌, ◌++◌, map, length, arith, ap, sym, ◌∙◌, subst}
use Rattle.std.specs.Option.{option_to_list}
use Rattle.std.specs.Prelude.{IfSome, Option, None, Some}
use Rattle.std.proofs.lemmas.List.{append_assoc, length_push, map-append}
use Rattle.std.proofs.lemmas.List.Elements.{All-push}
use Rattle.ucon_turn.specs.Lists.{Has}
use Rattle.ucon_client.specs.declared.client.Client.{Client}
use Rattle.ucon_client.specs.declared.part.Part.{Part}
use Rattle.ucon_client.specs.Answers.{IsPart, IsReaderAt, ServesWith, number}
use Rattle.ucon_client.specs.Clients.{AreRising}
use Rattle.ucon_client.proofs.Parts.{seat_number, below_next, given_more}
use Rattle.ucon_base.specs.Elements.{Each, each_parts}
use Rattle.ucon_client.proofs.serving.seat_all.Goals as goal

pub split-token-requires-clause-above : goal.split-token-requires-clause-above
split-token-requires-clause-above g c =
    let i = c.loop-part.invariant in
    let part : Part = c.in-Some.part in
    let done = c.loop-part.yielded in
    let rest = c.next.new.self.rest.items in
    let parts : c.args.parts.items ≡ done ++ part ∷ rest = i.parts ∙ ap (λ l. done ++ l) c.in-Some.ensures.steps.0 in
    (omega arith, below_next done part rest c.loop-part.seat.given (subst (λ l. AreRising (map number l)) parts c.requires.rising) i.given)

pub new-requires-clause-part : goal.new-requires-clause-part
new-requires-clause-part g c =
    let i = c.loop-part.invariant in
    let done = c.loop-part.yielded in
    let rest = c.next.new.self.rest.items in
    let parts : c.args.parts.items ≡ done ++ c.in-Some.part ∷ rest = i.parts ∙ ap (λ l. done ++ l) c.in-Some.ensures.steps.0 in
    let fresh : Part → Type 0 = λ p. IsPart p × (p.answers.items ≡ []) in
    (each_parts fresh done (c.in-Some.part ∷ rest) (subst (Each fresh) parts c.requires.parts)).1.0

pub new-requires-clause-reader : goal.new-requires-clause-reader
new-requires-clause-reader g c =
    let opened = c.args.turn.now.opened in
    one_of (IsReaderAt opened) c.pop.result
    (each_parts (IsReaderAt opened) c.pop.new.self.items (option_to_list c.pop.result)
    (subst (Each (IsReaderAt opened)) c.pop.ensures.items c.loop-part.invariant.readers)).1
  where
    one_of : {X : Type 0} (P : X → Type 0) (o : Option X) → Each P (option_to_list o) → IfSome o P
    one_of P None h = tt
    one_of P (Some x) h = h.0

pub loop-part-preserved : goal.loop-part-preserved
loop-part-preserved g c =
    let i = c.loop-part.invariant in
    let s = c.split-token.ensures in
    let C : Type 0 = Client g.row.E.Denot g.row.D.Denot in
    let client : C = c.new.result in
    let part : Part = c.in-Some.part in
    let done = c.loop-part.yielded in
    let rest = c.next.new.self.rest.items in
    let Fair : C → Type 0 = λ d. ServesWith c.args.turn.now d.part d.seat d.looks in
    let parts : c.args.parts.items ≡ done ++ part ∷ rest = i.parts ∙ ap (λ l. done ++ l) c.in-Some.ensures.steps.0 in
    let long : length (done ++ part ∷ []) ≡ length done + 1 = length_push done part in
    let items : c.push_reserved.new.self.items ≡ c.loop-part.clients.items ++ client ∷ [] = c.push_reserved.ensures.items in
    record {
      turn = (s.turn.0, s.kept.0, s.kept.2 ∙ i.turn.2, s.kept.1 ∙ i.turn.3);
      given = subst (Each (Has (map seat_number (done ++ part ∷ [])))) (sym s.given) (given_more done part c.loop-part.seat.given i.given);
      serves = subst (All Fair) (sym items) (All-push Fair c.loop-part.clients.items client i.serves c.new.ensures.serves);
      readers = (each_parts (IsReaderAt c.args.turn.now.opened) c.pop.new.self.items (option_to_list c.pop.result) (subst (Each (IsReaderAt c.args.turn.now.opened)) c.pop.ensures.items i.readers)).0;
      seated = ap (map (λ (d : C). d.part)) items ∙ (map-append (λ (d : C). d.part) c.loop-part.clients.items (client ∷ []) ∙ (λ j. i.seated j ++ c.new.ensures.client.0 j ∷ []));
      parts = parts ∙ sym (append_assoc done (part ∷ []) rest);
      room = search rules;
    }
