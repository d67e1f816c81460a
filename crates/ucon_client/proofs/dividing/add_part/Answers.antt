use Rattle.std.proofs.Common.{rules, ◌≡◌, ◌+◌, ◌<◌, [], ◌∷◌, ◌++◌, List, map, arith, ap, sym, ◌∙◌, subst}
use Rattle.std.proofs.lemmas.List.{append-nil, map-append}
use Rattle.ucon_client.specs.declared.part.Part.{Part}
use Rattle.ucon_client.specs.Answers.{entry_of, lines_in, number}
use Rattle.ucon_client.specs.Clients.{AreRising}
use Rattle.ucon_base.specs.Elements.{Each, each_append}
use Rattle.ucon_client.proofs.Divided.{below_more, lines_append, rising_last}
use Rattle.ucon_client.proofs.dividing.add_part.Goals as goal

pub returns-clause-rising : goal.returns-clause-rising
returns-clause-rising c =
    let was : List Part = c.args.parts.now.items in
    let part : Part = c.in_ok-part.part in
    let items : c.push.new.self.items ≡ was ++ part ∷ [] = search rules in
    subst (λ l. AreRising (map number l)) (sym items) (subst AreRising (sym (map-append number was (part ∷ [])))
    (rising_last (map number was) part.number c.requires.rising (subst (λ n. Each (λ m. m < n) (map number was)) (sym c.in_ok-part.ensures.part.1) c.requires.below)))

pub returns-clause-below : goal.returns-clause-below
returns-clause-below c =
    let was : List Part = c.args.parts.now.items in
    let part : Part = c.in_ok-part.part in
    let items : c.push.new.self.items ≡ was ++ part ∷ [] = search rules in
    subst (λ l. Each (λ m. m < c.args.client + 1) (map number l)) (sym items) (subst (Each (λ m. m < c.args.client + 1)) (sym (map-append number was (part ∷ [])))
    (each_append (λ m. m < c.args.client + 1) (map number was) (part.number ∷ []) (below_more c.args.client (map number was) c.requires.below)
    (omega (arith, c.in_ok-part.ensures.part.1), tt)))

pub returns-clause-lines : goal.returns-clause-lines
returns-clause-lines c =
    let was : List Part = c.args.parts.now.items in
    let part : Part = c.in_ok-part.part in
    let items : c.push.new.self.items ≡ was ++ part ∷ [] = search rules in
    ap lines_in items ∙ (lines_append was (part ∷ [])
    ∙ ap (λ l. lines_in was ++ l) (append-nil (map entry_of part.lines.items) ∙ ap (λ l. map entry_of l.items) c.in_ok-part.ensures.part.2))
