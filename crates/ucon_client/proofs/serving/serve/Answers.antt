use Rattle.std.proofs.Common.{rules, ◌≡◌, ◌++◌, List, map, length, take, drop, ap, sym, ◌∙◌, subst}
use Rattle.std.proofs.lemmas.List.{take_at}
use Rattle.ucon_base.specs.Elements.{Each}
use Rattle.ucon_turn.specs.Lists.{Has}
use Rattle.ucon_client.specs.declared.client.Client.{Client}
use Rattle.ucon_client.specs.declared.part.Part.{Part}
use Rattle.ucon_model.specs.History.{History, said}
use Rattle.ucon_model.specs.LegalRun.{Answered, history_made}
use Rattle.ucon_client.specs.Answers.{IsAnswered, IsPart, SaysFromStore, asked, number, served_of, told_in}
use Rattle.ucon_client.specs.Clients.{AreRising, Replies, faulted}
use Rattle.ucon_client.specs.Boarded.{IsMarkOf, IsOfSteps, Sharing}
use Rattle.ucon_store.specs.Kept.{Kept}
use Rattle.ucon_client.proofs.After.{legal_behind_trace, legal_run, made_behind_trace, says_behind_history, so_behind_trace}
use Rattle.ucon_client.proofs.Together.{IsRunBy}
use Rattle.ucon_client.proofs.Ending.{asked_still, rising_still, back_still, each_part, closed_legal, lines_still, clients_told}
use Rattle.ucon_client.proofs.serving.serve.Given.{Over}
use Rattle.ucon_client.proofs.serving.serve.Goals.{After-close-boarded}
use Rattle.ucon_client.proofs.serving.serve.Goals as goal

pub join_all-requires-clause-rising : goal.join_all-requires-clause-rising
join_all-requires-clause-rising g c =
    let C : Type 0 = Client g.row.E.Denot g.row.D.Denot in
    let part_of : C → Part = λ d. d.part in
    let old : List C = c.seat_all.new.clients.items in
    let now : List C = c.serve_all.new.clients in
    let long : length now ≡ length old = search rules in
    let whole : take c.seat_all.new.clients.len (now ++ drop (length now) old) ≡ now =
    take_at now (drop (length now) old) c.seat_all.new.clients.len (long ∙ sym c.seat_all.new.clients.ok.0) in
    let same : map asked (map part_of now) ≡ map asked c.args.parts.items =
    asked_still part_of old now c.args.parts.items long (λ k d lt. search rules) c.seat_all.ensures.parts in
    subst (λ l. AreRising (map number (map part_of l))) (sym whole) (rising_still (map part_of now) c.args.parts.items same c.requires.rising)

pub returns-clause-asked : goal.returns-clause-asked
returns-clause-asked g c =
    let C : Type 0 = Client g.row.E.Denot g.row.D.Denot in
    let part_of : C → Part = λ d. d.part in
    let old : List C = c.seat_all.new.clients.items in
    let now : List C = c.serve_all.new.clients in
    let long : length now ≡ length old = search rules in
    let whole : take c.seat_all.new.clients.len (now ++ drop (length now) old) ≡ now =
    take_at now (drop (length now) old) c.seat_all.new.clients.len (long ∙ sym c.seat_all.new.clients.ok.0) in
    ap (map asked) (c.join_all.ensures.parts ∙ ap (map part_of) whole)
    ∙ asked_still part_of old now c.args.parts.items long (λ k d lt. search rules) c.seat_all.ensures.parts

pub returns-clause-all : goal.returns-clause-all
returns-clause-all g c =
    let C : Type 0 = Client g.row.E.Denot g.row.D.Denot in
    let part_of : C → Part = λ d. d.part in
    let old : List C = c.seat_all.new.clients.items in
    let now : List C = c.serve_all.new.clients in
    let long : length now ≡ length old = search rules in
    let whole : take c.seat_all.new.clients.len (now ++ drop (length now) old) ≡ now =
    take_at now (drop (length now) old) c.seat_all.new.clients.len (long ∙ sym c.seat_all.new.clients.ok.0) in
    subst (Each IsAnswered) (sym (c.join_all.ensures.parts ∙ ap (map part_of) whole)) (each_part IsAnswered part_of now c.serve_all.ensures.all)

pub close-boarded-requires-clause-joined : goal.close-boarded-requires-clause-joined
close-boarded-requires-clause-joined g c =
    let C : Type 0 = Client g.row.E.Denot g.row.D.Denot in
    let part_of : C → Part = λ d. d.part in
    let old : List C = c.seat_all.new.clients.items in
    let now : List C = c.serve_all.new.clients in
    let long : length now ≡ length old = search rules in
    let whole : take c.seat_all.new.clients.len (now ++ drop (length now) old) ≡ now =
    take_at now (drop (length now) old) c.seat_all.new.clients.len (long ∙ sym c.seat_all.new.clients.ok.0) in
    let same : map asked c.join_all.new.parts.items ≡ map asked c.args.parts.items = ap (map asked) (c.join_all.ensures.parts ∙ ap (map part_of) whole)
    ∙ asked_still part_of old now c.args.parts.items long (λ k d lt. search rules) c.seat_all.ensures.parts in
    let taken = c.join_all.new.seat.taken in
    subst (Each (Has taken)) (sym c.join_all.ensures.turn.2)
    (back_still c.join_all.new.parts.items c.args.parts.items c.seat_all.new.seat.given taken same c.seat_all.ensures.given c.join_all.ensures.back)

module _ (g : Over) (c : After-close-boarded g) (mark : IsOfSteps c.close-boarded.result.store.mark) where
  abbrev Begun : Kept g.row.D.Denot
  Begun = c.args.boarded.store

  abbrev Closed : Kept g.row.D.Denot
  Closed = c.close-boarded.result.store

  abbrev Told : List Answered
  Told = told_in c.join_all.new.parts.items

  all_told : (says : Replies) (G : History) → SaysFromStore Begun says G
      → IsRunBy says (G ++ Begun.entries) Told × (history_made (G ++ Begun.entries) Told ≡ G ++ Closed.entries) × IsMarkOf Closed.mark (faulted Told)
  all_told says G from =
      let opened : Kept g.row.D.Denot = c.in-Ok-open.opened.0.opened.store in
      let same : opened ≡ Begun = ap (λ (s : Sharing g.row.D.Denot). s.store) (c.in-Ok-open.ensures.turn.0 ∙ c.readers-readers.ensures.same) in
      closed_legal says G opened Begun Closed c.join_all.new.seat.seen c.join_all.new.seat.taken (map served_of c.join_all.new.parts.items)
      same c.requires.unmarked (c.join_all.ensures.joined says G
      (subst (λ (s : Kept g.row.D.Denot). SaysFromStore s says G) (sym same) from)) c.close-boarded.ensures.list c.close-boarded.ensures.callers mark

pub returns-clause-legal : goal.returns-clause-legal
returns-clause-legal g c = λ P H is front.
    let at = (goal.at.returns-clause-legal g c).After-close-boarded in
    legal_run P (H ++ c.args.boarded.store.entries) (told_in c.join_all.new.parts.items)
    (all_told g at c.into_store-2.ensures.mark (said P) H (says_behind_history P c.args.boarded.store is H front)).0

pub returns-clause-made : goal.returns-clause-made
returns-clause-made g c = λ P H is front.
    let at = (goal.at.returns-clause-made g c).After-close-boarded in
    (all_told g at c.into_store-2.ensures.mark (said P) H (says_behind_history P c.args.boarded.store is H front)).1
    ∙ ap (λ (s : Kept g.row.D.Denot). H ++ s.entries) (sym c.into_store-2.ensures.store)

pub returns-clause-legal_after : goal.returns-clause-legal_after
returns-clause-legal_after g c = λ P T is starts.
    let at = (goal.at.returns-clause-legal_after g c).After-close-boarded in
    legal_behind_trace P c.args.boarded.store is T starts (told_in c.join_all.new.parts.items)
    (λ says G from. (all_told g at c.into_store-2.ensures.mark says G from).0)

pub returns-clause-made_after : goal.returns-clause-made_after
returns-clause-made_after g c = λ P T is starts.
    let at = (goal.at.returns-clause-made_after g c).After-close-boarded in
    made_behind_trace P c.args.boarded.store is T starts (told_in c.join_all.new.parts.items) c.close-boarded.result.store.entries
    (λ says G from. (all_told g at c.into_store-2.ensures.mark says G from).1)
    ∙ ap (λ (s : Kept g.row.D.Denot). s.entries) (sym c.into_store-2.ensures.store)

pub returns-clause-fault : goal.returns-clause-fault
returns-clause-fault g c = λ P T is starts.
    let at = (goal.at.returns-clause-fault g c).After-close-boarded in
    subst (λ (s : Kept g.row.D.Denot). IsMarkOf s.mark (faulted (told_in c.join_all.new.parts.items))) (sym c.into_store-2.ensures.store)
    (so_behind_trace P c.args.boarded.store is T starts (IsMarkOf c.close-boarded.result.store.mark (faulted (told_in c.join_all.new.parts.items)))
    (λ says G from. (all_told g at c.into_store-2.ensures.mark says G from).2))

pub returns-clause-lines : goal.returns-clause-lines
returns-clause-lines g c =
    let C : Type 0 = Client g.row.E.Denot g.row.D.Denot in
    let part_of : C → Part = λ d. d.part in
    let old : List C = c.seat_all.new.clients.items in
    let now : List C = c.serve_all.new.clients in
    let long : length now ≡ length old = search rules in
    let whole : take c.seat_all.new.clients.len (now ++ drop (length now) old) ≡ now =
    take_at now (drop (length now) old) c.seat_all.new.clients.len (long ∙ sym c.seat_all.new.clients.ok.0) in
    let is : c.join_all.new.parts.items ≡ map part_of now = c.join_all.ensures.parts ∙ ap (map part_of) whole in
    lines_still c.join_all.new.parts.items c.args.parts.items
    (ap (map asked) is ∙ asked_still part_of old now c.args.parts.items long (λ k d lt. search rules) c.seat_all.ensures.parts)
    (subst (Each IsAnswered) (sym is) (each_part IsAnswered part_of now c.serve_all.ensures.all))

pub returns-clause-clients : goal.returns-clause-clients
returns-clause-clients g c =
    let C : Type 0 = Client g.row.E.Denot g.row.D.Denot in
    let part_of : C → Part = λ d. d.part in
    let old : List C = c.seat_all.new.clients.items in
    let now : List C = c.serve_all.new.clients in
    let long : length now ≡ length old = search rules in
    let whole : take c.seat_all.new.clients.len (now ++ drop (length now) old) ≡ now =
    take_at now (drop (length now) old) c.seat_all.new.clients.len (long ∙ sym c.seat_all.new.clients.ok.0) in
    let is : c.join_all.new.parts.items ≡ map part_of now = c.join_all.ensures.parts ∙ ap (map part_of) whole in
    clients_told c.join_all.new.parts.items (subst (Each IsPart) (sym is) (each_part IsPart part_of now (λ k d lt. (c.serve_all.ensures.serves k d lt).0.part)))
