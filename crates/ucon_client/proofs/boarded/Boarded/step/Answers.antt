use Rattle.std.proofs.Common.{rules, ◌≡◌, ◌⊎◌, ⊎_elim, List, [], ◌∷◌, ◌++◌, Option, Some, map, ap, sym, subst, ◌∙◌}
use Rattle.std.specs.Prelude.{option_map}
use Rattle.ucon_model.specs.declared.command.Entry.{Entry}
use Rattle.ucon_model.specs.History.{History}
use Rattle.ucon_syntax.specs.Policies.{accepted}
use Rattle.ucon_store.specs.declared.event.Event.{Event}
use Rattle.ucon_store.specs.declared.event.Event.TheVariants.{Done}
use Rattle.ucon_store.specs.Events.{events, events_behind, events_of}
use Rattle.ucon_store.specs.Kept.{Kept}
use Rattle.ucon_client.specs.declared.answer.Answer.{Answer}
use Rattle.ucon_client.specs.Answers.{SaysFromStore, answer_of, answered_by, entry_of}
use Rattle.ucon_client.specs.Boarded.{IsOfSteps, IsShownBy, Sharing, identity}
use Rattle.ucon_client.specs.Clients.{Replies, Stepped, Steps}
use Rattle.ucon_client.proofs.Counting.{answers_step}
use Rattle.ucon_client.proofs.Following.{followed, same_board}
use Rattle.ucon_client.proofs.Stepping.{stepped}
use Rattle.ucon_client.proofs.boarded.Boarded.step.Goals as goal

-- the marks before and after are those of steps
of_step : (old new : Option History) (e : Entry) → IsOfSteps old → (new ≡ old) ⊎ (new ≡ Some (e ∷ [])) → IsOfSteps new
of_step old new e was = ⊎_elim
    (λ (same : new ≡ old). record { failed = was.failed; is = same ∙ was.is })
    (λ (one : new ≡ Some (e ∷ [])). record { failed = Some e; is = one })

pub invariant_of-self : goal.invariant_of-self
invariant_of-self g c =
    let was : Kept g.row.D.Denot = c.deref_mut.result.now in
    let same : was ≡ c.self.inside.store.value = c.deref_mut.ensures.value in
    let first = subst (λ (k : Kept g.row.D.Denot). IsOfSteps k.mark) (sym same) c.self.invariant.0 in
    let shown = subst (λ (k : Kept g.row.D.Denot). IsShownBy k c.self.inside.writer) (sym same) c.self.invariant.1 in
    let now = c.step-said.new.self in
    let s = c.step-said.ensures in
    let line = entry_of c.args.line.now in (
      of_step was.mark now.mark line first s.mark,
      followed g.D.Disk.seen was now (s.stays.policy, s.stays.point, s.stays.before) line c.step-said.result c.self.inside.writer c.publish.new.writer
          shown c.publish.ensures s.placed_behind s.no_memory s.still s.failed_behind,
    )

pub returns-clause-board : goal.returns-clause-board
returns-clause-board g c =
    same_board c.step-said.result c.self.inside.writer c.publish.new.writer c.publish.ensures
    ∙ ap (λ (k : Sharing g.row.D.Denot). option_map identity k.board) c.self.view_is

pub returns-clause-steps : goal.returns-clause-steps
returns-clause-steps g c = λ (says : Replies) (G : History) from'.
    let s = c.step-said.ensures in
    let was : Kept g.row.D.Denot = c.deref_mut.result.now in
    let same : was ≡ c.self.inside.store.value = c.deref_mut.ensures.value in
    let now = c.step-said.new.self in
    let line = entry_of c.args.line.now in
    let first = subst (λ (k : Kept g.row.D.Denot). IsOfSteps k.mark) (sym same) c.self.invariant.0 in
    let then = of_step was.mark now.mark line first s.mark in
    let gives : c.from.result ≡ answered_by c.step-said.result = search rules in
    let here : was ≡ c.args.self.now.store = same ∙ ap (λ (k : Sharing g.row.D.Denot). k.store) c.self.view_is in
    let from : SaysFromStore was says G = subst (λ (k : Kept g.row.D.Denot). SaysFromStore k says G) (sym here) from' in
    subst (λ (z : List Event × List Event). Steps says line z.0 z.1 (answer_of c.from.result))
    (λ i. ((ap (events (G ++ was.entries)) (sym first.is) ∙ (events_behind G was.entries was.mark ∙ ap (λ (k : Kept g.row.D.Denot). map Done G ++ events_of k) here)) i, (ap (events (G ++ now.entries)) (sym then.is) ∙ events_behind G now.entries now.mark) i))
    (stepped says line (G ++ was.entries) first.failed (G ++ now.entries) then.failed (answer_of c.from.result)
    (subst (λ (a : Answer). Stepped says line (G ++ was.entries) first.failed (G ++ now.entries) then.failed (answer_of a)) (sym gives)
    (answers_step g.D.Disk.seen (accepted was.policy) from.P from.accepts from.begun says G from.replies was now from.starts from.count s.stays.before
    first.failed then.failed first.is then.is line c.step-said.result s.stopped s.placed_behind s.no_memory s.still s.failed_behind)))
