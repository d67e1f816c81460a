use Rattle.std.proofs.Common.{◌≡◌, ◌∙◌, ◌<◌, ℕ, List, [], ◌∷◌, refl, rules, subst, sym, arith}
use Rattle.std.specs.Prelude.{None}
use Rattle.std.proofs.lemmas.List.Elements.{All-contains}
use Rattle.ucon_cascade.specs.Cascading.{IsWork, work_of}
use Rattle.ucon_state.specs.Shown.{shown}
use Rattle.ucon_cascade.specs.Paid.{StayPaid}
use Rattle.ucon_cascade.proofs.Covering.{first_is_least, work_passes_over}
use Rattle.ucon_cascade.proofs.Firsts.{led}
use Rattle.ucon_cascade.proofs.Paying.{paid_at_first, paid_but_one, paid_then, stays_paid}
use Rattle.ucon_cascade.proofs.settle.next_failing.Goals as goal

pub loop-n-init : goal.loop-n-init
loop-n-init c = record {
  work = λ first work. work;
  paid = λ first work. paid_at_first (shown c.args.state.now) first c.args.work.now.members c.args.steps.now;
  limit = refl;
  later = omega arith;
}

pub returns-in-Some-fails_at-clause-least : goal.returns-in-Some-fails_at-clause-least
returns-in-Some-fails_at-clause-least c = λ P T h.
    let s = shown c.args.state.now in
    let n = c.in-Some.n in
    let rest = c.pop_least.new.self.members in
    let first = c.requires.work.0 in
    let work = subst (λ (ms : List ℕ). IsWork s first ms) c.in-Some.ensures.least (c.loop-n.invariant.work first c.requires.work.1) in
    first_is_least c.firsts_have_the_least.ensures.least P T first h.sound.numbered (led s first P T h work.grouped) n c.in-Some-fails_at.label rest
    (λ m has. All-contains (λ m. n < m) rest m c.in-Some.ensures.first has) (work.covers P T h) (c.fails_at.ensures.label P T h ∙ c.in-Some-fails_at.is)

pub returns-in-Some-fails_at-clause-work : goal.returns-in-Some-fails_at-clause-work
returns-in-Some-fails_at-clause-work c = λ first work.
    subst (λ (ms : List ℕ). IsWork (shown c.args.state.now) first ms) c.in-Some.ensures.least (c.loop-n.invariant.work first work)

pub returns-clause-least : goal.returns-clause-least
returns-clause-least c = λ P T h.
    let s = shown c.args.state.now in
    let none : c.loop-n.work.members ≡ [] = search rules in
    let first = c.requires.work.0 in
    let work = subst (λ (ms : List ℕ). IsWork s first ms) none (c.loop-n.invariant.work first c.requires.work.1) in
    c.firsts_have_the_least.ensures.empty P T first (work_of []) (led s first P T h work.grouped) (work.covers P T h) (λ n. refl)

pub loop-n-preserved : goal.loop-n-preserved
loop-n-preserved c =
    let s = shown c.args.state.now in
    let n = c.in-Some.n in
    let rest = c.pop_least.new.self.members in
    let none : c.fails_at.result ≡ None = search rules in
    let popped = λ (first : ℕ → ℕ) (given : IsWork s first c.args.work.now.members). subst (λ (ms : List ℕ). IsWork s first ms) c.in-Some.ensures.least (c.loop-n.invariant.work first given) in
    record {
      work = λ first given. work_passes_over c.firsts_go_on_covering.ensures.holds s first n rest (popped first given) (λ P T h. c.fails_at.ensures.label P T h ∙ none);
      paid = λ first given.
          paid_then s first c.args.work.now.members (n ∷ rest) rest c.args.steps.now c.loop-n.steps c.fails_at.new.steps
          (subst (λ (ms : List ℕ). StayPaid s first c.args.work.now.members ms c.args.steps.now c.loop-n.steps) c.in-Some.ensures.least (c.loop-n.invariant.paid first given))
          (stays_paid c.judgements_are_paid_for.ensures.holds s first n rest c.loop-n.steps c.fails_at.new.steps
          (λ m has. All-contains (λ m. n < m) rest m c.in-Some.ensures.first has) ((popped first given).firsts n (0, omega arith, refl))
          c.fails_at.ensures.once c.fails_at.ensures.not_judged);
      limit = c.pop_least.ensures.limit ∙ c.loop-n.invariant.limit;
      later = omega (arith, c.loop-n.invariant.later, c.fails_at.ensures.later);
    }

pub returns-in-Some-fails_at-clause-found : goal.returns-in-Some-fails_at-clause-found
returns-in-Some-fails_at-clause-found c = λ first work.
    let s = shown c.args.state.now in
    let found = c.in-Some.n ∷ c.pop_least.new.self.members in
    paid_but_one s first c.args.work.now.members found c.args.steps.now c.loop-n.steps c.fails_at.new.steps c.fails_at.ensures.once
    (subst (λ (ms : List ℕ). StayPaid s first c.args.work.now.members ms c.args.steps.now c.loop-n.steps) c.in-Some.ensures.least (c.loop-n.invariant.paid first work))

pub returns-clause-paid : goal.returns-clause-paid
returns-clause-paid c = λ first work.
    let same : c.pop_least.new.self.members ≡ c.loop-n.work.members = search rules in
    subst (λ (ms : List ℕ). StayPaid (shown c.args.state.now) first c.args.work.now.members ms c.args.steps.now c.loop-n.steps) (sym same) (c.loop-n.invariant.paid first work)
