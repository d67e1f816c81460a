use Rattle.std.proofs.Common.{◌≡◌, ◌∙◌, sym, subst, rules}
use Rattle.std.specs.Prelude.{None}
use Rattle.ucon_state.specs.Shown.{shown}
use Rattle.ucon_accept.specs.Explanation.{PlainExplanation}
use Rattle.ucon_accept.specs.Trying.{IsRight, refusal_shown}
use Rattle.ucon_explain.proofs.trying.explain.Goals as goal

pub returns-in-Some-clause-refused : goal.returns-in-Some-clause-refused
returns-in-Some-clause-refused c = c.in-Some.ensures.refused

pub returns-clause-explained : goal.returns-clause-explained
returns-clause-explained c = λ P T h.
    let none : refusal_shown (shown c.args.state.now) c.args.subject.now c.args.right.now c.args.object.now ≡ None = search rules in
    c.in_ok-e.ensures
    ∙ c.tries_are_explained_as_shown.ensures.after (shown c.args.state.now) P T h c.args.subject.now c.args.right.now c.args.object.now none

pub returns-clause-right : goal.returns-clause-right
returns-clause-right c =
    let s = shown c.args.state.now in
    let none : refusal_shown s c.args.subject.now c.args.right.now c.args.object.now ≡ None = search rules in
    subst (λ (x : PlainExplanation). IsRight s x) (sym c.in_ok-e.ensures)
    (c.tries_are_explained_as_shown.ensures.right s c.args.subject.now c.args.right.now c.args.object.now none)
