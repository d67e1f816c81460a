use Rattle.std.proofs.Common.{◌≡◌, subst}
use Rattle.std.specs.Prelude.{IfOk}
use Rattle.ucon_state.specs.Shown.{shown}
use Rattle.ucon_accept.specs.Explanation.{PlainExplanation, explanation_of}
use Rattle.ucon_explain.proofs.trying.explain_try.Goals as goal

pub explained-requires : goal.explained-requires
explained-requires c =
    c.tries_are_explained_as_shown.ensures.judged (shown c.args.state.now) c.requires.following c.args.subject.now c.args.right.now c.args.object.now
    c.requires.allowed c.tried.result c.number.result c.tried.ensures c.number.ensures

pub returns : goal.returns
returns c =
    subst (λ (x : PlainExplanation). IfOk c.explained.result (λ e. explanation_of e ≡ x))
    (c.tries_are_explained_as_shown.ensures.explained (shown c.args.state.now) c.args.subject.now c.args.right.now c.args.object.now
    c.tried.result c.number.result c.tried.ensures c.number.ensures)
    c.explained.ensures
