use Rattle.std.proofs.Common.{◌∙◌, arith, sym}
use Rattle.ucon_plain.proofs.Least.{passed_over, found_here}
use Rattle.ucon_plain.proofs.settle.least_failing.Goals as goal

pub returns-in-Some-clause-least : goal.returns-in-Some-clause-least
returns-in-Some-clause-least c = λ P T h.
    sym (c.loop-before.invariant.least P T h) ∙ found_here P T c.loop-before.before c.sessions-count.result c.in-Some.label c.loop-before-test.true (c.fails_at.ensures.label P T h ∙ c.in-Some.is)

pub loop-before-preserved : goal.loop-before-preserved
loop-before-preserved c = record {
  least = λ P T h.
      passed_over P T c.loop-before.before c.sessions-count.result c.loop-before-test.true (c.fails_at.ensures.label P T h ∙ c.in_default.is) ∙ c.loop-before.invariant.least P T h;
  later = omega (arith, c.loop-before.invariant.later, c.fails_at.ensures.later);
}
