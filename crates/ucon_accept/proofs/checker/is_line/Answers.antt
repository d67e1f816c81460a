use Rattle.std.proofs.Common.{◌≡◌, ◌∙◌, true, false, sym, ap, rules}
use Rattle.ucon_accept.specs.Explanation.{PlainWhy}
use Rattle.ucon_accept.proofs.checker.is_line.Goals as goal

pub returns-then-not-is_on : goal.returns-then-not-is_on
returns-then-not-is_on g c =
    let fails : c.is_on.result ≡ false = search rules in (
      λ yes. absurd (cc (yes)),
      λ e. sym fails ∙ c.is_on.ensures.1 (ap (λ (w : PlainWhy). w.pred) e, ap (λ (w : PlainWhy). w.label) e, ap (λ (w : PlainWhy). w.factor) e),
    )

pub returns : goal.returns
returns g c =
    let passes : c.is_on.result ≡ true = search rules in
    let on = c.is_on.ensures.0 passes in
    let reads = c.slice.ensures in (
      λ yes.
          let judged = c.is_judged.ensures.0 yes in
          λ i. record { pred = on.0 i; label = on.1 i; factor = on.2 i; truth = judged.1 i; reads = (sym reads ∙ judged.0) i },
      λ e. c.is_judged.ensures.1 (reads ∙ ap (λ (w : PlainWhy). w.reads) e, ap (λ (w : PlainWhy). w.truth) e),
    )
