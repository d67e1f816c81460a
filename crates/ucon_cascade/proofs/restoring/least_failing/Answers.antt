use Rattle.std.proofs.Common.{◌≡◌, ◌∙◌, ◌+◌, ◌-◌, ◌<◌, ℕ, suc, sym, refl, arith}
use Rattle.std.specs.Prelude.{Some, None}
use Rattle.ucon_model.specs.Action.{Trace}
use Rattle.ucon_model.specs.Plain.{Bytes, PlainPolicy}
use Rattle.ucon_model.specs.Settle.{fails_at, least_from}
use Rattle.ucon_cascade.proofs.restoring.least_failing.Goals as goal

-- a session that holds is passed over
passed_over : (P : PlainPolicy) (T : Trace) (before count : ℕ) → before < count → fails_at P T (before + 1) ≡ None
    → least_from P T (before + 1 + 1) (count - (before + 1)) ≡ least_from P T (before + 1) (count - before)
passed_over P T before count lt none =
    let k : count - before ≡ suc (count - (before + 1)) = omega arith in
    rw (k, none) refl

-- the first that fails is found
found_here : (P : PlainPolicy) (T : Trace) (before count : ℕ) (label : Bytes) → before < count → fails_at P T (before + 1) ≡ Some label
    → least_from P T (before + 1) (count - before) ≡ Some (before + 1, label)
found_here P T before count label lt fails =
    let k : count - before ≡ suc (count - (before + 1)) = omega arith in
    rw (k, fails) refl

pub returns-in-Some : goal.returns-in-Some
returns-in-Some c = λ P T h.
    sym (c.loop-before.invariant P T h)
    ∙ found_here P T c.loop-before.before c.sessions-count.result c.in-Some.label c.loop-before-test.true (c.fails_at.ensures.label P T h ∙ c.in-Some.is)

pub loop-before-preserved : goal.loop-before-preserved
loop-before-preserved c = λ P T h.
    passed_over P T c.loop-before.before c.sessions-count.result c.loop-before-test.true (c.fails_at.ensures.label P T h ∙ c.in_default.is) ∙ c.loop-before.invariant P T h
