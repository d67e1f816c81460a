use Rattle.std.proofs.Common.{◌≡◌, ◌∙◌, true, false, map, sym, ap, rules}
use Rattle.ucon_accept.specs.Checking.{verdict_told}
use Rattle.ucon_accept.specs.Explanation.{why_of}
use Rattle.ucon_accept.proofs.Verdicts.{verdict_of_lines}
use Rattle.ucon_accept.proofs.checker.check.Goals as goal

pub returns-then-not-is_same_verdict-clause-err : goal.returns-then-not-is_same_verdict-clause-err
returns-then-not-is_same_verdict-clause-err g c =
    let P = g.V.View.policy c.args.view.now in
    let R = g.V.View.readings c.args.view.now in
    let row = c.args.row.now in
    let n = c.args.session in
    let right = c.in_default.ensures.ok in
    let told = c.verdict_told.ensures ∙ ap verdict_told right ∙ verdict_of_lines P R n row c.requires.there in
    let other : c.is_same_verdict.result ≡ false = search rules in
    (ap (map why_of) (sym c.slice-whys.ensures) ∙ right, λ e. absurd (cc (other, c.is_same_verdict.ensures.1 (e ∙ sym told))))

pub returns-clause-verdict : goal.returns-clause-verdict
returns-clause-verdict g c =
    let P = g.V.View.policy c.args.view.now in
    let R = g.V.View.readings c.args.view.now in
    let row = c.args.row.now in
    let n = c.args.session in
    let told = c.verdict_told.ensures ∙ ap verdict_told c.in_default.ensures.ok ∙ verdict_of_lines P R n row c.requires.there in
    let same : c.is_same_verdict.result ≡ true = search rules in
    c.is_same_verdict.ensures.0 same ∙ told
