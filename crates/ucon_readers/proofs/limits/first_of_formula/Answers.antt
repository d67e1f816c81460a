use Rattle.std.proofs.Common.{◌∙◌, [], ℤ, Some, ap, rules, subst, sym, w64}
use Rattle.std.specs.Prelude.{◌+ℤ◌}
use mir.Val.{SFits, of_z, to_z}
use Rattle.std.proofs.lemmas.Int.{to_z-of_z}
use Rattle.ucon_model.specs.declared.formula.Formula.{Formula}
use Rattle.ucon_model.specs.Reach.{formula_timed, lasting}
use Rattle.ucon_model.specs.Views.{formula_of}
use Rattle.ucon_readers.specs.Limits.{GivesWay}
use Rattle.ucon_readers.proofs.First.{no_limit, still_first}
use Rattle.ucon_readers.proofs.limits.first_of_formula.Goals as goal

pub returns-in-Compare : goal.returns-in-Compare
returns-in-Compare c = λ R row now starts.
    let o = c.args.first in
    subst (λ (h : Formula). GivesWay R row (formula_timed (formula_of h)) o o) (sym c.in-Compare.is) (still_first R row [] o (λ d limit. no_limit R row d limit))

pub returns-in-Lasts : goal.returns-in-Lasts
returns-in-Lasts c = λ R row now starts.
    let start : ℤ = c.args.start in
    let ticks : ℤ = c.in-Lasts.ticks in
    let from = to_z-of_z w64 c.get.result (record { sfits = c.get.type_inv }) ∙ c.get.ensures.value in
    let more = to_z-of_z w64 c.get-in-Lasts.result (record { sfits = c.get-in-Lasts.type_inv }) ∙ c.get-in-Lasts.ensures.value in
    let fits : SFits w64 (to_z w64 (of_z w64 c.get.result) +ℤ to_z w64 (of_z w64 c.get-in-Lasts.result)) = search rules in
    let sum = to_z-of_z w64 (to_z w64 (of_z w64 c.get.result) +ℤ to_z w64 (of_z w64 c.get-in-Lasts.result)) fits ∙ (λ i. from i +ℤ more i) in
    subst (λ (h : Formula). GivesWay R row (formula_timed (formula_of h)) c.args.first c.earlier.result) (sym c.in-Lasts.is)
    (c.earlier.ensures R row (lasting ticks) now (ap (λ (from : ℤ). Some (from +ℤ ticks)) starts ∙ ap Some (sym sum)))
