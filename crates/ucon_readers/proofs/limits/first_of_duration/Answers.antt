use Rattle.std.proofs.Common.{◌∙◌, ℤ, Some, ap, rules, sym, w64}
use Rattle.std.specs.Prelude.{◌+ℤ◌}
use mir.Val.{SFits, of_z, to_z}
use Rattle.std.proofs.lemmas.Int.{to_z-of_z}
use Rattle.ucon_model.specs.Reach.{lasting}
use Rattle.ucon_readers.proofs.limits.first_of_duration.Goals as goal

pub returns : goal.returns
returns c = λ R row now starts.
    let start : ℤ = c.args.start in
    let ticks : ℤ = c.args.ticks in
    let from = to_z-of_z w64 c.get.result (record { sfits = c.get.type_inv }) ∙ c.get.ensures.value in
    let more = to_z-of_z w64 c.get-2.result (record { sfits = c.get-2.type_inv }) ∙ c.get-2.ensures.value in
    let fits : SFits w64 (to_z w64 (of_z w64 c.get.result) +ℤ to_z w64 (of_z w64 c.get-2.result)) = search rules in
    let sum = to_z-of_z w64 (to_z w64 (of_z w64 c.get.result) +ℤ to_z w64 (of_z w64 c.get-2.result)) fits ∙ (λ i. from i +ℤ more i) in
    c.earlier.ensures R row (lasting ticks) now (ap (λ (from : ℤ). Some (from +ℤ ticks)) starts ∙ ap Some (sym sum))
