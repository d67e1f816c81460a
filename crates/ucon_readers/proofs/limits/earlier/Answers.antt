use Rattle.std.proofs.Common.{◌≡◌, ◌∙◌, ◌∷◌, [], ℤ, true, false, subst, sym, arith, rules, w64}
use Rattle.std.specs.Prelude.{◌≤ℤ◌, ◌<ℤ◌, Option, Some, None, int_lt}
use Rattle.std.specs.Int.{int_min}
use Rattle.std.proofs.lemmas.Int.{ints, to_z-of_z}
use mir.Val.{SFits, of_z, to_z}
use Rattle.ucon_readers.specs.Limits.{GivesWay}
use Rattle.ucon_readers.proofs.First.{earlier_of_both, first_so_far, passed_by}
use Rattle.ucon_readers.proofs.limits.earlier.Goals as goal

below : (limit now d t : ℤ) → d ≡ limit → t ≡ now → int_lt d t ≡ true → limit <ℤ now
below limit now d t same told test = grind (arith, ints)

ahead : (limit now d t : ℤ) → d ≡ limit → t ≡ now → int_lt d t ≡ false → now ≤ℤ limit
ahead limit now d t same told test = grind (arith, ints)

pub returns-then-limit-get : goal.returns-then-limit-get
returns-then-limit-get c = λ R row part now is.
    let same = to_z-of_z w64 c.args.limit c.ranges.limit in
    let told = to_z-of_z w64 c.get.result (record { sfits = c.get.type_inv }) ∙ c.get.ensures.value ∙ sym now in
    passed_by R row part c.args.limit is c.args.first (below c.args.limit R.now _ _ same told c.if-limit-get.true)

pub returns-in-Some : goal.returns-in-Some
returns-in-Some c = λ R row part now is.
    let so_far : ℤ = c.in-Some.so_far in
    let limit : ℤ = c.args.limit in
    let same = to_z-of_z w64 limit c.ranges.limit in
    let told = to_z-of_z w64 c.get.result (record { sfits = c.get.type_inv }) ∙ c.get.ensures.value ∙ sym now in
    let fits : SFits w64 so_far = search rules in
    let least = to_z-of_z w64 c.min.result (record { sfits = c.min.type_inv }) ∙ c.min.ensures.value ∙ (λ i. int_min (to_z-of_z w64 so_far fits i) (same i)) in
    subst (λ (o : Option ℤ). GivesWay R row (part ∷ []) o (Some (to_z w64 (of_z w64 c.min.result)))) (sym c.in-Some.is)
    (subst (λ (new : ℤ). GivesWay R row (part ∷ []) (Some so_far) (Some new)) (sym least)
    (earlier_of_both R row part limit is so_far (ahead limit R.now _ _ same told c.if-limit-get.false)))

pub returns-in-None : goal.returns-in-None
returns-in-None c = λ R row part now is.
    let limit : ℤ = c.args.limit in
    let same = to_z-of_z w64 limit c.ranges.limit in
    let told = to_z-of_z w64 c.get.result (record { sfits = c.get.type_inv }) ∙ c.get.ensures.value ∙ sym now in
    subst (λ (o : Option ℤ). GivesWay R row (part ∷ []) o (Some (to_z w64 (of_z w64 limit)))) (sym c.in-None.is)
    (subst (λ (new : ℤ). GivesWay R row (part ∷ []) None (Some new)) (sym same)
    (first_so_far R row part limit is (ahead limit R.now _ _ same told c.if-limit-get.false)))
