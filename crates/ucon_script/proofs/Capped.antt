-- A number that is kept at a limit while its digits are read.
use Rattle.std.proofs.Common.{◌≡◌, ℕ, suc, ◌+◌, ◌*◌, ◌-◌, ◌<◌, List, [], ◌∷◌, length, drop, get_or, min, sym, ap, ◌∙◌, arith, drop-cons}
use Rattle.ucon_base.specs.Reading.{number_from}

step : (most x d : ℕ) → min (min x most * 10 + d) most ≡ min (x * 10 + d) most
step most x d = omega arith

capped : (most x : ℕ) (ds : List ℕ) → min (number_from (min x most) ds) most ≡ min (number_from x ds) most
capped most x [] = omega arith
capped most x (d ∷ ds) =
    let low : ℕ = min x most * 10 + (d - 48) in
    let high : ℕ = x * 10 + (d - 48) in
    sym (capped most low ds) ∙ ap (λ n. min (number_from n ds) most) (step most x (d - 48)) ∙ capped most high ds

pub next : (most n i : ℕ) (ds : List ℕ) (said : ℕ) → i < length ds → min (number_from n (drop i ds)) most ≡ said
    → min (number_from (min (n * 10 + (get_or ds i 0 - 48)) most) (drop (i + 1) ds)) most ≡ said
next most n i ds said l h =
    let e : i + 1 ≡ suc i = omega arith in
    rw e (capped most (n * 10 + (get_or ds i 0 - 48)) (drop (suc i) ds) ∙ ap (λ r. min (number_from n r) most) (sym (drop-cons ds i 0 l)) ∙ h)
