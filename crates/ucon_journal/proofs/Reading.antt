-- What is read from bytes that were read ahead.
use Rattle.std.proofs.Common.{◌≡◌, ℕ, zero, suc, ◌+◌, ◌-◌, ◌≤◌, List, length, take, drop, refl, ◌∙◌, ap, arith, take-take}
use Rattle.std.proofs.lemmas.List.{drop-take, drop-drop}
use Rattle.ucon_journal.specs.Ahead.{IsPart}

module _ (file bytes : List ℕ) (place : ℕ) (part : IsPart place bytes file) where
  -- behind as many bytes as are skipped, they are the file's
  behind : (skipped left : ℕ) → length bytes ≡ skipped + left → drop skipped bytes ≡ take left (drop (place + skipped) file)
  behind skipped left is =
      ap (drop skipped) (part ∙ ap (λ k. take k (drop place file)) is)
      ∙ drop-take skipped left (drop place file)
      ∙ ap (take left) (drop-drop skipped place file)

-- so many bytes from a place on that were all read ahead
pub part_at : (file bytes : List ℕ) (place at n : ℕ) → IsPart place bytes file → place ≤ at → n ≤ length bytes - (at - place) → take n (drop (at - place) bytes) ≡ take n (drop at file)
part_at file bytes place at zero part le enough = refl
part_at file bytes place at (suc n) part le enough =
    let skipped = at - place in
    let left = length bytes - skipped in
    let on : place + skipped ≡ at = omega (arith, le) in
    ap (take (suc n)) (behind file bytes place part skipped left (omega (arith, enough)))
    ∙ take-take (suc n) left (drop (place + skipped) file) (omega (arith, enough))
    ∙ ap (λ k. take (suc n) (drop k file)) on
