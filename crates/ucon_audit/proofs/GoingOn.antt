-- Uses that go on.
use Rattle.std.proofs.Common.{◌≡◌, ◌++◌, ◌∷◌, [], ℕ, zero, suc, Bool, true, false, List, Option, Some, None, refl, ap}
use Rattle.std.specs.Prelude.{All, IsSome, if◌then◌else◌}
use Rattle.std.proofs.lemmas.List.Elements.{All-nil, All-push}
use Rattle.ucon_model.specs.declared.session.SessionRow.{SessionRow}
use Rattle.ucon_model.specs.Readings.{is_accessing}
use Rattle.ucon_audit.specs.Usages.{usages_to}

-- where the same sessions are there, the same uses go on
pub same_usages : (row row' : ℕ → Option SessionRow) → ((n : ℕ) → row n ≡ row' n) → (n : ℕ) → usages_to row n ≡ usages_to row' n
same_usages row row' same n = ap (λ (r : ℕ → Option SessionRow). usages_to r n) (λ i m. same m i)

there_if : (o : Option SessionRow) → is_accessing o ≡ true → IsSome o
there_if (Some row) h = refl
there_if None h = cc h

pushed_if : (Q : ℕ → Type 0) (b : Bool) (ns : List ℕ) (n : ℕ) → All Q ns → (b ≡ true → Q n) → All Q (if b then ns ++ n ∷ [] else ns)
pushed_if Q true ns n all one = All-push Q ns n all (one refl)
pushed_if Q false ns n all one = all

-- each session whose use goes on is there
pub usages_are_there : (row : ℕ → Option SessionRow) (n : ℕ) → All (λ (m : ℕ). IsSome (row m)) (usages_to row n)
usages_are_there row zero = All-nil (λ (m : ℕ). IsSome (row m))
usages_are_there row (suc n) =
    pushed_if (λ (m : ℕ). IsSome (row m)) (is_accessing (row (suc n))) (usages_to row n) (suc n) (usages_are_there row n) (there_if (row (suc n)))
