-- Words that are no form.
use Rattle.std.proofs.Common.{◌≡◌, ◌<◌, ◌≤◌, List, [], ◌∷◌, length, map, refl, arith}
use Rattle.std.specs.Prelude.{None, String, string_bytes}
use Rattle.ucon_model.specs.Plain.{Bytes}
use Rattle.ucon_top.specs.Form.{form_of}

-- none, or more than five

module _ {A : Type 0} where
  abbrev bytes_of : List (String A) → List Bytes
  bytes_of ws = map (λ w. string_bytes w) ws

  pub form_of_none : (ws : List (String A)) → length ws < 1 → None ≡ form_of (bytes_of ws)
  form_of_none [] few = refl
  form_of_none (a ∷ ws) few = absurd (omega (arith, few))

  pub form_of_more : (ws : List (String A)) → 6 ≤ length ws → None ≡ form_of (bytes_of ws)
  form_of_more [] many = absurd (omega (arith, many))
  form_of_more (a ∷ []) many = absurd (omega (arith, many))
  form_of_more (a ∷ b ∷ []) many = absurd (omega (arith, many))
  form_of_more (a ∷ b ∷ c ∷ []) many = absurd (omega (arith, many))
  form_of_more (a ∷ b ∷ c ∷ d ∷ []) many = absurd (omega (arith, many))
  form_of_more (a ∷ b ∷ c ∷ d ∷ e ∷ []) many = absurd (omega (arith, many))
  form_of_more (a ∷ b ∷ c ∷ d ∷ e ∷ f ∷ ws) many = refl
