-- A walk over who stands at a place, node by node.
use Rattle.std.specs.Prelude.{◌≡◌, ℕ, suc, ◌<◌, ◌==◌, Contains, List, [], ◌∷◌, ◌++◌, length, map, Option, Some, None, option_map, if◌then◌else◌}
use Rattle.ucon_links.specs.Lists.{first_or, place_of, IsListed}
use Rattle.ucon_links.specs.Dependents.{Dependents, place_at, stands_in, walked, session_of}

-- how many nodes of a list are left from this node on
abbrev pub left_from : List (ℕ × ℕ) → Option ℕ → ℕ
left_from xs None = 0
left_from [] (Some node) = 0
left_from (x ∷ xs) (Some node) = if x.0 == node then suc (length xs) else left_from xs (Some node)

-- so far a walk has met these sessions of a place, and it goes on at a node
pub record IsWalked (v : Dependents) (place : ℕ) (met : List ℕ) (at : Option ℕ) : Type 0 where
  pub front : List (ℕ × ℕ)
  pub back : List (ℕ × ℕ)
  pub there : (place_at v.places place).listed ≡ front ++ back
  pub met_is : met ≡ map (λ x. x.1) front
  pub at_is : at ≡ first_or None back

-- a node on the way is listed, has its session, and the walk goes on behind it, where fewer are left
pub record IsMet (v : Dependents) (place : ℕ) (met : List ℕ) (node : ℕ) : Type 0 where
  pub session : ℕ
  pub listed : IsListed (walked v) node
  pub session_is : session_of v node ≡ Some session
  pub stands : Contains (stands_in v place) session
  pub short : length met < length (place_at v.places place).listed
  pub more : (next : Option ℕ) → option_map (λ item. item.after) (place_of (walked v) node) ≡ Some next → IsWalked v place (met ++ session ∷ []) next
  pub fewer : (next : Option ℕ) → option_map (λ item. item.after) (place_of (walked v) node) ≡ Some next
      → left_from (place_at v.places place).listed next < left_from (place_at v.places place).listed (Some node)
