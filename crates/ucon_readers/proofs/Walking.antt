-- A walk over the leaders at a place puts the first of each of their lists into the work.
use Rattle.std.proofs.Common.{◌≡◌, ◌↔◌, ◌⊎◌, ◌<◌, ℕ, List, [], ◌∷◌, ◌++◌, Option, inl, inr, refl, subst, arith}
use Rattle.std.specs.List.{All, Contains, flat_map}
use Rattle.std.proofs.lemmas.List.Elements.{All-contains, All-contains_itself, All-weaker, Contains-append_left, Contains-append_right, Contains-append_cases}
use Rattle.ucon_links.specs.Dependents.{Dependents, stands_in}
use Rattle.ucon_links.specs.Walk.{IsWalked}
use Rattle.ucon_collections.specs.Lists.{Members}
use Rattle.ucon_readers.specs.Listing.{standing_by}
use Rattle.ucon_readers.specs.Lists.{first_in, led_by}
use Rattle.ucon_readers.proofs.Listed.{flat_map_has, in_flat_map, only_in}

-- session n is the first of one of these leaders' lists
abbrev pub IsFirstOf : Members → List ℕ → ℕ → Type 0
IsFirstOf lists leaders n = Contains (flat_map (led_by lists) leaders) n × (first_in lists n ≡ n)

-- the firsts of those whom the walk has met are in the work, beside those who were
pub record IsPutting (lists : Members) (v : Dependents) (place : ℕ) (at : Option ℕ) (before now : List ℕ) : Type 0 where
  pub met : List ℕ
  pub way : IsWalked v place met at
  pub members : (n : ℕ) → Contains now n ↔ (IsFirstOf lists met n ⊎ Contains before n)

pub nobody_met : (lists : Members) (before : List ℕ) (n : ℕ) → Contains before n ↔ (IsFirstOf lists [] n ⊎ Contains before n)
nobody_met lists before n = (λ has. inr has, λ either. elim either [ inl none ↦ absurd (omega (arith, none.0.1)) | inr has ↦ has ])

-- one more is met
pub one_met : (lists : Members) (met before old new : List ℕ) (leader n : ℕ) → Contains old n ↔ (IsFirstOf lists met n ⊎ Contains before n)
    → Contains new n ↔ ((Contains (led_by lists leader) n × (first_in lists n ≡ n)) ⊎ Contains old n)
    → Contains new n ↔ (IsFirstOf lists (met ++ leader ∷ []) n ⊎ Contains before n)
one_met lists met before old new leader n so_far put = (
  λ has. elim (put.0 has) [
    | inl here ↦ inl (flat_map_has (led_by lists) (met ++ leader ∷ []) leader n (Contains-append_right met (leader ∷ []) leader (0, omega arith, refl)) here.0, here.1)
    | inr was ↦ elim (so_far.0 was) [
      | inl first ↦ (
          let of = in_flat_map (led_by lists) met n first.0 in
          inl (flat_map_has (led_by lists) (met ++ leader ∷ []) of.0 n (Contains-append_left met (leader ∷ []) of.0 of.1) of.2, first.1))
      | inr in_before ↦ inr in_before
    ]
  ],
  λ either. elim either [
    | inl first ↦ (
        let of = in_flat_map (led_by lists) (met ++ leader ∷ []) n first.0 in
        elim (Contains-append_cases met (leader ∷ []) of.0 of.1) [
          | inl was ↦ put.1 (inr (so_far.1 (inl (flat_map_has (led_by lists) met of.0 n was of.2, first.1))))
          | inr here ↦ put.1 (inl (subst (λ (l : ℕ). Contains (led_by lists l) n) (only_in leader of.0 here) of.2, first.1))
        ])
    | inr in_before ↦ put.1 (inr (so_far.1 (inr in_before)))
  ],
)

-- whoever is in a list that stands at a place is below the limit
pub members_below : (lists : Members) (v : Dependents) (place leader limit : ℕ) → All (λ n. n < limit) (standing_by lists v place)
    → Contains (stands_in v place) leader → All (λ n. n < limit) (led_by lists leader)
members_below lists v place leader limit below stands =
    All-weaker (Contains (led_by lists leader)) (λ n. n < limit)
    (λ n member. All-contains (λ n. n < limit) (standing_by lists v place) n below (flat_map_has (led_by lists) (stands_in v place) leader n stands member))
    (led_by lists leader) (All-contains_itself (led_by lists leader))
