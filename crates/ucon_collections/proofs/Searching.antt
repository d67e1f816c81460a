-- The last member of a list below a session, looked for from the list's end on.
use Rattle.std.proofs.Common.{◌≡◌, ◌≢◌, ◌∙◌, inl, inr, ◌+◌, ◌<◌, ℕ, sym, ap, arith}
use Rattle.std.specs.Prelude.{Option, Some, None}
use Rattle.std.specs.Option.{option_map_or}
use Rattle.ucon_collections.specs.Lists.{Below, IsLed, IsPast, IsPrevious, Members, leader_in}
use Rattle.ucon_collections.specs.Table.{IsIn}
use Rattle.ucon_collections.proofs.Ordered.{below_order}

-- all members above this one are above the session
pub record IsSought (v : Members) (leader session : ℕ) (at : Option ℕ) : Type 0 where
  pub inside : IsIn v leader at
  pub above : (n : ℕ) → IsLed v leader n → IsPast Below at n → session < n

abbrev pub left_below : Option ℕ → ℕ
left_below at = option_map_or (λ n. n + 1) at 0

module _ (v : Members) (leader session : ℕ) where
  pub sought_first : (at : Option ℕ) → IsPrevious (IsLed v leader) None at → IsSought v leader session at
  sought_first None is = record { inside = tt; above = λ n led past. absurd (is n led tt) }
  sought_first (Some m) is = record { inside = is.0; above = λ n led past. absurd (is.2 n led tt past) }

  module _ (alone : leader_in v session ≡ None) (m : ℕ) (so_far : IsSought v leader session (Some m)) where
    other : m ≢ session
    other same = let no : None ≡ Some leader = sym alone ∙ ap (leader_in v) (sym same) ∙ so_far.inside in cc

    pub sought_next : (x : Option ℕ) → (m < session → ⊥) → IsPrevious (IsLed v leader) (Some m) x → IsSought v leader session x
    sought_next None not is = record {
      inside = tt;
      above = λ n led past. elim (below_order.which n m) [
        | inl less ↦ absurd (is n led less)
        | inr rest ↦ elim rest [
          | inl same ↦ (let apart = other in omega (arith, same, not, apart))
          | inr more ↦ so_far.above n led more
        ]
      ];
    }
    sought_next (Some k) not is = record {
      inside = is.0;
      above = λ n led past. elim (below_order.which n m) [
        | inl less ↦ absurd (is.2 n led less past)
        | inr rest ↦ elim rest [
          | inl same ↦ (let apart = other in omega (arith, same, not, apart))
          | inr more ↦ so_far.above n led more
        ]
      ];
    }

    pub sought_less : (x : Option ℕ) → IsPrevious (IsLed v leader) (Some m) x → left_below x < left_below (Some m)
    sought_less None is = omega arith
    sought_less (Some k) is = let less : k < m = is.1 in omega (arith, less)

    pub sought_found : m < session → IsPrevious (IsLed v leader) (Some session) (Some m)
    sought_found less = (so_far.inside, less, λ n led below above. (let far = so_far.above n led above in omega (arith, below, far)))

  pub sought_none : IsSought v leader session None → IsPrevious (IsLed v leader) (Some session) None
  sought_none so_far = λ n led below. (let far = so_far.above n led tt in omega (arith, below, far))
