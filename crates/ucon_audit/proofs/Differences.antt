-- Where two texts differ first, found place by place.
use Rattle.std.proofs.Common.{◌≡◌, ◌≢◌, ℕ, ◌+◌, ◌<◌, ◌≤◌, [], ◌∷◌, length, drop, get_or, Bool, eqb, Option, Some, None, true, false, refl, ap, ◌∙◌, arith}
use Rattle.std.specs.Prelude.{option_map, nat_lt, min, if◌then◌else◌}
use Rattle.std.proofs.lemmas.Bool.{eq-eqb, ne_eqb, eqb-true}
use Rattle.std.proofs.lemmas.List.{drop_all, drop_more}
use Rattle.ucon_model.specs.Plain.{Bytes}
use Rattle.ucon_store.specs.Opening.{first_difference}

same_heads : (a b : ℕ) (one other : Bytes) → a ≡ b → first_difference (a ∷ one) (b ∷ other) ≡ option_map (λ place. place + 1) (first_difference one other)
same_heads a b one other e = ap (λ t. if t then option_map (λ place. place + 1) (first_difference one other) else Some 0) (eq-eqb a b e)

other_heads : (a b : ℕ) (one other : Bytes) → a ≢ b → first_difference (a ∷ one) (b ∷ other) ≡ Some 0
other_heads a b one other ne = ap (λ t. if t then option_map (λ place. place + 1) (first_difference one other) else Some 0) (ne_eqb a b ne)

shifted : (i : ℕ) (o : Option ℕ) → option_map (λ k. i + k) (option_map (λ place. place + 1) o) ≡ option_map (λ k. i + 1 + k) o
shifted i None = refl
shifted i (Some k) = ap Some (omega arith)

unshifted : (o : Option ℕ) → o ≡ option_map (λ k. 0 + k) o
unshifted None = refl
unshifted (Some k) = ap Some (omega arith)

module _ (one other : Bytes) where
  -- up to a place the texts are the same
  abbrev pub AreSameTo : ℕ → Type 0
  AreSameTo i = first_difference one other ≡ option_map (λ k. i + k) (first_difference (drop i one) (drop i other))

  pub same_to_none : AreSameTo 0
  same_to_none = unshifted (first_difference one other)

  heads : (i : ℕ) → i < length one → i < length other → first_difference (drop i one) (drop i other) ≡ first_difference (get_or one i 0 ∷ drop (i + 1) one) (get_or other i 0 ∷ drop (i + 1) other)
  heads i less less' = ap (λ l. first_difference l (drop i other)) (drop_more one i 0 less) ∙ ap (λ l. first_difference (get_or one i 0 ∷ drop (i + 1) one) l) (drop_more other i 0 less')

  pub same_on : (i : ℕ) → i < length one → i < length other → get_or one i 0 ≡ get_or other i 0 → AreSameTo i → AreSameTo (i + 1)
  same_on i less less' same so_far =
      so_far ∙ (ap (option_map (λ k. i + k)) (heads i less less' ∙ same_heads _ _ (drop (i + 1) one) (drop (i + 1) other) same)
      ∙ shifted i (first_difference (drop (i + 1) one) (drop (i + 1) other)))

  pub differ_at : (i : ℕ) → i < length one → i < length other → get_or one i 0 ≢ get_or other i 0 → AreSameTo i → first_difference one other ≡ Some i
  differ_at i less less' differ so_far =
      so_far ∙ (ap (option_map (λ k. i + k)) (heads i less less' ∙ other_heads _ _ (drop (i + 1) one) (drop (i + 1) other) differ) ∙ ap Some (omega arith))

  ended : (l : Bytes) (i : ℕ) → length l ≤ i → drop i l ≡ []
  ended l i le = drop_all i l le

  pub same_ends : (i : ℕ) → length one ≤ i → length other ≤ i → AreSameTo i → first_difference one other ≡ None
  same_ends i le le' so_far = so_far ∙ ap (option_map (λ k. i + k)) (ap (λ l. first_difference l (drop i other)) (ended one i le) ∙ ap (first_difference []) (ended other i le'))

  pub longer_other : (i : ℕ) → length one ≤ i → i < length other → AreSameTo i → first_difference one other ≡ Some i
  longer_other i le less so_far =
      so_far ∙ (ap (option_map (λ k. i + k)) (ap (λ l. first_difference l (drop i other)) (ended one i le) ∙ ap (first_difference []) (drop_more other i 0 less)) ∙ ap Some (omega arith))

  pub longer_one : (i : ℕ) → i < length one → length other ≤ i → AreSameTo i → first_difference one other ≡ Some i
  longer_one i less le so_far =
      so_far ∙ (ap (option_map (λ k. i + k)) (ap (λ l. first_difference l (drop i other)) (drop_more one i 0 less) ∙ ap (first_difference (get_or one i 0 ∷ drop (i + 1) one)) (ended other i le)) ∙ ap Some (omega arith))

-- where nothing differs the texts are the same
some_never : (o : Option ℕ) → option_map (λ place. place + 1) o ≡ None → o ≡ None
some_never None e = refl
some_never (Some k) e = absurd (cc e)

by_heads : (a b : ℕ) (one other : Bytes) (t : Bool) → eqb a b ≡ t → (if t then option_map (λ place. place + 1) (first_difference one other) else Some 0) ≡ None
    → (first_difference one other ≡ None → one ≡ other) → a ∷ one ≡ b ∷ other
by_heads a b one other true same none tails =
    let heads : a ≡ b = eqb-true a b same in
    ap (λ (x : ℕ). x ∷ one) heads ∙ ap (λ (l : Bytes). b ∷ l) (tails (some_never (first_difference one other) none))
by_heads a b one other false differ none tails = absurd (cc none)

pub no_difference : (one other : Bytes) → first_difference one other ≡ None → one ≡ other
no_difference [] [] none = refl
no_difference [] (b ∷ other) none = absurd (cc none)
no_difference (a ∷ one) [] none = absurd (cc none)
no_difference (a ∷ one) (b ∷ other) none = by_heads a b one other (eqb a b) refl none (no_difference one other)

-- behind the places that both have, the longer text differs
not_less : (m n : ℕ) → nat_lt m n ≡ false → n ≤ m
not_less m n e = grind arith

less_than : (m n : ℕ) → nat_lt m n ≡ true → m < n
less_than m n e = grind arith

pub ends_at : (one other : Bytes) (i : ℕ) → i ≡ min (length one) (length other) → length one ≢ length other → AreSameTo one other i → first_difference one other ≡ Some i
ends_at one other i is lengths so_far = by_order (nat_lt (length one) (length other)) refl
  where
    by_order : (t : Bool) → nat_lt (length one) (length other) ≡ t → first_difference one other ≡ Some i
    by_order true e =
        let less = less_than (length one) (length other) e in
        longer_other one other i (omega (arith, is, less)) (omega (arith, is, less)) so_far
    by_order false e =
        let le = not_less (length one) (length other) e in
        longer_one one other i (omega (arith, is, le, lengths)) (omega (arith, is, le)) so_far
