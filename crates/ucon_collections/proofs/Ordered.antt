-- Who comes first behind whom in an order, once one comes or goes.
use Rattle.std.proofs.Common.{◌≡◌, ◌≢◌, ◌⊎◌, inl, inr, ◌↔◌, ◌<◌, ℕ, refl, sym, ap, subst, arith}
use Rattle.std.specs.Prelude.{Option, Some, None, ⊤}
use Rattle.std.proofs.lemmas.Bool.Decides.{eqb_tells, leb_tells}
use Rattle.ucon_collections.specs.Lists.{Above, Below, IsFirstPast, IsPast}

pub record IsOrder (Before : ℕ → ℕ → Type 0) : Type 0 where
  pub never : (n : ℕ) → Before n n → ⊥
  pub through : (a b c : ℕ) → Before a b → Before b c → Before a c
  pub which : (a b : ℕ) → Before a b ⊎ ((a ≡ b) ⊎ Before b a)

less_or_more : (a b : ℕ) → a ≢ b → (a < b) ⊎ (b < a)
less_or_more a b apart = elim (leb_tells a b) [ inl less ↦ (let up = less.1 in inl (omega (arith, up, apart))) | inr more ↦ inr more.1 ]

pub below_order : IsOrder Below
below_order = record {
  never = λ n less. omega (arith, less);
  through = λ a b c first second. omega (arith, first, second);
  which = λ a b. elim (eqb_tells a b) [ inl same ↦ inr (inl same.1) | inr apart ↦ elim (less_or_more a b apart.1) [ inl less ↦ inl less | inr more ↦ inr (inr more) ] ];
}

pub above_order : IsOrder Above
above_order = record {
  never = λ n less. omega (arith, less);
  through = λ a b c first second. omega (arith, first, second);
  which = λ a b. elim (eqb_tells a b) [ inl same ↦ inr (inl same.1) | inr apart ↦ elim (less_or_more a b apart.1) [ inl less ↦ inr (inr less) | inr more ↦ inl more ] ];
}

-- the other way round
abbrev pub turned : (ℕ → ℕ → Type 0) → ℕ → ℕ → Type 0
turned Before a b = Before b a

-- the number, where there is one, is one of those
abbrev pub IsOneOf : (ℕ → Type 0) → Option ℕ → Type 0
IsOneOf Those None = ⊤
IsOneOf Those (Some n) = Those n

-- those are the same
pub first_like : (Before : ℕ → ℕ → Type 0) (P Q : ℕ → Type 0) → ((n : ℕ) → Q n ↔ P n) → (at x : Option ℕ) → IsFirstPast Before P at x → IsFirstPast Before Q at x
first_like Before P Q same at None none = λ n q past. none n ((same n).0 q) past
first_like Before P Q same at (Some m) got = ((same m).1 got.0, got.1, λ n q past earlier. got.2 n ((same n).0 q) past earlier)

module _ (Before : ℕ → ℕ → Type 0) (order : IsOrder Before) (P : ℕ → Type 0) (s : ℕ) where
  -- one of those stands directly in front of s
  pub record InFront (front at : Option ℕ) : Type 0 where
    pub one : ℕ
    pub is_one : P one
    pub before : Before one s
    pub past : IsPast Before at one

  -- what isn't directly in front of s, and yet in front of it, is in front of that
  pub further_in_front : (front at : Option ℕ) → IsFirstPast (turned Before) P (Some s) front → IsOneOf P at → at ≢ front → IsPast Before at s → InFront front at
  further_in_front None None is one apart past = absurd (apart refl)
  further_in_front None (Some a) is one apart past = absurd (is a one past)
  further_in_front (Some k) None is one apart past = record { one = k; is_one = is.0; before = is.1; past = tt }
  further_in_front (Some k) (Some a) is one apart past = elim (order.which a k) [
    | inl less ↦ record { one = k; is_one = is.0; before = is.1; past = less }
    | inr rest ↦ elim rest [ inl same ↦ absurd (apart (ap Some same)) | inr more ↦ absurd (is.2 a one past more) ]
  ]

  -- nobody is between s and what is directly in front of it
  between : (front : Option ℕ) → IsFirstPast (turned Before) P (Some s) front → (n : ℕ) → P n → IsPast Before front n → Before n s → ⊥
  between None is = λ n p past before. is n p before
  between (Some k) is = λ n p past before. is.2 n p before past

  front_past : (front : Option ℕ) → IsFirstPast (turned Before) P (Some s) front → IsPast Before front s
  front_past None is = tt
  front_past (Some k) is = is.1

  past_through : (at : Option ℕ) (m : ℕ) → IsPast Before at s → Before s m → IsPast Before at m
  past_through None m past before = tt
  past_through (Some k) m past before = order.through k s m past before

  -- what is directly in front of s is another
  pub front_other : (front : Option ℕ) → IsFirstPast (turned Before) P (Some s) front → front ≢ Some s
  front_other None is same = cc
  front_other (Some k) is same = order.never s (subst (λ (n : ℕ). Before n s) (let one : k ≡ s = cc in one) is.1)

  -- ---- s comes

  module _ (Q : ℕ → Type 0) (come : (n : ℕ) → Q n ↔ ((n ≡ s) ⊎ P n)) where
    pub behind_it : (x : Option ℕ) → IsFirstPast Before P (Some s) x → IsFirstPast Before Q (Some s) x
    behind_it None none = λ n q past. elim ((come n).0 q) [ inl same ↦ order.never s (subst (λ (k : ℕ). Before s k) same past) | inr p ↦ none n p past ]
    behind_it (Some m) got = (
      (come m).1 (inr got.0),
      got.1,
      λ n q past earlier. elim ((come n).0 q) [
        | inl same ↦ order.never s (subst (λ (k : ℕ). Before s k) same past)
        | inr p ↦ got.2 n p past earlier
      ],
    )

    pub front_of_it : (front : Option ℕ) → IsFirstPast (turned Before) P (Some s) front → IsFirstPast Before Q front (Some s)
    front_of_it front is = (
      (come s).1 (inl refl),
      front_past front is,
      λ n q past earlier. elim ((come n).0 q) [
        | inl same ↦ order.never s (subst (λ (k : ℕ). Before k s) same earlier)
        | inr p ↦ between front is n p past earlier
      ],
    )

    pub others_still : (front at x : Option ℕ) → IsFirstPast (turned Before) P (Some s) front → at ≢ front → IsOneOf P at → IsFirstPast Before P at x → IsFirstPast Before Q at x
    others_still front at None is apart one none = λ n q past. elim ((come n).0 q) [
      | inl same ↦ (let near = further_in_front front at is one apart (subst (IsPast Before at) same past) in none near.one near.is_one near.past)
      | inr p ↦ none n p past
    ]
    others_still front at (Some m) is apart one got = (
      (come m).1 (inr got.0),
      got.1,
      λ n q past earlier. elim ((come n).0 q) [
        | inl same ↦
            let near = further_in_front front at is one apart (subst (IsPast Before at) same past) in
            got.2 near.one near.is_one near.past (order.through near.one s m near.before (subst (λ (k : ℕ). Before k m) same earlier))
        | inr p ↦ got.2 n p past earlier
      ],
    )

  -- ---- s goes

  module _ (Q : ℕ → Type 0) (go : (n : ℕ) → Q n ↔ ((n ≢ s) × P n)) where
    pub behind_gone : (x : Option ℕ) → IsFirstPast Before P (Some s) x → IsFirstPast Before Q (Some s) x
    behind_gone None none = λ n q past. none n ((go n).0 q).1 past
    behind_gone (Some m) got = (
      (go m).1 ((λ same. order.never s (subst (λ (k : ℕ). Before s k) same got.1)), got.0),
      got.1,
      λ n q past earlier. got.2 n ((go n).0 q).1 past earlier,
    )

    pub gap_closed : (front x : Option ℕ) → IsFirstPast (turned Before) P (Some s) front → IsFirstPast Before P (Some s) x → IsFirstPast Before Q front x
    gap_closed front None is none = λ n q past.
        let was = (go n).0 q in
        elim (order.which n s) [
          | inl before ↦ between front is n was.1 past before
          | inr rest ↦ elim rest [ inl same ↦ was.0 same | inr behind ↦ none n was.1 behind ]
        ]
    gap_closed front (Some m) is got = (
      (go m).1 ((λ same. order.never s (subst (λ (k : ℕ). Before s k) same got.1)), got.0),
      past_through front m (front_past front is) got.1,
      λ n q past earlier. (
          let was = (go n).0 q in
          elim (order.which n s) [
            | inl before ↦ between front is n was.1 past before
            | inr rest ↦ elim rest [ inl same ↦ was.0 same | inr behind ↦ got.2 n was.1 behind earlier ]
          ]),
    )

    pub others_left : (front at x : Option ℕ) → IsFirstPast (turned Before) P (Some s) front → at ≢ front → IsOneOf P at → IsFirstPast Before P at x → IsFirstPast Before Q at x
    others_left front at None is apart one none = λ n q past. none n ((go n).0 q).1 past
    others_left front at (Some m) is apart one got = (
      (go m).1 (
        λ same. (let near = further_in_front front at is one apart (subst (IsPast Before at) same got.1) in
            got.2 near.one near.is_one near.past (subst (λ (k : ℕ). Before near.one k) (sym same) near.before)),
        got.0,
      ),
      got.1,
      λ n q past earlier. got.2 n ((go n).0 q).1 past earlier,
    )
