-- A list with a number in its place.
use Rattle.std.proofs.Common.{◌≡◌, ◌↔◌, ◌⊎◌, ℕ, zero, suc, ◌+◌, ◌<◌, ◌≤◌, List, [], ◌∷◌, Contains, length, get_or, refl, sym, ap, subst, ◌∙◌, inl, inr, arith}
use Rattle.std.proofs.lemmas.Bool.{cases_order, eq-eqb, ne_eqb, lt-ltb, le-ltb}
use Rattle.std.specs.List.Sorted.{IsStrictlyIncreasing}
use Rattle.std.proofs.lemmas.List.Kept.{AllPairs-from_increasing}
use Rattle.ucon_collections.specs.NumberSet.{with_member}

pub with_member-before : (n m : ℕ) (ms : List ℕ) → n < m → with_member (m ∷ ms) n ≡ n ∷ m ∷ ms
with_member-before n m ms less = rw (lt-ltb n m less)

pub with_member-same : (n : ℕ) (ms : List ℕ) → with_member (n ∷ ms) n ≡ n ∷ ms
with_member-same n ms = rw (le-ltb n n (omega arith), eq-eqb n n refl)

pub with_member-after : (n m : ℕ) (ms : List ℕ) → m < n → with_member (m ∷ ms) n ≡ m ∷ with_member ms n
with_member-after n m ms less = rw (le-ltb n m (omega arith), ne_eqb n m (λ same. omega arith))

-- an element is the first or one of the rest
first_or_rest : (x m : ℕ) (ms : List ℕ) → Contains (m ∷ ms) x → (x ≡ m) ⊎ Contains ms x
first_or_rest x m ms (zero, within, is) = inl (sym is)
first_or_rest x m ms (suc k, within, is) = inr (k, omega arith, is)

contains_first : (x m : ℕ) (ms : List ℕ) → x ≡ m → Contains (m ∷ ms) x
contains_first x m ms same = (0, omega arith, sym same)

contains_rest : (x m : ℕ) (ms : List ℕ) → Contains ms x → Contains (m ∷ ms) x
contains_rest x m ms (k, within, is) = (suc k, omega arith, is)

-- what a list with n in its place has: n, and what it had
abbrev HasOneMore : ℕ → ℕ → List ℕ → List ℕ → Type 0
HasOneMore x n old new = Contains new x ↔ ((x ≡ n) ⊎ Contains old x)

HasOneMore-after : (x n m : ℕ) (ms new : List ℕ) → HasOneMore x n ms new → HasOneMore x n (m ∷ ms) (m ∷ new)
HasOneMore-after x n m ms new rest = (
  λ has.
      elim (first_or_rest x m new has) [
        | inl first ↦ inr (contains_first x m ms first)
        | inr later ↦ elim (rest.0 later) [ inl same ↦ inl same | inr old ↦ inr (contains_rest x m ms old) ]
      ],
  λ either.
      elim either [
        | inl same ↦ contains_rest x m new (rest.1 (inl same))
        | inr old ↦ elim (first_or_rest x m ms old) [ inl first ↦ contains_first x m new first | inr later ↦ contains_rest x m new (rest.1 (inr later)) ]
      ],
)

pub Contains-with_member : (x n : ℕ) (ms : List ℕ) → HasOneMore x n ms (with_member ms n)
Contains-with_member x n [] = (first_or_rest x n [], λ either. elim either [ inl same ↦ contains_first x n [] same | inr old ↦ contains_rest x n [] old ])
Contains-with_member x n (m ∷ ms) =
    elim (cases_order n m) [
      | inl here ↦
          subst (λ new. HasOneMore x n (m ∷ ms) new) (sym (ap (with_member (m ∷ ms)) here ∙ with_member-same m ms))
          (λ has. inr has, λ either. elim either [ inl same ↦ contains_first x m ms (same ∙ here) | inr old ↦ old ])
      | inr apart ↦
          elim apart [
            | inl before ↦
                subst (λ new. HasOneMore x n (m ∷ ms) new) (sym (with_member-before n m ms before))
                (first_or_rest x n (m ∷ ms), λ either. elim either [ inl same ↦ contains_first x n (m ∷ ms) same | inr old ↦ contains_rest x n (m ∷ ms) old ])
            | inr after ↦
                subst (λ new. HasOneMore x n (m ∷ ms) new) (sym (with_member-after n m ms after))
                (HasOneMore-after x n m ms (with_member ms n) (Contains-with_member x n ms))
          ]
    ]

-- at most one element more
pub most-with_member : (n : ℕ) (ms : List ℕ) → length (with_member ms n) ≤ length ms + 1
most-with_member n [] = omega arith
most-with_member n (m ∷ ms) =
    elim (cases_order n m) [
      | inl here ↦ let same : with_member (m ∷ ms) n ≡ m ∷ ms = ap (with_member (m ∷ ms)) here ∙ with_member-same m ms in rw same (omega arith)
      | inr apart ↦
          elim apart [
            | inl before ↦ rw (with_member-before n m ms before) (omega arith)
            | inr after ↦ let rest = most-with_member n ms in rw (with_member-after n m ms after) (omega arith)
          ]
    ]

-- one element more, where the number wasn't there
pub fresh-with_member : (n : ℕ) (ms : List ℕ) → (Contains ms n → ⊥) → length (with_member ms n) ≡ length ms + 1
fresh-with_member n [] fresh = omega arith
fresh-with_member n (m ∷ ms) fresh =
    elim (cases_order n m) [
      | inl here ↦ absurd (fresh (contains_first n m ms here))
      | inr apart ↦
          elim apart [
            | inl before ↦ rw (with_member-before n m ms before) (omega arith)
            | inr after ↦ let rest = fresh-with_member n ms (λ has. fresh (contains_rest n m ms has)) in rw (with_member-after n m ms after) (omega arith)
          ]
    ]

rising_rest : (m : ℕ) (ms : List ℕ) → IsStrictlyIncreasing (m ∷ ms) → IsStrictlyIncreasing ms
rising_rest m ms rising k within =
    let next : suc k + 1 ≡ suc (k + 1) = omega arith in
    subst (λ i. get_or ms k 0 < get_or (m ∷ ms) i 0) next (rising (suc k) (omega arith))

-- a rising list that has the number stays as it is
pub there-with_member : (n : ℕ) (ms : List ℕ) → IsStrictlyIncreasing ms → Contains ms n → with_member ms n ≡ ms
there-with_member n [] rising (k, within, is) = absurd (omega arith)
there-with_member n (m ∷ ms) rising has =
    elim (cases_order n m) [
      | inl here ↦ ap (with_member (m ∷ ms)) here ∙ with_member-same m ms
      | inr apart ↦
          elim apart [
            | inl before ↦ absurd (too_small n m ms before rising has)
            | inr after ↦
                with_member-after n m ms after
                ∙ ap (λ xs. m ∷ xs) (there-with_member n ms (rising_rest m ms rising) (elim (first_or_rest n m ms has) [ inl same ↦ absurd (omega arith) | inr later ↦ later ]))
          ]
    ]
  where
    too_small : (n m : ℕ) (ms : List ℕ) → n < m → IsStrictlyIncreasing (m ∷ ms) → Contains (m ∷ ms) n → ⊥
    too_small n m ms less rising (zero, within, is) = omega arith
    too_small n m ms less rising (suc k, within, is) =
        let above = AllPairs-from_increasing (m ∷ ms) rising 0 (suc k) n (omega arith) within in
        omega arith
