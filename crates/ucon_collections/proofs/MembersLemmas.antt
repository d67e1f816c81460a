-- The list of the numbers whose bit is 1, as one bit changes.
use Rattle.std.proofs.Common.{◌≡◌, ◌≢◌, ℕ, zero, suc, ◌+◌, ◌<◌, ◌≤◌, List, [], ◌∷◌, All, get_or, refl, sym, ap, subst, ◌∙◌, inl, inr, arith}
use Rattle.std.proofs.lemmas.Bool.{cases_eq, eq-eqb, ne_eqb}
use Rattle.std.proofs.lemmas.List.Elements.{All-cons, All-weaker}
use Rattle.std.specs.List.Sorted.{IsStrictlyIncreasing}
use Rattle.ucon_collections.specs.NumberSet.{with_member}
use Rattle.ucon_collections.specs.Members.{members_from}
use Rattle.ucon_collections.proofs.WithMemberLemmas.{with_member-before, with_member-same, with_member-after}

members_from-set : (bits : ℕ → ℕ) (first count : ℕ) → bits first ≡ 1 → members_from bits first (suc count) ≡ first ∷ members_from bits (first + 1) count
members_from-set bits first count set = rw (eq-eqb (bits first) 1 set)

members_from-clear : (bits : ℕ → ℕ) (first count : ℕ) → bits first ≢ 1 → members_from bits first (suc count) ≡ members_from bits (first + 1) count
members_from-clear bits first count clear = rw (ne_eqb (bits first) 1 clear)

pub members_from-none : (bits : ℕ → ℕ) (first count : ℕ) → ((n : ℕ) → bits n ≡ 0) → members_from bits first count ≡ []
members_from-none bits first zero none = refl
members_from-none bits first (suc count) none = members_from-clear bits first count (λ set. omega (arith, none first)) ∙ members_from-none bits (first + 1) count none

abbrev IsBetween : ℕ → ℕ → ℕ → Type 0
IsBetween first count n = (first ≤ n) × (n < first + count)

pub All-members_from : (bits : ℕ → ℕ) (first count : ℕ) → All (IsBetween first count) (members_from bits first count)
All-members_from bits first zero = λ k d within. absurd (omega arith)
All-members_from bits first (suc count) =
    let here : IsBetween first (suc count) first = (omega arith, omega arith) in
    let wider : (n : ℕ) → IsBetween (first + 1) count n → IsBetween first (suc count) n = λ n h. (omega arith, omega arith) in
    let rest = All-weaker (IsBetween (first + 1) count) (IsBetween first (suc count)) wider (members_from bits (first + 1) count) (All-members_from bits (first + 1) count) in
    elim (cases_eq (bits first) 1) [
      | inl set ↦ rw (members_from-set bits first count set) (All-cons (IsBetween first (suc count)) _ _ here rest)
      | inr clear ↦ rw (members_from-clear bits first count clear) rest
    ]

IsStrictlyIncreasing-cons : (m : ℕ) (ms : List ℕ) → All (λ n. m < n) ms → IsStrictlyIncreasing ms → IsStrictlyIncreasing (m ∷ ms)
IsStrictlyIncreasing-cons m ms above rising zero within = above 0 0 (omega arith)
IsStrictlyIncreasing-cons m ms above rising (suc k) within =
    let next : suc (k + 1) ≡ suc k + 1 = omega arith in
    subst (λ i. get_or ms k 0 < get_or (m ∷ ms) i 0) next (rising k (omega arith))

pub IsStrictlyIncreasing-members_from : (bits : ℕ → ℕ) (first count : ℕ) → IsStrictlyIncreasing (members_from bits first count)
IsStrictlyIncreasing-members_from bits first zero = λ k within. absurd (omega arith)
IsStrictlyIncreasing-members_from bits first (suc count) =
    let later = members_from bits (first + 1) count in
    let rest = IsStrictlyIncreasing-members_from bits (first + 1) count in
    let above : All (λ n. first < n) later = λ k d within. omega (arith, (All-members_from bits (first + 1) count k d within).0) in
    elim (cases_eq (bits first) 1) [
      | inl set ↦ rw (members_from-set bits first count set) (IsStrictlyIncreasing-cons first later above rest)
      | inr clear ↦ rw (members_from-clear bits first count clear) rest
    ]

-- a number below all of them comes first
with_member-first : (bits : ℕ → ℕ) (n first count : ℕ) → n < first → with_member (members_from bits first count) n ≡ n ∷ members_from bits first count
with_member-first bits n first zero below = refl
with_member-first bits n first (suc count) below =
    elim (cases_eq (bits first) 1) [
      | inl set ↦ rw (members_from-set bits first count set) (with_member-before n first _ below)
      | inr clear ↦ rw (members_from-clear bits first count clear) (with_member-first bits n (first + 1) count (omega arith))
    ]

-- two rows whose bits differ at n alone
module _ (old new : ℕ → ℕ) (n : ℕ) (others : (m : ℕ) → m ≢ n → new m ≡ old m) where
  same_past : (first count : ℕ) → n < first → members_from new first count ≡ members_from old first count
  same_past first zero past = refl
  same_past first (suc count) past =
      let same : new first ≡ old first = others first (λ here. omega arith) in
      let rest = same_past (first + 1) count (omega arith) in
      elim (cases_eq (old first) 1) [
        | inl set ↦ members_from-set new first count (same ∙ set) ∙ ap (λ ms. first ∷ ms) rest ∙ sym (members_from-set old first count set)
        | inr clear ↦ members_from-clear new first count (λ set. clear (sym same ∙ set)) ∙ rest ∙ sym (members_from-clear old first count clear)
      ]

  -- the bit becomes 1: n takes its place
  put_here : (first count : ℕ) → first ≡ n → new first ≡ 1 → members_from new first (suc count) ≡ with_member (members_from old first (suc count)) n
  put_here first count here set =
      let rest = members_from old (first + 1) count in
      members_from-set new first count set ∙ ap (λ ms. first ∷ ms) (same_past (first + 1) count (omega arith))
      ∙ elim (cases_eq (old first) 1) [
        | inl was ↦ sym (ap (λ ms. with_member ms n) (members_from-set old first count was) ∙ ap (with_member (first ∷ rest)) (sym here) ∙ with_member-same first rest)
        | inr was ↦ sym (ap (λ ms. with_member ms n) (members_from-clear old first count was) ∙ with_member-first old n (first + 1) count (omega arith) ∙ ap (λ m. m ∷ rest) (sym here))
      ]

  put_later : (first count : ℕ) → first < n → members_from new (first + 1) count ≡ with_member (members_from old (first + 1) count) n
      → members_from new first (suc count) ≡ with_member (members_from old first (suc count)) n
  put_later first count before rest =
      let same : new first ≡ old first = others first (λ here. omega arith) in
      elim (cases_eq (old first) 1) [
        | inl was ↦
            members_from-set new first count (same ∙ was) ∙ ap (λ ms. first ∷ ms) rest
            ∙ sym (ap (λ ms. with_member ms n) (members_from-set old first count was) ∙ with_member-after n first _ before)
        | inr was ↦
            members_from-clear new first count (λ set. was (sym same ∙ set)) ∙ rest
            ∙ sym (ap (λ ms. with_member ms n) (members_from-clear old first count was))
      ]

  pub members_from-put : new n ≡ 1 → (first count : ℕ) → first ≤ n → n < first + count → members_from new first count ≡ with_member (members_from old first count) n
  members_from-put set first zero from within = absurd (omega arith)
  members_from-put set first (suc count) from within =
      elim (cases_eq first n) [
        | inl here ↦ put_here first count here (ap new here ∙ set)
        | inr apart ↦ put_later first count (omega arith) (members_from-put set (first + 1) count (omega arith) (omega arith))
      ]

  -- the lowest bit becomes 0: n was the first
  pub members_from-take : old n ≡ 1 → ((m : ℕ) → m < n → old m ≡ 0) → new n ≡ 0 → (first count : ℕ) → first ≤ n → n < first + count → members_from old first count ≡ n ∷ members_from new first count
  members_from-take set lower clear first zero from within = absurd (omega arith)
  members_from-take set lower clear first (suc count) from within =
      elim (cases_eq first n) [
        | inl here ↦
            members_from-set old first count (ap old here ∙ set) ∙ (λ i. here i ∷ sym (same_past (first + 1) count (omega arith)) i)
            ∙ ap (λ ms. n ∷ ms) (sym (members_from-clear new first count (λ one. omega (arith, ap new here, clear))))
        | inr apart ↦
            let below : old first ≡ 0 = lower first (omega arith) in
            let same : new first ≡ old first = others first apart in
            members_from-clear old first count (λ one. omega arith) ∙ members_from-take set lower clear (first + 1) count (omega arith) (omega arith)
            ∙ ap (λ ms. n ∷ ms) (sym (members_from-clear new first count (λ one. omega arith)))
      ]
