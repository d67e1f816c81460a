-- The set that a row of bits stands for, as one bit changes.
use Rattle.std.proofs.Common.{◌≡◌, ◌↔◌, ◌⊎◌, ℕ, suc, ◌+◌, ◌/◌, ◌<◌, ◌≤◌, List, [], ◌∷◌, All, Contains, length, replicate, subst, sym, ap, ◌∙◌, inl, inr, arith}
use Rattle.std.specs.List.Sorted.{IsStrictlyIncreasing}
use Rattle.std.proofs.lemmas.Bool.{cases_lt}
use Rattle.std.proofs.lemmas.List.{get_or-replicate, get_or_past, length-replicate}
use Rattle.std.proofs.lemmas.List.Kept.{AllPairs-from_increasing}
use Rattle.ucon_collections.specs.Bits.{bit, SetsBit, IsLeastBit}
use Rattle.ucon_collections.specs.NumberSet.{IsRising, with_member}
use Rattle.ucon_collections.specs.Members.{set_of}
use Rattle.ucon_collections.proofs.MembersLemmas.{All-members_from, IsStrictlyIncreasing-members_from, members_from-none, members_from-put, members_from-take}
use Rattle.ucon_collections.proofs.SummaryLemmas.{bit-clear_word}
use Rattle.ucon_collections.proofs.WithMemberLemmas.{Contains-with_member, most-with_member, fresh-with_member, there-with_member}

pub IsRising-set_of : (row : List ℕ) (limit : ℕ) → IsRising (set_of row limit)
IsRising-set_of row limit = record {
  rising = IsStrictlyIncreasing-members_from (bit row) 0 limit;
  below = λ k d within. omega (arith, (All-members_from (bit row) 0 limit k d within).1);
}

pub members-none : (row : List ℕ) (limit : ℕ) → ((n : ℕ) → bit row n ≡ 0) → (set_of row limit).members ≡ []
members-none row limit = members_from-none (bit row) 0 limit

-- no bit set: the empty set
pub set_of-clear : (words limit : ℕ) → set_of (replicate words 0) limit ≡ record { limit = limit; members = [] }
set_of-clear words limit =
    let clear : (n : ℕ) → bit (replicate words 0) n ≡ 0 = λ n.
    bit-clear_word _ n (elim (cases_lt (n / 64) words) [
      | inl within ↦ get_or-replicate words (n / 64) 0 0 within
      | inr past ↦ get_or_past (replicate words 0) (n / 64) 0 (omega (arith, length-replicate {A = ℕ} words 0))
    ]) in
    let none = members-none (replicate words 0) limit clear in
    λ i. record { limit = limit; members = none i }

module _ (row new : List ℕ) (limit n : ℕ) (within : n < limit) (sets : SetsBit row new n 1) where
  members-put : (set_of new limit).members ≡ with_member (set_of row limit).members n
  members-put = members_from-put (bit row) (bit new) n sets.others sets.changed 0 limit (omega arith) (omega arith)

  pub set_of-put : set_of new limit ≡ record { limit = limit; members = with_member (set_of row limit).members n }
  set_of-put = λ i. record { limit = limit; members = members-put i }

  pub Contains-put : (m : ℕ) → Contains (set_of new limit).members m ↔ ((m ≡ n) ⊎ Contains (set_of row limit).members m)
  Contains-put m = subst (λ ms. Contains ms m ↔ ((m ≡ n) ⊎ Contains (set_of row limit).members m)) (sym members-put) (Contains-with_member m n _)

  pub most-put : length (set_of new limit).members ≤ length (set_of row limit).members + 1
  most-put = rw members-put (most-with_member n (set_of row limit).members)

  pub fresh-put : (Contains (set_of row limit).members n → ⊥) → length (set_of new limit).members ≡ length (set_of row limit).members + 1
  fresh-put fresh = ap length members-put ∙ fresh-with_member n (set_of row limit).members fresh

  pub there-put : Contains (set_of row limit).members n → set_of new limit ≡ set_of row limit
  there-put has =
      let same = members-put ∙ there-with_member n (set_of row limit).members (IsStrictlyIncreasing-members_from (bit row) 0 limit) has in
      λ i. record { limit = limit; members = same i }

-- a bit that is set stands for a number below the limit
pub within_from_bit : (row : List ℕ) (limit n : ℕ) → ((m : ℕ) → limit ≤ m → bit row m ≡ 0) → bit row n ≡ 1 → n < limit
within_from_bit row limit n past set =
    elim (cases_lt n limit) [
      | inl within ↦ within
      | inr from ↦ absurd (omega (arith, past n from))
    ]

-- the lowest bit becomes 0: its number was the first
module _ (row new : List ℕ) (limit n : ℕ) (past : (m : ℕ) → limit ≤ m → bit row m ≡ 0) (least : IsLeastBit row n) (sets : SetsBit row new n 0) where
  pub members-take : (set_of row limit).members ≡ n ∷ (set_of new limit).members
  members-take =
      let within = within_from_bit row limit n past least.set in
      members_from-take (bit row) (bit new) n sets.others least.set least.lower sets.changed 0 limit (omega arith) (omega arith)

  pub All-take : All (λ m. n < m) (set_of new limit).members
  All-take k d within =
      let left = (set_of new limit).members in
      let rising : IsStrictlyIncreasing (n ∷ left) = subst IsStrictlyIncreasing members-take (IsStrictlyIncreasing-members_from (bit row) 0 limit) in
      AllPairs-from_increasing (n ∷ left) rising 0 (suc k) d (omega arith) (omega arith)
