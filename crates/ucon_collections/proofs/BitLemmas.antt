-- How a row's bits follow the words of the row, and the words of the row below.
use Rattle.std.proofs.Common.{◌≡◌, ◌≢◌, ℕ, ◌+◌, ◌*◌, ◌/◌, ◌%◌, ◌^◌, ◌<◌, List, length, get_or, set, bit_and, bit_or, w64, sym, ap, ◌∙◌, inl, inr, arith, length-set, get_or-set_same, get_or-set_other}
use Rattle.std.specs.Int.{bit_at, bit_not, trailing_zeros}
use Rattle.std.proofs.lemmas.List.{get_or_default, get_or_past}
use Rattle.std.proofs.lemmas.Bool.{cases_eq, cases_lt}
use Rattle.std.proofs.lemmas.Nat.Bits.{bit_at-trailing_zeros, bit_at_set_same, bit_at_set_other, bit_at_clear_same, bit_at_clear_other}
use Rattle.ucon_collections.specs.Bits.{bit, SetsBit, IsLeastIn}

-- a word that is not 0 is one of the row's
pub within_from_some : (row : List ℕ) (at : ℕ) → 0 < get_or row at 0 → at < length row
within_from_some row at some =
    elim (cases_lt at (length row)) [
      | inl within ↦ within
      | inr past ↦ absurd (omega (arith, get_or_past row at 0 past))
    ]

-- a row in which one word has changed in one bit
pub SetsBit-set : (row : List ℕ) (n word value : ℕ) → n / 64 < length row → bit_at word (n % 64) ≡ value
    → ((i : ℕ) → i < 64 → i ≢ n % 64 → bit_at word i ≡ bit_at (get_or row (n / 64) 0) i)
    → SetsBit row (set row (n / 64) word) n value
SetsBit-set row n word value within here others = record {
  same_length = length-set row _ _;
  changed = ap (λ w. bit_at w (n % 64)) (get_or-set_same row (n / 64) word 0 within) ∙ here;
  others = λ m differs.
      elim (cases_eq (m / 64) (n / 64)) [
        | inl same ↦ rw (same, get_or-set_same row (n / 64) word 0 within) (others (m % 64) (omega arith) (λ index. differs (omega arith)))
        | inr apart ↦ ap (λ w. bit_at w (m % 64)) (get_or-set_other row (n / 64) (m / 64) word 0 apart)
      ];
  other_words = λ i apart. get_or-set_other row (n / 64) i word 0 apart;
}

module _ (row : List ℕ) (n word : ℕ) (read : word ≡ get_or row (n / 64) word) (within : n / 64 < length row) where
  read_word : word ≡ get_or row (n / 64) 0
  read_word = read ∙ get_or_default row (n / 64) word 0 within

  -- `row[n / 64] |= 1 << (n % 64)`
  pub SetsBit-or : SetsBit row (set row (n / 64) (bit_or word (1 * 2 ^ (n % 64) % 2 ^ 64))) n 1
  SetsBit-or =
      let index : n % 64 < 64 = omega arith in
      SetsBit-set row n _ 1 within (bit_at_set_same w64 word (n % 64) index)
      (λ i below differs. bit_at_set_other w64 word (n % 64) index i differs ∙ ap (λ w. bit_at w i) read_word)

  -- `row[n / 64] &= !(1 << (n % 64))`
  pub SetsBit-and_not : SetsBit row (set row (n / 64) (bit_and word (bit_not w64 (1 * 2 ^ (n % 64) % 2 ^ 64)))) n 0
  SetsBit-and_not =
      let index : n % 64 < 64 = omega arith in
      SetsBit-set row n _ 0 within (bit_at_clear_same w64 word (n % 64) index)
      (λ i below differs. bit_at_clear_other w64 word (n % 64) index i below differs ∙ ap (λ w. bit_at w i) read_word)

-- the lowest bit of a word that is not 0
module _ (row : List ℕ) (at word : ℕ) (read : word ≡ get_or row at word) (some : 0 < get_or row at 0) (fits : word < 2 ^ 64) where
  read_some : word ≡ get_or row at 0
  read_some = read ∙ get_or_default row at word 0 (within_from_some row at some)

  bit-at_word : (n : ℕ) → n / 64 ≡ at → bit row n ≡ bit_at word (n % 64)
  bit-at_word n here = ap (λ i. bit_at (get_or row i 0) (n % 64)) here ∙ ap (λ w. bit_at w (n % 64)) (sym read_some)

  pub IsLeastIn-lowest : IsLeastIn row at (at * 64 + trailing_zeros w64 word)
  IsLeastIn-lowest =
      let lowest = bit_at-trailing_zeros w64 word (omega (arith, read_some)) fits in
      let index : (at * 64 + trailing_zeros w64 word) % 64 ≡ trailing_zeros w64 word = omega (arith, lowest.0) in
      let here : (at * 64 + trailing_zeros w64 word) / 64 ≡ at = omega (arith, lowest.0) in
      record {
        here = here;
        set = bit-at_word _ here ∙ ap (bit_at word) index ∙ lowest.1;
        lower = λ n same less. bit-at_word n same ∙ lowest.2 (n % 64) (omega arith);
      }
