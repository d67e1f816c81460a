-- How a row follows the row below, for one pair of levels.
use Rattle.std.proofs.Common.{◌≡◌, ◌≢◌, ℕ, ◌/◌, ◌%◌, ◌<◌, min, List, length, get_or, refl, sym, ap, ◌∙◌, inl, inr, arith}
use Rattle.std.specs.Int.{bit_at}
use Rattle.std.proofs.lemmas.Bool.{cases_eq}
use Rattle.std.proofs.lemmas.List.{get_or_past}
use Rattle.std.proofs.lemmas.Nat.Bits.{bit_at-zero}
use Rattle.ucon_collections.specs.Bits.{bit, SetsBit, IsLeastIn, IsLeastBit, Summarizes}

-- a word that is 0 has no bit set
pub bit-clear_word : (row : List ℕ) (n : ℕ) → get_or row (n / 64) 0 ≡ 0 → bit row n ≡ 0
bit-clear_word row n clear = ap (λ w. bit_at w (n % 64)) clear ∙ bit_at-zero (n % 64)

-- a bit that is set stands in a word that is not 0
pub some_from_bit : (row : List ℕ) (n : ℕ) → bit row n ≡ 1 → 0 < get_or row (n / 64) 0
some_from_bit row n set =
    elim (cases_eq (get_or row (n / 64) 0) 0) [
      | inl clear ↦ absurd (omega (arith, bit-clear_word row n clear))
      | inr some ↦ omega arith
    ]

module _ (lower upper : List ℕ) (sums : Summarizes lower upper) where
  pub bit-upper_set : (n : ℕ) → bit lower n ≡ 1 → bit upper (n / 64) ≡ 1
  bit-upper_set n set = omega (arith, sums.told (n / 64), some_from_bit lower n set)

  pub bit-under_clear : (n : ℕ) → bit upper (n / 64) ≡ 0 → bit lower n ≡ 0
  bit-under_clear n clear = bit-clear_word lower n (omega (arith, sums.told (n / 64)))

  -- the least bit of the upper row leads to the least bit of the lower one
  pub IsLeastBit-under : (i n : ℕ) → IsLeastBit upper i → IsLeastIn lower i n → IsLeastBit lower n
  IsLeastBit-under i n above inside = record {
    set = inside.set;
    lower = λ m less.
        elim (cases_eq (m / 64) i) [
          | inl same ↦ inside.lower m same less
          | inr apart ↦ bit-under_clear m (above.lower (m / 64) (omega (arith, inside.here)))
        ];
  }

  module _ (lower' upper' : List ℕ) (n : ℕ) where
    -- a row whose bit follows the changed word below still tells of it
    told-change : (value below : ℕ) → SetsBit lower lower' n below → value ≡ min (get_or lower' (n / 64) 0) 1 → SetsBit upper upper' (n / 64) value → Summarizes lower' upper'
    told-change value below down word up = record {
      room = omega (arith, sums.room, down.same_length, up.same_length);
      told = λ i.
          elim (cases_eq i (n / 64)) [
            | inl same ↦ rw same (up.changed ∙ word)
            | inr apart ↦ up.others i apart ∙ sums.told i ∙ ap (λ w. min w 1) (sym (down.other_words i apart))
          ];
    }

    pub Summarizes-set : SetsBit lower lower' n 1 → SetsBit upper upper' (n / 64) 1 → Summarizes lower' upper'
    Summarizes-set down = told-change 1 1 down (omega (arith, some_from_bit lower' n down.changed))

    pub Summarizes-clear : SetsBit lower lower' n 0 → get_or lower' (n / 64) 0 ≡ 0 → SetsBit upper upper' (n / 64) 0 → Summarizes lower' upper'
    Summarizes-clear down none = told-change 0 0 down (omega arith)

  -- where the word below had a bit, the upper row tells of one more
  pub Summarizes-more : (lower' : List ℕ) (n : ℕ) → get_or lower (n / 64) 0 ≢ 0 → SetsBit lower lower' n 1 → Summarizes lower' upper
  Summarizes-more lower' n had down =
      told-change lower' upper n 1 1 down (omega (arith, some_from_bit lower' n down.changed))
      (record { same_length = refl; changed = omega (arith, sums.told (n / 64)); others = λ _ _. refl; other_words = λ _ _. refl })

  -- where the word below has another bit, the upper row stays as it is
  pub Summarizes-left : (lower' : List ℕ) (n : ℕ) → bit lower n ≡ 1 → SetsBit lower lower' n 0 → get_or lower' (n / 64) 0 ≢ 0 → Summarizes lower' upper
  Summarizes-left lower' n set down some =
      told-change lower' upper n 1 0 down (omega arith)
      (record { same_length = refl; changed = bit-upper_set n set; others = λ _ _. refl; other_words = λ _ _. refl })

pub IsLeastBit-first_word : (row : List ℕ) (n : ℕ) → IsLeastIn row 0 n → IsLeastBit row n
IsLeastBit-first_word row n inside = record { set = inside.set; lower = λ m less. inside.lower m (omega (arith, inside.here)) less }

-- a row of one word
module _ (row : List ℕ) (one_word : length row ≡ 1) where
  pub bit-one_clear_word : get_or row 0 0 ≡ 0 → (n : ℕ) → bit row n ≡ 0
  bit-one_clear_word clear n =
      elim (cases_eq (n / 64) 0) [
        | inl first ↦ bit-clear_word row n (rw first clear)
        | inr past ↦ bit-clear_word row n (get_or_past row (n / 64) 0 (omega arith))
      ]
