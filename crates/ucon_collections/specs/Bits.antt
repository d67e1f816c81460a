-- Rows of bits in words of 64, and what ties a row to the row above it. No public clause cites this module.
use Rattle.std.specs.Prelude.{◌≡◌, ◌≢◌, ℕ, ◌*◌, ◌/◌, ◌%◌, ◌<◌, ◌≤◌, min, List, length, slice_index}
use Rattle.std.specs.Int.{bit_at}

-- bit n of the row, 0 past its end
abbrev pub bit : List ℕ → ℕ → ℕ
bit row n = bit_at (slice_index row (n / 64)) (n % 64)

-- bit n has become the value, and no other bit has changed
pub record SetsBit (old new : List ℕ) (n value : ℕ) : Type 0 where
  pub same_length : length new ≡ length old
  pub changed : bit new n ≡ value
  pub others : (m : ℕ) → m ≢ n → bit new m ≡ bit old m
  pub other_words : (i : ℕ) → i ≢ n / 64 → slice_index new i ≡ slice_index old i

-- bit n stands in this word and is set, and no lower one of the word is
pub record IsLeastIn (row : List ℕ) (word n : ℕ) : Type 0 where
  pub here : n / 64 ≡ word
  pub set : bit row n ≡ 1
  pub lower : (m : ℕ) → m / 64 ≡ word → m < n → bit row m ≡ 0

-- bit n is set, and no lower one
pub record IsLeastBit (row : List ℕ) (n : ℕ) : Type 0 where
  pub set : bit row n ≡ 1
  pub lower : (m : ℕ) → m < n → bit row m ≡ 0

-- bit i of the upper row is set exactly if word i of the lower row is not 0
pub record Summarizes (lower upper : List ℕ) : Type 0 where
  pub room : length lower ≤ 64 * length upper
  pub told : (i : ℕ) → bit upper i ≡ min (slice_index lower i) 1
