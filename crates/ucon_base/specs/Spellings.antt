-- What a spelling of any length is, and where bytes stop being the beginning of one.
use Rattle.std.specs.Prelude.{◌≡◌, ℕ, Bool, false, ◌&&◌, ◌⊎◌, nat_le, IsTrue, List, [], ◌∷◌, ◌++◌, length, codes}
use Rattle.std.specs.List.{list_all, flat_map}
use Rattle.ucon_base.specs.Spelling.{quoted, set_spelling}
use Rattle.ucon_base.specs.TextBytes.{is_text_byte}
use Rattle.ucon_base.specs.Value.{is_rising}

-- a digit 1 to 9 and digits
abbrev pub is_number : List ℕ → Bool
is_number [] = false
is_number (d ∷ ds) = nat_le 49 d && nat_le d 57 && list_all (λ b. nat_le 48 b && nat_le b 57) ds

-- each byte may stand in a text
abbrev pub is_plain : List ℕ → Bool
is_plain t = list_all is_text_byte t

-- An integer's spelling is `0`, or an optional `-` and a number; a text's is its bytes between `"`; a set's is its texts, rising, with
-- `,` between, between `{` and `}`. No number, text or set is too long.
pub data IsSpelling (bytes : List ℕ) : Type 0 where
  zero : bytes ≡ codes "0" → IsSpelling bytes
  positive : IsTrue (is_number bytes) → IsSpelling bytes
  negative : (number : List ℕ) → IsTrue (is_number number) → bytes ≡ 45 ∷ number → IsSpelling bytes
  text : (t : List ℕ) → IsTrue (is_plain t) → bytes ≡ quoted t → IsSpelling bytes
  set : (ts : List (List ℕ)) → IsTrue (is_rising ts) → IsTrue (list_all is_plain ts) → bytes ≡ set_spelling ts → IsSpelling bytes

-- bytes begin a spelling: with some more behind them they are one
abbrev pub Begins : List ℕ → Type 0
Begins bytes = (more : List ℕ) × IsSpelling (bytes ++ more)

-- The bytes stop behind their front: they are no spelling and end there, or no spelling begins with the front and the next byte.
abbrev pub Stops : List ℕ → List ℕ → Type 0
Stops front [] = ¬ IsSpelling front
Stops front (b ∷ rest) = ¬ Begins (front ++ b ∷ [])

-- the bytes of a set up to a text, given the texts before it
abbrev pub up_to_text : List (List ℕ) → List ℕ
up_to_text ts = 123 ∷ flat_map (λ t. quoted t ++ 44 ∷ []) ts

-- Behind the others a text doesn't rise of which these bytes stand before the rest: no text that begins so rises, or a `"` closes it and
-- it doesn't rise.
abbrev pub IsStuck : List (List ℕ) → List ℕ → List ℕ → Type 0
IsStuck others t rest =
    ((more : List ℕ) → is_rising (others ++ (t ++ more) ∷ []) ≡ false)
    ⊎ ((more : List ℕ) × (rest ≡ 34 ∷ more) × (is_rising (others ++ t ∷ []) ≡ false))

-- a text of a set doesn't rise, and its `"` opens at this place
pub record FallsAt (bytes : List ℕ) (p : ℕ) : Type 0 where
  pub others : List (List ℕ)
  pub text : List ℕ
  pub rest : List ℕ
  pub split : bytes ≡ up_to_text others ++ 34 ∷ (text ++ rest)
  pub risen : IsTrue (is_rising others)
  pub plain : IsTrue (list_all is_plain others)
  pub plain_text : IsTrue (is_plain text)
  pub stuck : IsStuck others text rest
  pub place : p ≡ length (up_to_text others)

-- the bytes first stop being the beginning of a spelling at this place
pub record StopsAt (bytes : List ℕ) (p : ℕ) : Type 0 where
  pub front : List ℕ
  pub rest : List ℕ
  pub split : bytes ≡ front ++ rest
  pub begun : Begins front
  pub stopped : Stops front rest
  pub place : p ≡ length front

-- The place of a bad spelling. It is the `"` of a text that doesn't rise. If no text falls so, it is the first place where the bytes stop being
-- the beginning of a spelling.
abbrev pub IsBadPlace : List ℕ → ℕ → Type 0
IsBadPlace bytes p = FallsAt bytes p ⊎ (StopsAt bytes p × ((q : ℕ) → ¬ FallsAt bytes q))
