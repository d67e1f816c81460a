-- Words whose bytes may all stand in a name.
use Rattle.std.proofs.Common.{◌≡◌, ℕ, zero, suc, ◌+◌, Bool, true, false, cond, not, [], ◌∷◌, take, get_or, Option, Some, None, refl, sym, ap, ◌∙◌, arith}
use Rattle.std.specs.Prelude.{◌==◌, position}
use Rattle.std.specs.List.{position_from}
use Rattle.std.proofs.lemmas.Iterator.Adapters.{position_from-zero}
use Rattle.ucon_base.specs.NameBytes.{is_word_byte}
use Rattle.ucon_model.specs.Plain.{Bytes}

-- a byte that may not stand in a name
abbrev other : ℕ → Bool
other b = not (is_word_byte b)

abbrev space : ℕ → Bool
space b = b == 32

no_space : (b : ℕ) → is_word_byte b ≡ true → space b ≡ false
no_space b h = grind (arith)

passed_over : (b : Bool) (i : ℕ) (rest : Option ℕ) → cond (not b) (Some i) rest ≡ None → (b ≡ true) × (rest ≡ None)
passed_over true i rest e = (refl, e)
passed_over false i rest e = absurd cc

spaceless : (i : ℕ) (bs : Bytes) → position_from other i bs ≡ None → position_from space i bs ≡ None
spaceless i [] none = refl
spaceless i (b ∷ bs) none =
    let parts = passed_over (is_word_byte b) i (position_from other (i + 1) bs) none in
    rw (no_space b parts.0) (spaceless (i + 1) bs parts.1)

-- where a byte is found some places on, those before it are passed over
found_later : (b : Bool) (i n : ℕ) (rest : Option ℕ) → cond (not b) (Some i) rest ≡ Some (i + suc n) → (b ≡ true) × (rest ≡ Some (i + suc n))
found_later true i n rest e = (refl, e)
found_later false i n rest e = absurd (grind (arith, e))

ends_at : (i n : ℕ) (bs : Bytes) → position_from other i bs ≡ Some (i + n) → get_or bs n 0 ≡ 32 → position_from space i bs ≡ Some (i + n)
ends_at i n [] found is = absurd cc
ends_at i zero (b ∷ bs) found is = let here : i ≡ i + 0 = omega arith in rw is (ap Some here)
ends_at i (suc n) (b ∷ bs) found is =
    let parts = found_later (is_word_byte b) i n (position_from other (i + 1) bs) found in
    let far : i + suc n ≡ i + 1 + n = omega arith in
    rw (no_space b parts.0) (ends_at (i + 1) n bs (parts.1 ∙ ap Some far) is ∙ ap Some (sym far))

front : (i n : ℕ) (bs : Bytes) → position_from other i bs ≡ Some (i + n) → position_from other i (take n bs) ≡ None
front i n [] found = absurd cc
front i zero (b ∷ bs) found = refl
front i (suc n) (b ∷ bs) found =
    let parts = found_later (is_word_byte b) i n (position_from other (i + 1) bs) found in
    let far : i + suc n ≡ i + 1 + n = omega arith in
    rw parts.0 (front (i + 1) n bs (parts.1 ∙ ap Some far))

from_zero : (p : ℕ → Bool) (bs : Bytes) → position p bs ≡ position_from p 0 bs
from_zero p bs = position_from-zero p bs

-- no space stands in them
pub none_is_space : (bs : Bytes) → position other bs ≡ None → position space bs ≡ None
none_is_space bs none = from_zero space bs ∙ spaceless 0 bs (sym (from_zero other bs) ∙ none)

-- a space behind them is the first
pub space_is_first : (bs : Bytes) (n : ℕ) → position other bs ≡ Some n → get_or bs n 0 ≡ 32 → position space bs ≡ Some n
space_is_first bs n found is =
    let here : n ≡ 0 + n = omega arith in
    from_zero space bs ∙ ends_at 0 n bs (sym (from_zero other bs) ∙ found ∙ ap Some here) is ∙ ap Some (sym here)

-- all before the first other byte may stand in a name
pub all_before : (bs : Bytes) (n : ℕ) → position other bs ≡ Some n → position other (take n bs) ≡ None
all_before bs n found =
    let here : n ≡ 0 + n = omega arith in
    from_zero other (take n bs) ∙ front 0 n bs (sym (from_zero other bs) ∙ found ∙ ap Some here)
