-- Names and texts are ASCII.
use Rattle.std.proofs.Common.{◌≡◌, ◌∙◌, ◌+◌, ◌<◌, ℕ, zero, suc, Bool, true, false, cond, not, [], ◌∷◌, length, Option, Some, None, is_none, option_map, refl, sym, arith}
use Rattle.std.specs.Prelude.{◌&&◌, nat_lt, nat_le, position}
use Rattle.std.specs.List.{position_from}
use Rattle.std.specs.Str.{IsAscii}
use Rattle.std.proofs.lemmas.Bool.{and_parts}
use Rattle.std.proofs.lemmas.Iterator.Adapters.{position_from-zero}
use Rattle.ucon_base.specs.NameBytes.{is_name, is_letter, is_word_byte, bad_place}
use Rattle.ucon_base.specs.TextBytes.{is_text, is_text_byte, bad_text_place}
use Rattle.ucon_model.specs.Plain.{Bytes}

letter_below : (b : ℕ) → is_letter b ≡ true → b < 128
letter_below b h = grind (arith)

word_byte_below : (b : ℕ) → is_word_byte b ≡ true → b < 128
word_byte_below b h = grind (arith)

text_byte_below : (b : ℕ) → is_text_byte b ≡ true → b < 128
text_byte_below b h = grind (arith)

none_from : {A : Type 0} (o : Option A) → is_none o ≡ true → o ≡ None
none_from None e = refl
none_from (Some x) e = absurd cc

passed_over : (b : Bool) (i : ℕ) (rest : Option ℕ) → cond (not b) (Some i) rest ≡ None → (b ≡ true) × (rest ≡ None)
passed_over true i rest e = (refl, e)
passed_over false i rest e = absurd cc

module _ (p : ℕ → Bool) (below : (b : ℕ) → p b ≡ true → b < 128) where
  all_below : (bs : Bytes) (i : ℕ) → position_from (λ b. not (p b)) i bs ≡ None → IsAscii bs
  all_below [] i none k = omega arith
  all_below (b ∷ bs) i none zero = below b (passed_over (p b) i (position_from (λ x. not (p x)) (i + 1) bs) none).0
  all_below (b ∷ bs) i none (suc k) = all_below bs (i + 1) (passed_over (p b) i (position_from (λ x. not (p x)) (i + 1) bs) none).1 k

  passing_is_ascii : (bs : Bytes) → position (λ b. not (p b)) bs ≡ None → IsAscii bs
  passing_is_ascii bs none = all_below bs 0 (sym (position_from-zero (λ b. not (p b)) bs) ∙ none)

no_place : (letter : Bool) (place : Option ℕ) → is_none (cond letter (option_map (λ i. i + 1) place) (Some 0)) ≡ true → (letter ≡ true) × (place ≡ None)
no_place true None e = (refl, refl)
no_place true (Some i) e = absurd cc
no_place false place e = absurd cc

pub names_are_ascii : (name : Bytes) → is_name name ≡ true → IsAscii name
names_are_ascii [] h = absurd cc
names_are_ascii (b ∷ bs) h =
    let parts = and_parts (nat_lt 0 (length (b ∷ bs)) && nat_le (length (b ∷ bs)) 32) (is_none (bad_place (b ∷ bs))) h in
    let place = no_place (is_letter b) (position (λ x. not (is_word_byte x)) bs) parts.1 in
    first_and_rest b bs (letter_below b place.0) (passing_is_ascii is_word_byte word_byte_below bs place.1)
  where
    first_and_rest : (b : ℕ) (bs : Bytes) → b < 128 → IsAscii bs → IsAscii (b ∷ bs)
    first_and_rest b bs first rest zero = first
    first_and_rest b bs first rest (suc k) = rest k

pub texts_are_ascii : (text : Bytes) → is_text text ≡ true → IsAscii text
texts_are_ascii text h =
    passing_is_ascii is_text_byte text_byte_below text
    (none_from (bad_text_place text) (and_parts (nat_le (length text) 64) (is_none (bad_text_place text)) h).1)
