-- Texts that lack a byte.
use Rattle.std.proofs.Common.{◌≡◌, ℕ, ◌+◌, ◌<◌, ◌^◌, Bool, true, false, cond, [], ◌∷◌, ◌++◌, length, refl, sym, ap, ◌∙◌, arith}
use Rattle.std.specs.Prelude.{◌==◌, ◌&&◌, not}
use Rattle.std.specs.List.{list_all, position_from}
use Rattle.std.specs.Prelude.{Option, Some, None, option_map, is_none, nat_lt, nat_le, position}
use Rattle.ucon_base.specs.NameBytes.{is_name, is_letter, is_word_byte, bad_place}
use Rattle.std.proofs.lemmas.Iterator.Adapters.{position_from-zero}
use Rattle.std.specs.Fmt.{decimal}
use Rattle.std.specs.Str.Parse.{AllDigits}
use Rattle.std.proofs.lemmas.Bool.{ne_eqb}
use Rattle.std.proofs.lemmas.Fmt.{decimal_is_IsNumeral}
use Rattle.std.proofs.lemmas.Str.Parse.{digit_from_value}
use Rattle.ucon_model.specs.Plain.{Bytes}
use Rattle.ucon_model.specs.Output.{Lacks}

pub lacks-append : (byte : ℕ) (xs ys : Bytes) → Lacks byte xs → Lacks byte ys → Lacks byte (xs ++ ys)
lacks-append byte [] ys h k = k
lacks-append byte (x ∷ xs) ys h k = (h.0, lacks-append byte xs ys h.1 k)

one_tested : (found rest : Bool) → (not found && rest) ≡ true → (found ≡ false) × (rest ≡ true)
one_tested false rest e = (refl, e)
one_tested true rest e = absurd cc

-- a text that can be tested by computing
pub lacks-tested : (byte : ℕ) (text : Bytes) → list_all (λ b. not (b == byte)) text ≡ true → Lacks byte text
lacks-tested byte [] e = tt
lacks-tested byte (x ∷ xs) e =
    let tested = one_tested (x == byte) (list_all (λ b. not (b == byte)) xs) e in
    (tested.0, lacks-tested byte xs tested.1)

lacks-digits : (byte : ℕ) (ds : Bytes) → byte < 48 → AllDigits 10 ds → Lacks byte ds
lacks-digits byte [] lt h = tt
lacks-digits byte (d ∷ ds) lt h =
    let range = digit_from_value d h.0 in
    (ne_eqb d byte (λ e. omega (arith, e, lt, range)), lacks-digits byte ds lt h.1)

pub lacks-decimal : (byte n : ℕ) → byte < 48 → n < 2 ^ 64 → Lacks byte (decimal n)
lacks-decimal byte n lt fits = lacks-digits byte (decimal n) lt (decimal_is_IsNumeral n fits).0.1

-- ---- names

and_right : (a b : Bool) → (a && b) ≡ true → b ≡ true
and_right true b e = e
and_right false b e = absurd cc

word_byte_lacks : (byte b : ℕ) → is_word_byte byte ≡ false → is_word_byte b ≡ true → (b == byte) ≡ false
word_byte_lacks byte b other word = ne_eqb b byte (λ e. (let same : is_word_byte b ≡ is_word_byte byte = ap is_word_byte e in cc))

passed_over : (b : Bool) (i : ℕ) (rest : Option ℕ) → cond (not b) (Some i) rest ≡ None → (b ≡ true) × (rest ≡ None)
passed_over true i rest e = (refl, e)
passed_over false i rest e = absurd cc

words_lack : (byte i : ℕ) (bs : Bytes) → is_word_byte byte ≡ false → position_from (λ b. not (is_word_byte b)) i bs ≡ None → Lacks byte bs
words_lack byte i [] other e = tt
words_lack byte i (b ∷ bs) other e =
    let passed = passed_over (is_word_byte b) i (position_from (λ b. not (is_word_byte b)) (i + 1) bs) e in
    (word_byte_lacks byte b other passed.0, words_lack byte (i + 1) bs other passed.1)

letter_is_word_byte : (b : ℕ) → is_letter b ≡ true → is_word_byte b ≡ true
letter_is_word_byte b e = rw e refl

no_place : (letter : Bool) (place : Option ℕ) → is_none (cond letter (option_map (λ i. i + 1) place) (Some 0)) ≡ true → (letter ≡ true) × (place ≡ None)
no_place true None e = (refl, refl)
no_place true (Some i) e = absurd cc
no_place false place e = absurd cc

in_form : (byte : ℕ) (name : Bytes) → is_word_byte byte ≡ false → is_none (bad_place name) ≡ true → Lacks byte name
in_form byte [] other e = tt
in_form byte (b ∷ bs) other e =
    let none = no_place (is_letter b) (position (λ x. not (is_word_byte x)) bs) e in
    (word_byte_lacks byte b other (letter_is_word_byte b none.0), words_lack byte 0 bs other (sym (position_from-zero (λ x. not (is_word_byte x)) bs) ∙ none.1))

-- a name lacks each byte that no name may have
pub lacks-name : (byte : ℕ) (name : Bytes) → is_word_byte byte ≡ false → is_name name ≡ true → Lacks byte name
lacks-name byte name other e = in_form byte name other (and_right (nat_lt 0 (length name) && nat_le (length name) 32) (is_none (bad_place name)) e)
