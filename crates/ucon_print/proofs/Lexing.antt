-- The tokens of a text that is put together: what is printed is read as the tokens that were meant.
use Rattle.std.proofs.Common.{◌≡◌, ℕ, ℤ, pos, zero, suc, ◌+◌, ◌-◌, ◌*◌, ◌^◌, ◌<◌, ◌≤◌, true, false, Bool, nat_lt, eqb, List, [], ◌∷◌, ◌++◌, length, take, drop, get_or, Option, Some, option_map, decimal, refl, sym, ap, ◌∙◌, subst, arith, length-append, append_assoc}
use Rattle.std.specs.Prelude.{nat_le}
use Rattle.std.specs.List.{list_all, prefix_len}
use Rattle.std.proofs.Math.Seq.{take-append_seam, drop-append_seam}
use Rattle.std.proofs.lemmas.Bool.{and_parts, and_from, ne_eqb, le-leb, leb-true}
use Rattle.std.proofs.lemmas.Bool.Decides.{nat_tests}
use Rattle.std.proofs.lemmas.Fmt.{decimal_digit, first_decimal, digits_decimal, digits_value-decimal}
use Rattle.std.proofs.lemmas.Str.Parse.{IsNumeralModel, IsDigitsTest, FoldsDigits, numerals_by_fold}
use Rattle.ucon_base.specs.NameBytes.{is_letter, is_word_byte}
use Rattle.ucon_base.specs.TextBytes.{is_text_byte}
use Rattle.ucon_base.specs.Reading.{number_from, number_of as number_spelled}
use Rattle.ucon_base.specs.Spelling.{quoted}
use Rattle.ucon_model.specs.Plain.{Bytes}
use Rattle.ucon_base.specs.Reading.{is_digit, text_len}
use Rattle.ucon_base.specs.Tokens.{Token, a_word, a_number, a_text, a_symbol, Symbol, Lexed, is_blank, skip, digits_len, word_token, value_from, number_of, is_zero_led, number_with, number_token, text_token, token_at, token_from, begins_word, begin_of, next_token, with_next, tokens_within}

-- the text has these tokens, and nothing in front of it joins its first
abbrev pub Lexes : Bytes → List Token → Type 0
Lexes bs ts = (n : ℕ) → length bs < n → tokens_within n false bs ≡ ts

-- behind a token
abbrev pub lexed : Token → Bytes → Lexed
lexed t rest = (t, rest)

module _ (t : Token) (bs rest : Bytes) (ts : List Token) (plain : (more : Bool → Bytes → List Token) → with_next (lexed t rest) more ≡ t ∷ more false rest) (is : next_token false bs ≡ lexed t rest) (less : length rest < length bs) (lexes : Lexes rest ts) where
  pub token_step : Lexes bs (t ∷ ts)
  unfolding tokens_within
  token_step zero enough = absurd (omega arith)
  token_step (suc n) enough = rw is (plain (tokens_within n) ∙ ap (λ all. t ∷ all) (lexes n (omega arith)))

pub nothing_left : Lexes [] []
unfolding tokens_within next_token begin_of skip token_from token_at
nothing_left zero enough = absurd (omega arith)
nothing_left (suc n) enough = refl

pub blank : (rest : Bytes) (ts : List Token) → Lexes rest ts → Lexes (32 ∷ rest) ts
unfolding tokens_within next_token begin_of skip
blank rest ts lexes zero enough = absurd (omega arith)
blank rest ts lexes (suc n) enough = lexes (suc n) (omega arith)

pub new_line : (rest : Bytes) (ts : List Token) → Lexes rest ts → Lexes (10 ∷ rest) ts
unfolding tokens_within next_token begin_of skip
new_line rest ts lexes zero enough = absurd (omega arith)
new_line rest ts lexes (suc n) enough = lexes (suc n) (omega arith)

-- a symbol that is read by its byte
pub symbol_byte : (b : ℕ) (s : Symbol) (rest : Bytes) (ts : List Token) → next_token false (b ∷ rest) ≡ lexed (a_symbol s) rest → Lexes rest ts → Lexes (b ∷ rest) (a_symbol s ∷ ts)
symbol_byte b s rest ts is lexes = token_step (a_symbol s) (b ∷ rest) rest ts (λ more. refl) is (omega arith) lexes

-- a run that stops where the rest begins
run_length : (p : ℕ → Bool) (xs rest : Bytes) → list_all p xs ≡ true → prefix_len p rest ≡ 0 → prefix_len p (xs ++ rest) ≡ length xs
run_length p [] rest all stops = stops
run_length p (x ∷ xs) rest all stops =
    let parts = and_parts (p x) (list_all p xs) all in
    let more = run_length p xs rest parts.1 stops in
    rw parts.0 (omega arith)

-- a name, or a word of the grammar
pub record IsWord (w : Bytes) : Type 0 where
  pub begins : begins_word w ≡ true
  pub bytes : list_all is_word_byte w ≡ true
  pub short : length w ≤ 32

letter_plain : (b : ℕ) → is_letter b ≡ true → (is_blank b ≡ false) × (eqb b 35 ≡ false)
letter_plain b letter =
    let parts = and_parts (nat_le 97 b) (nat_le b 122) letter in
    let low = leb-true 97 b parts.0 in
    (rw (ne_eqb b 32 (λ e. omega arith), ne_eqb b 9 (λ e. omega arith), ne_eqb b 10 (λ e. omega arith)) refl, ne_eqb b 35 (λ e. omega arith))

not_above : (m n : ℕ) → n ≤ m → nat_lt m n ≡ false
not_above m n le = grind (arith, nat_tests)

word_next : (w rest : Bytes) → IsWord w → prefix_len is_word_byte rest ≡ 0 → next_token false (w ++ rest) ≡ lexed (a_word w) rest
unfolding next_token begin_of skip token_from token_at word_token
word_next [] rest is stops = absurd (let no = is.begins in cc)
word_next (b ∷ w) rest is stops =
    let letter : is_letter b ≡ true = is.begins in
    let plain = letter_plain b letter in
    let run = run_length is_word_byte w rest (and_parts (is_word_byte b) (list_all is_word_byte w) is.bytes).1 stops in
    let size : 1 + prefix_len is_word_byte (w ++ rest) ≡ length (b ∷ w) = omega arith in
    let front : take (length (b ∷ w)) (b ∷ w ++ rest) ≡ b ∷ w = take-append_seam (b ∷ w) rest in
    let back : drop (length (b ∷ w)) (b ∷ w ++ rest) ≡ rest = drop-append_seam (b ∷ w) rest in
    rw (plain.0, plain.1, letter, size, not_above 32 (length (b ∷ w)) is.short, front, back) refl

pub word : (w rest : Bytes) (ts : List Token) → IsWord w → prefix_len is_word_byte rest ≡ 0 → Lexes rest ts → Lexes (w ++ rest) (a_word w ∷ ts)
word w rest ts is stops lexes =
    let size = length-append w rest in
    let some : 0 < length w = longer w is.begins in
    token_step (a_word w) (w ++ rest) rest ts (λ more. refl) (word_next w rest is stops) (omega arith) lexes
  where
    longer : (w : Bytes) → begins_word w ≡ true → 0 < length w
    longer [] begins = absurd cc
    longer (b ∷ w) begins = omega arith

pub record IsText (t : Bytes) : Type 0 where
  pub bytes : list_all is_text_byte t ≡ true
  pub short : length t ≤ 64

text_next : (t rest : Bytes) → IsText t → next_token false (34 ∷ t ++ 34 ∷ rest) ≡ lexed (a_text t) rest
unfolding next_token begin_of skip token_from token_at text_token
text_next t rest is =
    let size : text_len (t ++ 34 ∷ rest) ≡ length t = run_length is_text_byte t (34 ∷ rest) is.bytes refl in
    rw (size, not_above 64 (length t) is.short, take-append_seam t (34 ∷ rest), drop-append_seam t (34 ∷ rest)) refl

pub text : (t rest : Bytes) (ts : List Token) → IsText t → Lexes rest ts → Lexes (quoted t ++ rest) (a_text t ∷ ts)
text t rest ts is lexes =
    let size = length-append t (34 ∷ rest) in
    let same : quoted t ++ rest ≡ 34 ∷ t ++ 34 ∷ rest = ap (λ bs. 34 ∷ bs) (append_assoc t (34 ∷ []) rest) in
    subst (λ bs. Lexes bs (a_text t ∷ ts)) (sym same)
    (token_step (a_text t) (34 ∷ t ++ 34 ∷ rest) rest ts (λ more. refl) (text_next t rest is) (omega arith) lexes)

-- ---- numbers

abbrev digits : Bytes → Type 0
digits ds = list_all is_digit ds ≡ true

tells_digits : IsDigitsTest digits
tells_digits = record {
  empty = refl;
  parts = λ c cs h.
      let both = and_parts (is_digit c) (list_all is_digit cs) h in
      let ends = and_parts (nat_le 48 c) (nat_le c 57) both.0 in
      ((leb-true 48 c ends.0, leb-true c 57 ends.1), both.1);
  more = λ c cs range h. and_from (is_digit c) (list_all is_digit cs) (and_from (nat_le 48 c) (nat_le c 57) (le-leb 48 c range.0) (le-leb c 57 range.1)) h;
}

folds : FoldsDigits number_from
folds = record { empty = λ n. refl; more = λ n c cs range. refl }

own : IsNumeralModel digits number_spelled
own = numerals_by_fold digits tells_digits number_from folds

grows : (v : ℕ) (ds : Bytes) → v ≤ number_from v ds
grows v [] = omega arith
grows v (d ∷ ds) = let later = grows (v * 10 + (d - 48)) ds in omega arith

value_small : (v : ℕ) (ds : Bytes) → number_from v ds ≤ 1000000000000000 → value_from v ds ≡ Some (number_from v ds)
unfolding value_from
value_small v [] small = refl
value_small v (d ∷ ds) small =
    let first = grows (v * 10 + (d - 48)) ds in
    let same : 10 * v + (d - 48) ≡ v * 10 + (d - 48) = omega arith in
    rw (same, not_above 1000000000000000 (v * 10 + (d - 48)) (omega arith)) (value_small (v * 10 + (d - 48)) ds small)

-- digits without a needless 0 that spell a number
record IsNumber (ds : Bytes) (n : ℕ) : Type 0 where
  pub all : digits ds
  pub some : 0 < length ds
  pub lean : is_zero_led ds ≡ false
  pub value : value_from 0 ds ≡ Some n

lean_above : (ds : Bytes) → 48 < get_or ds 0 0 → is_zero_led ds ≡ false
lean_above [] first = absurd (omega arith)
lean_above (d ∷ ds) first = rw (ne_eqb d 48 (λ e. omega arith)) refl

some_above : (ds : Bytes) → 48 < get_or ds 0 0 → 0 < length ds
some_above [] first = absurd (omega arith)
some_above (d ∷ ds) first = omega arith

decimal_number : (n : ℕ) → n ≤ 1000000000000000 → IsNumber (decimal n) n
unfolding value_from
decimal_number zero small = subst (λ ds. IsNumber ds 0) (sym (decimal_digit 0 (omega arith))) (record { all = refl; some = omega arith; lean = refl; value = refl })
decimal_number (suc n) small =
    let fits : suc n < 2 ^ 64 = omega arith in
    let first = first_decimal (suc n) (omega arith) fits in
    let value = digits_value-decimal own (suc n) fits in
    record {
      all = digits_decimal own (suc n) fits;
      some = some_above (decimal (suc n)) first;
      lean = lean_above (decimal (suc n)) first;
      value = value_small 0 (decimal (suc n)) (omega arith) ∙ ap Some value;
    }

digit_plain : (d : ℕ) → is_digit d ≡ true → (is_blank d ≡ false) × (eqb d 35 ≡ false) × (is_letter d ≡ false)
digit_plain d digit =
    let parts = and_parts (nat_le 48 d) (nat_le d 57) digit in
    let low = leb-true 48 d parts.0 in
    let high = leb-true d 57 parts.1 in
    (rw (ne_eqb d 32 (λ e. omega arith), ne_eqb d 9 (λ e. omega arith), ne_eqb d 10 (λ e. omega arith)) refl, ne_eqb d 35 (λ e. omega arith), grind (arith, nat_tests))

-- digits that are read whole
number_read : (bs ds rest : Bytes) (size n : ℕ) → digits_len bs ≡ size → take size bs ≡ ds → drop size bs ≡ rest → is_zero_led ds ≡ false → number_of ds ≡ Some (pos n) → number_token bs ≡ lexed (a_number (pos n)) rest
unfolding number_token
number_read bs ds rest size n e front back lean found = rw (e, front, back) (with_both (is_zero_led ds) (number_of ds) lean found)
  where
    with_both : (led : Bool) (o : Option ℤ) → led ≡ false → o ≡ Some (pos n) → number_with led o rest ≡ lexed (a_number (pos n)) rest
    with_both led o e f = rw (e, f) refl

number_next : (ds rest : Bytes) (n : ℕ) → IsNumber ds n → prefix_len is_digit rest ≡ 0 → next_token false (ds ++ rest) ≡ lexed (a_number (pos n)) rest
unfolding next_token begin_of skip token_from token_at
number_next [] rest n is stops = absurd (let some = is.some in omega arith)
number_next (d ∷ ds) rest n is stops =
    let digit = (and_parts (is_digit d) (list_all is_digit ds) is.all).0 in
    let plain = digit_plain d digit in
    let run = run_length is_digit (d ∷ ds) rest is.all stops in
    let read = number_read (d ∷ ds ++ rest) (d ∷ ds) rest (length (d ∷ ds)) n run (take-append_seam (d ∷ ds) rest) (drop-append_seam (d ∷ ds) rest) is.lean (ap (option_map pos) is.value) in
    rw (plain.0, plain.1, plain.2, digit) read

behind_number : (m : ℕ) (rest : Bytes) → begins_word rest ≡ false → tokens_within m true rest ≡ tokens_within m false rest
unfolding tokens_within next_token begin_of
behind_number zero rest alone = refl
behind_number (suc m) rest alone = rw alone refl

-- a number that no letter follows directly
pub number : (n : ℕ) (rest : Bytes) (ts : List Token) → n ≤ 1000000000000000 → prefix_len is_digit rest ≡ 0 → begins_word rest ≡ false → Lexes rest ts → Lexes (decimal n ++ rest) (a_number (pos n) ∷ ts)
unfolding tokens_within
number n rest ts small stops alone lexes zero enough = absurd (omega arith)
number n rest ts small stops alone lexes (suc m) enough =
    let is = decimal_number n small in
    let size = length-append (decimal n) rest in
    let some = is.some in
    rw (number_next (decimal n) rest n is stops) (ap (λ all. a_number (pos n) ∷ all) (behind_number m rest alone ∙ lexes m (omega arith)))
