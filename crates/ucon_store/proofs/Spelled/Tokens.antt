-- The tokens of a policy's text: words are names, numbers are in range, and texts are texts.
use Rattle.std.proofs.Common.{◌≡◌, ℕ, zero, suc, ◌+◌, ◌*◌, ◌-◌, ◌<◌, ◌≤◌, Bool, true, false, cond, not, ◌==◌, List, [], ◌∷◌, length, take, drop, Option, Some, None, refl, ap, arith, nat_lt, option_map}
use Rattle.std.specs.Prelude.{ℤ, pos, negsuc, position, nat_le, ◌&&◌, ⊤}
use Rattle.std.specs.List.{prefix_len, position_or_len}
use Rattle.std.proofs.lemmas.Bool.Decides.{nat_tests}
use Rattle.std.proofs.lemmas.List.Folds.{length-prefix_len}
use Rattle.ucon_base.specs.Elements.{Each}
use Rattle.ucon_base.specs.NameBytes.{is_letter, is_name, is_word_byte, bad_place}
use Rattle.ucon_base.specs.Reading.{is_digit, text_len}
use Rattle.ucon_base.specs.TextBytes.{is_text, is_text_byte}
use Rattle.ucon_base.specs.Tokens.{Token, Lexed, Symbol, a_word, a_number, a_text, a_symbol, joined_word, flawed, the_end, word_len, begins_word, word_token, joined_token, value_from, number_with, number_token, closed_text, text_token, single, symbol_with, longest, unequal, symbol_token, token_at, begin_of, token_from, next_token, with_next, tokens_within, tokens_from, tokens_of, at_most_sign, less_sign, at_least_sign, greater_sign, dots, dot}
use Rattle.ucon_model.specs.Plain.{Bytes}

-- ---- a word's bytes are a name

one_more : (m n : ℕ) → m ≡ n → 1 + m ≡ suc n
one_more m n e = omega arith

passes_on : (p : ℕ → Bool) (b : ℕ) (bs : List ℕ) (q : Bool) → p b ≡ q → position_or_len (λ x. not (p x)) (take (prefix_len p bs) bs) ≡ length (take (prefix_len p bs) bs)
    → position_or_len (λ x. not (p x)) (take (prefix_len p (b ∷ bs)) (b ∷ bs)) ≡ length (take (prefix_len p (b ∷ bs)) (b ∷ bs))
passes_on p b bs true e rest = let one : 1 + prefix_len p bs ≡ suc (prefix_len p bs) = omega arith in rw (e, one, e) (one_more _ _ rest)
passes_on p b bs false e rest = rw e refl

run_passes : (p : ℕ → Bool) (bs : List ℕ) → position_or_len (λ x. not (p x)) (take (prefix_len p bs) bs) ≡ length (take (prefix_len p bs) bs)
run_passes p [] = refl
run_passes p (b ∷ bs) = passes_on p b bs (p b) refl (run_passes p bs)

not_below : (m n : ℕ) → m ≡ n → nat_lt m n ≡ false
not_below m n e = grind (arith, nat_tests)

all_pass : (p : ℕ → Bool) (bs : List ℕ) → position (λ x. not (p x)) (take (prefix_len p bs) bs) ≡ None
all_pass p bs =
    let xs = take (prefix_len p bs) bs in
    ap (λ (b : Bool). cond b (Some (position_or_len (λ x. not (p x)) xs)) None) (not_below (position_or_len (λ x. not (p x)) xs) (length xs) (run_passes p bs))

no_bad_place : (bs : List ℕ) → begins_word bs ≡ true → bad_place (take (word_len bs) bs) ≡ None
no_bad_place [] begins = absurd cc
no_bad_place (b ∷ bs) begins =
    let passes : is_word_byte b ≡ true = rw begins refl in
    let one : 1 + word_len bs ≡ suc (word_len bs) = omega arith in
    rw (passes, one, begins) (ap (option_map (λ (i : ℕ). i + 1)) (all_pass is_word_byte bs))

some_run : (bs : List ℕ) → begins_word bs ≡ true → 0 < word_len bs
some_run [] begins = absurd cc
some_run (b ∷ bs) begins =
    let passes : is_word_byte b ≡ true = rw begins refl in
    rw passes (omega arith)

name_if : (xs : List ℕ) → 0 < length xs → length xs ≤ 32 → bad_place xs ≡ None → is_name xs ≡ true
name_if xs some short none =
    let first : nat_lt 0 (length xs) ≡ true = grind (arith, nat_tests) in
    let second : nat_le (length xs) 32 ≡ true = grind (arith, nat_tests) in
    rw (first, second, none) refl

name_run : (bs : List ℕ) → begins_word bs ≡ true → nat_lt 32 (word_len bs) ≡ false → is_name (take (word_len bs) bs) ≡ true
name_run bs begins short =
    let len = length-prefix_len is_word_byte bs in
    let few : word_len bs ≤ 32 = grind (arith, nat_tests) in
    name_if (take (word_len bs) bs) (omega (arith, len, some_run bs begins)) (omega (arith, len, few)) (no_bad_place bs begins)

-- ---- tokens

-- a number that a text may have: from 0 to 10^15
abbrev pub IsNumber : ℤ → Type 0
IsNumber (pos n) = n ≤ 1000000000000000
IsNumber (negsuc n) = ⊥

-- a word is a name, a number one that a text may have, and a text a text
abbrev pub IsProper : Token → Type 0
IsProper (a_word name) = is_name name ≡ true
IsProper (a_number n) = IsNumber n
IsProper (a_text t) = is_text t ≡ true
IsProper t = ⊤

either : (b : Bool) (x y : Lexed) → (b ≡ true → IsProper x.0) → (b ≡ false → IsProper y.0) → IsProper (cond b x y).0
either true x y p q = p refl
either false x y p q = q refl

word_named : (bs : Bytes) → begins_word bs ≡ true → IsProper (word_token bs).0
unfolding word_token
word_named bs begins = either (nat_lt 32 (word_len bs)) _ _ (λ long. tt) (λ short. name_run bs begins short)

joined_named : (bs : Bytes) → IsProper (joined_token bs).0
unfolding joined_token
joined_named bs = either (nat_lt 32 (word_len bs)) _ _ (λ long. tt) (λ short. tt)

abbrev IsNumberIf : Option ℤ → Type 0
IsNumberIf None = ⊤
IsNumberIf (Some n) = IsNumber n

at_most_if : (n : ℕ) → nat_lt 1000000000000000 n ≡ false → n ≤ 1000000000000000
at_most_if n e = grind (arith, nat_tests)

value_within : (v : ℕ) (ds : Bytes) → v ≤ 1000000000000000 → IsNumberIf (option_map pos (value_from v ds))
unfolding value_from
value_within v [] few = few
value_within v (d ∷ ds) few = by (nat_lt 1000000000000000 (10 * v + (d - 48))) refl (value_within (10 * v + (d - 48)) ds)
  where
    by : (b : Bool) → nat_lt 1000000000000000 (10 * v + (d - 48)) ≡ b
        → (10 * v + (d - 48) ≤ 1000000000000000 → IsNumberIf (option_map pos (value_from (10 * v + (d - 48)) ds)))
        → IsNumberIf (option_map pos (cond b None (value_from (10 * v + (d - 48)) ds)))
    by true e rest = tt
    by false e rest = rest (at_most_if (10 * v + (d - 48)) e)

number_named : (led : Bool) (o : Option ℤ) (rest : Bytes) → IsNumberIf o → IsProper (number_with led o rest).0
number_named led None rest h = tt
number_named true (Some n) rest h = tt
number_named false (Some n) rest h = h

numbers_named : (bs : Bytes) → IsProper (number_token bs).0
unfolding number_token
numbers_named bs = number_named _ _ _ (value_within 0 _ (omega arith))

closed_named : (t rest : Bytes) → is_text t ≡ true → IsProper (closed_text t rest).0
closed_named t [] is = tt
closed_named t (b ∷ bs) is = either (b == 34) _ _ (λ h. is) (λ h. tt)

pub text_run : (bs : Bytes) → nat_lt 64 (text_len bs) ≡ false → is_text (take (text_len bs) bs) ≡ true
text_run bs short =
    let len = length-prefix_len is_text_byte bs in
    let few : text_len bs ≤ 64 = grind (arith, nat_tests) in
    let first : nat_le (length (take (text_len bs) bs)) 64 ≡ true = grind (arith, nat_tests, len) in
    rw (first, all_pass is_text_byte bs) refl

text_named : (bs : Bytes) → IsProper (text_token bs).0
unfolding text_token
text_named bs = either (nat_lt 64 (text_len bs)) _ _ (λ h. tt) (λ h. closed_named (take (text_len bs) bs) (drop (text_len bs) bs) (text_run bs h))

longest_named : (second : ℕ) (long short : Symbol) (bs : Bytes) → IsProper (longest second long short bs).0
longest_named second long short [] = tt
longest_named second long short (b ∷ bs) = either (b == second) _ _ (λ h. tt) (λ h. tt)

unequal_named : (bs : Bytes) → IsProper (unequal bs).0
unequal_named [] = tt
unequal_named (b ∷ bs) = either (b == 61) _ _ (λ h. tt) (λ h. tt)

with_named : (o : Option Symbol) (bs : Bytes) → IsProper (symbol_with o bs).0
with_named None bs = tt
with_named (Some s) bs = tt

symbol_named : (b : ℕ) (bs : Bytes) → IsProper (symbol_token b bs).0
unfolding symbol_token
symbol_named b bs =
    either (b == 46) _ _ (λ h. longest_named 46 dots dot bs) (λ h.
    either (b == 60) _ _ (λ h. longest_named 61 at_most_sign less_sign bs) (λ h.
    either (b == 62) _ _ (λ h. longest_named 61 at_least_sign greater_sign bs) (λ h.
    either (b == 33) _ _ (λ h. unequal_named bs) (λ h. with_named (single b) bs))))

at_named : (bs : Bytes) → IsProper (token_at bs).0
unfolding token_at
at_named [] = tt
at_named (b ∷ bs) =
    either (is_letter b) _ _ (λ letter. word_named (b ∷ bs) letter) (λ h.
    either (is_digit b) _ _ (λ h. numbers_named (b ∷ bs)) (λ h.
    either (b == 34) _ _ (λ h. text_named bs) (λ h. symbol_named b bs)))

next_named : (behind : Bool) (bs : Bytes) → IsProper (next_token behind bs).0
unfolding next_token token_from
next_named behind bs = either (behind && begins_word bs) _ _ (λ h. joined_named (begin_of behind bs)) (λ h. at_named (begin_of behind bs))

with_rest : (l : Lexed) (more : Bool → Bytes → List Token) → IsProper l.0 → ((behind : Bool) (bs : Bytes) → Each IsProper (more behind bs)) → Each IsProper (with_next l more)
with_rest (the_end, rest) more here each = tt
with_rest (flawed f, rest) more here each = (tt, tt)
with_rest (joined_word n, rest) more here each = (tt, tt)
with_rest (a_word n, rest) more here each = (here, each false rest)
with_rest (a_text t, rest) more here each = (here, each false rest)
with_rest (a_symbol s, rest) more here each = (tt, each false rest)
with_rest (a_number n, rest) more here each = (here, each true rest)

within_named : (n : ℕ) (behind : Bool) (bs : Bytes) → Each IsProper (tokens_within n behind bs)
unfolding tokens_within
within_named zero behind bs = tt
within_named (suc n) behind bs = with_rest (next_token behind bs) (tokens_within n) (next_named behind bs) (within_named n)

pub tokens_proper : (bytes : Bytes) → Each IsProper (tokens_of bytes)
unfolding tokens_from
tokens_proper bytes = within_named (length bytes + 1) false bytes
