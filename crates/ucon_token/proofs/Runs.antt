-- Which runs of bytes are names, and which are texts.
use Rattle.std.proofs.Common.{◌≡◌, ℕ, suc, ◌+◌, Bool, true, false, cond, not, ◌==◌, List, [], ◌∷◌, length, take, Some, None, refl, sym, ap, ◌∙◌, arith, nat_lt, option_map}
use Rattle.std.specs.Prelude.{position}
use Rattle.std.specs.List.{prefix_len, position_or_len}
use Rattle.std.proofs.lemmas.Bool.Decides.{nat_tests}
use Rattle.std.proofs.lemmas.List.Folds.{length-prefix_len}
use Rattle.ucon_base.specs.declared.name.NameFault.{NameFault}
use Rattle.ucon_base.specs.declared.text.TextFault.{TextFault}
use Rattle.ucon_base.specs.declared.name.NameFault.TheVariants as name_faults
use Rattle.ucon_base.specs.declared.text.TextFault.TheVariants as text_faults
use Rattle.ucon_base.specs.Name.{first_fault}
use Rattle.ucon_base.specs.NameBytes.{is_word_byte, bad_place}
use Rattle.ucon_base.specs.Text.{first_text_fault}
use Rattle.ucon_base.specs.TextBytes.{is_text_byte, bad_text_place}
use Rattle.ucon_base.specs.Reading.{text_len}
use Rattle.ucon_base.specs.Tokens.{word_len, begins_word}

one_more : (m n : ℕ) → m ≡ n → 1 + m ≡ suc n
one_more m n e = omega arith

passes_on : (p : ℕ → Bool) (b : ℕ) (bs : List ℕ) (q : Bool) → p b ≡ q → position_or_len (λ x. not (p x)) (take (prefix_len p bs) bs) ≡ length (take (prefix_len p bs) bs)
    → position_or_len (λ x. not (p x)) (take (prefix_len p (b ∷ bs)) (b ∷ bs)) ≡ length (take (prefix_len p (b ∷ bs)) (b ∷ bs))
passes_on p b bs true e rest = let one : 1 + prefix_len p bs ≡ suc (prefix_len p bs) = omega arith in rw (e, one, e) (one_more _ _ rest)
passes_on p b bs false e rest = rw e refl

run_passes : (p : ℕ → Bool) (bs : List ℕ) → position_or_len (λ x. not (p x)) (take (prefix_len p bs) bs) ≡ length (take (prefix_len p bs) bs)
run_passes p [] = refl
run_passes p (b ∷ bs) = passes_on p b bs (p b) refl (run_passes p bs)

not_below : (m n : ℕ) → m ≡ n → nat_lt m n ≡ false
not_below m n e = grind (arith, nat_tests)

-- all of a run passes
all_pass : (p : ℕ → Bool) (bs : List ℕ) → position (λ x. not (p x)) (take (prefix_len p bs) bs) ≡ None
all_pass p bs =
    let xs = take (prefix_len p bs) bs in
    ap (λ (b : Bool). cond b (Some (position_or_len (λ x. not (p x)) xs)) None) (not_below (position_or_len (λ x. not (p x)) xs) (length xs) (run_passes p bs))

no_bad_place : (bs : List ℕ) → begins_word bs ≡ true → bad_place (take (word_len bs) bs) ≡ None
no_bad_place [] begins = absurd cc
no_bad_place (b ∷ bs) begins =
    let passes : is_word_byte b ≡ true = rw begins refl in
    let one : 1 + word_len bs ≡ suc (word_len bs) = omega arith in
    rw (passes, one, begins) (ap (option_map (λ (i : ℕ). i + 1)) (all_pass is_word_byte bs))

not_empty : (bs : List ℕ) → begins_word bs ≡ true → (word_len bs == 0) ≡ false
not_empty [] begins = absurd cc
not_empty (b ∷ bs) begins =
    let passes : is_word_byte b ≡ true = rw begins refl in
    rw passes (grind arith)

name_if : (xs : List ℕ) → nat_lt 32 (length xs) ≡ false → (length xs == 0) ≡ false → bad_place xs ≡ None → first_fault xs ≡ None
name_if xs short some allowed = rw (some, short) (ap (option_map name_faults.BadByte) allowed)

-- a word of at most 32 bytes is a name
is_name_run : (bs : List ℕ) → begins_word bs ≡ true → nat_lt 32 (word_len bs) ≡ false → first_fault (take (word_len bs) bs) ≡ None
is_name_run bs begins short =
    let len = length-prefix_len is_word_byte bs in
    name_if (take (word_len bs) bs) (ap (nat_lt 32) len ∙ short) (ap (λ (n : ℕ). n == 0) len ∙ not_empty bs begins) (no_bad_place bs begins)

pub long_word : (bs : List ℕ) (f : NameFault) → begins_word bs ≡ true → first_fault (take (word_len bs) bs) ≡ Some f → nat_lt 32 (word_len bs) ≡ true
long_word bs f begins is = cases (nat_lt 32 (word_len bs)) (is_name_run bs begins)
  where
    cases : (q : Bool) → (q ≡ false → first_fault (take (word_len bs) bs) ≡ None) → q ≡ true
    cases true none = refl
    cases false none = let n = none refl in absurd cc

not_too_long : (xs : List ℕ) (p q : Bool) → (length xs == 0) ≡ p → nat_lt 32 (length xs) ≡ q → first_fault xs ≡ None → q ≡ false
not_too_long xs true q e h none = absurd (let n = rw e at none in cc)
not_too_long xs false true e h none = absurd (let n = rw (e, h) at none in cc)
not_too_long xs false false e h none = refl

pub short_word : (bs : List ℕ) → first_fault (take (word_len bs) bs) ≡ None → nat_lt 32 (word_len bs) ≡ false
short_word bs none = ap (nat_lt 32) (sym (length-prefix_len is_word_byte bs)) ∙ not_too_long (take (word_len bs) bs) (length (take (word_len bs) bs) == 0) (nat_lt 32 (length (take (word_len bs) bs))) refl refl none

text_if : (xs : List ℕ) → nat_lt 64 (length xs) ≡ false → bad_text_place xs ≡ None → first_text_fault xs ≡ None
text_if xs short allowed = rw short (ap (option_map text_faults.BadByte) allowed)

-- a run of at most 64 bytes that may stand in a text is a text
is_text_run : (bs : List ℕ) → nat_lt 64 (text_len bs) ≡ false → first_text_fault (take (text_len bs) bs) ≡ None
is_text_run bs short = text_if (take (text_len bs) bs) (ap (nat_lt 64) (length-prefix_len is_text_byte bs) ∙ short) (all_pass is_text_byte bs)

pub long_text : (bs : List ℕ) (f : TextFault) → first_text_fault (take (text_len bs) bs) ≡ Some f → nat_lt 64 (text_len bs) ≡ true
long_text bs f is = cases (nat_lt 64 (text_len bs)) (is_text_run bs)
  where
    cases : (q : Bool) → (q ≡ false → first_text_fault (take (text_len bs) bs) ≡ None) → q ≡ true
    cases true none = refl
    cases false none = let n = none refl in absurd cc

not_too_long_text : (xs : List ℕ) (q : Bool) → nat_lt 64 (length xs) ≡ q → first_text_fault xs ≡ None → q ≡ false
not_too_long_text xs true h none = absurd (let n = rw h at none in cc)
not_too_long_text xs false h none = refl

pub short_text : (bs : List ℕ) → first_text_fault (take (text_len bs) bs) ≡ None → nat_lt 64 (text_len bs) ≡ false
short_text bs none = ap (nat_lt 64) (sym (length-prefix_len is_text_byte bs)) ∙ not_too_long_text (take (text_len bs) bs) (nat_lt 64 (length (take (text_len bs) bs))) refl none
