-- Single tokens.
use Rattle.std.proofs.Common.{◌≡◌, ℕ, zero, suc, Bool, true, false, cond, not, ◌&&◌, ◌==◌, nat_lt, nat_le, List, [], ◌∷◌, length, drop, Option, Some, None, option_map, Ok, is_none, ℤ, pos, codes, refl, sym, ap, ◌∙◌, eq-eqb, arith}
use Rattle.std.proofs.lemmas.Slice.Eq.{bytes_eq-Decides}
use Rattle.std.proofs.lemmas.Bool.{eqb-true}
use Rattle.std.proofs.lemmas.Bool.Decides.{nat_tests}
use Rattle.ucon_base.specs.Name.{first_fault}
use Rattle.ucon_base.specs.NameBytes.{bad_place, is_name}
use Rattle.ucon_base.specs.declared.name.NameFault.TheVariants.{Empty, TooLong, BadByte}
use Rattle.ucon_model.specs.Plain.{Bytes}
use Rattle.ucon_base.specs.Tokens.{Token, a_word, a_number, a_text, a_symbol, joined_word, flawed, the_end, Symbol, colon, semicolon, comma, dot, dots, equal_sign, unequal_sign, less_sign, at_most_sign, greater_sign, at_least_sign, plus_sign, minus_sign, star, open_round, close_round, open_square, close_square, open_curly, close_curly}
use Rattle.ucon_model.specs.Forms.{word, symbol, mapped, Limit}
use Rattle.ucon_model.specs.Grammar as grammar
use Rattle.ucon_token.specs.Tokens.{code, first, is_symbol, is_word, word_of, number_of, text_of}
use Rattle.ucon_token.specs.Reading.{◌>>=◌, taken, name_at, number_at, text_at}
use Rattle.ucon_syntax.specs.Items.{some_name}
use Rattle.ucon_syntax.specs.Starts.{if_name, name_in}
use Rattle.ucon_syntax.proofs.Sound.{Sound, Anything, Tests, sound_same, sound_mapped, sound_taken}

-- which symbol has a code
symbol_with : ℕ → Symbol
symbol_with zero = colon
symbol_with (suc zero) = semicolon
symbol_with (suc (suc zero)) = comma
symbol_with (suc (suc (suc zero))) = dot
symbol_with (suc (suc (suc (suc zero)))) = dots
symbol_with (suc (suc (suc (suc (suc zero))))) = equal_sign
symbol_with (suc (suc (suc (suc (suc (suc zero)))))) = unequal_sign
symbol_with (suc (suc (suc (suc (suc (suc (suc zero))))))) = less_sign
symbol_with (suc (suc (suc (suc (suc (suc (suc (suc zero)))))))) = at_most_sign
symbol_with (suc (suc (suc (suc (suc (suc (suc (suc (suc zero))))))))) = greater_sign
symbol_with (suc (suc (suc (suc (suc (suc (suc (suc (suc (suc zero)))))))))) = at_least_sign
symbol_with (suc (suc (suc (suc (suc (suc (suc (suc (suc (suc (suc zero))))))))))) = plus_sign
symbol_with (suc (suc (suc (suc (suc (suc (suc (suc (suc (suc (suc (suc zero)))))))))))) = minus_sign
symbol_with (suc (suc (suc (suc (suc (suc (suc (suc (suc (suc (suc (suc (suc zero))))))))))))) = star
symbol_with (suc (suc (suc (suc (suc (suc (suc (suc (suc (suc (suc (suc (suc (suc zero)))))))))))))) = open_round
symbol_with (suc (suc (suc (suc (suc (suc (suc (suc (suc (suc (suc (suc (suc (suc (suc zero))))))))))))))) = close_round
symbol_with (suc (suc (suc (suc (suc (suc (suc (suc (suc (suc (suc (suc (suc (suc (suc (suc zero)))))))))))))))) = open_square
symbol_with (suc (suc (suc (suc (suc (suc (suc (suc (suc (suc (suc (suc (suc (suc (suc (suc (suc zero))))))))))))))))) = close_square
symbol_with (suc (suc (suc (suc (suc (suc (suc (suc (suc (suc (suc (suc (suc (suc (suc (suc (suc (suc zero)))))))))))))))))) = open_curly
symbol_with n = close_curly

symbol_back : (s : Symbol) → symbol_with (code s) ≡ s
unfolding symbol_with
symbol_back colon = refl
symbol_back semicolon = refl
symbol_back comma = refl
symbol_back dot = refl
symbol_back dots = refl
symbol_back equal_sign = refl
symbol_back unequal_sign = refl
symbol_back less_sign = refl
symbol_back at_most_sign = refl
symbol_back greater_sign = refl
symbol_back at_least_sign = refl
symbol_back plus_sign = refl
symbol_back minus_sign = refl
symbol_back star = refl
symbol_back open_round = refl
symbol_back close_round = refl
symbol_back open_square = refl
symbol_back close_square = refl
symbol_back open_curly = refl
symbol_back close_curly = refl

pub is_symbol_is : (ts : List Token) (s : Symbol) → is_symbol (first ts) s ≡ true → ts ≡ a_symbol s ∷ drop 1 ts
unfolding is_symbol
is_symbol_is (a_symbol t ∷ ts) s e = ap (λ (u : Symbol). a_symbol u ∷ ts) (sym (symbol_back t) ∙ sym (ap symbol_with (eqb-true (code s) (code t) e)) ∙ symbol_back s)
is_symbol_is (a_word n ∷ ts) s e = absurd cc
is_symbol_is (a_number n ∷ ts) s e = absurd cc
is_symbol_is (a_text n ∷ ts) s e = absurd cc
is_symbol_is (joined_word n ∷ ts) s e = absurd cc
is_symbol_is (flawed f ∷ ts) s e = absurd cc
is_symbol_is (the_end ∷ ts) s e = absurd cc
is_symbol_is [] s e = absurd cc

pub symbol_tests : (s : Symbol) → Tests (symbol s) (λ t. is_symbol t s)
unfolding is_symbol
symbol_tests s = record { is = λ ts e. is_symbol_is ts s e; again = eq-eqb (code s) (code s) refl }

pub is_word_is : (ts : List Token) (w : Bytes) → is_word (first ts) w ≡ true → ts ≡ a_word w ∷ drop 1 ts
unfolding is_word
is_word_is (a_word n ∷ ts) w e = ap (λ (m : List ℕ). a_word m ∷ ts) ((bytes_eq-Decides n w).0 e)
is_word_is (a_symbol t ∷ ts) w e = absurd cc
is_word_is (a_number n ∷ ts) w e = absurd cc
is_word_is (a_text n ∷ ts) w e = absurd cc
is_word_is (joined_word n ∷ ts) w e = absurd cc
is_word_is (flawed f ∷ ts) w e = absurd cc
is_word_is (the_end ∷ ts) w e = absurd cc
is_word_is [] w e = absurd cc

pub word_tests : (w : Bytes) → Tests (word w) (λ t. is_word t w)
unfolding is_word
word_tests w = record { is = λ ts e. is_word_is ts w e; again = (bytes_eq-Decides w w).1 refl }

word_of_is : (ts : List Token) (n : Bytes) → word_of (first ts) ≡ Some n → ts ≡ a_word n ∷ drop 1 ts
unfolding word_of
word_of_is (a_word m ∷ ts) n e = let h : m ≡ n = cc in ap (λ (w : Bytes). a_word w ∷ ts) h
word_of_is (a_symbol t ∷ ts) n e = absurd cc
word_of_is (a_number m ∷ ts) n e = absurd cc
word_of_is (a_text m ∷ ts) n e = absurd cc
word_of_is (joined_word m ∷ ts) n e = absurd cc
word_of_is (flawed f ∷ ts) n e = absurd cc
word_of_is (the_end ∷ ts) n e = absurd cc
word_of_is [] n e = absurd cc

number_of_is : (ts : List Token) (n : ℤ) → number_of (first ts) ≡ Some n → ts ≡ a_number n ∷ drop 1 ts
unfolding number_of
number_of_is (a_number m ∷ ts) n e = let h : m ≡ n = cc in ap (λ (w : ℤ). a_number w ∷ ts) h
number_of_is (a_word m ∷ ts) n e = absurd cc
number_of_is (a_symbol t ∷ ts) n e = absurd cc
number_of_is (a_text m ∷ ts) n e = absurd cc
number_of_is (joined_word m ∷ ts) n e = absurd cc
number_of_is (flawed f ∷ ts) n e = absurd cc
number_of_is (the_end ∷ ts) n e = absurd cc
number_of_is [] n e = absurd cc

pub text_of_is : (ts : List Token) (n : Bytes) → text_of (first ts) ≡ Some n → ts ≡ a_text n ∷ drop 1 ts
unfolding text_of
text_of_is (a_text m ∷ ts) n e = let h : m ≡ n = cc in ap (λ (w : Bytes). a_text w ∷ ts) h
text_of_is (a_word m ∷ ts) n e = absurd cc
text_of_is (a_number m ∷ ts) n e = absurd cc
text_of_is (a_symbol t ∷ ts) n e = absurd cc
text_of_is (joined_word m ∷ ts) n e = absurd cc
text_of_is (flawed f ∷ ts) n e = absurd cc
text_of_is (the_end ∷ ts) n e = absurd cc
text_of_is [] n e = absurd cc

-- no token of this sort passes a limit
pub no_mark : {Q : Type 0} (l : Limit) → (let o : Option Limit = None in o) ≡ Some l → Q
no_mark l e = absurd cc

pub sound_name : {P : Type 0} → Sound P grammar.a_name Anything name_at
unfolding word_of
sound_name {P} = sound_taken {pick = word_of} (record { is = word_of_is; allowed = λ t b e. tt; again = λ b a. refl; alone = λ b l e u s. no_mark l e; one = codes "a"; one_allowed = tt })

pub sound_number : {P : Type 0} → Sound P grammar.a_number Anything number_at
unfolding number_of
sound_number {P} = sound_taken {pick = number_of} (record { is = number_of_is; allowed = λ t b e. tt; again = λ b a. refl; alone = λ b l e u s. no_mark l e; one = pos 0; one_allowed = tt })

pub sound_text : {P : Type 0} → Sound P grammar.a_text Anything text_at
unfolding text_of
sound_text {P} = sound_taken {pick = text_of} (record { is = text_of_is; allowed = λ t b e. tt; again = λ b a. refl; alone = λ b l e u s. no_mark l e; one = []; one_allowed = tt })

zero_test : (n : ℕ) (b : Bool) → (n == 0) ≡ b → nat_lt 0 n ≡ not b
zero_test n true e = grind (arith, nat_tests)
zero_test n false e = grind (arith, nat_tests)

most_test : (n : ℕ) (b : Bool) → nat_lt 32 n ≡ b → nat_le n 32 ≡ not b
most_test n true e = grind (arith, nat_tests)
most_test n false e = grind (arith, nat_tests)

tests_same : (a b : Bool) (n : ℕ) (o : Option ℕ) → (not a && not b && is_none o) ≡ is_none (cond a (Some Empty) (cond b (Some (TooLong n)) (option_map BadByte o)))
tests_same true b n o = refl
tests_same false true n o = refl
tests_same false false n None = refl
tests_same false false n (Some i) = refl

-- what has no fault is a name
name_test : (t : Bytes) → is_name t ≡ is_none (first_fault t)
name_test t =
    ap (λ (z : Bool). z && nat_le (length t) 32 && is_none (bad_place t)) (zero_test (length t) (length t == 0) refl)
    ∙ ap (λ (z : Bool). not (length t == 0) && z && is_none (bad_place t)) (most_test (length t) (nat_lt 32 (length t)) refl)
    ∙ tests_same (length t == 0) (nat_lt 32 (length t)) (length t) (bad_place t)

if_name_is : (o : Option Bytes) (n : Bytes) → if_name o ≡ Some n → (o ≡ Some n) × (is_none (first_fault n) ≡ true)
if_name_is None n e = absurd cc
if_name_is (Some t) n e = go (is_none (first_fault t)) refl e
  where
    go : (b : Bool) → is_none (first_fault t) ≡ b → (let o : Option Bytes = cond b (Some t) None in o) ≡ Some n → (Some t ≡ Some n) × (is_none (first_fault n) ≡ true)
    go true is e = let h : t ≡ n = cc in (e, ap (λ z. is_none (first_fault z)) (sym h) ∙ is)
    go false is e = absurd cc

name_on : (b : Bool) (t : Bytes) → b ≡ true → (let o : Option Bytes = cond b (Some t) None in o) ≡ Some t
name_on b t e = rw e refl

-- a text that is a name
name_in_is : (ts : List Token) (n : Bytes) → name_in (first ts) ≡ Some n → ts ≡ a_text n ∷ drop 1 ts
unfolding name_in
name_in_is ts n e = text_of_is ts n (if_name_is (text_of (first ts)) n e).0

name_in_allowed : (t : Token) (n : Bytes) → name_in t ≡ Some n → is_name n ≡ true
unfolding name_in
name_in_allowed t n e = name_test n ∙ (if_name_is (text_of t) n e).1

name_in_again : (n : Bytes) → is_name n ≡ true → name_in (a_text n) ≡ Some n
unfolding name_in text_of
name_in_again n e = name_on (is_none (first_fault n)) n (sym (name_test n) ∙ e)

some_name_is : (o : Option Bytes) (ts : List Token) → some_name o ts ≡ (taken o ts >>= λ x. Ok (Some x.0, x.1))
some_name_is None ts = refl
some_name_is (Some n) ts = refl

pub sound_named_text : {P : Type 0} → Sound P (mapped (λ t. Some t) grammar.a_named_text) Anything (λ ts. some_name (name_in (first ts)) ts)
sound_named_text = sound_same (λ ts. some_name (name_in (first ts)) ts) (λ ts. some_name_is (name_in (first ts)) ts) (sound_mapped (λ t. Some t) (sound_taken {pick = name_in} (record { is = name_in_is; allowed = name_in_allowed; again = name_in_again; alone = λ b l e u s. no_mark l e; one = codes "a"; one_allowed = refl })))
