-- The tokens of a text, one after the other.
use Rattle.std.specs.Prelude.{⊤}
use Rattle.std.proofs.Common.{◌≡◌, ℕ, zero, suc, ◌+◌, ◌-◌, ◌<◌, ◌≤◌, ℤ, Bool, true, false, cond, not, ◌==◌, ◌&&◌, List, [], ◌∷◌, length, take, drop, Option, Some, None, refl, sym, ap, ◌∙◌, arith, length-drop, nat_lt}
use Rattle.std.specs.List.{prefix_len}
use Rattle.ucon_base.specs.NameBytes.{is_letter, is_word_byte}
use Rattle.ucon_base.specs.Reading.{is_digit, text_len}
use Rattle.ucon_base.specs.Tokens.{Token, a_word, a_number, a_text, a_symbol, joined_word, flawed, the_end, too_long, unknown, Symbol, dot, dots, at_most_sign, less_sign, at_least_sign, greater_sign, unequal_sign, Lexed, is_blank, skip, word_len, digits_len, word_token, joined_token, number_of, is_zero_led, number_with, number_token, closed_text, text_token, single, symbol_with, longest, unequal, symbol_token, token_at, token_from, begins_word, next_token, begin_of, fault_from, with_next, with_next_span, tokens_within, tokens_from, spans_within, spans_from, left_at}
use Rattle.ucon_token.specs.Reader.{tokens_on, spans_on, IsTail, goes_on}
use Rattle.ucon_token.specs.Seen.{token_of}
use Rattle.ucon_token.specs.declared.token.Token.{Token as CodeToken}
use Rattle.ucon_token.specs.declared.token.Token.TheVariants as tokens

abbrev lexed : Token → List ℕ → Lexed
lexed t rest = (t, rest)

-- a token that others may follow leaves less than it was read from
abbrev Shortens : ℕ → Lexed → Type 0
Shortens n (the_end, rest) = ⊤
Shortens n (flawed f, rest) = ⊤
Shortens n (joined_word w, rest) = ⊤
Shortens n (a_word w, rest) = length rest < n
Shortens n (a_text w, rest) = length rest < n
Shortens n (a_symbol s, rest) = length rest < n
Shortens n (a_number m, rest) = length rest < n

shortens_more : (m n : ℕ) (x : Lexed) → m ≤ n → Shortens m x → Shortens n x
shortens_more m n (the_end, rest) le s = tt
shortens_more m n (flawed f, rest) le s = tt
shortens_more m n (joined_word w, rest) le s = tt
shortens_more m n (a_word w, rest) le s = omega arith
shortens_more m n (a_text w, rest) le s = omega arith
shortens_more m n (a_symbol y, rest) le s = omega arith
shortens_more m n (a_number k, rest) le s = omega arith

skip_le : (inside : Bool) (bs : List ℕ) → length (skip inside bs) ≤ length bs
unfolding skip
skip_le inside [] = omega arith
skip_le true (b ∷ bs) = omega (arith, skip_le (not (b == 10)) bs)
skip_le false (b ∷ bs) = cases (is_blank b) (b == 35) (skip_le false bs) (skip_le true bs)
  where
    cases : (p q : Bool) → length (skip false bs) ≤ length bs → length (skip true bs) ≤ length bs → length (cond p (skip false bs) (cond q (skip true bs) (b ∷ bs))) ≤ suc (length bs)
    cases true q x y = omega arith
    cases false true x y = omega arith
    cases false false x y = omega arith

drop_first : (p : ℕ → Bool) (b : ℕ) (bs : List ℕ) → p b ≡ true → length (drop (prefix_len p (b ∷ bs)) (b ∷ bs)) < suc (length bs)
drop_first p b bs e = rw e (omega (arith, length-drop (1 + prefix_len p bs) (b ∷ bs)))

word_shortens : (b : ℕ) (bs : List ℕ) → is_letter b ≡ true → Shortens (suc (length bs)) (word_token (b ∷ bs))
unfolding word_token
word_shortens b bs e = cases (nat_lt 32 (word_len (b ∷ bs)))
  where
    cases : (p : Bool) → Shortens (suc (length bs)) (cond p (lexed (flawed too_long) []) (lexed (a_word (take (word_len (b ∷ bs)) (b ∷ bs))) (drop (word_len (b ∷ bs)) (b ∷ bs))))
    cases true = tt
    cases false = drop_first is_word_byte b bs (rw e refl)

number_shortens : (b : ℕ) (bs : List ℕ) → is_digit b ≡ true → Shortens (suc (length bs)) (number_token (b ∷ bs))
unfolding number_token
number_shortens b bs e = cases (is_zero_led (take (digits_len (b ∷ bs)) (b ∷ bs))) (number_of (take (digits_len (b ∷ bs)) (b ∷ bs)))
  where
    cases : (led : Bool) (o : Option ℤ) → Shortens (suc (length bs)) (number_with led o (drop (digits_len (b ∷ bs)) (b ∷ bs)))
    cases led None = tt
    cases true (Some v) = tt
    cases false (Some v) = drop_first is_digit b bs e

closed_shortens : (t : List ℕ) (n : ℕ) (bs : List ℕ) → length bs ≤ n → Shortens n (closed_text t bs)
closed_shortens t n [] le = tt
closed_shortens t n (b ∷ bs) le = cases (b == 34)
  where
    cases : (p : Bool) → Shortens n (cond p (lexed (a_text t) bs) (lexed (flawed unknown) []))
    cases true = omega arith
    cases false = tt

text_shortens : (bs : List ℕ) → Shortens (suc (length bs)) (text_token bs)
unfolding text_token
text_shortens bs = cases (nat_lt 64 (text_len bs))
  where
    cases : (p : Bool) → Shortens (suc (length bs)) (cond p (lexed (flawed too_long) []) (closed_text (take (text_len bs) bs) (drop (text_len bs) bs)))
    cases true = tt
    cases false = closed_shortens (take (text_len bs) bs) (suc (length bs)) (drop (text_len bs) bs) (omega (arith, length-drop (text_len bs) bs))

longest_shortens : (second : ℕ) (long short : Symbol) (bs : List ℕ) → Shortens (suc (length bs)) (longest second long short bs)
longest_shortens second long short [] = omega arith
longest_shortens second long short (b ∷ bs) = cases (b == second)
  where
    cases : (p : Bool) → Shortens (suc (suc (length bs))) (cond p (lexed (a_symbol long) bs) (lexed (a_symbol short) (b ∷ bs)))
    cases true = omega arith
    cases false = omega arith

unequal_shortens : (bs : List ℕ) → Shortens (suc (length bs)) (unequal bs)
unequal_shortens [] = tt
unequal_shortens (b ∷ bs) = cases (b == 61)
  where
    cases : (p : Bool) → Shortens (suc (suc (length bs))) (cond p (lexed (a_symbol unequal_sign) bs) (lexed (flawed unknown) []))
    cases true = omega arith
    cases false = tt

single_shortens : (o : Option Symbol) (bs : List ℕ) → Shortens (suc (length bs)) (symbol_with o bs)
single_shortens None bs = tt
single_shortens (Some s) bs = omega arith

symbol_shortens : (b : ℕ) (bs : List ℕ) → Shortens (suc (length bs)) (symbol_token b bs)
unfolding symbol_token
symbol_shortens b bs = cases (b == 46) (b == 60) (b == 62) (b == 33)
  where
    cases : (p q r s : Bool) → Shortens (suc (length bs)) (cond p (longest 46 dots dot bs) (cond q (longest 61 at_most_sign less_sign bs) (cond r (longest 61 at_least_sign greater_sign bs) (cond s (unequal bs) (symbol_with (single b) bs)))))
    cases true q r s = longest_shortens 46 dots dot bs
    cases false true r s = longest_shortens 61 at_most_sign less_sign bs
    cases false false true s = longest_shortens 61 at_least_sign greater_sign bs
    cases false false false true = unequal_shortens bs
    cases false false false false = single_shortens (single b) bs

token_shortens : (bs : List ℕ) → Shortens (length bs) (token_at bs)
unfolding token_at
token_shortens [] = tt
token_shortens (b ∷ bs) = cases (is_letter b) (is_digit b) (b == 34) (word_shortens b bs) (number_shortens b bs)
  where
    cases : (p q r : Bool) → (p ≡ true → Shortens (suc (length bs)) (word_token (b ∷ bs))) → (q ≡ true → Shortens (suc (length bs)) (number_token (b ∷ bs)))
        → Shortens (suc (length bs)) (cond p (word_token (b ∷ bs)) (cond q (number_token (b ∷ bs)) (cond r (text_token bs) (symbol_token b bs))))
    cases true q r w n = w refl
    cases false true r w n = n refl
    cases false false true w n = text_shortens bs
    cases false false false w n = symbol_shortens b bs

joined_shortens : (n : ℕ) (bs : List ℕ) → Shortens n (joined_token bs)
unfolding joined_token
joined_shortens n bs = cases (nat_lt 32 (word_len bs))
  where
    cases : (p : Bool) → Shortens n (cond p (lexed (flawed too_long) []) (lexed (joined_word (take (word_len bs) bs)) []))
    cases true = tt
    cases false = tt

pub next_shortens : (behind : Bool) (bs : List ℕ) → Shortens (length bs) (next_token behind bs)
unfolding next_token token_from begin_of
next_shortens behind bs = cases (behind && begins_word bs)
  where
    cases : (p : Bool) → Shortens (length bs) (cond p (joined_token (cond p bs (skip false bs))) (token_at (cond p bs (skip false bs))))
    cases true = joined_shortens (length bs) bs
    cases false = shortens_more (length (skip false bs)) (length bs) (token_at (skip false bs)) (skip_le false bs) (token_shortens (skip false bs))

-- more than enough room for the tokens changes nothing
step_same : (x : Lexed) (n : ℕ) (more less : Bool → List ℕ → List Token) → Shortens n x → ((g : Bool) (bs : List ℕ) → length bs < n → more g bs ≡ less g bs) → with_next x more ≡ with_next x less
step_same (the_end, rest) n more less s e = refl
step_same (flawed f, rest) n more less s e = refl
step_same (joined_word w, rest) n more less s e = refl
step_same (a_word w, rest) n more less s e = ap (λ (ts : List Token). a_word w ∷ ts) (e false rest s)
step_same (a_text w, rest) n more less s e = ap (λ (ts : List Token). a_text w ∷ ts) (e false rest s)
step_same (a_symbol y, rest) n more less s e = ap (λ (ts : List Token). a_symbol y ∷ ts) (e false rest s)
step_same (a_number m, rest) n more less s e = ap (λ (ts : List Token). a_number m ∷ ts) (e true rest s)

enough : (n m : ℕ) (behind : Bool) (bs : List ℕ) → length bs < n → length bs < m → tokens_within n behind bs ≡ tokens_within m behind bs
unfolding tokens_within
enough zero m behind bs a b = absurd (omega arith)
enough (suc n) zero behind bs a b = absurd (omega arith)
enough (suc n) (suc m) behind bs a b = step_same (next_token behind bs) (length bs) (tokens_within n) (tokens_within m) (next_shortens behind bs) (λ g cs lt. enough n m g cs (omega arith) (omega arith))

span_same : (x : Lexed) (k n : ℕ) (more less : Bool → List ℕ → List ℕ) → Shortens n x → ((g : Bool) (bs : List ℕ) → length bs < n → more g bs ≡ less g bs) → with_next_span x k more ≡ with_next_span x k less
span_same (the_end, rest) k n more less s e = refl
span_same (flawed f, rest) k n more less s e = refl
span_same (joined_word w, rest) k n more less s e = refl
span_same (a_word w, rest) k n more less s e = ap (λ (ts : List ℕ). k ∷ ts) (e false rest s)
span_same (a_text w, rest) k n more less s e = ap (λ (ts : List ℕ). k ∷ ts) (e false rest s)
span_same (a_symbol y, rest) k n more less s e = ap (λ (ts : List ℕ). k ∷ ts) (e false rest s)
span_same (a_number m, rest) k n more less s e = ap (λ (ts : List ℕ). k ∷ ts) (e true rest s)

enough_spans : (n m : ℕ) (behind : Bool) (bs : List ℕ) → length bs < n → length bs < m → spans_within n behind bs ≡ spans_within m behind bs
unfolding spans_within
enough_spans zero m behind bs a b = absurd (omega arith)
enough_spans (suc n) zero behind bs a b = absurd (omega arith)
enough_spans (suc n) (suc m) behind bs a b = span_same (next_token behind bs) (length (fault_from (begin_of behind bs))) (length bs) (spans_within n) (spans_within m) (next_shortens behind bs) (λ g cs lt. enough_spans n m g cs (omega arith) (omega arith))

-- the tokens are the next one, and those behind it
pub tokens_step : (behind : Bool) (bs : List ℕ) → tokens_from behind bs ≡ with_next (next_token behind bs) tokens_from
unfolding tokens_from tokens_within
tokens_step behind bs = let k : length bs + 1 ≡ suc (length bs) = omega arith in rw k (step_same (next_token behind bs) (length bs) (tokens_within (length bs)) (λ g cs. tokens_within (length cs + 1) g cs) (next_shortens behind bs) (λ g cs lt. enough (length bs) (length cs + 1) g cs lt (omega arith)))

pub spans_step : (behind : Bool) (bs : List ℕ) → spans_from behind bs ≡ with_next_span (next_token behind bs) (length (fault_from (begin_of behind bs))) spans_from
unfolding spans_from spans_within
spans_step behind bs = let k : length bs + 1 ≡ suc (length bs) = omega arith in rw k (span_same (next_token behind bs) (length (fault_from (begin_of behind bs))) (length bs) (spans_within (length bs)) (λ g cs. spans_within (length cs + 1) g cs) (next_shortens behind bs) (λ g cs lt. enough_spans (length bs) (length cs + 1) g cs lt (omega arith)))

pub tail_all : (whole part : List ℕ) → whole ≡ part → IsTail part whole
tail_all whole part e = rw e (record { short = omega arith; same = let k : length part - length part ≡ 0 = omega arith in rw k refl })

drop_one : (d : ℕ) (xs : List ℕ) (n : ℕ) (part : List ℕ) → drop d xs ≡ n ∷ part → drop (suc d) xs ≡ part
drop_one zero [] n part e = absurd cc
drop_one zero (x ∷ xs) n part e = cc
drop_one (suc d) [] n part e = absurd cc
drop_one (suc d) (x ∷ xs) n part e = drop_one d xs n part e

pub tail_rest : (whole part : List ℕ) (n : ℕ) → IsTail (n ∷ part) whole → IsTail part whole
tail_rest whole part n t =
    let k : length whole - length part ≡ suc (length whole - length (n ∷ part)) = omega (arith, t.short) in
    record { short = omega (arith, t.short); same = rw k (drop_one (length whole - length (n ∷ part)) whole n part t.same) }

-- ---- one step of the reader

pub tokens_after : (t : Token) (behind : Bool) (rest : List ℕ) → goes_on t ≡ Some behind → drop 1 (tokens_on t rest) ≡ tokens_from behind rest
tokens_after (a_word n) behind rest e = let g : false ≡ behind = cc in rw (← g) refl
tokens_after (a_text n) behind rest e = let g : false ≡ behind = cc in rw (← g) refl
tokens_after (a_symbol n) behind rest e = let g : false ≡ behind = cc in rw (← g) refl
tokens_after (a_number n) behind rest e = let g : true ≡ behind = cc in rw (← g) refl
tokens_after (flawed f) behind rest e = absurd cc
tokens_after (joined_word w) behind rest e = absurd cc
tokens_after the_end behind rest e = absurd cc

pub tokens_ended : (t : Token) (rest : List ℕ) → goes_on t ≡ None → drop 1 (tokens_on t rest) ≡ []
tokens_ended (flawed f) rest e = refl
tokens_ended (joined_word w) rest e = refl
tokens_ended the_end rest e = refl
tokens_ended (a_word n) rest e = absurd cc
tokens_ended (a_text n) rest e = absurd cc
tokens_ended (a_symbol n) rest e = absurd cc
tokens_ended (a_number n) rest e = absurd cc

pub tail_after : (t : Token) (behind : Bool) (n : ℕ) (rest whole : List ℕ) → goes_on t ≡ Some behind → IsTail (spans_on t n rest) whole → IsTail (spans_from behind rest) whole
tail_after (a_word w) behind n rest whole e t = let g : false ≡ behind = cc in rw (← g) (tail_rest whole (spans_from false rest) n t)
tail_after (a_text w) behind n rest whole e t = let g : false ≡ behind = cc in rw (← g) (tail_rest whole (spans_from false rest) n t)
tail_after (a_symbol w) behind n rest whole e t = let g : false ≡ behind = cc in rw (← g) (tail_rest whole (spans_from false rest) n t)
tail_after (a_number w) behind n rest whole e t = let g : true ≡ behind = cc in rw (← g) (tail_rest whole (spans_from true rest) n t)
tail_after (flawed f) behind n rest whole e t = absurd cc
tail_after (joined_word w) behind n rest whole e t = absurd cc
tail_after the_end behind n rest whole e t = absurd cc

drop_all : (xs : List ℕ) → drop (length xs) xs ≡ []
drop_all [] = refl
drop_all (x ∷ xs) = drop_all xs

pub tail_none : (whole : List ℕ) → IsTail [] whole
tail_none whole = record { short = omega arith; same = let k : length whole - 0 ≡ length whole = omega arith in rw k (drop_all whole) }

lengths_step : (x : Lexed) (k : ℕ) (more : Bool → List ℕ → List Token) (spans : Bool → List ℕ → List ℕ) → ((g : Bool) (bs : List ℕ) → length (spans g bs) ≡ length (more g bs)) → length (with_next_span x k spans) ≡ length (with_next x more)
lengths_step (the_end, rest) k more spans e = refl
lengths_step (flawed f, rest) k more spans e = refl
lengths_step (joined_word w, rest) k more spans e = refl
lengths_step (a_word w, rest) k more spans e = ap suc (e false rest)
lengths_step (a_text w, rest) k more spans e = ap suc (e false rest)
lengths_step (a_symbol y, rest) k more spans e = ap suc (e false rest)
lengths_step (a_number m, rest) k more spans e = ap suc (e true rest)

lengths_within : (n : ℕ) (behind : Bool) (bs : List ℕ) → length (spans_within n behind bs) ≡ length (tokens_within n behind bs)
unfolding spans_within tokens_within
lengths_within zero behind bs = refl
lengths_within (suc n) behind bs = lengths_step (next_token behind bs) (length (fault_from (begin_of behind bs))) (tokens_within n) (spans_within n) (lengths_within n)

lengths_from : (behind : Bool) (bs : List ℕ) → length (spans_from behind bs) ≡ length (tokens_from behind bs)
unfolding spans_from tokens_from
lengths_from behind bs = lengths_within (length bs + 1) behind bs

same_length : (t : Token) (n : ℕ) (rest : List ℕ) → length (spans_on t n rest) ≡ length (tokens_on t rest)
same_length (a_word w) n rest = ap suc (lengths_from false rest)
same_length (a_text w) n rest = ap suc (lengths_from false rest)
same_length (a_symbol w) n rest = ap suc (lengths_from false rest)
same_length (a_number w) n rest = ap suc (lengths_from true rest)
same_length (flawed f) n rest = refl
same_length (joined_word w) n rest = refl
same_length the_end n rest = refl

-- the place of the reader's token
pub place_here : (t : Token) (n : ℕ) (rest text : List ℕ) → IsTail (spans_on t n rest) (spans_from false text) → left_at (drop (length (spans_from false text) - length (tokens_on t rest)) (spans_from false text)) ≡ left_at (spans_on t n rest)
place_here t n rest text tail = ap (λ (k : ℕ). left_at (drop (length (spans_from false text) - k) (spans_from false text))) (sym (same_length t n rest)) ∙ ap left_at tail.same

pub left_here : (t : Token) (n : ℕ) (rest : List ℕ) → (t ≡ the_end → ⊥) → left_at (spans_on t n rest) ≡ n
left_here (a_word w) n rest ne = refl
left_here (a_text w) n rest ne = refl
left_here (a_symbol w) n rest ne = refl
left_here (a_number w) n rest ne = refl
left_here (flawed f) n rest ne = refl
left_here (joined_word w) n rest ne = refl
left_here the_end n rest ne = absurd (ne refl)

pub not_ended : (t : CodeToken) → (t ≡ tokens.End → ⊥) → token_of t ≡ the_end → ⊥
not_ended tokens.End ne e = ne refl
not_ended (tokens.Word w) ne e = absurd cc
not_ended (tokens.Number w) ne e = absurd cc
not_ended (tokens.Text w) ne e = absurd cc
not_ended (tokens.Symbol w) ne e = absurd cc
not_ended (tokens.Joined w) ne e = absurd cc
not_ended (tokens.Bad w) ne e = absurd cc

pub joined_begins : (behind : Bool) (bs : List ℕ) → (behind && begins_word bs) ≡ true → begins_word (begin_of behind bs) ≡ true
unfolding begin_of
joined_begins true bs is = rw is is
joined_begins false bs is = absurd cc
