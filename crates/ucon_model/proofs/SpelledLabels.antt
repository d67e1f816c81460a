-- The labels of a policy that a text spells are names.
use Rattle.std.proofs.Common.{◌≡◌, ℕ, zero, suc, ◌+◌, ◌<◌, ◌≤◌, inl, inr, Bool, true, false, cond, not, ◌==◌, List, [], ◌∷◌, length, take, drop, Option, Some, None, refl, sym, ap, subst, arith, nat_lt, option_map}
use Rattle.std.specs.Prelude.{position, nat_le, ◌&&◌, ◌||◌, is_none, IsTrue, ⊤}
use Rattle.std.specs.List.{prefix_len, position_or_len}
use Rattle.std.proofs.lemmas.Bool.Decides.{nat_tests}
use Rattle.std.proofs.lemmas.List.Folds.{length-prefix_len}
use Rattle.ucon_base.specs.Elements.{Each, each_parts}
use Rattle.ucon_base.specs.NameBytes.{is_letter, is_name, is_word_byte, bad_place}
use Rattle.ucon_base.specs.Reading.{is_digit, text_len}
use Rattle.ucon_base.specs.Tokens.{Token, Lexed, Symbol, a_word, a_number, a_text, a_symbol, joined_word, flawed, the_end, word_len, begins_word, word_token, joined_token, number_with, number_token, closed_text, text_token, single, symbol_with, longest, unequal, symbol_token, token_at, begin_of, token_from, next_token, with_next, tokens_within, tokens_from, tokens_of, at_most_sign, less_sign, at_least_sign, greater_sign, dots, dot}
use Rattle.ucon_model.specs.Plain.{Bytes, PlainPredicate, PlainPolicy}
use Rattle.ucon_model.specs.Forms.{as_token, Marked, Form, Items, items_tokens, items_tree, bare}
use Rattle.ucon_model.specs.Grammar.{a_policy, a_pred, a_right, attrs, envs, preds, PhaseCount, count_phase}
use Rattle.ucon_model.specs.Spells.{Spells}

-- each predicate's label is a name
abbrev pub HasLabel : PlainPredicate → Type 0
HasLabel p = IsTrue (is_name p.label)

abbrev pub HasLabels : PlainPolicy → Type 0
HasLabels P = Each (λ r. Each HasLabel r.preds) P.rights

-- ---- a word's bytes are a name

one_more : (m n : ℕ) → m ≡ n → 1 + m ≡ suc n
one_more m n e = omega arith

passes_on : (p : ℕ → Bool) (b : ℕ) (bs : List ℕ) (q : Bool) → p b ≡ q → position_or_len (λ x. not (p x)) (take (prefix_len p bs) bs) ≡ length (take (prefix_len p bs) bs)
    → position_or_len (λ x. not (p x)) (take (prefix_len p (b ∷ bs)) (b ∷ bs)) ≡ length (take (prefix_len p (b ∷ bs)) (b ∷ bs))
passes_on p b bs true e rest = let one : 1 + prefix_len p bs ≡ suc (prefix_len p bs) = omega arith in rw (e, one, e) (one_more _ _ rest)
passes_on p b bs false e rest = rw e refl

run_passes : (p : ℕ → Bool) (bs : List ℕ) → position_or_len (λ x. not (p x)) (take (prefix_len p bs) bs) ≡ length (take (prefix_len p bs) bs)
run_passes p [] = refl
run_passes p (b ∷ bs) = passes_on p b bs (p b) refl (run_passes p bs)

not_below : (m n : ℕ) → m ≡ n → nat_lt m n ≡ false
not_below m n e = grind (arith, nat_tests)

all_pass : (p : ℕ → Bool) (bs : List ℕ) → position (λ x. not (p x)) (take (prefix_len p bs) bs) ≡ None
all_pass p bs =
    let xs = take (prefix_len p bs) bs in
    ap (λ (b : Bool). cond b (Some (position_or_len (λ x. not (p x)) xs)) None) (not_below (position_or_len (λ x. not (p x)) xs) (length xs) (run_passes p bs))

no_bad_place : (bs : List ℕ) → begins_word bs ≡ true → bad_place (take (word_len bs) bs) ≡ None
no_bad_place [] begins = absurd cc
no_bad_place (b ∷ bs) begins =
    let passes : is_word_byte b ≡ true = rw begins refl in
    let one : 1 + word_len bs ≡ suc (word_len bs) = omega arith in
    rw (passes, one, begins) (ap (option_map (λ (i : ℕ). i + 1)) (all_pass is_word_byte bs))

some_run : (bs : List ℕ) → begins_word bs ≡ true → 0 < word_len bs
some_run [] begins = absurd cc
some_run (b ∷ bs) begins =
    let passes : is_word_byte b ≡ true = rw begins refl in
    rw passes (omega arith)

name_if : (xs : List ℕ) → 0 < length xs → length xs ≤ 32 → bad_place xs ≡ None → is_name xs ≡ true
name_if xs some short none =
    let first : nat_lt 0 (length xs) ≡ true = grind (arith, nat_tests) in
    let second : nat_le (length xs) 32 ≡ true = grind (arith, nat_tests) in
    rw (first, second, none) refl

name_run : (bs : List ℕ) → begins_word bs ≡ true → nat_lt 32 (word_len bs) ≡ false → is_name (take (word_len bs) bs) ≡ true
name_run bs begins short =
    let len = length-prefix_len is_word_byte bs in
    let few : word_len bs ≤ 32 = grind (arith, nat_tests) in
    name_if (take (word_len bs) bs) (omega (arith, len, some_run bs begins)) (omega (arith, len, few)) (no_bad_place bs begins)

-- ---- tokens

-- a word is a name
abbrev IsNamed : Token → Type 0
IsNamed (a_word name) = is_name name ≡ true
IsNamed t = ⊤

either : (b : Bool) (x y : Lexed) → (b ≡ true → IsNamed x.0) → (b ≡ false → IsNamed y.0) → IsNamed (cond b x y).0
either true x y p q = p refl
either false x y p q = q refl

word_named : (bs : Bytes) → begins_word bs ≡ true → IsNamed (word_token bs).0
unfolding word_token
word_named bs begins = either (nat_lt 32 (word_len bs)) _ _ (λ long. tt) (λ short. name_run bs begins short)

joined_named : (bs : Bytes) → IsNamed (joined_token bs).0
unfolding joined_token
joined_named bs = either (nat_lt 32 (word_len bs)) _ _ (λ long. tt) (λ short. tt)

number_named : (led : Bool) (o : Option Rattle.std.specs.Prelude.ℤ) (rest : Bytes) → IsNamed (number_with led o rest).0
number_named led None rest = tt
number_named true (Some n) rest = tt
number_named false (Some n) rest = tt

numbers_named : (bs : Bytes) → IsNamed (number_token bs).0
unfolding number_token
numbers_named bs = number_named _ _ _

closed_named : (t rest : Bytes) → IsNamed (closed_text t rest).0
closed_named t [] = tt
closed_named t (b ∷ bs) = either (b == 34) _ _ (λ h. tt) (λ h. tt)

text_named : (bs : Bytes) → IsNamed (text_token bs).0
unfolding text_token
text_named bs = either (nat_lt 64 (text_len bs)) _ _ (λ h. tt) (λ h. closed_named (take (text_len bs) bs) (drop (text_len bs) bs))

longest_named : (second : ℕ) (long short : Symbol) (bs : Bytes) → IsNamed (longest second long short bs).0
longest_named second long short [] = tt
longest_named second long short (b ∷ bs) = either (b == second) _ _ (λ h. tt) (λ h. tt)

unequal_named : (bs : Bytes) → IsNamed (unequal bs).0
unequal_named [] = tt
unequal_named (b ∷ bs) = either (b == 61) _ _ (λ h. tt) (λ h. tt)

with_named : (o : Option Symbol) (bs : Bytes) → IsNamed (symbol_with o bs).0
with_named None bs = tt
with_named (Some s) bs = tt

symbol_named : (b : ℕ) (bs : Bytes) → IsNamed (symbol_token b bs).0
unfolding symbol_token
symbol_named b bs =
    either (b == 46) _ _ (λ h. longest_named 46 dots dot bs) (λ h.
    either (b == 60) _ _ (λ h. longest_named 61 at_most_sign less_sign bs) (λ h.
    either (b == 62) _ _ (λ h. longest_named 61 at_least_sign greater_sign bs) (λ h.
    either (b == 33) _ _ (λ h. unequal_named bs) (λ h. with_named (single b) bs))))

at_named : (bs : Bytes) → IsNamed (token_at bs).0
unfolding token_at
at_named [] = tt
at_named (b ∷ bs) =
    either (is_letter b) _ _ (λ letter. word_named (b ∷ bs) letter) (λ h.
    either (is_digit b) _ _ (λ h. numbers_named (b ∷ bs)) (λ h.
    either (b == 34) _ _ (λ h. text_named bs) (λ h. symbol_named b bs)))

next_named : (behind : Bool) (bs : Bytes) → IsNamed (next_token behind bs).0
unfolding next_token token_from
next_named behind bs = either (behind && begins_word bs) _ _ (λ h. joined_named (begin_of behind bs)) (λ h. at_named (begin_of behind bs))

with_rest : (l : Lexed) (more : Bool → Bytes → List Token) → IsNamed l.0 → ((behind : Bool) (bs : Bytes) → Each IsNamed (more behind bs)) → Each IsNamed (with_next l more)
with_rest (the_end, rest) more here each = tt
with_rest (flawed f, rest) more here each = (tt, tt)
with_rest (joined_word n, rest) more here each = (tt, tt)
with_rest (a_word n, rest) more here each = (here, each false rest)
with_rest (a_text t, rest) more here each = (tt, each false rest)
with_rest (a_symbol s, rest) more here each = (tt, each false rest)
with_rest (a_number n, rest) more here each = (tt, each true rest)

within_named : (n : ℕ) (behind : Bool) (bs : Bytes) → Each IsNamed (tokens_within n behind bs)
unfolding tokens_within
within_named zero behind bs = tt
within_named (suc n) behind bs = with_rest (next_token behind bs) (tokens_within n) (next_named behind bs) (within_named n)

tokens_named : (bytes : Bytes) → Each IsNamed (tokens_of bytes)
unfolding tokens_from
tokens_named bytes = within_named (length bytes + 1) false bytes

-- ---- what is written

abbrev Named : Marked → Type 0
Named m = IsNamed (as_token m.0)

of_bare : (ms : List Marked) → Each IsNamed (bare ms) → Each Named ms
of_bare [] h = tt
of_bare (m ∷ ms) h = (h.0, of_bare ms h.1)

-- what holds of each item's tree holds of the list
items_each : {N A : Type 0} (each : N → Form A) (count : N → A → N) (Q : A → Type 0)
    → ((n : N) (s : (each n).Written) → Each Named ((each n).tokens s) → Q ((each n).tree s))
    → (k : ℕ) (n : N) (s : Items each count k n) → Each Named (items_tokens each count k n s) → Each Q (items_tree each count k n s)
items_each each count Q one zero n s h = tt
items_each each count Q one (suc k) n s h =
    let parts = each_parts Named ((each n).tokens s.0) (items_tokens each count k (count n ((each n).tree s.0)) s.1) h in
    (one n s.0 parts.0, items_each each count Q one k (count n ((each n).tree s.0)) s.1 parts.1)

pred_labelled : (n : PhaseCount) (s : (a_pred n).Written) → Each Named ((a_pred n).tokens s) → HasLabel ((a_pred n).tree s)
pred_labelled n (phase, inl w) h = h.1.1.0
pred_labelled n (phase, inr (inl w)) h = h.1.1.0
pred_labelled n (phase, inr (inr w)) h = h.1.1.0

right_labelled : (n : ℕ) (s : (a_right n).Written) → Each Named ((a_right n).tokens s) → Each HasLabel ((a_right n).tree s).preds
right_labelled n s h =
    let parts = each_parts Named (preds.tokens s.1.0) _ h.1.1.1 in
    items_each a_pred (λ n p. count_phase n p.phase) HasLabel pred_labelled s.1.0.0 (record { pre = 0; ongoing = 0 }) s.1.0.1 parts.0

policy_labelled : (s : a_policy.Written) → Each Named (a_policy.tokens s) → HasLabels (a_policy.tree s)
policy_labelled s h =
    let behind = each_parts Named (attrs.tokens s.0) _ h in
    let last = each_parts Named (envs.tokens s.1.0) _ behind.1 in
    items_each a_right (λ n r. suc n) (λ r. Each HasLabel r.preds) right_labelled s.1.1.0 0 s.1.1.1 last.1

pub spelled_labels : (bytes : Bytes) (P : PlainPolicy) → Spells bytes P → HasLabels P
spelled_labels bytes P spells =
    let spelled = spells.spelled in
    let named : Each IsNamed (bare (a_policy.tokens spelled.written)) = subst (λ (ts : List Token). Each IsNamed ts) (sym spelled.tokens) (tokens_named bytes) in
    subst HasLabels spelled.tree (policy_labelled spelled.written (of_bare (a_policy.tokens spelled.written) named))
