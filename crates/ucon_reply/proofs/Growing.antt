-- How a line's words grow as it is cut at its spaces.
use Rattle.std.proofs.Common.{◌≡◌, ℕ, ◌+◌, ◌<◌, ◌≤◌, Bool, true, false, cond, List, [], ◌∷◌, ◌++◌, length, take, drop, map, refl, sym, ap, ◌∙◌, append_assoc, arith, length-take}
use Rattle.std.specs.Prelude.{Some, None, position, ◌==◌, nat_lt}
use Rattle.std.specs.List.{slice_split, position_or_len}
use Rattle.std.proofs.lemmas.Bool.{ltb-false, ltb-true}
use Rattle.std.proofs.lemmas.List.{map-append}
use Rattle.std.proofs.lemmas.List.Sums.{fails_before_first}
use Rattle.std.proofs.lemmas.List.Splits.{slice_split_first, slice_split_none}
use Rattle.ucon_reply.specs.declared.line_words.Word.{Word}
use Rattle.ucon_reply.specs.Words.{word_of, BeginWithin}
use Rattle.ucon_model.specs.CommandLine as model

found : (b : Bool) (n i : ℕ) → cond b (Some n) None ≡ Some i → (b ≡ true) × (n ≡ i)
found true n i e = (refl, cc)
found false n i e = absurd cc

not_found : (b : Bool) (n : ℕ) → cond b (Some n) None ≡ None → b ≡ false
not_found true n e = absurd cc
not_found false n e = refl

pub split_at_place : (p : ℕ → Bool) (xs : List ℕ) (i : ℕ) → position p xs ≡ Some i → slice_split p xs ≡ take i xs ∷ slice_split p (drop (i + 1) xs)
split_at_place p xs i e =
    let h = found (nat_lt (position_or_len p xs) (length xs)) (position_or_len p xs) i e in
    let lt : position_or_len p xs < length xs = ltb-true _ _ h.0 in
    slice_split_first p xs 0 lt ∙ ap (λ (n : ℕ). take n xs ∷ slice_split p (drop (n + 1) xs)) h.1

pub split_nowhere : (p : ℕ → Bool) (xs : List ℕ) → position p xs ≡ None → slice_split p xs ≡ xs ∷ []
split_nowhere p xs e =
    let h = not_found (nat_lt (position_or_len p xs) (length xs)) (position_or_len p xs) e in
    let le : length xs ≤ position_or_len p xs = ltb-false _ _ h in
    slice_split_none p xs (λ k d lt. fails_before_first p xs k d (omega arith))

abbrev words_at : ℕ → List ℕ → List model.Word
words_at at bs = model.placed at (slice_split (λ b. b == 32) bs)

-- one word more
pub word_more : (before after : List Word) (w : Word) (rest next : List ℕ) (i : ℕ) (all : List model.Word)
    → after ≡ before ++ w ∷ [] → w.text.now ≡ take i rest → next ≡ drop (i + 1) rest → position (λ b. b == 32) rest ≡ Some i → i < length rest
    → map word_of before ++ words_at w.at rest ≡ all
    → map word_of after ++ words_at (w.at + (i + 1)) next ≡ all
word_more before after w rest next i all grown front back place inside more =
    let here : w.at + length (take i rest) + 1 ≡ w.at + (i + 1) = omega (arith, length-take i rest, inside) in
    let cut : words_at w.at rest ≡ word_of w ∷ words_at (w.at + (i + 1)) next =
    ap (model.placed w.at) (split_at_place (λ b. b == 32) rest i place)
    ∙ ap (λ (n : ℕ). record { at = w.at; text = take i rest } ∷ words_at n (drop (i + 1) rest)) here
    ∙ ap (λ (t : List ℕ). record { at = w.at; text = t } ∷ words_at (w.at + (i + 1)) (drop (i + 1) rest)) (sym front)
    ∙ ap (λ (bs : List ℕ). word_of w ∷ words_at (w.at + (i + 1)) bs) (sym back) in
    ap (λ ws. map word_of ws ++ words_at (w.at + (i + 1)) next) grown
    ∙ ap (λ ws. ws ++ words_at (w.at + (i + 1)) next) (map-append word_of before (w ∷ []))
    ∙ append_assoc (map word_of before) (word_of w ∷ []) (words_at (w.at + (i + 1)) next)
    ∙ ap (λ ws. map word_of before ++ ws) (sym cut) ∙ more

pub last_word : (before after : List Word) (w : Word) (all : List model.Word)
    → after ≡ before ++ w ∷ [] → position (λ b. b == 32) w.text.now ≡ None
    → map word_of before ++ words_at w.at w.text.now ≡ all
    → map word_of after ≡ all
last_word before after w all grown none more =
    ap (map word_of) grown ∙ map-append word_of before (w ∷ [])
    ∙ ap (λ ws. map word_of before ++ model.placed w.at ws) (sym (split_nowhere (λ b. b == 32) w.text.now none)) ∙ more

within_append : (line : List ℕ) (ws : List Word) (w : Word) → w.at ≤ length line → BeginWithin line ws → BeginWithin line (ws ++ w ∷ [])
within_append line [] w le h = (le, tt)
within_append line (v ∷ ws) w le h = (h.0, within_append line ws w le h.1)

pub within_more : (line : List ℕ) (before after : List Word) (w : Word) → after ≡ before ++ w ∷ [] → w.at ≤ length line → BeginWithin line before → BeginWithin line after
within_more line before after w grown le h = rw grown (within_append line before w le h)
