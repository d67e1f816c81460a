-- The words of a line where they stand in it.
use Rattle.std.proofs.Common.{◌≡◌, ℕ, suc, Bool, ◌+◌, ◌-◌, ◌<◌, List, [], ◌∷◌, length, take, drop, Some, None, refl, sym, ap, ◌∙◌, arith, length-take}
use Rattle.std.specs.Prelude.{position, ◌==◌}
use Rattle.std.specs.List.{slice_split}
use Rattle.std.proofs.lemmas.List.{drop-drop}
use Rattle.std.proofs.lemmas.List.Splits.{length-slice_split}
use Rattle.ucon_model.specs.CommandLine.{placed}
use Rattle.ucon_model.specs.Plain.{Bytes}
use Rattle.ucon_reply.specs.Words.{words_at, between}
use Rattle.ucon_reply.proofs.Growing.{split_at_place, split_nowhere}

-- ---- one word, and those behind it

pub word_then : (line : Bytes) (at len : ℕ) (rest : Bytes) → rest ≡ drop at line → position (λ b. b == 32) rest ≡ Some len → len < length rest
    → words_at at line ≡ record { at = at; text = between at (at + len + 1) line } ∷ words_at (at + len + 1) line
word_then line at len rest same here inside =
    let p : ℕ → Bool = λ b. b == 32 in
    let next : at + length (take len rest) + 1 ≡ at + len + 1 = omega (arith, length-take len rest, inside) in
    let far : at + (len + 1) ≡ at + len + 1 = omega arith in
    let long : len ≡ at + len + 1 - 1 - at = omega arith in
    ap (λ (bs : Bytes). placed at (slice_split p bs)) (sym same)
    ∙ ap (placed at) (split_at_place p rest len here)
    ∙ ap (λ (n : ℕ). record { at = at; text = take len rest } ∷ placed n (slice_split p (drop (len + 1) rest))) next
    ∙ ap (λ (bs : Bytes). record { at = at; text = take len bs } ∷ placed (at + len + 1) (slice_split p (drop (len + 1) bs))) same
    ∙ ap (λ (bs : Bytes). record { at = at; text = take len (drop at line) } ∷ placed (at + len + 1) (slice_split p bs)) (drop-drop (len + 1) at line ∙ ap (λ (i : ℕ). drop i line) far)
    ∙ ap (λ (i : ℕ). record { at = at; text = take i (drop at line) } ∷ words_at (at + len + 1) line) long

pub word_last : (line : Bytes) (at : ℕ) → position (λ b. b == 32) (drop at line) ≡ None → words_at at line ≡ record { at = at; text = drop at line } ∷ []
word_last line at none = ap (placed at) (split_nowhere (λ b. b == 32) (drop at line) none)

-- ---- how many words there are

length-placed : (at : ℕ) (ws : List Bytes) → length (placed at ws) ≡ length ws
length-placed at [] = refl
length-placed at (w ∷ ws) = ap suc (length-placed (at + length w + 1) ws)

pub words_some : (line : Bytes) (at : ℕ) → 0 < length (words_at at line)
words_some line at = omega (arith, length-placed at (slice_split (λ b. b == 32) (drop at line)), length-slice_split (λ b. b == 32) (drop at line))
