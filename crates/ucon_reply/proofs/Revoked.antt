-- Words that are too few for a revocation.
use Rattle.std.proofs.Common.{◌≡◌, ◌<◌, List, [], ◌∷◌, ◌++◌, length, map, None, refl, sym, ap, ◌∙◌, arith}
use Rattle.std.specs.Prelude.{Option, option_map}
use Rattle.ucon_reply.specs.declared.line_words.Word.{Word}
use Rattle.ucon_reply.specs.Words.{word_of}
use Rattle.ucon_model.specs.declared.reply.Revoked.{Revoked}
use Rattle.ucon_model.specs.ReplyText.{revoked_read}

too_few : (words : List Word) → 0 < length words → length words < 3 → revoked_read (map word_of words) ≡ None
too_few [] some few = absurd (omega (arith, some))
too_few (w ∷ []) some few = refl
too_few (w ∷ v ∷ []) some few = refl
too_few (w ∷ v ∷ u ∷ words) some few = absurd (omega (arith, few))

-- where some words are left, and too few, nothing is read
pub some_left : (rows : List Revoked) (rest : List Word) (all : Option (List Revoked)) → option_map (λ rs. rows ++ rs) (revoked_read (map word_of rest)) ≡ all → 0 < length rest → length rest < 3 → all ≡ None
some_left rows rest all h some few = sym h ∙ ap (option_map (λ rs. rows ++ rs)) (too_few rest some few)
