-- Lines of other than their form's number of words.
use Rattle.std.proofs.Common.{◌≡◌, ℕ, ◌<◌, List, [], ◌∷◌, length, Err, refl, sym, ap, ◌∙◌, arith}
use Rattle.std.specs.Prelude.{Option, Result}
use Rattle.ucon_model.specs.CommandLine.{LineRefusal, Word, words_of, wrong_count, one_word, three_names, value_words, set_words, env_words}
use Rattle.ucon_model.specs.Plain.{Bytes}
use Rattle.ucon_reply.specs.Words.{words_from, word_to}
use Rattle.ucon_command.specs.Cuts.{IsSecond}

one_else : {A : Type 0} (kind : Bytes → Option A) (w : Word) (ws : List Word) → (length ws ≡ 1 → ⊥) → one_word kind (w ∷ ws) ≡ Err (wrong_count (length (w ∷ ws)))
unfolding one_word
one_else kind w [] other = refl
one_else kind w (a ∷ []) other = absurd (other refl)
one_else kind w (a ∷ b ∷ ws) other = refl

three_else : (w : Word) (ws : List Word) → (length ws ≡ 3 → ⊥) → three_names (w ∷ ws) ≡ Err (wrong_count (length (w ∷ ws)))
unfolding three_names
three_else w [] other = refl
three_else w (a ∷ []) other = refl
three_else w (a ∷ b ∷ []) other = refl
three_else w (a ∷ b ∷ c ∷ []) other = absurd (other refl)
three_else w (a ∷ b ∷ c ∷ d ∷ ws) other = refl

value_else : (w : Word) (ws : List Word) → (length ws ≡ 3 → ⊥) → value_words (w ∷ ws) ≡ Err (wrong_count (length (w ∷ ws)))
unfolding value_words
value_else w [] other = refl
value_else w (a ∷ []) other = refl
value_else w (a ∷ b ∷ []) other = refl
value_else w (a ∷ b ∷ c ∷ []) other = absurd (other refl)
value_else w (a ∷ b ∷ c ∷ d ∷ ws) other = refl

set_else : (line : Bytes) (w : Word) (ws : List Word) → length ws < 4 → set_words line (w ∷ ws) ≡ Err (wrong_count (length (w ∷ ws)))
unfolding set_words
set_else line w [] few = refl
set_else line w (a ∷ []) few = refl
set_else line w (a ∷ b ∷ []) few = refl
set_else line w (a ∷ b ∷ c ∷ []) few = refl
set_else line w (a ∷ b ∷ c ∷ d ∷ ws) few = absurd (omega (arith, few))

env_else : (line : Bytes) (w : Word) (ws : List Word) → length ws < 2 → env_words line (w ∷ ws) ≡ Err (wrong_count (length (w ∷ ws)))
unfolding env_words
env_else line w [] few = refl
env_else line w (a ∷ []) few = refl
env_else line w (a ∷ b ∷ ws) few = absurd (omega (arith, few))

-- the same of a line's words, of which there are so many
counted : {A : Type 0} (read : List Word → Result A LineRefusal) (second : Option ℕ) (line : Bytes) (n : ℕ) → IsSecond second line → n ≡ length (words_of line)
    → (let ws = word_to 0 second line ∷ words_from second line in read ws ≡ Err (wrong_count (length ws))) → read (words_of line) ≡ Err (wrong_count n)
counted read second line n is many h =
    ap read is.words ∙ h ∙ ap (λ (ws : List Word). Err (wrong_count (length ws))) (sym is.words) ∙ ap (λ (k : ℕ). Err (wrong_count k)) (sym many)

pub one_miscounted : {A : Type 0} (kind : Bytes → Option A) (second : Option ℕ) (line : Bytes) (n : ℕ) → IsSecond second line → n ≡ length (words_of line)
    → (length (words_from second line) ≡ 1 → ⊥) → one_word kind (words_of line) ≡ Err (wrong_count n)
one_miscounted kind second line n is many other = counted (one_word kind) second line n is many (one_else kind _ (words_from second line) other)

pub three_miscounted : (second : Option ℕ) (line : Bytes) (n : ℕ) → IsSecond second line → n ≡ length (words_of line)
    → (length (words_from second line) ≡ 3 → ⊥) → three_names (words_of line) ≡ Err (wrong_count n)
three_miscounted second line n is many other = counted three_names second line n is many (three_else _ (words_from second line) other)

pub value_miscounted : (second : Option ℕ) (line : Bytes) (n : ℕ) → IsSecond second line → n ≡ length (words_of line)
    → (length (words_from second line) ≡ 3 → ⊥) → value_words (words_of line) ≡ Err (wrong_count n)
value_miscounted second line n is many other = counted value_words second line n is many (value_else _ (words_from second line) other)

pub set_miscounted : (second : Option ℕ) (line : Bytes) (n : ℕ) → IsSecond second line → n ≡ length (words_of line)
    → length (words_from second line) < 4 → set_words line (words_of line) ≡ Err (wrong_count n)
set_miscounted second line n is many few = counted (set_words line) second line n is many (set_else line _ (words_from second line) few)

pub env_miscounted : (second : Option ℕ) (line : Bytes) (n : ℕ) → IsSecond second line → n ≡ length (words_of line)
    → length (words_from second line) < 2 → env_words line (words_of line) ≡ Err (wrong_count n)
env_miscounted second line n is many few = counted (env_words line) second line n is many (env_else line _ (words_from second line) few)
