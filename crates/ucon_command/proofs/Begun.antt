-- Lines that begin with a word of three letters and a space: their first word needn't be sought.
use Rattle.std.proofs.Common.{ℕ, ◌≡◌, ◌≤◌, true, false, cond, ◌∷◌, length, drop, [], Some, Err, refl, sym, ap, ◌∙◌, arith}
use Rattle.std.specs.Prelude.{codes, nat_eq, nat_lt, slice_range, ◌==◌}
use Rattle.std.specs.List.{starts_with}
use Rattle.std.proofs.lemmas.Bool.{ltb-false}
use Rattle.std.proofs.lemmas.Bool.Decides.{Decides-eqb}
use Rattle.std.proofs.lemmas.Slice.Eq.{starts_is}
use Rattle.ucon_command.specs.Cuts.{IsSecond}
use Rattle.ucon_model.specs.CommandLine.{Word, placed, words_of, words_read, set_words, command_read, line_read, line_too_long, most_bytes}
use Rattle.ucon_model.specs.Plain.{Bytes}
use Rattle.ucon_reply.specs.Joined.{split, split_first}
use Rattle.ucon_reply.specs.Words.{words_at}
use Rattle.ucon_syntax.specs.Policies.{accepted}

-- of three letters, none of which is a space, and by which no line amends
module _ (a b c : ℕ) (lacks : ((a == 32) ≡ false) × ((b == 32) ≡ false) × ((c == 32) ≡ false))
    (least : (rest : Bytes) → most_bytes (a ∷ b ∷ c ∷ 32 ∷ rest) ≡ 8192)
    (line : Bytes) (begins : starts_with nat_eq line (a ∷ b ∷ c ∷ 32 ∷ []) ≡ true) where
  whole : line ≡ a ∷ b ∷ c ∷ 32 ∷ drop 4 line
  whole = (starts_is Decides-eqb line (a ∷ b ∷ c ∷ 32 ∷ []) true (sym begins)).0 refl

  abbrev word : Bytes
  word = a ∷ b ∷ c ∷ []

  abbrev first : Word
  first = record { at = 0; text = word }

  words : words_of line ≡ first ∷ words_at 4 line
  words = ap (placed 0) (ap split whole ∙ split_first word (drop 4 line) (lacks.0, (lacks.1, (lacks.2, tt))))

  text : slice_range line 0 3 ≡ word
  text = ap (λ (bs : Bytes). slice_range bs 0 3) whole

  second : IsSecond (Some 4) line
  second = record {
    words = words ∙ ap (λ (t : Bytes). record { at = 0; text = t } ∷ words_at 4 line) (sym text);
    within = omega (arith, ap length whole);
    behind = omega arith;
  }

  short : nat_lt (most_bytes line) (length line) ≡ false → length line ≤ 8192
  short fits = omega (arith, ltb-false (most_bytes line) (length line) fits, ap most_bytes whole ∙ least (drop 4 line))

  -- what is read of such a line, where it isn't too long
  read : nat_lt (most_bytes line) (length line) ≡ false → line_read accepted line ≡ command_read accepted line word (words_of line)
  unfolding line_read
  read fits =
      ap (λ b. cond b (Err (line_too_long (length line))) (words_read accepted line (words_of line))) fits
      ∙ ap (words_read accepted line) words ∙ ap (command_read accepted line word) (sym words)

module _ (line : Bytes) where
  pub try_second : starts_with nat_eq line (codes "try ") ≡ true → IsSecond (Some 4) line
  try_second = second 116 114 121 (refl, refl, refl) (λ rest. refl) line

  pub try_short : starts_with nat_eq line (codes "try ") ≡ true → nat_lt (most_bytes line) (length line) ≡ false → length line ≤ 8192
  try_short = short 116 114 121 (refl, refl, refl) (λ rest. refl) line

  pub try_read : starts_with nat_eq line (codes "try ") ≡ true → nat_lt (most_bytes line) (length line) ≡ false → line_read accepted line ≡ command_read accepted line (codes "try") (words_of line)
  try_read = read 116 114 121 (refl, refl, refl) (λ rest. refl) line

  pub act_second : starts_with nat_eq line (codes "act ") ≡ true → IsSecond (Some 4) line
  act_second = second 97 99 116 (refl, refl, refl) (λ rest. refl) line

  pub act_short : starts_with nat_eq line (codes "act ") ≡ true → nat_lt (most_bytes line) (length line) ≡ false → length line ≤ 8192
  act_short = short 97 99 116 (refl, refl, refl) (λ rest. refl) line

  pub act_read : starts_with nat_eq line (codes "act ") ≡ true → nat_lt (most_bytes line) (length line) ≡ false → line_read accepted line ≡ command_read accepted line (codes "act") (words_of line)
  act_read = read 97 99 116 (refl, refl, refl) (λ rest. refl) line

  pub set_second : starts_with nat_eq line (codes "set ") ≡ true → IsSecond (Some 4) line
  set_second = second 115 101 116 (refl, refl, refl) (λ rest. refl) line

  pub set_short : starts_with nat_eq line (codes "set ") ≡ true → nat_lt (most_bytes line) (length line) ≡ false → length line ≤ 8192
  set_short = short 115 101 116 (refl, refl, refl) (λ rest. refl) line

  pub set_read : starts_with nat_eq line (codes "set ") ≡ true → nat_lt (most_bytes line) (length line) ≡ false → line_read accepted line ≡ set_words line (words_of line)
  unfolding command_read
  set_read = read 115 101 116 (refl, refl, refl) (λ rest. refl) line
