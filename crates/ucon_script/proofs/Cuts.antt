-- A text, cut behind its first line.
use Rattle.std.proofs.Common.{◌≡◌, ℕ, ◌<◌, ◌≤◌, [], ◌∷◌, ◌++◌, length, take, get_or, sym, ap, ◌∙◌, inl, inr, ⊎_elim, arith}
use Rattle.std.specs.Prelude.{◌==◌, ◌⊎◌}
use Rattle.std.specs.List.{position_or_len, before_first, after_first}
use Rattle.std.proofs.Math.ListN.{drop_of_length-le}
use Rattle.std.proofs.lemmas.Bool.{cases_lt, eqb-true}
use Rattle.std.proofs.lemmas.List.{append-nil, take-append-drop}
use Rattle.std.proofs.lemmas.List.Sums.{fails_before_first, passes_at_first, split_at_first}
use Rattle.std.proofs.lemmas.List.Splits.{slice_split_first, slice_split_none}
use Rattle.ucon_model.specs.Plain.{Bytes}
use Rattle.ucon_model.specs.Document.{lines_of}

abbrev pub first_line : Bytes → Bytes
first_line text = before_first (λ b. b == 10) text

abbrev pub next_lines : Bytes → Bytes
next_lines text = after_first (λ b. b == 10) text

-- a first line with its newline, and the lines behind it
pub record IsCut (text : Bytes) : Type 0 where
  pub lines : lines_of text ≡ first_line text ∷ lines_of (next_lines text)
  pub whole : text ≡ first_line text ++ 10 ∷ next_lines text

-- one line without a newline
pub record IsLastLine (text : Bytes) : Type 0 where
  pub lines : lines_of text ≡ first_line text ∷ []
  pub whole : first_line text ≡ text
  pub behind : next_lines text ≡ []

at_newline : (text : Bytes) → position_or_len (λ b. b == 10) text < length text → IsCut text
at_newline text lt = record {
  lines = slice_split_first (λ b. b == 10) text 0 lt;
  whole = split_at_first (λ b. b == 10) text 0 lt ∙ ap (λ (b : ℕ). first_line text ++ b ∷ next_lines text) (eqb-true (get_or text (position_or_len (λ b. b == 10) text) 0) 10 (passes_at_first (λ b. b == 10) text 0 lt));
}

take_all : (text : Bytes) (n : ℕ) → length text ≤ n → take n text ≡ text
take_all text n le = sym (append-nil (take n text)) ∙ ap (λ (r : Bytes). take n text ++ r) (sym (drop_of_length-le text le)) ∙ take-append-drop n text

nowhere : (text : Bytes) → length text ≤ position_or_len (λ b. b == 10) text → IsLastLine text
nowhere text le =
    let whole : first_line text ≡ text = take_all text _ le in record {
      lines = slice_split_none (λ b. b == 10) text (λ k d lt. fails_before_first (λ b. b == 10) text k d (omega arith)) ∙ ap (λ (l : Bytes). l ∷ []) (sym whole);
      whole = whole;
      behind = drop_of_length-le text (omega arith);
    }

pub cut_or_last : (text : Bytes) → IsCut text ⊎ IsLastLine text
cut_or_last text = ⊎_elim (λ lt. inl (at_newline text lt)) (λ le. inr (nowhere text le)) (cases_lt (position_or_len (λ b. b == 10) text) (length text))
