-- The words of a line: where they stand in it, and as its reader keeps them.
use Rattle.std.specs.Prelude.{ℕ, ℤ, ◌-◌, ◌≤◌, ◌==◌, List, [], ◌∷◌, Option, None, Some, drop, get_or, length, slice_range, if◌then◌else◌, ⊤}
use Rattle.std.specs.List.{slice_split}
use Rattle.ucon_base.specs.Reading.{is_digit, integer_in}
use Rattle.ucon_reply.specs.declared.line_words.Word.{Word}
use Rattle.ucon_model.specs.CommandLine as model
use Rattle.ucon_model.specs.Plain.{Bytes}

-- the words from a place on
abbrev pub words_at : ℕ → Bytes → List model.Word
words_at at line = model.placed at (slice_split (λ b. b == 32) (drop at line))

-- those from a place on, if there is one
abbrev pub words_from : Option ℕ → Bytes → List model.Word
words_from None line = []
words_from (Some at) line = words_at at line

-- the bytes of a line from one place up to the space before another
abbrev pub between : ℕ → ℕ → Bytes → Bytes
between at next line = slice_range line at (next - 1)

-- the word that begins at a place, and behind which the next one begins at another, if there is one
abbrev pub word_to : ℕ → Option ℕ → Bytes → model.Word
word_to at None line = record { at = at; text = drop at line }
word_to at (Some next) line = record { at = at; text = between at next line }

-- a word, seen without its reference
abbrev pub word_of : Word → model.Word
word_of w = record { at = w.at; text = w.text.now }

-- each begins within the line
abbrev pub BeginWithin : Bytes → List Word → Type 0
BeginWithin line [] = ⊤
BeginWithin line (w ∷ ws) = (w.at ≤ length line) × BeginWithin line ws

-- the integer that the bytes spell, if a digit begins them
abbrev pub digits_in : Bytes → Option ℤ
digits_in bytes = if is_digit (get_or bytes 0 0) then integer_in bytes else None
