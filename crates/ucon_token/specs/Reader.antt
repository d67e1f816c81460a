-- A reader: the tokens of a text that are left.
use Rattle.std.specs.Prelude.{◌≡◌, ◌-◌, ◌≤◌, ℕ, Bool, true, false, List, length, drop, Option, Some, None}
use Rattle.ucon_base.specs.Bytes.{Bytes}
use Rattle.ucon_base.specs.Tokens.{Token, a_word, a_number, a_text, a_symbol, tokens_from, spans_from, with_next, with_next_span}

-- a text, and those of its tokens that are left
pub record Remaining : Type 0 where
  pub text : Bytes
  pub tokens : List Token

-- the tokens from one that was read on
abbrev pub tokens_on : Token → Bytes → List Token
tokens_on t rest = with_next (t, rest) tokens_from

abbrev pub spans_on : Token → ℕ → Bytes → List ℕ
spans_on t n rest = with_next_span (t, rest) n spans_from

-- one list is the end of another
pub record IsTail (part whole : List ℕ) : Type 0 where
  pub short : length part ≤ length whole
  pub same : drop (length whole - length part) whole ≡ part

-- whether tokens follow, and then whether this one is a number
abbrev pub goes_on : Token → Option Bool
goes_on (a_word n) = Some false
goes_on (a_text n) = Some false
goes_on (a_symbol s) = Some false
goes_on (a_number n) = Some true
goes_on t = None
