-- What single tokens are.
use Rattle.std.specs.Prelude.{ℕ, ℤ, ◌==◌, Bool, true, false, List, [], ◌∷◌, Option, Some, None}
use Rattle.std.specs.Str.{bytes_eq}
use Rattle.ucon_base.specs.Bytes.{Bytes}
use Rattle.ucon_base.specs.Tokens.{Token, a_word, a_number, a_text, a_symbol, joined_word, flawed, the_end, Flaw, Symbol, colon, semicolon, comma}
use Rattle.ucon_base.specs.Tokens.{dot, dots, equal_sign, unequal_sign, less_sign, at_most_sign, greater_sign, at_least_sign, plus_sign, minus_sign}
use Rattle.ucon_base.specs.Tokens.{star, open_round, close_round, open_square, close_square, open_curly, close_curly}

-- a number for each symbol, so that two can be compared
abbrev pub code : Symbol → ℕ
code colon = 0
code semicolon = 1
code comma = 2
code dot = 3
code dots = 4
code equal_sign = 5
code unequal_sign = 6
code less_sign = 7
code at_most_sign = 8
code greater_sign = 9
code at_least_sign = 10
code plus_sign = 11
code minus_sign = 12
code star = 13
code open_round = 14
code close_round = 15
code open_square = 16
code close_square = 17
code open_curly = 18
code close_curly = 19

-- the first token, or the end
abbrev pub first : List Token → Token
first [] = the_end
first (t ∷ ts) = t

abbrev pub is_nil : List Token → Bool
is_nil [] = true
is_nil (t ∷ ts) = false

unfoldable pub is_symbol : Token → Symbol → Bool
is_symbol (a_symbol t) s = code s == code t
is_symbol t s = false

unfoldable pub is_word : Token → Bytes → Bool
is_word (a_word n) w = bytes_eq n w
is_word t w = false

-- whether it is this word, directly behind a number
unfoldable pub is_joined : Token → Bytes → Bool
is_joined (joined_word n) w = bytes_eq n w
is_joined t w = false

unfoldable pub word_of : Token → Option Bytes
word_of (a_word n) = Some n
word_of t = None

unfoldable pub number_of : Token → Option ℤ
number_of (a_number n) = Some n
number_of t = None

unfoldable pub text_of : Token → Option Bytes
text_of (a_text t) = Some t
text_of t = None

unfoldable pub sign_of : Token → Option Symbol
sign_of (a_symbol s) = Some s
sign_of t = None

unfoldable pub flaw_at : Token → Option Flaw
flaw_at (flawed f) = Some f
flaw_at t = None
