-- What the tokens of `src/` stand for.
use Rattle.ucon_base.specs.Tokens.{Token, a_word, a_number, a_text, a_symbol, joined_word, flawed, the_end, Flaw, unknown, too_long, misplaced}
use Rattle.ucon_base.specs.Tokens.{Symbol, colon, semicolon, comma, dot, dots, equal_sign, unequal_sign, less_sign, at_most_sign, greater_sign}
use Rattle.ucon_base.specs.Tokens.{at_least_sign, plus_sign, minus_sign, star, open_round, close_round, open_square, close_square, open_curly}
use Rattle.ucon_base.specs.Tokens.{close_curly}
use Rattle.ucon_token.specs.declared.token.Symbol.TheVariants as symbols
use Rattle.ucon_token.specs.declared.token.Flaw.TheVariants as flaws
use Rattle.ucon_token.specs.declared.token.Token.TheVariants as tokens
use Rattle.ucon_token.specs.declared.token.Symbol.{Symbol as CodeSymbol}
use Rattle.ucon_token.specs.declared.token.Flaw.{Flaw as CodeFlaw}
use Rattle.ucon_token.specs.declared.token.Token.{Token as CodeToken}

abbrev pub symbol_of : CodeSymbol → Symbol
symbol_of symbols.Colon = colon
symbol_of symbols.Semicolon = semicolon
symbol_of symbols.Comma = comma
symbol_of symbols.Dot = dot
symbol_of symbols.Dots = dots
symbol_of symbols.Equal = equal_sign
symbol_of symbols.NotEqual = unequal_sign
symbol_of symbols.Less = less_sign
symbol_of symbols.LessEqual = at_most_sign
symbol_of symbols.Greater = greater_sign
symbol_of symbols.GreaterEqual = at_least_sign
symbol_of symbols.Plus = plus_sign
symbol_of symbols.Minus = minus_sign
symbol_of symbols.Star = star
symbol_of symbols.OpenRound = open_round
symbol_of symbols.CloseRound = close_round
symbol_of symbols.OpenSquare = open_square
symbol_of symbols.CloseSquare = close_square
symbol_of symbols.OpenCurly = open_curly
symbol_of symbols.CloseCurly = close_curly

abbrev pub flaw_of : CodeFlaw → Flaw
flaw_of flaws.Unknown = unknown
flaw_of flaws.TooLong = too_long
flaw_of flaws.Misplaced = misplaced

abbrev pub token_of : CodeToken → Token
token_of (tokens.Word n) = a_word n
token_of (tokens.Number n) = a_number n
token_of (tokens.Text t) = a_text t
token_of (tokens.Symbol s) = a_symbol (symbol_of s)
token_of (tokens.Joined n) = joined_word n
token_of (tokens.Bad f) = flawed (flaw_of f)
token_of tokens.End = the_end
