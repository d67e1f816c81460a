-- Reading tokens from left to right, up to the first that does not fit.
use Rattle.std.specs.Prelude.{◌≡◌, ℤ, List, drop, Option, Some, None, Result, Ok, Err, if◌then◌else◌, ⊤}
use Rattle.std.proofs.Common.{sym, ap, ◌∙◌}
use Rattle.ucon_base.specs.Bytes.{Bytes}
use Rattle.ucon_base.specs.Tokens.{Token, Symbol}
use Rattle.ucon_token.specs.declared.stop.Cause.{Cause}
use Rattle.ucon_token.specs.declared.stop.Cause.TheVariants.{Unexpected}
use Rattle.ucon_token.specs.declared.stop.Stop.{Stop}
use Rattle.ucon_token.specs.declared.stop.Stop.TheVariants as stops
use Rattle.ucon_token.specs.Tokens.{first, is_symbol, is_word, word_of, number_of, text_of}

-- why reading stopped, and the tokens from the one on at which it did
abbrev pub Halt : Type 0
Halt = Cause × List Token

-- what is read from the front of tokens, and the tokens behind it
abbrev pub Reads : Type 0 → Type 0
Reads A = List Token → Result (A × List Token) Halt

infixl 10 ◌>>=◌
abbrev pub ◌>>=◌ : {A B : Type 0} → Result A Halt → (A → Result B Halt) → Result B Halt
(Ok x) >>= f = f x
(Err e) >>= f = Err e

-- What a function returned, seen by view, and the tokens that it left are what reading gives, unless memory ran out.
abbrev pub Fails : {Y : Type 0} → Stop → List Token → Result Y Halt → Type 0
Fails (stops.Memory e) left reading = ⊤
Fails (stops.At c) left reading = reading ≡ Err (c, left)

abbrev pub Gives : {X Y : Type 0} → (X → Y) → Result X Stop → List Token → Result Y Halt → Type 0
Gives view (Ok x) left reading = reading ≡ Ok (view x)
Gives view (Err e) left reading = Fails e left reading

-- a part that stops stops the whole
pub stops_whole : {Y Z : Type 0} (e : Stop) (left : List Token) (part : Result Z Halt) (f : Z → Result Y Halt) (whole : Result Y Halt)
    → Fails e left part → (part >>= f) ≡ whole → Fails e left whole
stops_whole (stops.Memory e) left part f whole fails so_far = tt
stops_whole (stops.At c) left part f whole fails so_far = sym so_far ∙ ap (λ r. r >>= f) fails

-- past this symbol, past this word
abbrev pub expect : Symbol → List Token → Result (List Token) Halt
expect s ts = if is_symbol (first ts) s then Ok (drop 1 ts) else Err (Unexpected, ts)

abbrev pub expect_word : Bytes → List Token → Result (List Token) Halt
expect_word w ts = if is_word (first ts) w then Ok (drop 1 ts) else Err (Unexpected, ts)

-- the first token, if it is one of these
abbrev pub taken : {A : Type 0} → Option A → Reads A
taken None ts = Err (Unexpected, ts)
taken (Some x) ts = Ok (x, drop 1 ts)

abbrev pub name_at : Reads Bytes
name_at ts = taken (word_of (first ts)) ts

abbrev pub number_at : Reads ℤ
number_at ts = taken (number_of (first ts)) ts

abbrev pub text_at : Reads Bytes
text_at ts = taken (text_of (first ts)) ts
