-- Laws of lower crates, as the lemmas here take them.
use Rattle.std.specs.Prelude.{◌≡◌, ◌<◌, ◌≤◌, ◌^◌, ◌==◌, ◌++◌, ℕ, ℤ, Some, false, length, not, true}
use Rattle.std.specs.Fmt.{decimal, signed_decimal}
use Rattle.std.specs.List.{list_all}
use Rattle.ucon_base.specs.declared.value.Value.{Value}
use Rattle.ucon_base.specs.NameBytes.{is_name, is_word_byte}
use Rattle.ucon_base.specs.Numbers.{InRange}
use Rattle.ucon_base.specs.Spelling.{value_spelling, IsValue}
use Rattle.ucon_model.specs.CommandLine.{integer_in, number_in, value_in}
use Rattle.ucon_model.specs.Output.{Lacks}
use Rattle.ucon_model.specs.Plain.{Bytes, PlainReply}
use Rattle.ucon_model.specs.ReplyText.{IsReply, reply_read}
use Rattle.ucon_model.specs.Spelling.{reply_spelling}
use Rattle.ucon_reply.specs.Replies.{most_reply}

-- the spelling of each value, integer and number is read as that
pub record WordsAreRead : Type 0 where
  pub values : (v : Value) → IsValue v → value_in (value_spelling v) ≡ Some v
  pub integers : (n : ℤ) → InRange n → integer_in (signed_decimal n) ≡ Some n
  pub numbers : (n : ℕ) → n < 2 ^ 32 → number_in (decimal n) ≡ Some n

-- bytes that are read are the spelling of what is read
pub record WordsAreSpelled : Type 0 where
  pub values : (bytes : Bytes) (v : Value) → value_in bytes ≡ Some v → value_spelling v ≡ bytes
  pub integers : (bytes : Bytes) (n : ℤ) → integer_in bytes ≡ Some n → signed_decimal n ≡ bytes
  pub numbers : (bytes : Bytes) (n : ℕ) → number_in bytes ≡ Some n → decimal n ≡ bytes

-- how long a value's spelling is at the most
abbrev pub ValuesAreShort : Type 0
ValuesAreShort = (v : Value) → IsValue v → length (value_spelling v) ≤ 4300

-- no value's spelling has a newline
abbrev pub ValuesInLine : Type 0
ValuesInLine = (v : Value) → IsValue v → Lacks 10 (value_spelling v)

-- each reply's text is read as the reply
abbrev pub RepliesAreRead : Type 0
RepliesAreRead = (r : PlainReply) → IsReply r → reply_read (reply_spelling r) ≡ Some r

-- how long a reply's text is at the most
abbrev pub RepliesAreShort : Type 0
RepliesAreShort = (r : PlainReply) → IsReply r → length (reply_spelling r) ≤ most_reply r

-- a number in decimal lacks each byte below its digits
abbrev pub NumbersLack : Type 0
NumbersLack = (byte n : ℕ) → byte < 48 → n < 2 ^ 64 → Lacks byte (decimal n)

-- what texts lack
pub record TextsLack : Type 0 where
  pub joined : (byte : ℕ) (xs ys : Bytes) → Lacks byte xs → Lacks byte ys → Lacks byte (xs ++ ys)
  pub tested : (byte : ℕ) (text : Bytes) → list_all (λ b. not (b == byte)) text ≡ true → Lacks byte text
  pub numbers : NumbersLack
  pub names : (byte : ℕ) (name : Bytes) → is_word_byte byte ≡ false → is_name name ≡ true → Lacks byte name
