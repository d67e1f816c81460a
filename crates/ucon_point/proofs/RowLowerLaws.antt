-- Laws of lower crates, as the lemmas here take them.
use Rattle.std.specs.Prelude.{◌≡◌, ◌<◌, ◌^◌, ◌==◌, ◌++◌, ℕ, Ok, false, not, true}
use Rattle.std.specs.Fmt.{decimal}
use Rattle.std.specs.List.{list_all}
use Rattle.ucon_base.specs.declared.value.Value.{Value}
use Rattle.ucon_base.specs.NameBytes.{is_name, is_word_byte}
use Rattle.ucon_base.specs.Reading.{value_read}
use Rattle.ucon_base.specs.Spelling.{value_spelling}
use Rattle.ucon_model.specs.Output.{Lacks}
use Rattle.ucon_model.specs.Plain.{Bytes}

-- bytes that are read are the spelling of the value read
abbrev pub ValuesAreSpelled : Type 0
ValuesAreSpelled = (bytes : Bytes) (v : Value) → value_read bytes ≡ Ok v → value_spelling v ≡ bytes

-- what texts lack
pub record TextsLack : Type 0 where
  pub joined : (byte : ℕ) (xs ys : Bytes) → Lacks byte xs → Lacks byte ys → Lacks byte (xs ++ ys)
  pub tested : (byte : ℕ) (text : Bytes) → list_all (λ b. not (b == byte)) text ≡ true → Lacks byte text
  pub numbers : (byte n : ℕ) → byte < 48 → n < 2 ^ 64 → Lacks byte (decimal n)
  pub names : (byte : ℕ) (name : Bytes) → is_word_byte byte ≡ false → is_name name ≡ true → Lacks byte name
