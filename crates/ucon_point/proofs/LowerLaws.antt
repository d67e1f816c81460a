-- Laws of lower crates, as the lemmas here take them.
use Rattle.std.specs.Prelude.{◌≡◌, ◌<◌, ◌^◌, ◌==◌, ◌++◌, ℕ, ℤ, Some, not, true}
use Rattle.std.specs.Fmt.{decimal, signed_decimal}
use Rattle.std.specs.List.{list_all}
use Rattle.ucon_base.specs.declared.value.Value.TheVariants.{Int}
use Rattle.ucon_model.specs.CommandLine.{integer_in}
use Rattle.ucon_model.specs.Output.{Lacks}
use Rattle.ucon_model.specs.Plain.{Bytes}
use Rattle.ucon_point.specs.declared.row.Row.{Row}
use Rattle.ucon_point.specs.Numbers.{count_read}
use Rattle.ucon_point.specs.RowText.{row_read, row_spelling, IsRow, IsSpelled}

-- each row and each number is read back from its text, which has no newline
pub record RowsAreRead : Type 0 where
  pub rows : (row : Row) → IsRow row → row_read (row_spelling row) ≡ Some row
  pub lines : (row : Row) → IsRow row → Lacks 10 (row_spelling row)
  pub counts : (n : ℕ) → n < 2 ^ 64 → count_read (decimal n) ≡ Some n
  pub integers : (n : ℤ) → IsSpelled (Int n) → Lacks 10 (signed_decimal n)

-- bytes that are read are the text of what is read
pub record RowsAreSpelled : Type 0 where
  pub rows : (line : Bytes) (row : Row) → row_read line ≡ Some row → (row_spelling row ≡ line) × IsRow row
  pub counts : (bytes : Bytes) (n : ℕ) → count_read bytes ≡ Some n → (decimal n ≡ bytes) × (n < 2 ^ 64)
  pub integers : (bytes : Bytes) (n : ℤ) → integer_in bytes ≡ Some n → (signed_decimal n ≡ bytes) × IsSpelled (Int n)

-- what texts lack
pub record TextsLack : Type 0 where
  pub joined : (byte : ℕ) (xs ys : Bytes) → Lacks byte xs → Lacks byte ys → Lacks byte (xs ++ ys)
  pub tested : (byte : ℕ) (text : Bytes) → list_all (λ b. not (b == byte)) text ≡ true → Lacks byte text
  pub numbers : (byte n : ℕ) → byte < 48 → n < 2 ^ 64 → Lacks byte (decimal n)
