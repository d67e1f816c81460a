-- A text that is accepted is short.
use Rattle.std.proofs.Common.{◌≡◌, ℕ, ◌≤◌, length, Bool, true, false, Option, Some, Result, refl, arith}
use Rattle.std.specs.Prelude.{nat_lt, option_and_then, if◌then◌else◌, Err}
use Rattle.std.specs.Result.{result_ok}
use Rattle.ucon_model.specs.Plain.{Bytes, PlainPolicy}
use Rattle.ucon_syntax.specs.Policies.{accepted, reading_of}

not_long : (m n : ℕ) → nat_lt m n ≡ false → n ≤ m
not_long m n e = grind arith

module _ {A B F : Type 0} (f : A → Option B) (x : F) (rest : Result A F) where
  cut_short : (b : Bool) (y : B) → option_and_then f (result_ok (if b then Err x else rest)) ≡ Some y → b ≡ false
  cut_short true y e = absurd (cc e)
  cut_short false y e = refl

pub accepted_short : (text : Bytes) (P : PlainPolicy) → accepted text ≡ Some P → length text ≤ 65536
unfolding reading_of
accepted_short text P e = not_long 65536 (length text) (cut_short _ _ _ (nat_lt 65536 (length text)) P e)
