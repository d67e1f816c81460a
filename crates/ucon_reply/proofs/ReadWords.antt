-- What words say by their kinds, both ways.
use Rattle.std.proofs.Common.{◌≡◌, ℕ, ◌<◌, ◌^◌, Bool, true, false, cond, List, [], ◌∷◌, ◌++◌, drop, Some, None, Ok, Err, is_some, refl, sym, ap, ◌∙◌, arith}
use Rattle.std.specs.Prelude.{ℤ, pos, negsuc, Result, Option, nat_lt, unwrap_or, option_and_then}
use Rattle.std.specs.Fmt.{decimal, signed_decimal}
use Rattle.std.specs.Result.{result_ok}
use Rattle.std.specs.Str.{bytes_eq}
use Rattle.std.proofs.lemmas.Bool.{false≢true, lt-ltb}
use Rattle.std.proofs.lemmas.Int.{ints}
use Rattle.std.proofs.lemmas.Slice.Eq.{bytes_eq-Decides}
use Rattle.ucon_base.specs.declared.value.Value.{Value}
use Rattle.ucon_base.specs.declared.value.Value.TheVariants as values
use Rattle.ucon_base.specs.declared.value_fault.ValueFault.{ValueFault}
use Rattle.ucon_base.specs.NameBytes.{is_name}
use Rattle.ucon_base.specs.Numbers.{InRange}
use Rattle.ucon_base.specs.Reading.{value_read}
use Rattle.ucon_base.specs.Spelling.{value_spelling, IsValue}
use Rattle.ucon_model.specs.CommandLine.{name_in, value_in, integer_of, integer_in, number_of, number_in}
use Rattle.ucon_model.specs.Output.{Lacks}
use Rattle.ucon_model.specs.Plain.{Bytes}
use Rattle.ucon_reply.specs.Joined.{join, behind, drop-join}
use Rattle.ucon_reply.proofs.LowerLaws.{TextsLack, ValuesAreRead, ValuesAreSpelled}

nothing : {A : Type 0} {v : A} → None ≡ Some v → ⊥
nothing h = false≢true (ap is_some h)

pub same_bytes : (xs ys : Bytes) → bytes_eq xs ys ≡ true → xs ≡ ys
same_bytes xs ys h = (bytes_eq-Decides xs ys).0 h

-- ---- what is read is what is written

kept : {A : Type 0} (b : Bool) (x y : A) → cond b (Some x) None ≡ Some y → x ≡ y
kept true x y h = ap (λ o. unwrap_or o x) h
kept false x y h = absurd (nothing h)

pub name_is : (bs name : Bytes) → name_in bs ≡ Some name → name ≡ bs
name_is bs name h = sym (kept (is_name bs) bs name h)

read_ok : (r : Result Value ValueFault) (v : Value) → result_ok r ≡ Some v → r ≡ Ok v
read_ok (Ok w) v h = ap (λ o. Ok (unwrap_or o w)) h
read_ok (Err f) v h = absurd (nothing h)

integer_from : (o : Option Value) (z : ℤ) → option_and_then integer_of o ≡ Some z → o ≡ Some (values.Int z)
integer_from None z h = absurd (nothing h)
integer_from (Some (values.Int n)) z h = ap (λ x. Some (values.Int (unwrap_or x n))) h
integer_from (Some (values.Text t)) z h = absurd (nothing h)
integer_from (Some (values.Set ts)) z h = absurd (nothing h)

-- where an integer is read the value is that
pub integer_value : (bytes : Bytes) (n : ℤ) → integer_in bytes ≡ Some n → value_in bytes ≡ Some (values.Int n)
integer_value bytes n said = integer_from (value_in bytes) n said

number_from : (o : Option ℤ) (n : ℕ) → option_and_then number_of o ≡ Some n → o ≡ Some (pos n)
number_from None n h = absurd (nothing h)
number_from (Some (pos m)) n h = ap (λ x. Some (pos x)) (kept (nat_lt m (2 ^ 32)) m n h)
number_from (Some (negsuc m)) n h = absurd (nothing h)

module _ (written : ValuesAreSpelled) where
  pub spelled_is : (bs : Bytes) (v : Value) → value_in bs ≡ Some v → value_spelling v ≡ bs
  spelled_is bs v h = written bs v (read_ok (value_read bs) v h)

  pub integer_is : (bs : Bytes) (z : ℤ) → integer_in bs ≡ Some z → signed_decimal z ≡ bs
  integer_is bs z h = spelled_is bs (values.Int z) (integer_from (value_in bs) z h)

  pub number_is : (bs : Bytes) (n : ℕ) → number_in bs ≡ Some n → decimal n ≡ bs
  number_is bs n h = integer_is bs (pos n) (number_from (integer_in bs) n h)

  -- a value that takes the rest of a line
  pub rest_is : (front : List Bytes) (line rest : Bytes) (v : Value) → line ≡ join (front ++ rest ∷ []) → value_in (drop (behind 0 front) line) ≡ Some v → value_spelling v ≡ rest
  rest_is front line rest v is h = spelled_is _ v h ∙ ap (drop (behind 0 front)) is ∙ drop-join front rest

-- ---- what is written is read

pub name_back : (name : Bytes) → is_name name ≡ true → name_in name ≡ Some name
name_back name h = rw h refl

in_range : (n : ℕ) → n < 2 ^ 32 → InRange (pos n)
in_range n lt = record { low = omega (arith, ints); high = omega (arith, ints, lt) }

module _ (read : ValuesAreRead) where
  pub spelled_back : (v : Value) → IsValue v → value_in (value_spelling v) ≡ Some v
  spelled_back v h = rw (read v h) refl

  pub integer_back : (z : ℤ) → InRange z → integer_in (signed_decimal z) ≡ Some z
  integer_back z h = rw (read (values.Int z) h) refl

  pub number_back : (n : ℕ) → n < 2 ^ 32 → number_in (decimal n) ≡ Some n
  number_back n lt = rw (integer_back (pos n) (in_range n lt), lt-ltb n (2 ^ 32) lt) refl

module _ (lack : TextsLack) where
  pub name_lacks : (name : Bytes) → is_name name ≡ true → Lacks 32 name
  name_lacks name h = lack.names 32 name refl h

  pub number_lacks : (n : ℕ) → n < 2 ^ 32 → Lacks 32 (decimal n)
  number_lacks n lt = lack.numbers 32 n (omega arith) (omega (arith, lt))
