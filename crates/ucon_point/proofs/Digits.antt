-- What digits tell.
use Rattle.std.proofs.Common.{◌≡◌, ℕ, ◌+◌, ◌-◌, ◌*◌, ◌^◌, ◌<◌, ◌≤◌, Bool, true, false, cond, List, [], ◌∷◌, length, drop, get_or, Some, None, decimal, refl, sym, ap, ◌∙◌, arith, ⊎_elim}
use Rattle.std.specs.Prelude.{MatchOption, Option, option_and_then, unwrap_or, nat_le, nat_lt}
use Rattle.std.specs.List.{list_all}
use Rattle.std.specs.Str.{bytes_eq}
use Rattle.std.specs.Str.Parse.{digits_value}
use Rattle.std.proofs.lemmas.Bool.{and_parts, and_from, le-leb, leb-true, lt-ltb, le-ltb, ltb-true, cases_lt}
use Rattle.std.proofs.lemmas.Fmt.{digits_value-decimal, decimal_is_IsNumeral}
use Rattle.std.proofs.lemmas.List.{drop_more}
use Rattle.std.proofs.lemmas.Slice.Eq.{bytes_eq-Decides}
use Rattle.std.proofs.lemmas.Str.Parse.{IsNumeralModel, IsDigitsTest, FoldsDigits, numerals_by_fold}
use Rattle.ucon_base.specs.Reading.{is_digit, number_from, number_of}
use Rattle.ucon_model.specs.Output.{number_read}
use Rattle.ucon_model.specs.Payload.{caller_read, client_numbered}
use Rattle.ucon_model.specs.Plain.{Bytes}
use Rattle.ucon_point.specs.Numbers.{below_2_64, count_read}
use Rattle.ucon_point.proofs.RowResults.{nothing}

abbrev digits : List ℕ → Type 0
digits ds = list_all is_digit ds ≡ true

tells_digits : IsDigitsTest digits
tells_digits = record {
  empty = refl;
  parts = λ c cs h.
      let both = and_parts (is_digit c) (list_all is_digit cs) h in
      let ends = and_parts (nat_le 48 c) (nat_le c 57) both.0 in
      ((leb-true 48 c ends.0, leb-true c 57 ends.1), both.1);
  more = λ c cs range h. and_from (is_digit c) (list_all is_digit cs) (and_from (nat_le 48 c) (nat_le c 57) (le-leb 48 c range.0) (le-leb c 57 range.1)) h;
}

folds : FoldsDigits number_from
folds = record { empty = λ n. refl; more = λ n c cs range. refl }

own : IsNumeralModel digits number_of
own = numerals_by_fold digits tells_digits number_from folds

pub number_of-decimal : (n : ℕ) (ds : List ℕ) → n < 2 ^ 64 → decimal n ≡ ds → number_of ds ≡ n
number_of-decimal n ds small is = ap number_of (sym is) ∙ digits_value-decimal own n small

pub le-number_from : (n : ℕ) (ds : List ℕ) → n ≤ number_from n ds
le-number_from n [] = omega arith
le-number_from n (d ∷ ds) = omega (arith, le-number_from (n * 10 + (d - 48)) ds)

-- a digit more tells no more than all
pub with_digit-le : (told i : ℕ) (bs : List ℕ) → i < length bs → number_from told (drop i bs) ≡ number_of bs → told * 10 + (get_or bs i 0 - 48) ≤ number_of bs
with_digit-le told i bs lt h =
    let all : number_from (told * 10 + (get_or bs i 0 - 48)) (drop (i + 1) bs) ≡ number_of bs = sym (ap (number_from told) (drop_more bs i 0 lt)) ∙ h in
    omega (arith, all, le-number_from (told * 10 + (get_or bs i 0 - 48)) (drop (i + 1) bs))

-- no number below 2^64 is told
pub too_large : (bs : List ℕ) (r : Option ℕ) → r ≡ None → 2 ^ 64 ≤ number_of bs → MatchOption r (2 ^ 64 ≤ number_of bs) (λ n. number_of bs ≡ n)
too_large bs None is large = large
too_large bs (Some n) is large = absurd (nothing (sym is))

-- ---- numbers below 2^64, in decimal

number_read-decimal : (n : ℕ) → n < 2 ^ 64 → number_read (decimal n) ≡ Some n
number_read-decimal n lt = rw ((decimal_is_IsNumeral n lt).1, (bytes_eq-Decides (decimal n) (decimal n)).1 refl) refl

number_from_same : (bs : Bytes) (m n : ℕ) (same : Bool) → bytes_eq bs (decimal m) ≡ same → cond same (Some m) None ≡ Some n → decimal n ≡ bs
number_from_same bs m n true is h = ap (λ (o : Option ℕ). decimal (unwrap_or o m)) (sym h) ∙ sym ((bytes_eq-Decides bs (decimal m)).0 is)
number_from_same bs m n false is h = absurd (nothing h)

number_is : (bs : Bytes) (n : ℕ) → number_read bs ≡ Some n → decimal n ≡ bs
number_is bs n h = number_from_same bs (digits_value 10 bs) n (bytes_eq bs (decimal (digits_value 10 bs))) refl h

pub count_read-decimal : (n : ℕ) → n < 2 ^ 64 → count_read (decimal n) ≡ Some n
count_read-decimal n lt = rw (number_read-decimal n lt, lt-ltb n (2 ^ 64) lt) refl

below_from : (m n : ℕ) (small : Bool) → nat_lt m (2 ^ 64) ≡ small → cond small (Some m) None ≡ Some n → (m ≡ n) × (m < 2 ^ 64)
below_from m n true is h = (ap (λ o. unwrap_or o n) h, ltb-true m (2 ^ 64) is)
below_from m n false is h = absurd (nothing h)

count_from : (bs : Bytes) (o : Option ℕ) (n : ℕ) → number_read bs ≡ o → option_and_then below_2_64 o ≡ Some n → (decimal n ≡ bs) × (n < 2 ^ 64)
count_from bs None n is h = absurd (nothing h)
count_from bs (Some m) n is h =
    let k = below_from m n (nat_lt m (2 ^ 64)) refl h in
    (ap decimal (sym k.0) ∙ number_is bs m is, omega (arith, k.0, k.1))

pub count_is : (bs : Bytes) (n : ℕ) → count_read bs ≡ Some n → (decimal n ≡ bs) × (n < 2 ^ 64)
count_is bs n h = count_from bs (number_read bs) n refl h

none_from : (bs : Bytes) (o : Option ℕ) → count_read bs ≡ o → ((n : ℕ) → n < 2 ^ 64 → decimal n ≡ bs → ⊥) → None ≡ count_read bs
none_from bs None is h = sym is
none_from bs (Some n) is h = let k = count_is bs n is in absurd (h n k.1 k.0)

-- no number is spelled
no_count : (bs : Bytes) → ((n : ℕ) → n < 2 ^ 64 → decimal n ≡ bs → ⊥) → None ≡ count_read bs
no_count bs h = none_from bs (count_read bs) refl h

-- what the code finds of the number that digits tell
pub count_found : (bs : Bytes) (n : ℕ) → n < 2 ^ 64 → decimal n ≡ bs → Some n ≡ count_read bs
count_found bs n lt is = sym (count_read-decimal n lt) ∙ ap count_read is

pub count_large : (bs : Bytes) → 2 ^ 64 ≤ number_of bs → None ≡ count_read bs
count_large bs large = no_count bs (λ n lt is. omega (arith, large, lt, number_of-decimal n bs lt is))

pub count_other : (bs : Bytes) (n : ℕ) → number_of bs ≡ n → (decimal n ≡ bs → ⊥) → None ≡ count_read bs
count_other bs n told not = no_count bs (λ m lt is. not (ap decimal (sym told ∙ number_of-decimal m bs lt is) ∙ is))

-- ---- clients

client_large : (m : ℕ) → 2 ^ 64 ≤ m → client_numbered m ≡ None
client_large m le = rw (le-ltb m 64 (omega (arith, le))) refl

client_below : (m : ℕ) → client_numbered m ≡ option_and_then client_numbered (below_2_64 m)
client_below m = ⊎_elim
    (λ (lt : m < 2 ^ 64). rw (lt-ltb m (2 ^ 64) lt) refl)
    (λ (le : 2 ^ 64 ≤ m). rw (le-ltb m (2 ^ 64) le) (client_large m le))
    (cases_lt m (2 ^ 64))

client_of : (o : Option ℕ) → option_and_then client_numbered o ≡ option_and_then client_numbered (option_and_then below_2_64 o)
client_of None = refl
client_of (Some m) = client_below m

pub caller_read_is : (bs : Bytes) → caller_read bs ≡ option_and_then client_numbered (count_read bs)
caller_read_is bs = client_of (number_read bs)
