-- An integer's spelling is read as the integer, and what is read as an integer is its spelling.
use Rattle.std.proofs.Common.{◌≡◌, ℕ, ℤ, pos, negsuc, zero, suc, ◌+◌, ◌^◌, ◌<◌, ◌≤◌, true, not, List, [], ◌∷◌, length, get_or, Option, Some, None, Ok, Err, is_ok, is_some, decimal, inl, inr, refl, sym, ap, ◌∙◌, arith}
use Rattle.std.specs.Prelude.{Result, ◌==◌, nat_le, neg_ℤ, option_map, position}
use Rattle.std.specs.Fmt.{signed_decimal}
use Rattle.std.specs.List.{list_all}
use Rattle.std.proofs.lemmas.Bool.{and_parts, and_from, cases_Bool, eqb-true, ne_eqb, le-leb, leb-true, true≢false, false≢true}
use Rattle.std.proofs.lemmas.Fmt.{decimal_digit, first_decimal, digits_decimal, digits_value-decimal, decimal-digits_value}
use Rattle.std.proofs.lemmas.Int.{ints}
use Rattle.std.proofs.lemmas.Str.Parse.{IsNumeralModel, IsDigitsTest, FoldsDigits, numerals_by_fold}
use Rattle.ucon_base.specs.Numbers.{InRange}
use Rattle.ucon_base.specs.declared.value.Value.{Value}
use Rattle.ucon_base.specs.declared.value.Value.TheVariants.{Int}
use Rattle.ucon_base.specs.declared.value_fault.ValueFault.{ValueFault}
use Rattle.ucon_base.specs.Reading.{is_digit, bad_number_place, bad_integer_place, number_from, number_of, sized, spelled_integer, unless_bad, integer_read}
use Rattle.ucon_base.specs.Spelling.{value_spelling}
use Rattle.ucon_base.proofs.Passing.{position_none, all_pass}

abbrev digits : List ℕ → Type 0
digits ds = list_all is_digit ds ≡ true

tells_digits : IsDigitsTest digits
tells_digits = record {
  empty = refl;
  parts = λ c cs h.
      let both = and_parts (is_digit c) (list_all is_digit cs) h in
      let ends = and_parts (nat_le 48 c) (nat_le c 57) both.0 in
      ((leb-true 48 c ends.0, leb-true c 57 ends.1), both.1);
  more = λ c cs range h. and_from (is_digit c) (list_all is_digit cs) (and_from (nat_le 48 c) (nat_le c 57) (le-leb 48 c range.0) (le-leb c 57 range.1)) h;
}

folds : FoldsDigits number_from
folds = record { empty = λ n. refl; more = λ n c cs range. refl }

own : IsNumeralModel digits number_of
own = numerals_by_fold digits tells_digits number_from folds

-- digits of which the first is not `0`
good_number : (ds : List ℕ) → digits ds → 48 < get_or ds 0 0 → bad_number_place ds ≡ None
good_number [] h first = absurd (omega (arith, first))
good_number (d ∷ ds) h first =
    let parts = and_parts (is_digit d) (list_all is_digit ds) h in
    let ends = and_parts (nat_le 48 d) (nat_le d 57) parts.0 in
    let low : nat_le 49 d ≡ true = le-leb 49 d (omega (arith, first)) in
    rw (low, ends.1, position_none is_digit ds parts.1) refl

good_integer : (ds : List ℕ) → digits ds → 48 < get_or ds 0 0 → bad_integer_place ds ≡ None
good_integer [] h first = absurd (omega (arith, first))
good_integer (d ∷ ds) h first =
    let above : 48 < d = first in
    rw (ne_eqb d 45 (λ e. omega (arith, above, e)), ne_eqb d 48 (λ e. omega (arith, above, e))) (good_number (d ∷ ds) h first)

unsigned : (ds : List ℕ) → 48 < get_or ds 0 0 → spelled_integer ds ≡ sized pos (number_of ds)
unsigned [] first = absurd (omega (arith, first))
unsigned (d ∷ ds) first = let above : 48 < d = first in rw (ne_eqb d 45 (λ e. omega (arith, above, e))) refl

pub integer_back : (z : ℤ) → InRange z → integer_read (signed_decimal z) ≡ Ok (Int z)
integer_back (pos zero) range = rw (decimal_digit 0 (omega arith)) refl
integer_back (pos (suc n)) range =
    let small : suc n ≤ 1000000000000000 = omega (arith, ints, range.high) in
    let fits : suc n < 2 ^ 64 = omega (arith, small) in
    let first = first_decimal (suc n) (omega arith) fits in
    let ds : List ℕ = decimal (suc n) in
    rw (good_integer ds (digits_decimal own (suc n) fits) first, unsigned ds first, digits_value-decimal own (suc n) fits, le-leb (suc n) 1000000000000000 small) refl
integer_back (negsuc n) range =
    let small : suc n ≤ 1000000000000000 = omega (arith, ints, range.low) in
    let fits : suc n < 2 ^ 64 = omega (arith, small) in
    let first = first_decimal (suc n) (omega arith) fits in
    let ds : List ℕ = decimal (suc n) in
    rw (good_number ds (digits_decimal own (suc n) fits) first, digits_value-decimal own (suc n) fits, le-leb (suc n) 1000000000000000 small) refl

refused : {A : Type 0} {f : ValueFault} {v : A} → Err f ≡ Ok v → ⊥
refused h = false≢true (ap is_ok h)

pub not_bad : (bad : Option ℕ) (r : Result Value ValueFault) (v : Value) → unless_bad bad r ≡ Ok v → (bad ≡ None) × (r ≡ Ok v)
not_bad None r v h = (refl, h)
not_bad (Some p) r v h = absurd (refused h)

abbrev value_or : Value → Result Value ValueFault → Value
value_or d (Ok v) = v
value_or d (Err f) = d

sized_is : (sign : ℕ → ℤ) (n : ℕ) (v : Value) → sized sign n ≡ Ok v → (n ≤ 1000000000000000) × (v ≡ Int (sign n))
sized_is sign n v h =
    elim (cases_Bool (nat_le n 1000000000000000)) [
      | inl small ↦ (leb-true n 1000000000000000 small, sym (ap (value_or v) (rw small at h)))
      | inr large ↦ absurd (refused (rw large at h))
    ]

moved : (o : Option ℕ) → option_map (λ i. i + 1) o ≡ None → o ≡ None
moved None h = refl
moved (Some i) h = absurd (true≢false (ap is_some h))

number_parts : (ds : List ℕ) → bad_number_place ds ≡ None → digits ds × (48 < get_or ds 0 0)
number_parts [] h = absurd (true≢false (ap is_some h))
number_parts (d ∷ ds) h =
    elim (cases_Bool (nat_le 49 d)) [
      | inl low ↦
          elim (cases_Bool (nat_le d 57)) [
            | inl high ↦
                let rest : list_all is_digit ds ≡ true = all_pass is_digit ds (moved (position (λ b. not (is_digit b)) ds) (rw (low, high) at h)) in
                let above : 49 ≤ d = leb-true 49 d low in
                (and_from (is_digit d) (list_all is_digit ds) (and_from (nat_le 48 d) (nat_le d 57) (le-leb 48 d (omega (arith, above))) high) rest, omega (arith, above))
            | inr not_high ↦ absurd (true≢false (ap is_some (rw (low, not_high) at h)))
          ]
      | inr not_low ↦ absurd (true≢false (ap is_some (rw not_low at h)))
    ]

-- digits without a needless `0` are what their number is spelled as
number_spelled : (ds : List ℕ) → bad_number_place ds ≡ None → number_of ds ≤ 1000000000000000 → decimal (number_of ds) ≡ ds
number_spelled ds h small =
    let parts = number_parts ds h in
    decimal-digits_value own ds parts.0 (some ds parts.1) (λ zero_first. absurd (omega (arith, parts.1, zero_first))) (omega (arith, small))
  where
    some : (bs : List ℕ) → 48 < get_or bs 0 0 → 0 < length bs
    some [] first = absurd (omega (arith, first))
    some (b ∷ bs) first = omega arith

not_zero : (ds : List ℕ) (n : ℕ) → bad_number_place ds ≡ None → decimal n ≡ ds → n ≡ zero → ⊥
not_zero ds n h is none =
    let first : 48 < get_or ds 0 0 = (number_parts ds h).1 in
    let zeros : ds ≡ 48 ∷ [] = sym is ∙ ap decimal none ∙ decimal_digit 0 (omega arith) in
    let head : get_or ds 0 0 ≡ 48 = ap (λ l. get_or l 0 0) zeros in
    omega (arith, first, head)

negative_spelled : (n : ℕ) → (n ≡ zero → ⊥) → signed_decimal (neg_ℤ (pos n)) ≡ 45 ∷ decimal n
negative_spelled zero h = absurd (h refl)
negative_spelled (suc n) h = refl

negative_read : (ds : List ℕ) (v : Value) → bad_number_place ds ≡ None → sized (λ n. neg_ℤ (pos n)) (number_of ds) ≡ Ok v → value_spelling v ≡ 45 ∷ ds
negative_read ds v good h =
    let is = sized_is (λ n. neg_ℤ (pos n)) (number_of ds) v h in
    let text : decimal (number_of ds) ≡ ds = number_spelled ds good is.0 in
    ap value_spelling is.1 ∙ negative_spelled (number_of ds) (not_zero ds (number_of ds) good text) ∙ ap (λ l. 45 ∷ l) text

positive_read : (ds : List ℕ) (v : Value) → bad_number_place ds ≡ None → sized pos (number_of ds) ≡ Ok v → value_spelling v ≡ ds
positive_read ds v good h =
    let is = sized_is pos (number_of ds) v h in
    ap value_spelling is.1 ∙ number_spelled ds good is.0

zero_read : (bs : List ℕ) (v : Value) → (length bs == 0) ≡ true → sized pos (number_of (48 ∷ bs)) ≡ Ok v → value_spelling v ≡ 48 ∷ bs
zero_read [] v none h = ap value_spelling (sized_is pos 0 v h).1 ∙ decimal_digit 0 (omega arith)
zero_read (b ∷ bs) v none h = let e : suc (length bs) ≡ 0 = eqb-true (suc (length bs)) 0 none in absurd (omega (arith, e))

pub integer_is : (bs : List ℕ) (v : Value) → integer_read bs ≡ Ok v → value_spelling v ≡ bs
integer_is [] v h = absurd (refused h)
integer_is (b ∷ bs) v h =
    let parts = not_bad (bad_integer_place (b ∷ bs)) (spelled_integer (b ∷ bs)) v h in
    elim (cases_Bool (b == 45)) [
      | inl minus ↦
          let good : bad_number_place bs ≡ None = moved (bad_number_place bs) (rw minus at parts.0) in
          let read : sized (λ n. neg_ℤ (pos n)) (number_of bs) ≡ Ok v = rw minus at parts.1 in
          rw (eqb-true b 45 minus) (negative_read bs v good read)
      | inr plain ↦
          let read : sized pos (number_of (b ∷ bs)) ≡ Ok v = rw plain at parts.1 in
          elim (cases_Bool (b == 48)) [
            | inl nought ↦
                elim (cases_Bool (length bs == 0)) [
                  | inl alone ↦ rw (eqb-true b 48 nought) (zero_read bs v alone (rw (eqb-true b 48 nought) at read))
                  | inr more ↦ absurd (true≢false (ap is_some (rw (plain, nought, more) at parts.0)))
                ]
            | inr other ↦ positive_read (b ∷ bs) v (rw (plain, other) at parts.0) read
          ]
    ]
