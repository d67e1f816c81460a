-- A plain number, read digit by digit.
use Rattle.std.proofs.Common.{◌≡◌, ℕ, suc, ◌+◌, ◌*◌, ◌-◌, ◌<◌, ◌≤◌, Bool, true, false, not, List, [], ◌∷◌, length, drop, get_or, Option, Some, None, is_some, is_none, inl, inr, refl, sym, ap, ◌∙◌, arith, drop-cons}
use Rattle.std.specs.Prelude.{ℤ, pos, neg_ℤ, ◌==◌, ◌&&◌, nat_le, nat_lt, option_map, option_and_then, unwrap_or, position, Result, Ok, Err, take, if◌then◌else◌}
use Rattle.std.specs.Result.{result_ok}
use Rattle.std.specs.List.{list_all}
use Rattle.std.proofs.lemmas.Bool.{and_right, cases_Bool, le-leb, lt-leb, eqb-true, true≢false, false≢true}
use Rattle.ucon_base.specs.declared.value.Value.TheVariants.{Int, Text}
use Rattle.ucon_base.specs.declared.value_fault.ValueFault.{ValueFault}
use Rattle.ucon_base.specs.declared.value_fault.ValueFault.TheVariants.{BadSpelling, TooLong, OutOfRange}
use Rattle.ucon_base.specs.Reading.{Member, is_digit, bad_number_place, number_from, number_of, number_read, sized, unless_bad, integer_read, integer_of, integer_in, bad_integer_place, text_len, bad_close, opened, members, first_long, unless_long, set_of}
use Rattle.ucon_base.proofs.Passing.{position_none, all_pass}

-- the number that digits write behind those of n, if these are digits and it is in range
abbrev pub told : ℕ → List ℕ → Option ℕ
told n ds = if list_all is_digit ds && nat_le (number_from n ds) 1000000000000000 then Some (number_from n ds) else None

grows : (n : ℕ) (ds : List ℕ) → n ≤ number_from n ds
grows n [] = omega arith
grows n (d ∷ ds) = omega (arith, grows (n * 10 + (d - 48)) ds)

at : (n i : ℕ) (ds : List ℕ) → i < length ds → told n (drop i ds) ≡ told n (get_or ds i 0 ∷ drop (i + 1) ds)
at n i ds h = let e : i + 1 ≡ suc i = omega arith in rw (e, drop-cons ds i 0 h) refl

pub stopped : (n i : ℕ) (ds : List ℕ) (said : Option ℕ) → i < length ds → is_digit (get_or ds i 0) ≡ false → told n (drop i ds) ≡ said → None ≡ said
stopped n i ds said l isnt h = sym (at n i ds l ∙ rw isnt refl) ∙ h

pub too_great : (n i : ℕ) (ds : List ℕ) (said : Option ℕ) → i < length ds → 100000000000000 < n → told n (drop i ds) ≡ said → None ≡ said
too_great n i ds said l large h =
    let d : ℕ = get_or ds i 0 in
    let rest : List ℕ = drop (i + 1) ds in
    let most : n * 10 + (d - 48) ≤ number_from (n * 10 + (d - 48)) rest = grows (n * 10 + (d - 48)) rest in
    let above : nat_le (number_from n (d ∷ rest)) 1000000000000000 ≡ false = lt-leb (number_from n (d ∷ rest)) 1000000000000000 (omega (arith, most)) in
    sym (at n i ds l ∙ rw (and_right (list_all is_digit (d ∷ rest)) _ above) refl) ∙ h

digits_from : (bs : List ℕ) → 49 ≤ get_or bs 0 0 → get_or bs 0 0 ≤ 57 → list_all is_digit bs ≡ is_none (bad_number_place bs)
digits_from [] low high = absurd (omega (arith, low))
digits_from (b ∷ bs) low high =
    let bottom : nat_le 49 b ≡ true = le-leb 49 b low in
    let lower : nat_le 48 b ≡ true = le-leb 48 b (omega (arith, low)) in
    let top : nat_le b 57 ≡ true = le-leb b 57 high in
    elim (cases_Bool (list_all is_digit bs)) [
      | inl all ↦ rw (bottom, lower, top, all, position_none is_digit bs all) refl
      | inr some ↦ rw (bottom, lower, top, some) (sym (not_none (position (λ d. not (is_digit d)) bs) (λ none. true≢false (sym (all_pass is_digit bs none) ∙ some))))
    ]
  where
    not_none : (o : Option ℕ) → (o ≡ None → ⊥) → is_none (option_map (λ i. i + 1) o) ≡ false
    not_none None h = absurd (h refl)
    not_none (Some i) h = refl

pub begun : (bs : List ℕ) → 49 ≤ get_or bs 0 0 → get_or bs 0 0 ≤ 57 → told 0 bs ≡ number_read bs
begun bs low high = ap (λ b. if b && nat_le (number_of bs) 1000000000000000 then Some (number_of bs) else None) (digits_from bs low high)

-- what an integer's size tells
sized_told : (sign : ℕ → ℤ) (bad : Option ℕ) (n : ℕ)
    → option_and_then integer_of (result_ok (unless_bad bad (sized sign n))) ≡ option_map sign (if is_none bad && nat_le n 1000000000000000 then Some n else None)
sized_told sign (Some p) n = refl
sized_told sign None n =
    elim (cases_Bool (nat_le n 1000000000000000)) [
      | inl small ↦ rw small refl
      | inr large ↦ rw large refl
    ]

moved : (bad : Option ℕ) → is_none (option_map (λ i. i + 1) bad) ≡ is_none bad
moved None = refl
moved (Some i) = refl

pub negative : (ds : List ℕ) → option_and_then integer_of (result_ok (integer_read (45 ∷ ds))) ≡ option_map (λ n. neg_ℤ (pos n)) (number_read ds)
negative ds =
    sized_told (λ n. neg_ℤ (pos n)) (option_map (λ i. i + 1) (bad_number_place ds)) (number_of ds)
    ∙ ap (λ b. option_map (λ n. neg_ℤ (pos n)) (if b && nat_le (number_of ds) 1000000000000000 then Some (number_of ds) else None)) (moved (bad_number_place ds))

no_text : (bad : Option ℕ) (long : Bool) (t : List ℕ)
    → option_and_then integer_of (result_ok (unless_bad bad (if long then Err (TooLong 0) else Ok (Text t)))) ≡ None
no_text (Some p) long t = refl
no_text None true t = refl
no_text None false t = refl

no_long_set : (long : Option ℕ) (ms : List Member) → option_and_then integer_of (result_ok (unless_long long ms)) ≡ None
no_long_set (Some p) ms = refl
no_long_set None ms =
    elim (cases_Bool (nat_lt 64 (length ms))) [
      | inl many ↦ rw many refl
      | inr few ↦ rw few refl
    ]

no_set : (told : Result (List Member) ValueFault) → option_and_then integer_of (result_ok (set_of told)) ≡ None
no_set (Ok ms) = no_long_set (first_long ms) ms
no_set (Err f) = refl

-- only what begins as an integer spells one
pub same_integer : (bs : List ℕ) → integer_in bs ≡ option_and_then integer_of (result_ok (integer_read bs))
same_integer [] = refl
same_integer (b ∷ bs) =
    elim (cases_Bool (b == 34)) [
      | inl quote ↦
          let is : b ≡ 34 = eqb-true b 34 quote in
          rw is (no_text (bad_close (text_len bs + 1) (drop (text_len bs) bs)) (nat_lt 64 (text_len bs)) (take (text_len bs) bs))
      | inr no_quote ↦
          elim (cases_Bool (b == 123)) [
            | inl bracket ↦ let is : b ≡ 123 = eqb-true b 123 bracket in rw is (no_set (members None opened 1 bs))
            | inr no_bracket ↦ rw (no_quote, no_bracket) refl
          ]
    ]

sized_one : (sign : ℕ → ℤ) (bad : Option ℕ) (n : ℕ) (z : ℤ)
    → option_and_then integer_of (result_ok (unless_bad bad (sized sign n))) ≡ Some z → unless_bad bad (sized sign n) ≡ Ok (Int z)
sized_one sign (Some p) n z h = cc
sized_one sign None n z h =
    elim (cases_Bool (nat_le n 1000000000000000)) [
      | inl small ↦ rw small (ap (λ o. Ok (Int (unwrap_or o z))) (rw small at h))
      | inr large ↦ absurd (false≢true (ap is_some (rw large at h)))
    ]

sized_none : (sign : ℕ → ℤ) (bad : Option ℕ) (n : ℕ) → option_and_then integer_of (result_ok (unless_bad bad (sized sign n))) ≡ None
    → unless_bad bad (sized sign n) ≡ Err (unwrap_or (option_map (λ p. BadSpelling p) bad) OutOfRange)
sized_none sign (Some p) n h = refl
sized_none sign None n h =
    elim (cases_Bool (nat_le n 1000000000000000)) [
      | inl small ↦ absurd (true≢false (ap is_some (rw small at h)))
      | inr large ↦ rw large refl
    ]

one_if : (minus : Bool) (bad : Option ℕ) (m n : ℕ) (z : ℤ)
    → option_and_then integer_of (result_ok (unless_bad bad (if minus then sized (λ k. neg_ℤ (pos k)) m else sized pos n))) ≡ Some z
    → unless_bad bad (if minus then sized (λ k. neg_ℤ (pos k)) m else sized pos n) ≡ Ok (Int z)
one_if true bad m n z h = sized_one (λ k. neg_ℤ (pos k)) bad m z h
one_if false bad m n z h = sized_one pos bad n z h

none_if : (minus : Bool) (bad : Option ℕ) (m n : ℕ)
    → option_and_then integer_of (result_ok (unless_bad bad (if minus then sized (λ k. neg_ℤ (pos k)) m else sized pos n))) ≡ None
    → unless_bad bad (if minus then sized (λ k. neg_ℤ (pos k)) m else sized pos n) ≡ Err (unwrap_or (option_map (λ p. BadSpelling p) bad) OutOfRange)
none_if true bad m n h = sized_none (λ k. neg_ℤ (pos k)) bad m h
none_if false bad m n h = sized_none pos bad n h

-- where an integer is told, it is what is read
pub read_one : (bs : List ℕ) (z : ℤ) → option_and_then integer_of (result_ok (integer_read bs)) ≡ Some z → integer_read bs ≡ Ok (Int z)
read_one [] z h = cc
read_one (b ∷ bs) z h = one_if (b == 45) (bad_integer_place (b ∷ bs)) (number_of bs) (number_of (b ∷ bs)) z h

-- why bytes that spell no integer spell none
abbrev pub integer_fault : List ℕ → ValueFault
integer_fault bs = unwrap_or (option_map (λ p. BadSpelling p) (bad_integer_place bs)) OutOfRange

-- where none is told, its fault is
pub read_none : (bs : List ℕ) → option_and_then integer_of (result_ok (integer_read bs)) ≡ None → integer_read bs ≡ Err (integer_fault bs)
read_none [] h = refl
read_none (b ∷ bs) h = none_if (b == 45) (bad_integer_place (b ∷ bs)) (number_of bs) (number_of (b ∷ bs)) h
