-- What is read as a value has no newline.
use Rattle.std.proofs.Common.{◌≡◌, ℕ, suc, ◌+◌, ◌≤◌, true, false, not, List, [], ◌∷◌, ◌++◌, length, drop, Option, Some, None, Ok, Err, is_ok, is_some, inl, inr, refl, ap, arith}
use Rattle.std.specs.Prelude.{Result, ◌&&◌, ◌==◌, nat_lt, nat_le, option_map, position}
use Rattle.std.specs.List.{prefix_len}
use Rattle.std.proofs.lemmas.Bool.{and_parts, cases_Bool, true≢false, false≢true, eqb-true, ne_eqb, leb-true, ltb-false}
use Rattle.ucon_base.specs.declared.value.Value.{Value}
use Rattle.ucon_base.specs.declared.value_fault.ValueFault.{ValueFault}
use Rattle.ucon_base.specs.Reading.{Member, Stage, opened, inside, behind, awaiting, closed, before, members, set_of, set_read, rises, can_rise, is_digit, bad_number_place, bad_integer_place, spelled_integer, unless_bad, bad_close, text_len, text_read, value_read}
use Rattle.ucon_base.specs.TextBytes.{is_text_byte}
use Rattle.ucon_model.specs.Output.{Lacks}
use Rattle.ucon_model.specs.Plain.{Bytes}

refused : {A : Type 0} {f : ValueFault} {x : A} → Err f ≡ Ok x → ⊥
refused h = false≢true (ap is_ok h)

-- a byte that is another one is no newline
another : (b c : ℕ) → (c ≡ 10 → ⊥) → (b == c) ≡ true → (b == 10) ≡ false
another b c other is = let same : b ≡ c = eqb-true b c is in ne_eqb b 10 (λ e. other (omega (arith, same, e)))

above : (b : ℕ) → 32 ≤ b → (b == 10) ≡ false
above b le = ne_eqb b 10 (λ e. omega (arith, le, e))

of_text : (b : ℕ) → is_text_byte b ≡ true → (b == 10) ≡ false
of_text b is = above b (leb-true 32 b (and_parts (nat_le 32 b) (nat_le b 126) (and_parts (nat_le 32 b && nat_le b 126) (not (b == 34)) is).0).0)

-- ---- sets

before_parts : (m : Member) (r : Result (List Member) ValueFault) (ms : List Member) → before m r ≡ Ok ms → (rest : List Member) × (r ≡ Ok rest)
before_parts m (Ok rest) ms h = (rest, refl)
before_parts m (Err f) ms h = absurd (refused h)

members_lack : (bs : Bytes) (last : Option Bytes) (stage : Stage) (at : ℕ) (ms : List Member) → members last stage at bs ≡ Ok ms → Lacks 10 bs
members_lack [] last stage at ms h = tt
members_lack (b ∷ bs) last closed at ms h = absurd (refused h)
members_lack (b ∷ bs) last opened at ms h =
    elim (cases_Bool (b == 34)) [
      | inl quote ↦ (another b 34 (λ e. omega (arith, e)) quote, members_lack bs last (inside at []) (at + 1) ms (rw quote at h))
      | inr no_quote ↦
          elim (cases_Bool (b == 125)) [
            | inl close ↦ (another b 125 (λ e. omega (arith, e)) close, members_lack bs last closed (at + 1) ms (rw (no_quote, close) at h))
            | inr no_close ↦ absurd (refused (rw (no_quote, no_close) at h))
          ]
    ]
members_lack (b ∷ bs) last (inside q t) at ms h =
    elim (cases_Bool (is_text_byte b)) [
      | inl text ↦
          elim (cases_Bool (can_rise last (t ++ b ∷ []))) [
            | inl can ↦ (of_text b text, members_lack bs last (inside q (t ++ b ∷ [])) (at + 1) ms (rw (text, can) at h))
            | inr cannot ↦ absurd (refused (rw (text, cannot) at h))
          ]
      | inr no_text ↦
          elim (cases_Bool (b == 34)) [
            | inl quote ↦
                elim (cases_Bool (rises last t)) [
                  | inl up ↦
                      let rest = before_parts (record { at = q; text = t }) (members (Some t) behind (at + 1) bs) ms (rw (no_text, quote, up) at h) in
                      (another b 34 (λ e. omega (arith, e)) quote, members_lack bs (Some t) behind (at + 1) rest.0 rest.1)
                  | inr down ↦ absurd (refused (rw (no_text, quote, down) at h))
                ]
            | inr no_quote ↦ absurd (refused (rw (no_text, no_quote) at h))
          ]
    ]
members_lack (b ∷ bs) last behind at ms h =
    elim (cases_Bool (b == 44)) [
      | inl comma ↦ (another b 44 (λ e. omega (arith, e)) comma, members_lack bs last awaiting (at + 1) ms (rw comma at h))
      | inr no_comma ↦
          elim (cases_Bool (b == 125)) [
            | inl close ↦ (another b 125 (λ e. omega (arith, e)) close, members_lack bs last closed (at + 1) ms (rw (no_comma, close) at h))
            | inr no_close ↦ absurd (refused (rw (no_comma, no_close) at h))
          ]
    ]
members_lack (b ∷ bs) last awaiting at ms h =
    elim (cases_Bool (b == 34)) [
      | inl quote ↦ (another b 34 (λ e. omega (arith, e)) quote, members_lack bs last (inside at []) (at + 1) ms (rw quote at h))
      | inr no_quote ↦ absurd (refused (rw no_quote at h))
    ]

set_parts : (r : Result (List Member) ValueFault) (v : Value) → set_of r ≡ Ok v → (ms : List Member) × (r ≡ Ok ms)
set_parts (Ok ms) v h = (ms, refl)
set_parts (Err f) v h = absurd (refused h)

set_lacks : (bs : Bytes) (v : Value) → set_read bs ≡ Ok v → Lacks 10 bs
set_lacks bs v h = let k = set_parts (members None opened 1 bs) v h in members_lack bs None opened 1 k.0 k.1

-- ---- integers

not_bad : (bad : Option ℕ) (r : Result Value ValueFault) (v : Value) → unless_bad bad r ≡ Ok v → bad ≡ None
not_bad None r v h = refl
not_bad (Some p) r v h = absurd (refused h)

bad : {i : ℕ} → Some i ≡ None → ⊥
bad h = true≢false (ap is_some h)

moved : (o : Option ℕ) → option_map (λ i. i + 1) o ≡ None → o ≡ None
moved None h = refl
moved (Some i) h = absurd (bad h)

digits_from : (t : Bytes) → length t ≤ prefix_len (λ b. not (not (is_digit b))) t → Lacks 10 t
digits_from [] h = tt
digits_from (b ∷ bs) h =
    elim (cases_Bool (is_digit b)) [
      | inl is ↦
          let more : suc (length bs) ≤ 1 + prefix_len (λ c. not (not (is_digit c))) bs = rw is at h in
          let low : 48 ≤ b = leb-true 48 b (and_parts (nat_le 48 b) (nat_le b 57) is).0 in
          (above b (omega (arith, low)), digits_from bs (omega (arith, more)))
      | inr isnt ↦ let none : suc (length bs) ≤ 0 = rw isnt at h in absurd (omega (arith, none))
    ]

digits_lack : (t : Bytes) → position (λ b. not (is_digit b)) t ≡ None → Lacks 10 t
digits_lack t none =
    let n : ℕ = prefix_len (λ b. not (not (is_digit b))) t in
    elim (cases_Bool (nat_lt n (length t))) [
      | inl some ↦ absurd (bad (rw some at none))
      | inr all ↦ digits_from t (ltb-false n (length t) all)
    ]

number_lacks : (ds : Bytes) → bad_number_place ds ≡ None → Lacks 10 ds
number_lacks [] h = absurd (bad h)
number_lacks (d ∷ ds) h =
    elim (cases_Bool (nat_le 49 d)) [
      | inl low ↦
          elim (cases_Bool (nat_le d 57)) [
            | inl high ↦
                let least : 49 ≤ d = leb-true 49 d low in
                (above d (omega (arith, least)), digits_lack ds (moved (position (λ b. not (is_digit b)) ds) (rw (low, high) at h)))
            | inr not_high ↦ absurd (bad (rw (low, not_high) at h))
          ]
      | inr not_low ↦ absurd (bad (rw not_low at h))
    ]

empty_lacks : (bs : Bytes) → (length bs == 0) ≡ true → Lacks 10 bs
empty_lacks [] h = tt
empty_lacks (b ∷ bs) h = let none : suc (length bs) ≡ 0 = eqb-true (suc (length bs)) 0 h in absurd (omega (arith, none))

integer_lacks : (bs : Bytes) → bad_integer_place bs ≡ None → Lacks 10 bs
integer_lacks [] h = absurd (bad h)
integer_lacks (b ∷ bs) h =
    elim (cases_Bool (b == 45)) [
      | inl minus ↦ (another b 45 (λ e. omega (arith, e)) minus, number_lacks bs (moved (bad_number_place bs) (rw minus at h)))
      | inr no_minus ↦
          elim (cases_Bool (b == 48)) [
            | inl nought ↦
                elim (cases_Bool (length bs == 0)) [
                  | inl alone ↦ (another b 48 (λ e. omega (arith, e)) nought, empty_lacks bs alone)
                  | inr more ↦ absurd (bad (rw (no_minus, nought, more) at h))
                ]
            | inr no_nought ↦ let number : bad_number_place (b ∷ bs) ≡ None = rw (no_minus, no_nought) at h in number_lacks (b ∷ bs) number
          ]
    ]

-- ---- texts

closed_lacks : (at : ℕ) (bs : Bytes) → bad_close at (drop (text_len bs) bs) ≡ None → Lacks 10 bs
closed_lacks at [] h = tt
closed_lacks at (b ∷ bs) h =
    elim (cases_Bool (is_text_byte b)) [
      | inl text ↦
          let one : 1 + text_len bs ≡ suc (text_len bs) = omega arith in
          let rest : bad_close at (drop (text_len bs) bs) ≡ None = rw (text, one) at h in
          (of_text b text, closed_lacks at bs rest)
      | inr no_text ↦
          let here : bad_close at (b ∷ bs) ≡ None = rw no_text at h in
          elim (cases_Bool (b == 34)) [
            | inl quote ↦
                elim (cases_Bool (length bs == 0)) [
                  | inl alone ↦ (another b 34 (λ e. omega (arith, e)) quote, empty_lacks bs alone)
                  | inr more ↦ absurd (bad (rw (quote, more) at here))
                ]
            | inr no_quote ↦ absurd (bad (rw no_quote at here))
          ]
    ]

text_lacks : (bs : Bytes) (v : Value) → text_read bs ≡ Ok v → Lacks 10 bs
text_lacks bs v h = closed_lacks (text_len bs + 1) bs (not_bad (bad_close (text_len bs + 1) (drop (text_len bs) bs)) _ v h)

-- ---- values

pub value_lacks : (bs : Bytes) (v : Value) → value_read bs ≡ Ok v → Lacks 10 bs
value_lacks [] v h = tt
value_lacks (b ∷ bs) v h =
    elim (cases_Bool (b == 34)) [
      | inl quote ↦ (another b 34 (λ e. omega (arith, e)) quote, text_lacks bs v (rw quote at h))
      | inr no_quote ↦
          elim (cases_Bool (b == 123)) [
            | inl curly ↦ (another b 123 (λ e. omega (arith, e)) curly, set_lacks bs v (rw (no_quote, curly) at h))
            | inr no_curly ↦ integer_lacks (b ∷ bs) (not_bad (bad_integer_place (b ∷ bs)) (spelled_integer (b ∷ bs)) v (rw (no_quote, no_curly) at h))
          ]
    ]
