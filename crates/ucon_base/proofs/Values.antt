-- A value's spelling is read as the value, and what is read is the value's spelling.
use Rattle.std.proofs.Common.{◌≡◌, ℕ, suc, ◌+◌, true, false, List, [], ◌∷◌, ◌++◌, length, take, drop, Option, Some, None, Ok, Err, is_ok, is_some, inl, inr, refl, sym, ap, ◌∙◌, arith, take-append-drop}
use Rattle.std.specs.Prelude.{Result, ◌==◌, nat_lt, nat_le, is_none}
use Rattle.std.specs.Fmt.{signed_decimal}
use Rattle.std.proofs.lemmas.Bool.{and_parts, cases_Bool, eqb-true, ne_eqb, le-ltb, leb-true, true≢false, false≢true}
use Rattle.ucon_base.specs.declared.value.Value.{Value}
use Rattle.ucon_base.specs.declared.value.Value.TheVariants.{Int, Text, Set}
use Rattle.ucon_base.specs.declared.value_fault.ValueFault.{ValueFault}
use Rattle.ucon_base.specs.Reading.{Member, bad_integer_place, spelled_integer, integer_read, text_len, bad_close, text_read, opened, members, first_long, unless_long, set_of, set_read, value_read}
use Rattle.ucon_base.specs.Spelling.{value_spelling, IsValue}
use Rattle.ucon_base.specs.TextBytes.{is_text, is_text_byte, bad_text_place}
use Rattle.ucon_base.proofs.Integers.{integer_back, integer_is, not_bad}
use Rattle.ucon_base.proofs.SetsRead.{texts, sound}
use Rattle.ucon_base.proofs.SetsSpelled.{set_back}
use Rattle.ucon_base.proofs.TextFront.{texty, texty_is}

refused : {A : Type 0} {f : ValueFault} {v : A} → Err f ≡ Ok v → ⊥
refused h = false≢true (ap is_ok h)

abbrev value_or : Value → Result Value ValueFault → Value
value_or d (Ok v) = v
value_or d (Err f) = d

-- ---- texts

text_len_spelled : (t rest : List ℕ) → texty t ≡ true → text_len (t ++ 34 ∷ rest) ≡ length t
text_len_spelled [] rest h = refl
text_len_spelled (b ∷ bs) rest h =
    let parts = and_parts (is_text_byte b) (texty bs) h in
    rw parts.0 (omega (arith, text_len_spelled bs rest parts.1))

take_front : (t rest : List ℕ) → take (length t) (t ++ rest) ≡ t
take_front [] rest = refl
take_front (b ∷ bs) rest = ap (λ l. b ∷ l) (take_front bs rest)

drop_front : (t rest : List ℕ) → drop (length t) (t ++ rest) ≡ rest
drop_front [] rest = refl
drop_front (b ∷ bs) rest = drop_front bs rest

text_back : (t : List ℕ) → is_text t ≡ true → text_read (t ++ 34 ∷ []) ≡ Ok (Text t)
text_back t h =
    let parts = and_parts (nat_le (length t) 64) (is_none (bad_text_place t)) h in
    rw (text_len_spelled t [] (texty_is t h), drop_front t (34 ∷ []), take_front t (34 ∷ []), le-ltb 64 (length t) (leb-true (length t) 64 parts.0)) refl

closed_is : (at : ℕ) (rest : List ℕ) → bad_close at rest ≡ None → rest ≡ 34 ∷ []
closed_is at [] h = absurd (true≢false (ap is_some h))
closed_is at (b ∷ []) h =
    elim (cases_Bool (b == 34)) [
      | inl is ↦ ap (λ c. c ∷ []) (eqb-true b 34 is)
      | inr isnt ↦ absurd (true≢false (ap is_some (rw isnt at h)))
    ]
closed_is at (b ∷ c ∷ bs) h =
    let more : (suc (length bs) == 0) ≡ false = ne_eqb (suc (length bs)) 0 (λ e. omega (arith, e)) in
    elim (cases_Bool (b == 34)) [
      | inl is ↦ absurd (true≢false (ap is_some (rw (is, more) at h)))
      | inr isnt ↦ absurd (true≢false (ap is_some (rw isnt at h)))
    ]

text_is : (bs : List ℕ) (v : Value) → text_read bs ≡ Ok v → value_spelling v ≡ 34 ∷ bs
text_is bs v h =
    let n : ℕ = text_len bs in
    let front : List ℕ = take n bs in
    let parts = not_bad (bad_close (n + 1) (drop n bs)) _ v h in
    let close : drop n bs ≡ 34 ∷ [] = closed_is (n + 1) (drop n bs) parts.0 in
    elim (cases_Bool (nat_lt 64 n)) [
      | inl long ↦ absurd (refused (rw long at parts.1))
      | inr short ↦
          let is : Text front ≡ v = ap (value_or v) (rw short at parts.1) in
          ap value_spelling (sym is) ∙ ap (λ l. 34 ∷ (front ++ l)) (sym close) ∙ ap (λ l. 34 ∷ l) (take-append-drop n bs)
    ]

-- ---- sets

limited_is : (long : Option ℕ) (ms : List Member) (v : Value) → unless_long long ms ≡ Ok v → v ≡ Set (texts ms)
limited_is (Some p) ms v h = absurd (refused h)
limited_is None ms v h =
    elim (cases_Bool (nat_lt 64 (length ms))) [
      | inl many ↦ absurd (refused (rw many at h))
      | inr few ↦ sym (ap (value_or v) (rw few at h))
    ]

set_of_is : (r : Result (List Member) ValueFault) (v : Value) → set_of r ≡ Ok v → (ms : List Member) × ((r ≡ Ok ms) × (v ≡ Set (texts ms)))
set_of_is (Ok ms) v h = (ms, (refl, limited_is (first_long ms) ms v h))
set_of_is (Err f) v h = absurd (refused h)

set_is : (bs : List ℕ) (v : Value) → set_read bs ≡ Ok v → value_spelling v ≡ 123 ∷ bs
set_is bs v h =
    let made = set_of_is (members None opened 1 bs) v h in
    ap value_spelling made.1.1 ∙ sym (sound None opened 1 bs made.0 made.1.0).0

-- ---- values

-- what is spelled as an integer begins neither as a text nor as a set
as_integer : (bs : List ℕ) → bad_integer_place bs ≡ None → value_read bs ≡ integer_read bs
as_integer [] h = refl
as_integer (b ∷ bs) h =
    elim (cases_Bool (b == 34)) [
      | inl quote ↦ absurd (true≢false (ap is_some (rw (eqb-true b 34 quote) at h)))
      | inr other ↦
          elim (cases_Bool (b == 123)) [
            | inl bracket ↦ absurd (true≢false (ap is_some (rw (eqb-true b 123 bracket) at h)))
            | inr neither ↦ rw (other, neither) refl
          ]
    ]

pub value_back : (v : Value) → IsValue v → value_read (value_spelling v) ≡ Ok v
value_back (Int z) h =
    let text : List ℕ = signed_decimal z in
    let read = integer_back z h in
    as_integer text (not_bad (bad_integer_place text) (spelled_integer text) (Int z) read).0 ∙ read
value_back (Text t) h = text_back t h
value_back (Set []) h = set_back [] h.0 h.1
value_back (Set (t ∷ ts)) h = set_back (t ∷ ts) h.0 h.1

pub value_is : (bs : List ℕ) (v : Value) → value_read bs ≡ Ok v → value_spelling v ≡ bs
value_is [] v h = integer_is [] v h
value_is (b ∷ bs) v h =
    elim (cases_Bool (b == 34)) [
      | inl quote ↦ rw (eqb-true b 34 quote) (text_is bs v (rw quote at h))
      | inr other ↦
          elim (cases_Bool (b == 123)) [
            | inl bracket ↦ rw (eqb-true b 123 bracket) (set_is bs v (rw (other, bracket) at h))
            | inr neither ↦ integer_is (b ∷ bs) v (rw (other, neither) at h)
          ]
    ]
