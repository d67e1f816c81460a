-- What is read as a value is one.
use Rattle.std.proofs.Common.{◌≡◌, ℕ, ◌+◌, ◌≤◌, Bool, true, false, cond, not, List, [], ◌∷◌, ◌++◌, length, map, take, drop, Option, Some, None, Ok, Err, is_ok, is_some, refl, sym, ap, subst, arith}
use Rattle.std.specs.Prelude.{Result, ℤ, pos, neg_ℤ, ◌&&◌, ◌==◌, nat_le, nat_lt, position, ⊤}
use Rattle.std.specs.List.{list_all, prefix_len}
use Rattle.std.specs.Cmp.Lexicographic.{slice_cmp}
use Rattle.std.specs.Ordering.{nat_cmp, is_lt}
use Rattle.std.specs.Result.{result_unwrap_or}
use Rattle.std.proofs.lemmas.Bool.{and_from, and_parts, false≢true, le-leb, le-ltb, leb-true}
use Rattle.std.proofs.lemmas.List.{length-map}
use Rattle.std.proofs.lemmas.Bool.Decides.{nat_tests}
use Rattle.std.proofs.lemmas.Int.{ints}
use Rattle.ucon_base.specs.Numbers.{InRange}
use Rattle.ucon_base.specs.Reading.{integer_read, spelled_integer, sized, number_of, unless_bad, bad_integer_place, text_read, text_len, bad_close, Member, rises, can_rise, Stage, opened, inside, behind, awaiting, closed, before, members, first_long, unless_long, set_of, set_read, value_read}
use Rattle.ucon_base.specs.Spelling.{IsValue}
use Rattle.ucon_base.specs.TextBytes.{is_text, is_text_byte}
use Rattle.ucon_base.specs.Value.{is_rising}
use Rattle.ucon_base.specs.declared.value.Value.{Value}
use Rattle.ucon_base.specs.declared.value.Value.TheVariants.{Int, Text, Set}
use Rattle.ucon_base.specs.declared.value_fault.ValueFault.{ValueFault}
use Rattle.ucon_model.specs.Plain.{Bytes}
use Rattle.ucon_store.proofs.Spelled.Tokens.{text_run}
use Rattle.ucon_base.specs.declared.value_fault.ValueFault.TheVariants.{BadSpelling}

abbrev told : {A : Type 0} → A → Result A ValueFault
told x = Ok x

refused : {A : Type 0} {f : ValueFault} {v : A} → Err f ≡ Ok v → ⊥
refused h = false≢true (ap is_ok h)

same : {A : Type 0} (x y : A) → told x ≡ Ok y → x ≡ y
same {A} x y h = ap (λ (r : Result A ValueFault). result_unwrap_or r x) h

either : {A G : Type 0} (b : Bool) (x y : Result A ValueFault) (v : A) → cond b x y ≡ Ok v → (b ≡ true → x ≡ Ok v → G) → (b ≡ false → y ≡ Ok v → G) → G
either true x y v h f g = f refl h
either false x y v h f g = g refl h

unless : (o : Option ℕ) (r : Result Value ValueFault) (v : Value) → unless_bad o r ≡ Ok v → r ≡ Ok v
unless None r v h = h
unless (Some p) r v h = absurd (refused h)

-- ---- integers and texts

plus_value : (n : ℕ) → n ≤ 1000000000000000 → InRange (pos n)
plus_value n few = record { low = omega (arith, ints); high = omega (arith, ints, few) }

minus_value : (n : ℕ) → n ≤ 1000000000000000 → InRange (neg_ℤ (pos n))
minus_value n few = record { low = omega (arith, ints, few); high = omega (arith, ints) }

sized_value : (sign : ℕ → ℤ) → ((n : ℕ) → n ≤ 1000000000000000 → InRange (sign n)) → (n : ℕ) (v : Value) → sized sign n ≡ Ok v → IsValue v
sized_value sign ranges n v h =
    either (nat_le n 1000000000000000) (Ok (Int (sign n))) _ v h (λ few is. subst IsValue (same (Int (sign n)) v is) (ranges n (leb-true n 1000000000000000 few)))
    (λ many is. absurd (refused is))

spelled_value : (bs : Bytes) (v : Value) → spelled_integer bs ≡ Ok v → IsValue v
spelled_value [] v h = sized_value pos plus_value 0 v h
spelled_value (b ∷ bs) v h =
    either (b == 45) (sized (λ n. neg_ℤ (pos n)) (number_of bs)) (sized pos (number_of (b ∷ bs))) v h
    (λ is. sized_value (λ n. neg_ℤ (pos n)) minus_value (number_of bs) v) (λ is. sized_value pos plus_value (number_of (b ∷ bs)) v)

integer_value : (bs : Bytes) (v : Value) → integer_read bs ≡ Ok v → IsValue v
integer_value bs v h = spelled_value bs v (unless (bad_integer_place bs) (spelled_integer bs) v h)

text_value : (bs : Bytes) (v : Value) → text_read bs ≡ Ok v → IsValue v
text_value bs v h =
    either (nat_lt 64 (text_len bs)) _ (Ok (Text (take (text_len bs) bs))) v (unless (bad_close (text_len bs + 1) (drop (text_len bs) bs)) _ v h) (λ long is. absurd (refused is))
    (λ short is. subst IsValue (same (Text (take (text_len bs) bs)) v is) (text_run bs short))

-- ---- sets

abbrev texts : List Member → List Bytes
texts ms = map (λ m. m.text) ms

-- each stands above the one before it
abbrev chain : Option Bytes → List Bytes → Bool
chain last [] = true
chain last (t ∷ ts) = rises last t && chain (Some t) ts

abbrev texty : Bytes → Bool
texty t = list_all is_text_byte t

abbrev IsGood : Option Bytes → List Member → Type 0
IsGood last ms = (chain last (texts ms) ≡ true) × (list_all texty (texts ms) ≡ true)

texty_more : (t : Bytes) (b : ℕ) → texty t ≡ true → is_text_byte b ≡ true → texty (t ++ b ∷ []) ≡ true
texty_more [] b h is = and_from (is_text_byte b) true is refl
texty_more (c ∷ t) b h is =
    let parts = and_parts (is_text_byte c) (texty t) h in
    and_from (is_text_byte c) (texty (t ++ b ∷ [])) parts.0 (texty_more t b parts.1 is)

before_good : (last : Option Bytes) (m : Member) (r : Result (List Member) ValueFault) (ms : List Member) → before m r ≡ Ok ms
    → texty m.text ≡ true → rises last m.text ≡ true → ((rest : List Member) → r ≡ Ok rest → IsGood (Some m.text) rest) → IsGood last ms
before_good last m (Ok rest) ms h plain up good =
    let behind = good rest refl in
    subst (IsGood last) (same (m ∷ rest) ms h)
    (and_from (rises last m.text) (chain (Some m.text) (texts rest)) up behind.0, and_from (texty m.text) (list_all texty (texts rest)) plain behind.1)
before_good last m (Err f) ms h plain up good = absurd (refused h)

-- inside a text its bytes so far may stand there
abbrev IsPlain : Stage → Type 0
IsPlain (inside q t) = texty t ≡ true
IsPlain stage = ⊤

members_good : (bs : Bytes) (last : Option Bytes) (stage : Stage) (at : ℕ) (ms : List Member) → IsPlain stage → members last stage at bs ≡ Ok ms → IsGood last ms
members_good [] last closed at ms plain h = subst (IsGood last) (same [] ms h) (refl, refl)
members_good [] last opened at ms plain h = absurd (refused h)
members_good [] last (inside q t) at ms plain h = absurd (refused h)
members_good [] last behind at ms plain h = absurd (refused h)
members_good [] last awaiting at ms plain h = absurd (refused h)
members_good (b ∷ bs) last closed at ms plain h = absurd (refused h)
members_good (b ∷ bs) last opened at ms plain h =
    either (b == 34) (members last (inside at []) (at + 1) bs) _ ms h (λ is. members_good bs last (inside at []) (at + 1) ms refl)
    (λ isnt rest. either (b == 125) (members last closed (at + 1) bs) _ ms rest (λ is. members_good bs last closed (at + 1) ms tt) (λ no is. absurd (refused is)))
members_good (b ∷ bs) last (inside q t) at ms plain h =
    either (is_text_byte b) (cond (can_rise last (t ++ b ∷ [])) (members last (inside q (t ++ b ∷ [])) (at + 1) bs) (Err (BadSpelling q))) _ ms h
    (λ is more. either (can_rise last (t ++ b ∷ [])) (members last (inside q (t ++ b ∷ [])) (at + 1) bs) _ ms more
    (λ up. members_good bs last (inside q (t ++ b ∷ [])) (at + 1) ms (texty_more t b plain is)) (λ down is. absurd (refused is)))
    (λ isnt more. either (b == 34) (cond (rises last t) (before (record { at = q; text = t }) (members (Some t) behind (at + 1) bs)) (Err (BadSpelling q))) _ ms more
    (λ is end. either (rises last t) (before (record { at = q; text = t }) (members (Some t) behind (at + 1) bs)) _ ms end
    (λ up done. before_good last (record { at = q; text = t }) (members (Some t) behind (at + 1) bs) ms done plain up (λ rest. members_good bs (Some t) behind (at + 1) rest tt))
    (λ down is. absurd (refused is)))
    (λ no is. absurd (refused is)))
members_good (b ∷ bs) last behind at ms plain h =
    either (b == 44) (members last awaiting (at + 1) bs) _ ms h (λ is. members_good bs last awaiting (at + 1) ms tt)
    (λ isnt rest. either (b == 125) (members last closed (at + 1) bs) _ ms rest (λ is. members_good bs last closed (at + 1) ms tt) (λ no is. absurd (refused is)))
members_good (b ∷ bs) last awaiting at ms plain h =
    either (b == 34) (members last (inside at []) (at + 1) bs) _ ms h (λ is. members_good bs last (inside at []) (at + 1) ms refl) (λ no is. absurd (refused is))

rising_chain : (t : Bytes) (ts : List Bytes) → chain (Some t) ts ≡ true → is_rising (t ∷ ts) ≡ true
rising_chain t [] h = refl
rising_chain t (u ∷ ts) h =
    let parts = and_parts (rises (Some t) u) (chain (Some u) ts) h in
    and_from (is_lt (slice_cmp nat_cmp t u)) (is_rising (u ∷ ts)) parts.0 (rising_chain u ts parts.1)

rising_all : (ts : List Bytes) → chain None ts ≡ true → is_rising ts ≡ true
rising_all [] h = refl
rising_all (t ∷ ts) h = rising_chain t ts h

passing_len : (p : ℕ → Bool) (t : Bytes) → list_all p t ≡ true → prefix_len (λ b. not (not (p b))) t ≡ length t
passing_len p [] h = refl
passing_len p (b ∷ bs) h = let parts = and_parts (p b) (list_all p bs) h in rw parts.0 (omega (arith, passing_len p bs parts.1))

text_if : (t : Bytes) → texty t ≡ true → nat_lt 64 (length t) ≡ false → is_text t ≡ true
text_if t plain short =
    let few : nat_le (length t) 64 ≡ true = grind (arith, nat_tests) in
    let none : position (λ b. not (is_text_byte b)) t ≡ None = rw (passing_len is_text_byte t plain, le-ltb (length t) (length t) (omega arith)) refl in
    rw (few, none) refl

texts_if : (ms : List Member) → first_long ms ≡ None → list_all texty (texts ms) ≡ true → list_all is_text (texts ms) ≡ true
texts_if [] short plain = refl
texts_if (m ∷ ms) short plain = by (nat_lt 64 (length m.text)) refl short (texts_if ms)
  where
    by : (b : Bool) → nat_lt 64 (length m.text) ≡ b → cond b (Some m.at) (first_long ms) ≡ None → (first_long ms ≡ None → list_all texty (texts ms) ≡ true → list_all is_text (texts ms) ≡ true)
        → list_all is_text (texts (m ∷ ms)) ≡ true
    by true is h rest = absurd (false≢true (ap is_some (sym h)))
    by false is h rest =
        let parts = and_parts (texty m.text) (list_all texty (texts ms)) plain in
        and_from (is_text m.text) (list_all is_text (texts ms)) (text_if m.text parts.0 is) (rest h parts.1)

few_if : (n : ℕ) → nat_lt 64 n ≡ false → n ≤ 64
few_if n h = grind (arith, nat_tests)

unless_long_value : (o : Option ℕ) (ms : List Member) (v : Value) → first_long ms ≡ o → IsGood None ms → unless_long o ms ≡ Ok v → IsValue v
unless_long_value (Some p) ms v long good h = absurd (refused h)
unless_long_value None ms v long good h =
    either (nat_lt 64 (length ms)) _ (Ok (Set (texts ms))) v h (λ many is. absurd (refused is))
    (λ few is.
    let short : length (texts ms) ≤ 64 = omega (arith, length-map ms (λ (m : Member). m.text), few_if (length ms) few) in
    subst IsValue (same (Set (texts ms)) v is)
    (and_from (nat_le (length (texts ms)) 64) (is_rising (texts ms)) (le-leb (length (texts ms)) 64 short) (rising_all (texts ms) good.0), texts_if ms long good.1))

set_value : (r : Result (List Member) ValueFault) (v : Value) → ((ms : List Member) → r ≡ Ok ms → IsGood None ms) → set_of r ≡ Ok v → IsValue v
set_value (Ok ms) v good h = unless_long_value (first_long ms) ms v refl (good ms refl) h
set_value (Err f) v good h = absurd (refused h)

-- what is read as a value is one
pub value_of_bytes : (bs : Bytes) (v : Value) → value_read bs ≡ Ok v → IsValue v
value_of_bytes [] v h = integer_value [] v h
value_of_bytes (b ∷ bs) v h =
    either (b == 34) (text_read bs) _ v h (λ is. text_value bs v)
    (λ isnt rest. either (b == 123) (set_read bs) (integer_read (b ∷ bs)) v rest
    (λ is. set_value (members None opened 1 bs) v (λ ms. members_good bs None opened 1 ms tt)) (λ no. integer_value (b ∷ bs) v))
