-- Arithmetic on values gives values.
use Rattle.std.proofs.Common.{◌≡◌, ◌<◌, ◌≤◌, Bool, true, false, cond, not, List, [], ◌∷◌, length, refl, arith}
use Rattle.std.specs.Prelude.{ℤ, pos, ◌+ℤ◌, ◌-ℤ◌, ◌*ℤ◌, nat_le, nat_lt, Option, Some, None, IfSome}
use Rattle.std.specs.Ordering.{nat_cmp, is_lt}
use Rattle.std.specs.Cmp.Lexicographic.{slice_cmp}
use Rattle.std.specs.List.{list_all, list_any, filter}
use Rattle.std.specs.Str.{bytes_eq}
use Rattle.std.proofs.lemmas.Bool.{and_from, and_parts, leb-true}
use Rattle.std.proofs.lemmas.Bool.Decides.{nat_tests}
use Rattle.std.proofs.lemmas.Int.{ints, clamps}
use Rattle.ucon_base.specs.Arithmetic.{in_place, with_text, without_text, sum_of, difference_of, product_of, size_of, fitted}
use Rattle.ucon_base.specs.Numbers.{InRange, clamp, clamped, least, greatest}
use Rattle.ucon_base.specs.Spelling.{IsValue}
use Rattle.ucon_base.specs.TextBytes.{is_text}
use Rattle.ucon_base.specs.Value.{is_set, is_rising}
use Rattle.ucon_base.specs.declared.value.Kind.{Kind}
use Rattle.ucon_base.specs.declared.value.Kind.TheVariants as kinds
use Rattle.ucon_base.specs.declared.value.Value.{Value}
use Rattle.ucon_base.specs.declared.value.Value.TheVariants.{Int, Text, Set}
use Rattle.ucon_model.specs.declared.formula.Ref.{Ref}
use Rattle.ucon_model.specs.declared.policy.AttrDecl.{AttrDecl}
use Rattle.ucon_model.specs.Plain.{Bytes, PlainExpr, lit, read, plus, minus, times, size}
use Rattle.ucon_model.specs.Truth.{read_or_zero, value_of}
use Rattle.ucon_model.specs.Updates.{fitted_to}
use Rattle.ucon_store.proofs.Spelled.Policies.{IsAttr, IsKind, IsOfValues}
use Rattle.ucon_store.proofs.Spelled.Rising.{is_set-filter, is_set-in_place}

-- ---- sets

texts_in_place : (us : List Bytes) (t : Bytes) → list_all is_text us ≡ true → is_text t ≡ true → list_all is_text (in_place us t) ≡ true
texts_in_place [] t all one = and_from (is_text t) true one refl
texts_in_place (u ∷ us) t all one = by (is_lt (slice_cmp nat_cmp t u)) (texts_in_place us t (and_parts (is_text u) (list_all is_text us) all).1 one)
  where
    by : (b : Bool) → list_all is_text (in_place us t) ≡ true → list_all is_text (cond b (t ∷ u ∷ us) (u ∷ in_place us t)) ≡ true
    by true rest = and_from (is_text t) (list_all is_text (u ∷ us)) one all
    by false rest = and_from (is_text u) (list_all is_text (in_place us t)) (and_parts (is_text u) (list_all is_text us) all).0 rest

texts_filter : (p : Bytes → Bool) (us : List Bytes) → list_all is_text us ≡ true → list_all is_text (filter p us) ≡ true
texts_filter p [] all = refl
texts_filter p (u ∷ us) all = by (p u) (texts_filter p us (and_parts (is_text u) (list_all is_text us) all).1)
  where
    by : (b : Bool) → list_all is_text (filter p us) ≡ true → list_all is_text (cond b (u ∷ filter p us) (filter p us)) ≡ true
    by true rest = and_from (is_text u) (list_all is_text (filter p us)) (and_parts (is_text u) (list_all is_text us) all).0 rest
    by false rest = rest

with_value : (s : List Bytes) (t : Bytes) → IsValue (Set s) → IsValue (Text t) → IsValue (Set (with_text s t))
with_value s t h one = by (list_any (bytes_eq t) s) (nat_lt (length s) 64) refl refl
  where
    by : (there room : Bool) → list_any (bytes_eq t) s ≡ there → nat_lt (length s) 64 ≡ room → IsValue (Set (cond there s (cond room (in_place s t) s)))
    by true room is more = h
    by false false is more = h
    by false true is more =
        let few : length s < 64 = grind (arith, nat_tests) in
        (is_set-in_place s t h.0 few is, texts_in_place s t h.1 one)

without_value : (s : List Bytes) (t : Bytes) → IsValue (Set s) → IsValue (Set (without_text s t))
without_value s t h = (is_set-filter (λ u. not (bytes_eq t u)) s h.0, texts_filter (λ u. not (bytes_eq t u)) s h.1)

-- ---- integers

clamp_in : (low high x : ℤ) → InRange low → InRange high → InRange (clamp low high x)
clamp_in low high x l h = record { low = omega (arith, ints, clamps, l.low, h.low); high = omega (arith, ints, clamps, l.high, h.high) }

clamped_in : (x : ℤ) → InRange (clamped x)
clamped_in x = clamp_in least greatest x (record { low = omega (arith, ints); high = omega (arith, ints) }) (record { low = omega (arith, ints); high = omega (arith, ints) })

size_in : (s : List Bytes) → is_set s ≡ true → InRange (pos (length s))
size_in s h =
    let few : length s ≤ 64 = leb-true (length s) 64 (and_parts (nat_le (length s) 64) (is_rising s) h).0 in
    record { low = omega (arith, ints); high = omega (arith, ints, few) }

-- ---- values

pub sum_value : (v w : Value) → IsValue v → IsValue w → IsValue (sum_of v w)
sum_value (Int a) (Int b) p q = clamped_in (a +ℤ b)
sum_value (Set s) (Text t) p q = with_value s t p q
sum_value v w p q = p

difference_value : (v w : Value) → IsValue v → IsValue w → IsValue (difference_of v w)
difference_value (Int a) (Int b) p q = clamped_in (a -ℤ b)
difference_value (Set s) (Text t) p q = without_value s t p
difference_value v w p q = p

product_value : (v w : Value) → IsValue v → IsValue w → IsValue (product_of v w)
product_value (Int a) (Int b) p q = clamped_in (a *ℤ b)
product_value v w p q = p

size_value : (v : Value) → IsValue v → IsValue (size_of v)
size_value (Set s) p = size_in s p.0
size_value v p = p

read_value : (o : Option Value) → IfSome o IsValue → IsValue (read_or_zero o)
read_value None h = record { low = omega (arith, ints); high = omega (arith, ints) }
read_value (Some v) h = h

-- an expression over values has a value
pub expr_value : (at : Ref → Option Value) → ((place : Ref) → IfSome (at place) IsValue) → (e : PlainExpr) → IsOfValues e → IsValue (value_of at e)
expr_value at held (lit v) h = h
expr_value at held (read place) h = read_value (at place) (held place)
expr_value at held (plus a b) h = sum_value (value_of at a) (value_of at b) (expr_value at held a h.0) (expr_value at held b h.1)
expr_value at held (minus a b) h = difference_value (value_of at a) (value_of at b) (expr_value at held a h.0) (expr_value at held b h.1)
expr_value at held (times a b) h = product_value (value_of at a) (value_of at b) (expr_value at held a h.0) (expr_value at held b h.1)
expr_value at held (size a) h = size_value (value_of at a) (expr_value at held a h)

fitted_value : (k : Kind) (v : Value) → IsKind k → IsValue v → IsValue (fitted k v)
fitted_value (kinds.Int low high) (Int n) kind h = clamp_in low high n kind.0 kind.1
fitted_value k v kind h = h

-- as an attribute keeps it
pub kept_value : (o : Option AttrDecl) (v : Value) → IfSome o IsAttr → IsValue v → IsValue (fitted_to o v)
kept_value None v h is = is
kept_value (Some d) v h is = fitted_value d.kind v h.kind is
