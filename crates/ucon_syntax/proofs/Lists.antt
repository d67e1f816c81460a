-- Lists of items, read one after the other.
use Rattle.std.proofs.Common.{◌≡◌, ℕ, zero, suc, ◌-◌, ◌+◌, ◌<◌, ◌≢◌, Bool, true, false, if◌then◌else◌, List, [], ◌∷◌, ◌++◌, map, Result, Ok, Err, refl, sym, ap, ◌∙◌, append_assoc, arith}
use Rattle.std.proofs.lemmas.List.{append-nil}
use Rattle.ucon_base.specs.Tokens.{Token}
use Rattle.ucon_token.specs.declared.stop.Cause.TheVariants.{TooMany}
use Rattle.ucon_token.specs.declared.stop.Stop.{Stop}
use Rattle.ucon_token.specs.declared.stop.Stop.TheVariants.{At}
use Rattle.ucon_token.specs.Tokens.{first}
use Rattle.ucon_token.specs.Reading.{Halt, Reads, ◌>>=◌, Fails, Gives, stops_whole}
use Rattle.ucon_syntax.specs.Lists.{items_at}

-- what was read before, and what is still read
abbrev pub with_front : {A : Type 0} → List A → Result (List A × List Token) Halt → Result (List A × List Token) Halt
with_front front reading = reading >>= λ x. Ok (front ++ x.0, x.1)

regroup : {A : Type 0} (front : List A) (x : A) (reading : Result (List A × List Token) Halt) → with_front front (reading >>= λ xs. Ok (x ∷ xs.0, xs.1)) ≡ with_front (front ++ x ∷ []) reading
regroup {A} front x (Ok xs) = ap (λ (ys : List A). Ok (ys, xs.1)) (simp append_assoc)
regroup front x (Err h) = refl

items_on : {S A : Type 0} (begins : Token → Bool) (item : S → Reads (A × S)) (n : ℕ) (room : S) (ts : List Token) → n ≢ 0 → begins (first ts) ≡ true
    → items_at begins item n room ts ≡ (item room ts >>= λ x. items_at begins item (n - 1) x.0.1 x.1 >>= λ xs. Ok (x.0.0 ∷ xs.0, xs.1))
unfolding items_at
items_on begins item zero room ts ne is = absurd (omega arith)
items_on begins item (suc n) room ts ne is = let k : suc n - 1 ≡ n = omega arith in rw (k, is) refl

no_items : {S A : Type 0} (begins : Token → Bool) (item : S → Reads (A × S)) (n : ℕ) (room : S) (ts : List Token) → begins (first ts) ≡ false → items_at begins item n room ts ≡ Ok ([], ts)
unfolding items_at
no_items begins item zero room ts is = rw is refl
no_items begins item (suc n) room ts is = rw is refl

pub items_go : {S A : Type 0} (begins : Token → Bool) (item : S → Reads (A × S)) (most i : ℕ) (room left : S) (front longer : List A) (x : A) (ts after : List Token) (whole : Result (List A × List Token) Halt) → i < most → begins (first ts) ≡ true → item room ts ≡ Ok ((x, left), after) → longer ≡ front ++ x ∷ []
    → with_front front (items_at begins item (most - i) room ts) ≡ whole → with_front longer (items_at begins item (most - (i + 1)) left after) ≡ whole
items_go begins item most i room left front longer x ts after whole lt is given longer-is so_far =
    let k : most - (i + 1) ≡ most - i - 1 = omega arith in
    let one : with_front front (items_at begins item (most - i) room ts) ≡ with_front (front ++ x ∷ []) (items_at begins item (most - i - 1) left after) = rw (items_on begins item (most - i) room ts (omega arith) is, given) (regroup front x (items_at begins item (most - i - 1) left after)) in
    rw (k, longer-is) (sym one ∙ so_far)

pub items_stop : {S A : Type 0} (begins : Token → Bool) (item : S → Reads (A × S)) (most i : ℕ) (room : S) (front : List A) (e : Stop) (ts left : List Token) (whole : Result (List A × List Token) Halt) → i < most → begins (first ts) ≡ true → Fails e left (item room ts)
    → with_front front (items_at begins item (most - i) room ts) ≡ whole → Fails e left whole
items_stop begins item most i room front e ts left whole lt is fails so_far =
    stops_whole e left (item room ts >>= λ x. items_at begins item (most - i - 1) x.0.1 x.1 >>= λ xs. Ok (x.0.0 ∷ xs.0, xs.1)) (λ x. Ok (front ++ x.0, x.1)) whole
    (stops_whole e left (item room ts) (λ x. items_at begins item (most - i - 1) x.0.1 x.1 >>= λ xs. Ok (x.0.0 ∷ xs.0, xs.1)) (item room ts >>= λ x. items_at begins item (most - i - 1) x.0.1 x.1 >>= λ xs. Ok (x.0.0 ∷ xs.0, xs.1)) fails refl)
    (ap (with_front front) (sym (items_on begins item (most - i) room ts (omega arith) is)) ∙ so_far)

pub items_end : {S A : Type 0} (begins : Token → Bool) (item : S → Reads (A × S)) (n : ℕ) (room : S) (front : List A) (ts : List Token) (whole : Result (List A × List Token) Halt) → begins (first ts) ≡ false → with_front front (items_at begins item n room ts) ≡ whole → whole ≡ Ok (front, ts)
items_end {S} {A} begins item n room front ts whole is so_far = sym so_far ∙ rw (no_items begins item n room ts is) (ap (λ (xs : List A). Ok (xs, ts)) (append-nil front))

pub items_over : {S A : Type 0} (begins : Token → Bool) (item : S → Reads (A × S)) (n : ℕ) (room : S) (front : List A) (ts : List Token) (whole : Result (List A × List Token) Halt) → n ≡ 0 → begins (first ts) ≡ true → with_front front (items_at begins item n room ts) ≡ whole → whole ≡ Err (TooMany, ts)
unfolding items_at
items_over begins item zero room front ts whole e is so_far = sym so_far ∙ rw is refl
items_over begins item (suc n) room front ts whole e is so_far = absurd (omega arith)

-- where as many were read as there may be
pub items_last : {S A X : Type 0} (begins : Token → Bool) (item : S → Reads (A × S)) (n : ℕ) (room : S) (view : X → List A) (rows : X) (ts : List Token) (goes_on : Bool) (result : Result X Stop) (whole : Result (List A × List Token) Halt) → n ≡ 0 → begins (first ts) ≡ goes_on → result ≡ (if goes_on then Err (At TooMany) else Ok rows)
    → with_front (view rows) (items_at begins item n room ts) ≡ whole → Gives (λ r. (view r, ts)) result ts whole
items_last begins item n room view rows ts true result whole e is ends so_far = rw ends (items_over begins item n room (view rows) ts whole e is so_far)
items_last begins item n room view rows ts false result whole e is ends so_far = rw ends (items_end begins item n room (view rows) ts whole is so_far)

pub map_same : {A : Type 0} (xs : List A) → map (λ x. x) xs ≡ xs
map_same [] = refl
map_same (x ∷ xs) = ap (λ (ys : List _). x ∷ ys) (map_same xs)
