-- How chains go on.
use Rattle.std.proofs.Common.{◌≡◌, ℕ, zero, suc, ◌-◌, ◌+◌, ◌<◌, ◌≢◌, Bool, true, false, if◌then◌else◌, List, drop, Result, Ok, Err, refl, sym, ◌∙◌, arith}
use Rattle.ucon_base.specs.Tokens.{Token}
use Rattle.ucon_token.specs.declared.stop.Cause.TheVariants.{TooMany}
use Rattle.ucon_token.specs.Tokens.{first}
use Rattle.ucon_token.specs.Reading.{Halt, Reads, ◌>>=◌}
use Rattle.ucon_syntax.specs.Chains.{Operators, one_more, more}

pub more_on : {A : Type 0} (ops : Operators A) (operand : Reads A) (n : ℕ) (all : A) (ts : List Token) → n ≢ 0 → ops.goes_on (first ts) ≡ true
    → more ops operand n all ts ≡ (operand (drop 1 ts) >>= λ next. more ops operand (n - 1) (ops.join (first ts) all next.0) next.1)
unfolding more
more_on ops operand zero all ts ne is = absurd (omega arith)
more_on ops operand (suc n) all ts ne is = let k : suc n - 1 ≡ n = omega arith in rw (k, is) refl

pub more_end : {A : Type 0} (ops : Operators A) (operand : Reads A) (n : ℕ) (all : A) (ts : List Token) → n ≢ 0 → ops.goes_on (first ts) ≡ false → more ops operand n all ts ≡ Ok (all, ts)
unfolding more
more_end ops operand zero all ts ne is = absurd (omega arith)
more_end ops operand (suc n) all ts ne is = rw is refl

pub more_over : {A : Type 0} (ops : Operators A) (operand : Reads A) (n : ℕ) (all : A) (ts : List Token) → n ≡ 0 → ops.is_late (first ts) ≡ true → more ops operand n all ts ≡ Err (TooMany, ts)
unfolding more
more_over ops operand n all ts e is = rw (e, is) refl

pub more_done : {A : Type 0} (ops : Operators A) (operand : Reads A) (n : ℕ) (all : A) (ts : List Token) → n ≡ 0 → ops.is_late (first ts) ≡ false → more ops operand n all ts ≡ Ok (all, ts)
unfolding more
more_done ops operand n all ts e is = rw (e, is) refl

-- what follows two steps follows the second
pub in_two : {X Y Z : Type 0} (r : Result X Halt) (f : X → Result Y Halt) (g : Y → Result Z Halt) → (r >>= f >>= g) ≡ (r >>= λ x. f x >>= g)
in_two (Ok x) f g = refl
in_two (Err e) f g = refl

-- what goes on alike
pub later : {X Y : Type 0} (r : Result X Halt) (f g : X → Result Y Halt) → ((x : X) → f x ≡ g x) → (r >>= f) ≡ (r >>= g)
later (Ok x) f g alike = alike x
later (Err e) f g alike = refl

-- one further operand, and then the rest
pub more_one : {A : Type 0} (ops : Operators A) (operand : Reads A) (n : ℕ) (all : A) (ts : List Token) → n ≢ 0 → ops.goes_on (first ts) ≡ true
    → more ops operand n all ts ≡ (one_more ops operand all ts >>= λ x. more ops operand (n - 1) x.0 x.1)
more_one {A = A} ops operand n all ts ne is =
    let step : A × List Token → Result (A × List Token) Halt = λ next. Ok (ops.join (first ts) all next.0, next.1) in
    let rest : A × List Token → Result (A × List Token) Halt = λ x. more ops operand (n - 1) x.0 x.1 in
    more_on ops operand n all ts ne is ∙ sym (in_two (operand (drop 1 ts)) step rest)

pub chain_longer : {A : Type 0} (ops : Operators A) (operand : Reads A) (i : ℕ) (all joined : A) (ts after : List Token) (whole : Result (A × List Token) Halt) → i < 32 → ops.goes_on (first ts) ≡ true → one_more ops operand all ts ≡ Ok (joined, after)
    → more ops operand (32 - i) all ts ≡ whole → more ops operand (32 - (i + 1)) joined after ≡ whole
chain_longer ops operand i all joined ts after whole lt is given so_far =
    let k : 32 - (i + 1) ≡ 32 - i - 1 = omega arith in
    let one : more ops operand (32 - i) all ts ≡ more ops operand (32 - i - 1) joined after = more_one ops operand (32 - i) all ts (omega arith) is ∙ rw given refl in
    rw k (sym one ∙ so_far)

pub if_alike : {X : Type 0} (b : Bool) (x y z : X) → (b ≡ true → x ≡ y) → (if b then x else z) ≡ (if b then y else z)
if_alike true x y z e = e refl
if_alike false x y z e = refl

pub rest_alike : {A C : Type 0} (r : Result (A × List Token) Halt) (f g : A → List Token → Result C Halt) → ((a : A) (ts : List Token) → f a ts ≡ g a ts) → (r >>= λ x. f x.0 x.1) ≡ (r >>= λ x. g x.0 x.1)
rest_alike (Ok x) f g alike = alike x.0 x.1
rest_alike (Err e) f g alike = refl

-- Operators that go on and end alike, and join alike where they go on, read the same.
pub more_alike : {A : Type 0} (ops others : Operators A) (operand : Reads A) → ((t : Token) → ops.goes_on t ≡ others.goes_on t) → ((t : Token) → ops.is_late t ≡ others.is_late t)
    → ((t : Token) (a b : A) → others.goes_on t ≡ true → ops.join t a b ≡ others.join t a b) → (n : ℕ) (all : A) (ts : List Token) → more ops operand n all ts ≡ more others operand n all ts
unfolding more
more_alike ops others operand on late joins zero all ts = rw (late (first ts)) refl
more_alike ops others operand on late joins (suc n) all ts = rw (on (first ts)) (if_alike (others.goes_on (first ts)) _ _ _
    (λ is. rest_alike (operand (drop 1 ts)) (λ a left. more ops operand n (ops.join (first ts) all a) left) (λ a left. more others operand n (others.join (first ts) all a) left)
    (λ a left. rw (joins (first ts) all a is) (more_alike ops others operand on late joins n (others.join (first ts) all a) left))))
