-- How outcomes pass from parts to the whole.
use Rattle.std.proofs.Common.{◌≡◌, Bool, true, false, cond, inl, inr, List, [], ◌∷◌, ◌++◌, Option, Some, None, Result, Ok, refl, sym, ap, ◌∙◌, append_assoc, subst}
use Rattle.ucon_base.specs.Tokens.{Token}
use Rattle.ucon_model.specs.Forms.{Terminal, as_token, Limit, Marked, bare, IsClean}
use Rattle.ucon_model.specs.Spells.{Stands}
use Rattle.ucon_token.specs.declared.stop.Cause.{Cause}
use Rattle.ucon_token.specs.Tokens.{first}
use Rattle.ucon_token.specs.Reading.{Halt, Reads, ◌>>=◌}
use Rattle.ucon_syntax.proofs.Marks.{clean_append, clean_head}
use Rattle.ucon_syntax.proofs.Steps.{bare_both}
use Rattle.ucon_syntax.proofs.Keeping.{Over, Outcome, Meets, meets_rest, meets_stop}

-- not empty, and what stands there first is one of these
abbrev pub Led : (Token → Type 0) → List Marked → Type 0
Led E [] = ⊥
Led E ((t, None) ∷ ms) = E (as_token t)
Led E ((t, Some limit) ∷ ms) = (u : Token) → Stands limit t u → E u

pub led_meets : (E : Token → Type 0) (ms : List Marked) (F : Token → Type 0) → Led E ms → Meets E ms F
led_meets E [] F x = absurd x
led_meets E ((t, None) ∷ ms) F x = x
led_meets E ((t, Some l) ∷ ms) F x = x

pub led_append : (E : Token → Type 0) (a b : List Marked) → Led E a → Led E (a ++ b)
led_append E [] b x = absurd x
led_append E ((t, None) ∷ a) b x = x
led_append E ((t, Some l) ∷ a) b x = x

pub led_head : (E : Token → Type 0) (t : Terminal) (o : Option Limit) (ms : List Marked) → ((l : Limit) (u : Token) → o ≡ Some l → Stands l t u → E u) → E (as_token t) → Led E ((t, o) ∷ ms)
led_head E t None ms f x = x
led_head E t (Some l) ms f x = λ u s. f l u refl s

pub over_more : (c : Cause) (behind more : List Marked) (rest : List Token) → Over c behind rest → Over c (behind ++ more) rest
over_more c behind more rest (inl e) = inl e
over_more c behind more rest (inr b) = inr (record { limit = b.limit; last = b.last; more = b.more ++ more; token = b.token; after = b.after; is_behind = ap (λ (l : List Marked). l ++ more) b.is_behind; is_rest = b.is_rest; stands = b.stands; cause = b.cause })

abbrev pub followed : {A B : Type 0} → Reads A → (A → Reads B) → Reads B
followed p q ts = p ts >>= λ z. q z.0 z.1

goes_on : {A B : Type 0} (p : Reads A) (q : A → Reads B) (ts : List Token) (x : A) (rest : List Token) → p ts ≡ Ok (x, rest) → followed p q ts ≡ q x rest
goes_on {A} p q ts x rest e = ap (λ (r : Result (A × List Token) Halt). r >>= λ z. q z.0 z.1) e

pub in_sequence : {A B : Type 0} (first_part second_part : List Marked) (x : A) (y : B) (E F : Token → Type 0) (p : Reads A) (q : A → Reads B) → Outcome first_part x E p → (IsClean first_part → Outcome second_part y F (q x)) → Meets E second_part F → Outcome (first_part ++ second_part) y F (followed p q)
in_sequence {A} {B} a b x y E F p q (inr s) second meets = inr (record {
  front = s.front;
  last = s.last;
  limit = s.limit;
  behind = s.behind ++ b;
  whole = ap (λ (l : List Marked). l ++ b) s.whole ∙ append_assoc s.front ((s.last, Some s.limit) ∷ s.behind) b;
  clean = s.clean;
  stops = λ t r st. ap (λ (r : Result (A × List Token) Halt). r >>= λ z. q z.0 z.1) (s.stops t r st);
})
in_sequence {A} {B} a b x y E F p q (inl s) second meets = go (second s.clean)
  where
    go : Outcome b y F (q x) → Outcome (a ++ b) y F (followed p q)
    go (inl u) = inl (record {
      clean = clean_append a b s.clean u.clean;
      on = λ rest f. ap (followed p q) (bare_both a b rest) ∙ goes_on p q (bare a ++ (bare b ++ rest)) x (bare b ++ rest) (s.on (bare b ++ rest) (meets_rest E F b rest meets f u.clean)) ∙ u.on rest f;
    })
    go (inr u) = inr (record {
      front = a ++ u.front;
      last = u.last;
      limit = u.limit;
      behind = u.behind;
      whole = ap (λ (l : List Marked). a ++ l) u.whole ∙ sym (append_assoc a u.front ((u.last, Some u.limit) ∷ u.behind));
      clean = clean_append a u.front s.clean u.clean;
      stops = λ t r st. ap (followed p q) (bare_both a u.front (t ∷ r)) ∙ goes_on p q (bare a ++ (bare u.front ++ t ∷ r)) x (bare u.front ++ t ∷ r) (s.on (bare u.front ++ t ∷ r) (meets_stop E F b u.front u.last u.limit u.behind u.whole u.clean meets t r st)) ∙ u.stops t r st;
    })

pub outcome_as : {A : Type 0} (ms : List Marked) (x y : A) (E : Token → Type 0) (p : Reads A) → x ≡ y → Outcome ms x E p → Outcome ms y E p
outcome_as {A} ms x y E p e o = let P : A → Type 0 = λ z. Outcome ms z E p in subst P e o

pub outcome_same : {A : Type 0} (ms : List Marked) (x : A) (E : Token → Type 0) (p q : Reads A) → ((ts : List Token) → q ts ≡ p ts) → Outcome ms x E p → Outcome ms x E q
outcome_same ms x E p q same (inl s) = inl (record { clean = s.clean; on = λ rest e. same (bare ms ++ rest) ∙ s.on rest e })
outcome_same ms x E p q same (inr s) = inr (record { front = s.front; last = s.last; limit = s.limit; behind = s.behind; whole = s.whole; clean = s.clean; stops = λ t r st. same (bare s.front ++ t ∷ r) ∙ s.stops t r st })

pub outcome_ending : {A : Type 0} (ms : List Marked) (x : A) (E F : Token → Type 0) (p : Reads A) → ((t : Token) → F t → E t) → Outcome ms x E p → Outcome ms x F p
outcome_ending ms x E F p enough (inl s) = inl (record { clean = s.clean; on = λ rest f. s.on rest (enough (first rest) f) })
outcome_ending ms x E F p enough (inr s) = inr (record { front = s.front; last = s.last; limit = s.limit; behind = s.behind; whole = s.whole; clean = s.clean; stops = s.stops })

pub outcome_mapped : {A B : Type 0} (f : A → B) (ms : List Marked) (x : A) (E : Token → Type 0) (p : Reads A) → Outcome ms x E p → Outcome ms (f x) E (λ ts. p ts >>= λ z. Ok (f z.0, z.1))
outcome_mapped {A} {B} f ms x E p (inl s) = inl (record { clean = s.clean; on = λ rest e. ap (λ (r : Result (A × List Token) Halt). r >>= λ z. Ok (f z.0, z.1)) (s.on rest e) })
outcome_mapped {A} {B} f ms x E p (inr s) = inr (record { front = s.front; last = s.last; limit = s.limit; behind = s.behind; whole = s.whole; clean = s.clean; stops = λ t r st. ap (λ (r : Result (A × List Token) Halt). r >>= λ z. Ok (f z.0, z.1)) (s.stops t r st) })

-- by a test of the first token
at_true : {A : Type 0} (b : Bool) (x y : A) → b ≡ true → cond b x y ≡ x
at_true b x y e = rw e refl

at_false : {A : Type 0} (b : Bool) (x y : A) → b ≡ false → cond b x y ≡ y
at_false b x y e = rw e refl

pub outcome_when : {A : Type 0} (test : Token → Bool) (ms : List Marked) (x : A) (E : Token → Type 0) (p q : Reads A) → Meets (λ t. test t ≡ true) ms E → Outcome ms x E p → Outcome ms x E (λ ts. cond (test (first ts)) (p ts) (q ts))
outcome_when test ms x E p q m (inl s) = inl (record { clean = s.clean; on = λ rest e. at_true (test (first (bare ms ++ rest))) (p (bare ms ++ rest)) (q (bare ms ++ rest)) (meets_rest (λ t. test t ≡ true) E ms rest m e s.clean) ∙ s.on rest e })
outcome_when test ms x E p q m (inr s) = inr (record {
  front = s.front;
  last = s.last;
  limit = s.limit;
  behind = s.behind;
  whole = s.whole;
  clean = s.clean;
  stops = λ t r st. at_true (test (first (bare s.front ++ t ∷ r))) (p (bare s.front ++ t ∷ r)) (q (bare s.front ++ t ∷ r)) (meets_stop (λ t. test t ≡ true) E ms s.front s.last s.limit s.behind s.whole s.clean m t r st) ∙ s.stops t r st;
})

pub outcome_unless : {A : Type 0} (test : Token → Bool) (ms : List Marked) (x : A) (E : Token → Type 0) (p q : Reads A) → Meets (λ t. test t ≡ false) ms E → Outcome ms x E q → Outcome ms x E (λ ts. cond (test (first ts)) (p ts) (q ts))
outcome_unless test ms x E p q m (inl s) = inl (record { clean = s.clean; on = λ rest e. at_false (test (first (bare ms ++ rest))) (p (bare ms ++ rest)) (q (bare ms ++ rest)) (meets_rest (λ t. test t ≡ false) E ms rest m e s.clean) ∙ s.on rest e })
outcome_unless test ms x E p q m (inr s) = inr (record {
  front = s.front;
  last = s.last;
  limit = s.limit;
  behind = s.behind;
  whole = s.whole;
  clean = s.clean;
  stops = λ t r st. at_false (test (first (bare s.front ++ t ∷ r))) (p (bare s.front ++ t ∷ r)) (q (bare s.front ++ t ∷ r)) (meets_stop (λ t. test t ≡ false) E ms s.front s.last s.limit s.behind s.whole s.clean m t r st) ∙ s.stops t r st;
})

-- behind a token that passes no limit and that the reader takes
pub outcome_behind : {A : Type 0} (t : Terminal) (o : Option Limit) (ms : List Marked) (x : A) (E : Token → Type 0) (p q : Reads A) → o ≡ None → ((ts : List Token) → q (as_token t ∷ ts) ≡ p ts) → Outcome ms x E p → Outcome ((t, o) ∷ ms) x E q
outcome_behind t o ms x E p q e takes (inl s) = inl (record { clean = clean_head t o ms e s.clean; on = λ rest f. takes (bare ms ++ rest) ∙ s.on rest f })
outcome_behind t o ms x E p q e takes (inr s) = inr (record {
  front = (t, o) ∷ s.front;
  last = s.last;
  limit = s.limit;
  behind = s.behind;
  whole = ap (λ (l : List Marked). (t, o) ∷ l) s.whole;
  clean = clean_head t o s.front e s.clean;
  stops = λ u r st. takes (bare s.front ++ u ∷ r) ∙ s.stops u r st;
})
