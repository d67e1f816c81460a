-- How the texts of a set go on.
use Rattle.std.proofs.Common.{◌≡◌, ℕ, zero, suc, ◌-◌, ◌+◌, ◌<◌, ◌≢◌, Bool, true, false, cond, List, [], ◌∷◌, ◌++◌, length, length-append, drop, Option, Some, None, Result, Ok, Err, refl, sym, ap, ◌∙◌, arith}
use Rattle.ucon_base.specs.Value.{is_rising}
use Rattle.ucon_base.specs.Bytes.{Bytes}
use Rattle.ucon_base.specs.Tokens.{Token, comma, close_curly}
use Rattle.ucon_token.specs.declared.stop.Cause.TheVariants.{TooMany, Unexpected}
use Rattle.ucon_token.specs.declared.stop.Stop.{Stop}
use Rattle.ucon_token.specs.Tokens.{first, is_symbol, text_of}
use Rattle.ucon_token.specs.Reading.{Halt, ◌>>=◌, Fails, expect, stops_whole}
use Rattle.ucon_token.specs.Literals.{member_from, member_at, behind_member, texts_at}

texts_on : (n : ℕ) (texts : List Bytes) (ts : List Token) → n ≢ 0 → texts_at n texts ts ≡ (member_at texts ts >>= λ more. behind_member (texts_at (n - 1) more.0) more.0 more.1)
unfolding texts_at
texts_on zero texts ts ne = absurd (omega arith)
texts_on (suc n) texts ts ne = let k : suc n - 1 ≡ n = omega arith in rw k refl

-- a text that stops reading
pub texts_stop : (i : ℕ) (texts : List Bytes) (e : Stop) (ts left : List Token) (whole : Result (List Bytes × List Token) Halt) → i < 64 → Fails e left (member_at texts ts) → texts_at (64 - i) texts ts ≡ whole → Fails e left whole
texts_stop i texts e ts left whole lt fails so_far =
    stops_whole e left (member_at texts ts) (λ more. behind_member (texts_at (64 - i - 1) more.0) more.0 more.1) whole fails (sym (texts_on (64 - i) texts ts (omega arith)) ∙ so_far)

-- a text and a comma
pub texts_go : (i : ℕ) (texts longer : List Bytes) (ts after : List Token) (whole : Result (List Bytes × List Token) Halt) → i < 64 → member_at texts ts ≡ Ok (longer, after) → is_symbol (first after) comma ≡ true
    → texts_at (64 - i) texts ts ≡ whole → texts_at (64 - (i + 1)) longer (drop 1 after) ≡ whole
texts_go i texts longer ts after whole lt given is so_far =
    let k : 64 - (i + 1) ≡ 64 - i - 1 = omega arith in
    let one : texts_at (64 - i) texts ts ≡ texts_at (64 - i - 1) longer (drop 1 after) = texts_on (64 - i) texts ts (omega arith) ∙ rw (given, is) refl in
    rw k (sym one ∙ so_far)

-- a text and no comma
pub texts_end : (i : ℕ) (texts longer : List Bytes) (ts after : List Token) (whole : Result (List Bytes × List Token) Halt) → i < 64 → member_at texts ts ≡ Ok (longer, after) → is_symbol (first after) comma ≡ false
    → texts_at (64 - i) texts ts ≡ whole → whole ≡ (expect close_curly after >>= λ rest. Ok (longer, rest))
texts_end i texts longer ts after whole lt given is so_far = sym so_far ∙ (texts_on (64 - i) texts ts (omega arith) ∙ rw (given, is) refl)

-- a 65th text
pub texts_over : (n : ℕ) (texts : List Bytes) (t : Bytes) (ts : List Token) (whole : Result (List Bytes × List Token) Halt) → n ≡ 0 → text_of (first ts) ≡ Some t → texts_at n texts ts ≡ whole → whole ≡ Err (TooMany, ts)
unfolding texts_at
texts_over n texts t ts whole e is so_far = sym so_far ∙ rw (e, is) refl

pub texts_missing : (n : ℕ) (texts : List Bytes) (ts : List Token) (whole : Result (List Bytes × List Token) Halt) → n ≡ 0 → text_of (first ts) ≡ None → texts_at n texts ts ≡ whole → whole ≡ Err (Unexpected, ts)
unfolding texts_at
texts_missing n texts ts whole e is so_far = sym so_far ∙ rw (e, is) refl

abbrev chosen : Bool → Result (List Bytes × List Token) Halt → Result (List Bytes × List Token) Halt → Result (List Bytes × List Token) Halt
chosen b x y = cond b x y

abbrev texts_in : Result (List Bytes × List Token) Halt → List Bytes
texts_in (Ok x) = x.0
texts_in (Err h) = []

-- one more text keeps a set rising
member_from_grows : (texts longer : List Bytes) (o : Option Bytes) (ts after : List Token) → member_from texts o ts ≡ Ok (longer, after) → (is_rising longer ≡ true) × (length longer ≡ length texts + 1)
member_from_grows texts longer None ts after e = absurd cc
member_from_grows texts longer (Some t) ts after e = by_rise (is_rising (texts ++ t ∷ [])) refl e
  where
    by_rise : (q : Bool) → is_rising (texts ++ t ∷ []) ≡ q → chosen q (Ok (texts ++ t ∷ [], drop 1 ts)) (Err (Unexpected, ts)) ≡ Ok (longer, after) → (is_rising longer ≡ true) × (length longer ≡ length texts + 1)
    by_rise true rises is = let same : texts ++ t ∷ [] ≡ longer = ap texts_in is in rw (← same) (rises, length-append texts (t ∷ []))
    by_rise false rises is = absurd cc

pub member_grows : (texts longer : List Bytes) (ts after : List Token) → member_at texts ts ≡ Ok (longer, after) → (is_rising longer ≡ true) × (length longer ≡ length texts + 1)
unfolding member_at
member_grows texts longer ts after e = member_from_grows texts longer (text_of (first ts)) ts after e
