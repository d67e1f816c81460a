-- The first byte that passes a test, as the kit's search finds it, is the one that a list's `position` gives.
use Rattle.std.proofs.Common.{◌≡◌, ℕ, ◌+◌, ◌<◌, ◌≤◌, Bool, true, false, List, Option, Some, None, length, cond, sym, ap, ◌∙◌, arith}
use Rattle.std.specs.Prelude.{IfSome, nat_lt}
use Rattle.std.specs.List.{position, position_or_len}
use Rattle.std.proofs.lemmas.Bool.{false_from_ne_true}
use Rattle.std.proofs.lemmas.List.Sums.{position_or_len_is}
use Rattle.memchr.specs.Find.{IsFirstByte}

placed : (p : ℕ → Bool) (xs : List ℕ) (i : ℕ) (b : Bool) → position_or_len p xs ≡ i → nat_lt i (length xs) ≡ b → cond b (Some i) None ≡ position p xs
placed p xs i b at within = ap (λ (c : Bool). cond c (Some i) None) (sym within) ∙ ap (λ (n : ℕ). cond (nat_lt n (length xs)) (Some n) None) (sym at)

pub first_is_position : (p : ℕ → Bool) (xs : List ℕ) (r : Option ℕ) → IsFirstByte p xs r → r ≡ position p xs
first_is_position p xs None nowhere = placed p xs (length xs) false
    (position_or_len_is p xs (length xs) 0 (omega arith) (λ k below. false_from_ne_true _ (nowhere k (omega arith) below)) (λ below. absurd (omega arith)))
    (grind arith)
first_is_position p xs (Some i) found = let inside : i < length xs = found.0.high in placed p xs i true
    (position_or_len_is p xs i 0 (omega arith) (λ k below. false_from_ne_true _ (found.0.before k (omega arith) below)) (λ _. found.1))
    (grind arith)

pub first_is_within : (p : ℕ → Bool) (xs : List ℕ) (r : Option ℕ) → IsFirstByte p xs r → IfSome r (λ i. i + 1 ≤ length xs)
first_is_within p xs None nowhere = _
first_is_within p xs (Some i) found = let inside : i < length xs = found.0.high in omega arith
