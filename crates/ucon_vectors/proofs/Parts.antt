-- A part once more behind those that are there.
use Rattle.std.proofs.Common.{◌≡◌, ◌++◌, ◌+◌, ◌∙◌, ℕ, List, zero, suc, ap, sym, arith}
use Rattle.std.proofs.lemmas.List.{append_assoc, append-nil}
use Rattle.std.specs.List.{repeat}

pub repeat_more : (n : ℕ) (xs : List ℕ) → repeat n xs ++ xs ≡ repeat (suc n) xs
repeat_more zero xs = sym (append-nil xs)
repeat_more (suc n) xs = append_assoc xs (repeat n xs) xs ∙ ap (λ l. xs ++ l) (repeat_more n xs)

pub repeat_behind : (n : ℕ) (front xs bytes : List ℕ) → bytes ≡ front ++ repeat n xs → bytes ++ xs ≡ front ++ repeat (n + 1) xs
repeat_behind n front xs bytes is = ap (λ l. l ++ xs) is ∙ (append_assoc front (repeat n xs) xs ∙ ap (λ l. front ++ l) (repeat_more n xs ∙ ap (λ k. repeat k xs) (one n)))
  where
    one : (n : ℕ) → suc n ≡ n + 1
    one n = omega arith
