-- Sums over the sessions 1 to k.
use Rattle.std.proofs.Common.{◌≡◌, ◌⊎◌, inl, inr, ℕ, zero, suc, ◌+◌, ◌<◌, ◌≤◌, cond, refl, arith}
use Rattle.std.specs.Prelude.{nat_eq}
use Rattle.std.proofs.lemmas.Bool.{cases_eq, eq-eqb, ne_eqb}
use Rattle.ucon_model.specs.Touches.{sum_to}

pub sum-le : (f g : ℕ → ℕ) → ((n : ℕ) → f n ≤ g n) → (k : ℕ) → sum_to f k ≤ sum_to g k
sum-le f g le zero = omega arith
sum-le f g le (suc k) = omega (arith, sum-le f g le k, le (suc k))

pub sum-plus : (f g : ℕ → ℕ) (k : ℕ) → sum_to (λ n. f n + g n) k ≡ sum_to f k + sum_to g k
sum-plus f g zero = refl
sum-plus f g (suc k) = omega (arith, sum-plus f g k)

-- 1 at m, and 0 elsewhere
abbrev pub one_at : ℕ → ℕ → ℕ
one_at m n = cond (nat_eq n m) 1 0

before_one : (m k : ℕ) → k < m → sum_to (one_at m) k ≡ 0
before_one m zero lt = refl
before_one m (suc k) lt =
    let rest : sum_to (one_at m) k ≡ 0 = before_one m k (omega arith) in
    rw (ne_eqb (suc k) m (λ e. omega (arith, e, lt))) (omega (arith, rest))

pub sum-one : (m k : ℕ) → 1 ≤ m → m ≤ k → sum_to (one_at m) k ≡ 1
sum-one m zero low high = absurd (omega arith)
sum-one m (suc k) low high = here_or_before (cases_eq (suc k) m) (λ le. sum-one m k low le)
  where
    here_or_before : (suc k ≡ m) ⊎ (suc k ≡ m → ⊥) → (m ≤ k → sum_to (one_at m) k ≡ 1) → sum_to (one_at m) (suc k) ≡ 1
    here_or_before (inl here) rest =
        let none : sum_to (one_at m) k ≡ 0 = before_one m k (omega (arith, here)) in
        rw (eq-eqb (suc k) m here) (omega (arith, none))
    here_or_before (inr other) rest =
        let one : sum_to (one_at m) k ≡ 1 = rest (omega (arith, high, other)) in
        rw (ne_eqb (suc k) m other) (omega (arith, one))
