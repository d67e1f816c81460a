-- A session leaves its list.
use Rattle.std.specs.Prelude.{◌≡◌, ◌≢◌, ℕ, ◌≤◌}

-- session m is the first of the list that session n has left, and was the first of
pub record IsNext (first new_first : ℕ → ℕ) (n m : ℕ) : Type 0 where
  pub other : m ≢ n
  pub was : first m ≡ n
  pub is : new_first m ≡ m

-- Session n has left its list. The others of the list have a new first among them if it was theirs, and all others keep theirs.
pub record LeavesList (first new_first : ℕ → ℕ) (n : ℕ) : Type 0 where
  pub low : (m : ℕ) → new_first m ≤ m
  pub same : (m : ℕ) → m ≢ n → first m ≢ n → new_first m ≡ first m
  pub next : (m : ℕ) → m ≢ n → first m ≡ n → IsNext first new_first n (new_first m)
