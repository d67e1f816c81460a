-- Sessions that share one judgement, in lists with a first.
use Rattle.std.specs.Prelude.{◌≡◌, ◌⊎◌, ◌≤◌, ◌<◌, ℕ, Some}
use Rattle.ucon_model.specs.declared.session.SessionRow.{SessionRow}
use Rattle.ucon_model.specs.Groups.{JudgedAlike}
use Rattle.ucon_state.specs.Shown.{Shown}
use Rattle.ucon_state.specs.Tables.{session_in}
use Rattle.ucon_readers.specs.Joining.{Joins}
use Rattle.ucon_cascade.specs.Putting.{GoesOn}

-- sessions m and n are there, and judged alike as long as the policy stays
pub record AreAlike (s : Shown) (m n : ℕ) : Type 0 where
  pub row : SessionRow
  pub other : SessionRow
  pub is : session_in s.tables m ≡ Some row
  pub other_is : session_in s.tables n ≡ Some other
  pub alike : JudgedAlike s.policy row other

-- Of each session whose usage goes on, `first` gives the first of its list: one that goes on, not above it, its own first, and itself or
-- judged like it.
pub record AreGrouped (s : Shown) (first : ℕ → ℕ) : Type 0 where
  pub low : (n : ℕ) → GoesOn s n → first n ≤ n
  pub on : (n : ℕ) → GoesOn s n → GoesOn s (first n)
  pub itself : (n : ℕ) → GoesOn s n → first (first n) ≡ first n
  pub like : (n : ℕ) → GoesOn s n → (first n ≡ n) ⊎ AreAlike s (first n) n

-- so far as these sessions go
pub record AreGroupedAmong (s : Shown) (Among : ℕ → Type 0) (first : ℕ → ℕ) : Type 0 where
  pub low : (n : ℕ) → Among n → GoesOn s n → first n ≤ n
  pub on : (n : ℕ) → Among n → GoesOn s n → GoesOn s (first n)
  pub itself : (n : ℕ) → Among n → GoesOn s n → first (first n) ≡ first n
  pub like : (n : ℕ) → Among n → GoesOn s n → (first n ≡ n) ⊎ AreAlike s (first n) n

-- so far as the sessions below a number go
abbrev pub AreGroupedBelow : Shown → ℕ → (ℕ → ℕ) → Type 0
AreGroupedBelow s limit first = AreGroupedAmong s (λ n. n < limit) first

-- ---- who comes

-- session m may be the first of session n, which comes: it goes on, is below it, its own first, and judged like it
pub record MayLead (s : Shown) (first : ℕ → ℕ) (n m : ℕ) : Type 0 where
  pub below : m < n
  pub on : GoesOn s m
  pub itself : first m ≡ m
  pub like : AreAlike s m n

-- session n, which comes, gets a first: itself, or one that may be it
pub record GetsFirst (s : Shown) (old new : ℕ → ℕ) (n : ℕ) : Type 0 where
  pub first : ℕ
  pub joins : Joins old new n first
  pub may : (first ≡ n) ⊎ MayLead s old n first
