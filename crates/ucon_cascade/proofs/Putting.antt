-- Who is put into the work, one after the other.
use Rattle.std.proofs.Common.{◌≡◌, ◌↔◌, ◌⊎◌, ◌<◌, ◌+◌, inl, inr, ℕ, zero, suc, List, [], ◌∷◌, ◌++◌, length, refl, sym, subst, arith, get_or, ◌≤◌}
use Rattle.std.specs.Prelude.{Option, Some, None, IsSome}
use Rattle.std.specs.List.{All, Contains}
use Rattle.std.proofs.lemmas.Bool.Decides.{eqb_tells}
use Rattle.std.proofs.lemmas.Option.{slice_get_within}
use Rattle.ucon_model.specs.declared.session.SessionRow.{SessionRow}
use Rattle.ucon_model.specs.Reach.{Location}
use Rattle.ucon_model.specs.Usages.{going_on}
use Rattle.ucon_state.specs.Shown.{Shown}
use Rattle.ucon_state.specs.Tables.{Tables, session_in}
use Rattle.ucon_cascade.specs.Numbering.{IsExact}
use Rattle.ucon_cascade.specs.Putting.{AllBelow, GainsFirsts, GoesOn, StandsAt, StandsAtOne}

-- nobody more
pub gains_none : (first : ℕ → ℕ) (old : List ℕ) (Those : ℕ → Type 0) → ((n : ℕ) → Those n → ⊥) → GainsFirsts first old old Those
gains_none first old Those none_of n = (λ has. inr has, λ either. elim either [ inl one_of ↦ absurd (none_of n one_of.0) | inr has ↦ has ])

-- these and then those
pub gains_both : (first : ℕ → ℕ) (old mid new : List ℕ) (These Those : ℕ → Type 0) → GainsFirsts first old mid These → GainsFirsts first mid new Those
    → GainsFirsts first old new (λ n. Those n ⊎ These n)
gains_both first old mid new These Those one two n = (
  λ has. elim ((two n).0 has) [
    | inl of_those ↦ inl (inl of_those.0, of_those.1)
    | inr was ↦ elim ((one n).0 was) [ inl of_these ↦ inl (inr of_these.0, of_these.1) | inr before ↦ inr before ]
  ],
  λ either. elim either [
    | inl put ↦ elim put.0 [ inl of_those ↦ (two n).1 (inl (of_those, put.1)) | inr of_these ↦ (two n).1 (inr ((one n).1 (inl (of_these, put.1)))) ]
    | inr before ↦ (two n).1 (inr ((one n).1 (inr before)))
  ],
)

-- the same, said in other words
pub gains_like : (first : ℕ → ℕ) (old new : List ℕ) (These Those : ℕ → Type 0) → ((n : ℕ) → These n ↔ Those n) → GainsFirsts first old new These
    → GainsFirsts first old new Those
gains_like first old new These Those same gains n = (
  λ has. elim ((gains n).0 has) [ inl of_these ↦ inl ((same n).0 of_these.0, of_these.1) | inr before ↦ inr before ],
  λ either. (gains n).1 (elim either [ inl of_those ↦ inl ((same n).1 of_those.0, of_those.1) | inr before ↦ inr before ]),
)

-- a number, if it is the first of its list
pub gains_itself : (first : ℕ → ℕ) (old new : List ℕ) (k : ℕ) → first k ≡ k → ((n : ℕ) → Contains new n ↔ ((n ≡ k) ⊎ Contains old n)) → GainsFirsts first old new (λ n. n ≡ k)
gains_itself first old new k is put n = (
  λ has. elim ((put n).0 has) [ inl same ↦ inl (same, subst (λ m. first m ≡ m) (sym same) is) | inr before ↦ inr before ],
  λ either. (put n).1 (elim either [ inl one ↦ inl one.0 | inr before ↦ inr before ]),
)

-- nobody where it isn't
pub gains_not_itself : (first : ℕ → ℕ) (old : List ℕ) (k : ℕ) → (first k ≡ k → ⊥) → GainsFirsts first old old (λ n. n ≡ k)
gains_not_itself first old k other n = (
  λ has. inr has,
  λ either. elim either [ inl one ↦ absurd (other (subst (λ m. first m ≡ m) one.0 one.1)) | inr before ↦ before ],
)

-- at one of these locations, or at one of those
pub stands_at_both : (s : Shown) (standing : ℕ → List ℕ) (locations more : List Location) (n : ℕ)
    → (StandsAtOne s standing more n ⊎ StandsAtOne s standing locations n) ↔ StandsAtOne s standing (locations ++ more) n
stands_at_both s standing [] more n = (
  λ either. elim either [ inl later ↦ later | inr none ↦ absurd none ],
  λ later. inl later,
)
stands_at_both s standing (first ∷ rest) more n =
    let both = stands_at_both s standing rest more n in (
      λ either. elim either [
        | inl later ↦ inr (both.0 (inl later))
        | inr old ↦ elim old [ inl at_first ↦ inl at_first | inr in_rest ↦ inr (both.0 (inr in_rest)) ]
      ],
      λ either. elim either [
        | inl at_first ↦ inr (inl at_first)
        | inr later ↦ elim (both.1 later) [ inl in_more ↦ inl in_more | inr in_rest ↦ inr (inr in_rest) ]
      ],
    )

-- at one location
pub stands_at_only : (s : Shown) (standing : ℕ → List ℕ) (location : Location) (n : ℕ) → StandsAt s standing location n ↔ StandsAtOne s standing (location ∷ []) n
stands_at_only s standing location n = (λ here. inl here, λ either. elim either [ inl here ↦ here | inr none ↦ absurd none ])

-- ---- whose usages go on

-- a usage that goes on is of one of the sessions
pub usage_below : (s : Shown) (n : ℕ) → IsSome (going_on (session_in s.tables n)) → n < length s.tables.sessions + 1
usage_below s n some = by n (session_in s.tables n) refl some
  where
    by : (n : ℕ) (o : Option SessionRow) → session_in s.tables n ≡ o → IsSome (going_on o) → n < length s.tables.sessions + 1
    by n None is some = absurd cc
    by zero (Some row) is some = omega arith
    by (suc n) (Some row) is some = let within : n < length s.tables.sessions = slice_get_within s.tables.sessions n row is in omega (arith, within)

abbrev pub GoOnBelow : Shown → ℕ → ℕ → Type 0
GoOnBelow s limit n = (n < limit) × GoesOn s n

-- of the sessions below 1 nobody
pub none_go_on : (s : Shown) (n : ℕ) → GoOnBelow s 1 n → ⊥
none_go_on s zero goes = absurd cc
none_go_on s (suc n) goes = let below : suc n < 1 = goes.0 in omega (arith, below)

-- the next one, if its usage goes on
pub next_goes_on : (s : Shown) (first : ℕ → ℕ) (old mid new : List ℕ) (n : ℕ) → GainsFirsts first old mid (GoOnBelow s n)
    → GainsFirsts first mid new (λ m. (m ≡ n) × GoesOn s n) → GainsFirsts first old new (GoOnBelow s (n + 1))
next_goes_on s first old mid new n one two =
    gains_like first old new (λ m. ((m ≡ n) × GoesOn s n) ⊎ GoOnBelow s n m) (GoOnBelow s (n + 1)) same
    (gains_both first old mid new (GoOnBelow s n) (λ m. (m ≡ n) × GoesOn s n) one two)
  where
    same : (m : ℕ) → (((m ≡ n) × GoesOn s n) ⊎ GoOnBelow s n m) ↔ GoOnBelow s (n + 1) m
    same m = (
      λ either. elim either [
        | inl last ↦ (let is : m ≡ n = last.0 in (omega (arith, is), subst (GoesOn s) (sym is) last.1))
        | inr before ↦ (let below : m < n = before.0 in (omega (arith, below), before.1))
      ],
      λ goes. elim (eqb_tells m n) [
        | inl here ↦ inl (here.1, subst (GoesOn s) here.1 goes.1)
        | inr other ↦ (let below : m < n + 1 = goes.0 in let apart = other.1 in inr (omega (arith, below, apart), goes.1))
      ],
    )

-- all of them
pub all_go_on : (s : Shown) (first : ℕ → ℕ) (old new : List ℕ) (limit : ℕ) → length s.tables.sessions < limit → GainsFirsts first old new (GoOnBelow s limit)
    → GainsFirsts first old new (GoesOn s)
all_go_on s first old new limit all gains =
    gains_like first old new (GoOnBelow s limit) (GoesOn s) (λ n. (λ goes. goes.1, λ goes. (within n (usage_below s n goes), goes))) gains
  where
    within : (n : ℕ) → n < length s.tables.sessions + 1 → n < limit
    within n below = omega (arith, below, all)

-- ---- all who stand are below the limit

number_below : (t : Tables) (n : ℕ) (row : SessionRow) → session_in t n ≡ Some row → length t.sessions < 1048577 → n < 1048577
number_below t zero row is few = absurd cc
number_below t (suc n) row is few = let within : n < length t.sessions = slice_get_within t.sessions n row is in omega (arith, within, few)

row_going_on : (o : Option SessionRow) (row : SessionRow) → going_on o ≡ Some row → (other : SessionRow) × (o ≡ Some other)
row_going_on None row is = absurd cc
row_going_on (Some other) row is = (other, refl)

-- a usage that goes on is of a session below the limit
pub going_on_below : (s : Shown) (n : ℕ) → IsSome (going_on (session_in s.tables n)) → length s.tables.sessions ≤ 1048576 → n < 1048577
going_on_below s n some few = by (session_in s.tables n) refl some
  where
    by : (o : Option SessionRow) → session_in s.tables n ≡ o → IsSome (going_on o) → n < 1048577
    by None is some = absurd cc
    by (Some row) is some = number_below s.tables n row is (omega (arith, few))

pub stands_below : (s : Shown) (standing : ℕ → List ℕ) → IsExact s standing → length s.tables.sessions < 1048577 → (n place : ℕ) → Contains (standing place) n → n < 1048577
stands_below s standing exact few n place stands =
    let reads = exact.sound n place stands in
    let there = row_going_on (session_in s.tables n) reads.row reads.is in
    number_below s.tables n there.0 there.1 few

all_of : (P : ℕ → Type 0) (xs : List ℕ) → ((n : ℕ) → Contains xs n → P n) → All P xs
all_of P xs each = λ k d within. each (get_or xs k d) (k, within, other xs k (get_or xs k d) d within)
  where
    other : (xs : List ℕ) (k d e : ℕ) → k < length xs → get_or xs k d ≡ get_or xs k e
    other [] k d e within = absurd (omega (arith, within))
    other (x ∷ xs) zero d e within = refl
    other (x ∷ xs) (suc k) d e within = other xs k d e (omega (arith, within))

-- so where there are few sessions, all may be put
pub all_below : (s : Shown) (standing : ℕ → List ℕ) (limit : ℕ) → IsExact s standing → length s.tables.sessions ≤ 1048576 → limit ≡ 1048577 → AllBelow standing limit
all_below s standing limit exact few is place =
    all_of (λ n. n < limit) (standing place) (λ n stands. omega (arith, stands_below s standing exact (omega (arith, few)) n place stands, is))
