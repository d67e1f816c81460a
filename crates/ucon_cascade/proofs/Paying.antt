-- Judgements that are paid for stay so.
use Rattle.std.proofs.Common.{◌≡◌, ◌<◌, ◌≤◌, ◌+◌, inl, inr, ℕ, zero, suc, Bool, true, false, List, ◌∷◌, refl, arith}
use Rattle.std.specs.Prelude.{◌&&◌, cond}
use Rattle.std.specs.List.{Contains}
use Rattle.std.proofs.lemmas.Bool.Decides.{eqb_tells}
use Rattle.ucon_model.specs.Plain.{PlainPolicy}
use Rattle.ucon_model.specs.Action.{Action, Trace, extended}
use Rattle.ucon_model.specs.Readings.{is_accessing, session}
use Rattle.ucon_model.specs.Sound.{IsNumbered}
use Rattle.ucon_model.specs.Touches.{IsPaid, owes, sum_to}
use Rattle.ucon_model.specs.Work.{Work, without}
use Rattle.ucon_state.specs.Shown.{Shown}
use Rattle.ucon_state.specs.Tables.{session_in}
use Rattle.ucon_cascade.specs.Cascading.{work_of}
use Rattle.ucon_cascade.specs.Paid.{ArePaid, StayPaid}
use Rattle.ucon_cascade.specs.Putting.{GoesOn}
use Rattle.ucon_cascade.proofs.Covering.{is_member}
use Rattle.ucon_cascade.proofs.Firsts.{accessing_after, goes_on}

-- ---- sums

pub sum_le : (f g : ℕ → ℕ) (k : ℕ) → ((n : ℕ) → f n ≤ g n) → sum_to f k ≤ sum_to g k
sum_le f g zero le = omega arith
sum_le f g (suc k) le = omega (arith, sum_le f g k le, le (suc k))

-- ---- less work owes less

owed_less : (b w v : Bool) → (b ≡ true → w ≡ true → v ≡ true) → cond (b && w) 1 0 ≤ cond (b && v) 1 0
owed_less false w v inside = omega arith
owed_less true false false inside = omega arith
owed_less true false true inside = omega arith
owed_less true true true inside = omega arith
owed_less true true false inside = absurd (let no : false ≡ true = inside refl refl in cc)

-- of less work no more is owed
pub paid_less : (P : PlainPolicy) (T : Trace) (actions : List Action) (first : ℕ → ℕ) (work less : Work) (judged k : ℕ) → ((m : ℕ) → less m ≡ true → work m ≡ true)
    → IsPaid P T actions first work judged k → IsPaid P T actions first less judged k
paid_less P T actions first work less judged k inside paid =
    let U = extended T actions in
    omega (
      arith,
      paid,
      sum_le (owes U first less) (owes U first work) k
          (λ n. owed_less (is_accessing (session U n)) (less (first n)) (work (first n)) (λ on has. inside (first n) has)),
    )

-- ---- one of the work is judged and holds

-- a judgement of one in the work is paid for
abbrev pub JudgementsArePaid : Type 0
JudgementsArePaid = (P : PlainPolicy) (T : Trace) (actions : List Action) (first : ℕ → ℕ) (work : Work) (steps k n : ℕ)
    → IsPaid P T actions first work steps k → 1 ≤ n → n ≤ k → is_accessing (session (extended T actions) n) ≡ true → first n ≡ n
    → work n ≡ true → IsPaid P T actions first (without n work) (steps + 1) k

pub one_up : (P : PlainPolicy) (T : Trace) → IsNumbered T → (n : ℕ) → is_accessing (session T n) ≡ true → 1 ≤ n
one_up P T numbered zero on = absurd (let no : false ≡ true = rw numbered.zeroth at on in cc)
one_up P T numbered (suc n) on = omega arith

pub in_front : (n : ℕ) (rest : List ℕ) → work_of (n ∷ rest) n ≡ true
in_front n rest = elim (eqb_tells n n) [ inl here ↦ (rw here.0 refl) | inr other ↦ absurd (other.1 refl) ]

pub behind_front : (n m : ℕ) (rest : List ℕ) → work_of rest m ≡ true → work_of (n ∷ rest) m ≡ true
behind_front n m rest has = elim (eqb_tells m n) [ inl here ↦ (rw here.0 refl) | inr other ↦ (rw other.0 has) ]

-- whoever is in the rest of rising members isn't the first
in_rest : (n m : ℕ) (rest : List ℕ) → ((m : ℕ) → Contains rest m → n < m) → work_of rest m ≡ true → without n (work_of (n ∷ rest)) m ≡ true
in_rest n m rest above has = elim (eqb_tells m n) [
  | inl here ↦ absurd (let over : n < m = above m (is_member m rest has) in let is = here.1 in omega (arith, over, is))
  | inr other ↦ (rw (other.0, has) refl)
]

-- the first of rising members is asked, once where its usage goes on, and else not; and it is the first of its list where its usage goes on
pub stays_paid : JudgementsArePaid → (s : Shown) (first : ℕ → ℕ) (n : ℕ) (rest : List ℕ) (before after : ℕ) → ((m : ℕ) → Contains rest m → n < m)
    → (GoesOn s n → first n ≡ n) → after ≤ before + 1 → (is_accessing (session_in s.tables n) ≡ false → after ≡ before) → StayPaid s first (n ∷ rest) rest before after
stays_paid law s first n rest before after above leads once not_judged P T actions k judged h up_to paid = by (is_accessing (session_in s.tables n)) refl
  where
    U : Trace
    U = extended T actions

    by : (b : Bool) → is_accessing (session_in s.tables n) ≡ b → (more : ℕ) × (after ≤ before + more) × ArePaid P T actions first rest (judged + more) k
    by true on =
        let goes = goes_on (session_in s.tables n) on in
        let on' = accessing_after s P U h n goes in (
          1,
          once,
          paid_less P T actions first (without n (work_of (n ∷ rest))) (work_of rest) (judged + 1) k (λ m has. in_rest n m rest above has)
              (law P T actions first (work_of (n ∷ rest)) judged k n paid (one_up P U h.sound.numbered n on') (up_to n goes) on' (leads goes) (in_front n rest)),
        )
    by false off =
        let is = not_judged off in
        (0, omega (arith, is), paid_less P T actions first (work_of (n ∷ rest)) (work_of rest) (judged + 0) k (λ m has. behind_front n m rest has) (omega (arith, paid)))

-- nothing was asked
pub paid_at_first : (s : Shown) (first : ℕ → ℕ) (members : List ℕ) (before : ℕ) → StayPaid s first members members before before
paid_at_first s first members before P T actions k judged h up_to paid = (0, omega arith, omega (arith, paid))

-- one after the other
pub paid_then : (s : Shown) (first : ℕ → ℕ) (old mid new : List ℕ) (before now after : ℕ) → StayPaid s first old mid before now → StayPaid s first mid new now after
    → StayPaid s first old new before after
paid_then s first old mid new before now after sooner later P T actions k judged h up_to paid =
    let one = sooner P T actions k judged h up_to paid in
    let two = later P T actions k (judged + one.0) h up_to one.2 in
    let a = one.1 in
    let b = two.1 in
    let c = two.2 in
    (one.0 + two.0, omega (arith, a, b), omega (arith, c))

-- whoever was found to fail was judged once more
pub paid_but_one : (s : Shown) (first : ℕ → ℕ) (old new : List ℕ) (before now after : ℕ) → after ≤ now + 1 → StayPaid s first old new before now
    → StayPaid s first old new (before + 1) after
paid_but_one s first old new before now after once stay P T actions k judged h up_to paid =
    let one = stay P T actions k judged h up_to paid in
    let a = one.1 in
    (one.0, omega (arith, a, once), one.2)
