-- The least accessing session that fails: its revocation is legal, and where there is none nobody fails.
use Rattle.std.proofs.Common.{◌≡◌, ◌⊎◌, inl, inr, ℕ, zero, suc, ◌+◌, ◌<◌, ◌≤◌, Bool, true, false, cond, refl, ap, subst, arith}
use Rattle.std.specs.Prelude.{◌≢◌, nat_eq, nat_le, Option, Some, None, IsSomeAnd}
use Rattle.std.proofs.lemmas.Bool.Decides.{leb_tells, eqb_tells}
use Rattle.std.specs.Option.{option_map_or}
use Rattle.ucon_model.specs.declared.session.SessionRow.{SessionRow}
use Rattle.ucon_model.specs.declared.session.SessionState.{SessionState}
use Rattle.ucon_model.specs.declared.session.SessionState.TheVariants.{Requesting, Denied, Accessing, Revoked, Ended}
use Rattle.ucon_model.specs.Plain.{Bytes, PlainPolicy}
use Rattle.ucon_model.specs.Action.{Trace, revoke}
use Rattle.ucon_model.specs.Readings.{in_force, session, sessions, is_accessing_state, is_accessing}
use Rattle.ucon_model.specs.Truth.{readings}
use Rattle.ucon_model.specs.Decision.{failing}
use Rattle.ucon_model.specs.Legal.{IsLegal}
use Rattle.ucon_model.specs.Settle.{fails_at, least_from, least_failing}
use Rattle.ucon_model.specs.Sound.{IsNumbered}

-- ---- what failing means

accessing_state : (s : SessionState) → is_accessing_state s ≡ true → s ≡ Accessing
accessing_state Accessing h = refl
accessing_state Requesting h = absurd cc
accessing_state Denied h = absurd cc
accessing_state Revoked h = absurd cc
accessing_state Ended h = absurd cc

pub accessing_row : (o : Option SessionRow) → is_accessing o ≡ true → IsSomeAnd o (λ row. row.state ≡ Accessing)
accessing_row None h = absurd cc
accessing_row (Some row) h = accessing_state row.state h

both_hold : (b : Bool) (o : Option Bytes) (label : Bytes) → cond b o None ≡ Some label → (b ≡ true) × (o ≡ Some label)
both_hold true o label h = (refl, h)
both_hold false o label h = absurd cc

not_there : (P : PlainPolicy) (T : Trace) (n : ℕ) → session T n ≡ None → fails_at P T n ≡ None
not_there P T n e = rw e refl

-- ---- the search from a number on

-- the first from a on that fails, and nobody from a on before it
pub record IsLeast (P : PlainPolicy) (T : Trace) (a : ℕ) (f : ℕ × Bytes) : Type 0 where
  pub fails : fails_at P T f.0 ≡ Some f.1
  pub before : (m : ℕ) → a ≤ m → m < f.0 → fails_at P T m ≡ None

-- what holds at a number and from the next one on holds from it on
from_here : (Q : ℕ → Type 0) (a m : ℕ) → Q a → (a + 1 ≤ m → Q m) → a ≤ m → Q m
from_here Q a m here rest le = by_number (eqb_tells a m)
  where
    by_number : ((nat_eq a m ≡ true) × (a ≡ m)) ⊎ ((nat_eq a m ≡ false) × (a ≢ m)) → Q m
    by_number (inl same) = subst Q same.1 here
    by_number (inr other) = rest (omega (arith, other.1))

least_by : (P : PlainPolicy) (T : Trace) (a k : ℕ) (f : ℕ × Bytes) (o : Option Bytes) → fails_at P T a ≡ o
    → (least_from P T (a + 1) k ≡ Some f → IsLeast P T (a + 1) f)
    → option_map_or (λ label. Some (a, label)) o (least_from P T (a + 1) k) ≡ Some f → IsLeast P T a f
least_by P T a k f None is rest e =
    let r = rest e in
    record { fails = r.fails; before = λ m le lt. from_here (λ m. m < f.0 → fails_at P T m ≡ None) a m (λ _. is) (λ le lt. r.before m le lt) le lt }
least_by P T a k f (Some label) is rest e =
    let pair : ℕ × Bytes = (a, label) in
    let same : pair ≡ f = cc in
    record {
      fails = subst (λ (g : ℕ × Bytes). fails_at P T g.0 ≡ Some g.1) same is;
      before = λ m le lt. absurd (let e : a ≡ f.0 = ap (λ (p : ℕ × Bytes). p.0) same in omega (arith, e, le, lt));
    }

least_from_lem : (P : PlainPolicy) (T : Trace) (a k : ℕ) (f : ℕ × Bytes) → least_from P T a k ≡ Some f → IsLeast P T a f
least_from_lem P T a zero f e = absurd cc
least_from_lem P T a (suc k) f e = least_by P T a k f (fails_at P T a) refl (least_from_lem P T (a + 1) k f) e

-- ---- the revocation that is chosen

pub chosen_is_legal : (P : PlainPolicy) (T : Trace) (f : ℕ × Bytes) → IsNumbered T → least_failing P T ≡ Some f → IsLegal P T (revoke f.0 f.1)
chosen_is_legal P T f h e =
    let least = least_from_lem P T 1 (sessions T) f e in
    let both = both_hold (is_accessing (session T f.0)) (failing (in_force P T) (readings P T) f.0) f.1 least.fails in (
      accessing_row (session T f.0) both.0,
      both.1,
      λ m lt. from_here (λ m. m < f.0 → fails_at P T m ≡ None) 0 m (λ _. not_there P T 0 h.zeroth) (λ le lt. least.before m le lt) (omega arith) lt,
    )

-- ---- where nobody is found, nobody fails

none_by : (P : PlainPolicy) (T : Trace) (a k : ℕ) (o : Option Bytes) → fails_at P T a ≡ o
    → (least_from P T (a + 1) k ≡ None → (m : ℕ) → a + 1 ≤ m → m < a + 1 + k → fails_at P T m ≡ None)
    → option_map_or (λ label. Some (a, label)) o (least_from P T (a + 1) k) ≡ None
    → (m : ℕ) → a ≤ m → m < a + suc k → fails_at P T m ≡ None
none_by P T a k None is rest e m le lt =
    from_here (λ m. m < a + suc k → fails_at P T m ≡ None) a m (λ _. is) (λ above lt. rest e m above (omega (arith, lt))) le lt
none_by P T a k (Some label) is rest e m le lt = absurd cc

none_from : (P : PlainPolicy) (T : Trace) (a k : ℕ) → least_from P T a k ≡ None → (m : ℕ) → a ≤ m → m < a + k → fails_at P T m ≡ None
none_from P T a zero e m le lt = absurd (omega (arith, le, lt))
none_from P T a (suc k) e m le lt = none_by P T a k (fails_at P T a) refl (none_from P T (a + 1) k) e m le lt

above : (P : PlainPolicy) (T : Trace) (n : ℕ) → IsNumbered T → least_failing P T ≡ None → (n < 1 + sessions T) ⊎ (sessions T < n) → 1 ≤ n → fails_at P T n ≡ None
above P T n h e (inl within) le = none_from P T 1 (sessions T) e n le within
above P T n h e (inr beyond) le = not_there P T n (h.beyond n beyond)

pub nobody_fails : (P : PlainPolicy) (T : Trace) → IsNumbered T → least_failing P T ≡ None → (n : ℕ) → fails_at P T n ≡ None
nobody_fails P T h e n = from_here (λ n. fails_at P T n ≡ None) 0 n (not_there P T 0 h.zeroth) (above P T n h e (in_or_beyond n (sessions T))) (omega arith)
  where
    in_or_beyond : (n k : ℕ) → (n < 1 + k) ⊎ (k < n)
    in_or_beyond n k = by_order (leb_tells n k)
      where
        by_order : ((nat_le n k ≡ true) × (n ≤ k)) ⊎ ((nat_le n k ≡ false) × (k < n)) → (n < 1 + k) ⊎ (k < n)
        by_order (inl h) = inl (omega (arith, h.1))
        by_order (inr h) = inr h.1
