-- Settling ends with nobody who fails, and each of its revocations is legal.
use Rattle.std.proofs.Common.{◌≡◌, ℕ, zero, suc, ◌+◌, ◌<◌, ◌≤◌, Bool, true, false, cond, [], ◌∷◌, refl, sym, ap, subst, ◌∙◌, arith}
use Rattle.std.specs.Prelude.{Option, Some, None, option_map, nat_eq}
use Rattle.std.specs.Option.{option_map_or}
use Rattle.std.proofs.lemmas.Bool.{eqb-true, eq-eqb}
use Rattle.ucon_model.specs.declared.policy.When.TheVariants.{AfterRevoke}
use Rattle.ucon_model.specs.declared.session.SessionRow.{SessionRow}
use Rattle.ucon_model.specs.declared.session.SessionState.TheVariants.{Revoked}
use Rattle.ucon_model.specs.Plain.{Bytes, PlainPolicy}
use Rattle.ucon_model.specs.Action.{Trace, revoke, extended, followed_by}
use Rattle.ucon_model.specs.Readings.{in_force, session, sessions, is_accessing, accessing_up_to, accessing}
use Rattle.ucon_model.specs.Truth.{readings}
use Rattle.ucon_model.specs.Decision.{failing}
use Rattle.ucon_model.specs.Settle.{fails_at, least_from, least_failing, revocation, settle_within, settle}
use Rattle.ucon_model.proofs.Extending.{extended-append, accessing-session_writes}

-- ---- who is found

by_test : (b : Bool) (f : Option Bytes) (label : Bytes) → cond b f None ≡ Some label → b ≡ true
by_test true f label h = refl
by_test false f label h = absurd cc

pub record IsFound (T : Trace) (a b n : ℕ) : Type 0 where
  pub low : a ≤ n
  pub high : n < b
  pub accessing : is_accessing (session T n) ≡ true

found_by : (P : PlainPolicy) (T : Trace) (a k : ℕ) (f : ℕ × Bytes) (o : Option Bytes) → fails_at P T a ≡ o
    → (least_from P T (a + 1) k ≡ Some f → IsFound T (a + 1) (a + 1 + k) f.0)
    → option_map_or (λ label. Some (a, label)) o (least_from P T (a + 1) k) ≡ Some f → IsFound T a (a + suc k) f.0
found_by P T a k f None is rest h = let r = rest h in record { low = omega (arith, r.low); high = omega (arith, r.high); accessing = r.accessing }
found_by P T a k f (Some label) is rest h =
    let pair : ℕ × Bytes = (a, label) in
    let same : pair ≡ f = cc in
    let e : a ≡ f.0 = ap (λ (p : ℕ × Bytes). p.0) same in
    record {
      low = omega (arith, e);
      high = omega (arith, e);
      accessing = subst (λ (n : ℕ). is_accessing (session T n) ≡ true) e (by_test (is_accessing (session T a)) (failing (in_force P T) (readings P T) a) label is);
    }

found_from : (P : PlainPolicy) (T : Trace) (a k : ℕ) (f : ℕ × Bytes) → least_from P T a k ≡ Some f → IsFound T a (a + k) f.0
found_from P T a zero f e = absurd cc
found_from P T a (suc k) f e = found_by P T a k f (fails_at P T a) refl (found_from P T (a + 1) k f) e

-- ---- what a revocation takes away

abbrev as_revoked : SessionRow → SessionRow
as_revoked row = record row { state = Revoked }

turned_off : (b : Bool) (o : Option SessionRow) → is_accessing (cond b (option_map as_revoked o) o) ≡ cond b false (is_accessing o)
turned_off true None = refl
turned_off true (Some row) = refl
turned_off false o = refl

pub after_revoke : (T : Trace) (n m : ℕ) (label : Bytes) → is_accessing (session (revoke n label ∷ T) m) ≡ cond (nat_eq m n) false (is_accessing (session T m))
after_revoke T n m label = turned_off (nat_eq m n) (session T m)

fewer : (b x : Bool) → cond (cond b false x) 1 0 ≤ cond x 1 0
fewer true true = omega arith
fewer true false = omega arith
fewer false x = omega arith

no_more : (T : Trace) (n : ℕ) (label : Bytes) (k : ℕ) → accessing_up_to (revoke n label ∷ T) k ≤ accessing_up_to T k
no_more T n label zero = omega arith
no_more T n label (suc k) =
    let then : is_accessing (session (revoke n label ∷ T) (suc k)) ≡ cond (nat_eq (suc k) n) false (is_accessing (session T (suc k))) = after_revoke T n (suc k) label in
    rw then (omega (arith, no_more T n label k, fewer (nat_eq (suc k) n) (is_accessing (session T (suc k)))))

last_or_before : (T : Trace) (n : ℕ) (label : Bytes) (k : ℕ) (b : Bool) → nat_eq (suc k) n ≡ b → n ≤ suc k → is_accessing (session T n) ≡ true
    → (n ≤ k → accessing_up_to (revoke n label ∷ T) k < accessing_up_to T k)
    → accessing_up_to (revoke n label ∷ T) (suc k) < accessing_up_to T (suc k)
last_or_before T n label k true is high on rest =
    let last : suc k ≡ n = eqb-true (suc k) n is in
    let off : is_accessing (session (revoke n label ∷ T) (suc k)) ≡ false = after_revoke T n (suc k) label ∙ ap (λ (b : Bool). cond b false (is_accessing (session T (suc k)))) is in
    let on_there : is_accessing (session T (suc k)) ≡ true = subst (λ (m : ℕ). is_accessing (session T m) ≡ true) (sym last) on in
    let le : accessing_up_to (revoke n label ∷ T) k ≤ accessing_up_to T k = no_more T n label k in
    rw (off, on_there) (omega arith)
last_or_before T n label k false is high on rest =
    let other : suc k ≡ n → ⊥ = λ e. (let t : nat_eq (suc k) n ≡ true = eq-eqb (suc k) n e in (cc)) in
    let lt : accessing_up_to (revoke n label ∷ T) k < accessing_up_to T k = rest (omega (arith, other)) in
    let then : is_accessing (session (revoke n label ∷ T) (suc k)) ≡ cond (nat_eq (suc k) n) false (is_accessing (session T (suc k))) = after_revoke T n (suc k) label in
    rw then (omega (arith, lt, fewer (nat_eq (suc k) n) (is_accessing (session T (suc k)))))

one_fewer : (T : Trace) (n : ℕ) (label : Bytes) (k : ℕ) → 1 ≤ n → n ≤ k → is_accessing (session T n) ≡ true
    → accessing_up_to (revoke n label ∷ T) k < accessing_up_to T k
one_fewer T n label zero low high on = absurd (omega arith)
one_fewer T n label (suc k) low high on = last_or_before T n label k (nat_eq (suc k) n) refl high on (λ le. one_fewer T n label k low le on)

-- ---- the turns

-- a revocation leaves fewer accessing sessions
pub falls : (P : PlainPolicy) (T : Trace) (f : ℕ × Bytes) → least_failing P T ≡ Some f → accessing (extended T (revocation P T f)) < accessing T
falls P T f e =
    let found = found_from P T 1 (sessions T) f e in
    let lt : accessing (revoke f.0 f.1 ∷ T) < accessing T = one_fewer T f.0 f.1 (sessions T) found.low (omega (arith, found.high)) found.accessing in
    omega (arith, lt, accessing-session_writes P f.0 AfterRevoke (revoke f.0 f.1 ∷ T))

pub none_left : (P : PlainPolicy) (T : Trace) (o : Option (ℕ × Bytes)) → least_failing P T ≡ o → accessing T ≤ 0 → o ≡ None
none_left P T None is le = refl
none_left P T (Some f) is le = absurd (omega (arith, falls P T f is))

-- ends so from every trace with at most so many accessing sessions
abbrev Ends : PlainPolicy → ℕ → Type 0
Ends P k = (T : Trace) → accessing T ≤ k → least_failing P (extended T (settle_within k P T)) ≡ None

by_turn : (P : PlainPolicy) (T : Trace) (k : ℕ) (o : Option (ℕ × Bytes)) → least_failing P T ≡ o → accessing T ≤ suc k → Ends P k
    → least_failing P (extended T (option_map_or (λ f. followed_by (revocation P T f) (settle_within k P) T) o [])) ≡ None
by_turn P T k None is le rest = is
by_turn P T k (Some f) is le rest =
    ap (least_failing P) (extended-append T (revocation P T f) (settle_within k P (extended T (revocation P T f))))
    ∙ rest (extended T (revocation P T f)) (omega (arith, falls P T f is))

ends_within : (k : ℕ) (P : PlainPolicy) → Ends P k
ends_within zero P T le = none_left P T (least_failing P T) refl le
ends_within (suc k) P T le = by_turn P T k (least_failing P T) refl le (ends_within k P)

-- after settling no session is found that fails
pub least_failing-settle : (P : PlainPolicy) (T : Trace) → least_failing P (extended T (settle P T)) ≡ None
least_failing-settle P T = ends_within (accessing T) P T (omega arith)
