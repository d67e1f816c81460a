-- What a revocation leaves.
use Rattle.std.proofs.Common.{◌≡◌, ℕ, true, false, List, [], ◌∷◌, ◌++◌, refl, ap, ◌∙◌, arith}
use Rattle.std.specs.Prelude.{◌≢◌, nat_eq}
use Rattle.std.proofs.lemmas.Bool.{ne_eqb, eq-eqb}
use Rattle.ucon_model.specs.declared.policy.When.TheVariants.{AfterRevoke}
use Rattle.ucon_model.specs.declared.reply.Revoked.{Revoked}
use Rattle.ucon_model.specs.Plain.{Bytes, PlainPolicy}
use Rattle.ucon_model.specs.Action.{Action, Trace, revoke, extended}
use Rattle.ucon_model.specs.Readings.{in_force, session, sessions, is_accessing}
use Rattle.ucon_model.specs.Settle.{revocation, revoked_in}
use Rattle.ucon_model.specs.Sound.{IsNumbered}
use Rattle.ucon_model.specs.Reach.{Location}
use Rattle.ucon_model.proofs.Allowed.{still_none}
use Rattle.ucon_model.proofs.Extending.{session-session_writes, sessions-session_writes}
use Rattle.ucon_model.proofs.Settling.{after_revoke}
use Rattle.ucon_model.proofs.Frames.{in_force-step, session-step}
use Rattle.ucon_model.proofs.TargetWrites.{WriteAt, none, one, session_writes_at, in_force-session_writes}

-- the policy in force stays
pub in_force-revocation : (P : PlainPolicy) (T : Trace) (f : ℕ × Bytes) → in_force P (extended T (revocation P T f)) ≡ in_force P T
in_force-revocation P T f = in_force-session_writes P f.0 AfterRevoke (revoke f.0 f.1 ∷ T) ∙ in_force-step P T (revoke f.0 f.1) refl

-- who is revoked isn't accessing afterwards
pub revoked_off : (P : PlainPolicy) (T : Trace) (f : ℕ × Bytes) → is_accessing (session (extended T (revocation P T f)) f.0) ≡ false
revoked_off P T f =
    let same : nat_eq f.0 f.0 ≡ true = eq-eqb f.0 f.0 refl in
    let off : is_accessing (session (revoke f.0 f.1 ∷ T) f.0) ≡ false = after_revoke T f.0 f.0 f.1 ∙ rw same refl in
    ap is_accessing (session-session_writes P f.0 AfterRevoke (revoke f.0 f.1 ∷ T) f.0) ∙ off

-- every other session is as before
pub session-revocation : (P : PlainPolicy) (T : Trace) (f : ℕ × Bytes) (n : ℕ) → n ≢ f.0 → session (extended T (revocation P T f)) n ≡ session T n
session-revocation P T f n other =
    session-session_writes P f.0 AfterRevoke (revoke f.0 f.1 ∷ T) n ∙ session-step T (revoke f.0 f.1) n (ne_eqb n f.0 other)

pub numbered-revocation : (P : PlainPolicy) (T : Trace) (f : ℕ × Bytes) → IsNumbered T → IsNumbered (extended T (revocation P T f))
numbered-revocation P T f h =
    let V : Trace = revoke f.0 f.1 ∷ T in
    let count : sessions (extended T (revocation P T f)) ≡ sessions T = sessions-session_writes P f.0 AfterRevoke V in
    record {
      zeroth = session-session_writes P f.0 AfterRevoke V 0 ∙ still_none (nat_eq 0 f.0) _ (session T 0) h.zeroth;
      beyond = λ n lt. session-session_writes P f.0 AfterRevoke V n ∙ still_none (nat_eq n f.0) _ (session T n) (h.beyond n (omega (arith, count, lt)));
    }

-- ---- who is revoked

pub revoked_in-append : (xs ys : List Action) → revoked_in (xs ++ ys) ≡ revoked_in xs ++ revoked_in ys
revoked_in-append [] ys = refl
revoked_in-append (revoke n label ∷ xs) ys = ap (λ (rs : List Revoked). record { session = n; label = label } ∷ rs) (revoked_in-append xs ys)
revoked_in-append (x ∷ xs) ys = revoked_in-append xs ys

revoked_in-at : (actions : List Action) (locations : List Location) → WriteAt actions locations → revoked_in actions ≡ []
revoked_in-at actions locations none = refl
revoked_in-at actions locations (one {actions = more} {locations = others} side name attr v rest) = revoked_in-at more others rest

-- a revocation revokes one session
pub revoked_in-revocation : (P : PlainPolicy) (T : Trace) (f : ℕ × Bytes) → revoked_in (revocation P T f) ≡ record { session = f.0; label = f.1 } ∷ []
revoked_in-revocation P T f =
    ap (λ (rs : List Revoked). record { session = f.0; label = f.1 } ∷ rs) (revoked_in-at _ _ (session_writes_at P f.0 AfterRevoke (revoke f.0 f.1 ∷ T)))

-- after these actions one more
pub one_more_revoked : (P : PlainPolicy) (made : List Action) (U : Trace) (f : ℕ × Bytes)
    → revoked_in (made ++ revocation P U f) ≡ revoked_in made ++ record { session = f.0; label = f.1 } ∷ []
one_more_revoked P made U f =
    revoked_in-append made (revocation P U f) ∙ ap (λ (rs : List Revoked). revoked_in made ++ rs) (revoked_in-revocation P U f)
