-- Settling: the cascade of revocations. All accessing sessions are rechecked after each one.
use Rattle.std.specs.Prelude.{ℕ, zero, suc, ◌+◌, List, [], ◌∷◌, Option, Some, None, if◌then◌else◌}
use Rattle.std.specs.Option.{option_map_or}
use Rattle.ucon_model.specs.declared.policy.When.TheVariants.{AfterRevoke}
use Rattle.ucon_model.specs.declared.reply.Revoked.{Revoked}
use Rattle.ucon_model.specs.Plain.{Bytes, PlainPolicy}
use Rattle.ucon_model.specs.Action.{Action, Trace, revoke, extended, followed_by}
use Rattle.ucon_model.specs.Readings.{in_force, session, sessions, is_accessing, accessing}
use Rattle.ucon_model.specs.Truth.{readings}
use Rattle.ucon_model.specs.Decision.{failing}
use Rattle.ucon_model.specs.Updates.{session_writes}

-- the label by which session n fails, if it is accessing
abbrev pub fails_at : PlainPolicy → Trace → ℕ → Option Bytes
fails_at P T n = if is_accessing (session T n) then failing (in_force P T) (readings P T) n else None

-- the least of so many sessions from n on that is accessing and fails, with its label
abbrev pub least_from : PlainPolicy → Trace → ℕ → ℕ → Option (ℕ × Bytes)
least_from P T n zero = None
least_from P T n (suc left) = option_map_or (λ label. Some (n, label)) (fails_at P T n) (least_from P T (n + 1) left)

-- the least accessing session that fails, with its label
abbrev pub least_failing : PlainPolicy → Trace → Option (ℕ × Bytes)
least_failing P T = least_from P T 1 (sessions T)

-- a session's revocation, and then its updates after a revocation
abbrev pub revocation : PlainPolicy → Trace → ℕ × Bytes → List Action
revocation P T f = revoke f.0 f.1 ∷ session_writes P f.0 AfterRevoke (revoke f.0 f.1 ∷ T)

-- at most so many turns
abbrev pub settle_within : ℕ → PlainPolicy → Trace → List Action
settle_within zero P T = []
settle_within (suc turns) P T =
    option_map_or (λ f. followed_by (revocation P T f) (settle_within turns P) T) (least_failing P T) []

-- the trace after so many turns
abbrev pub settled_to : ℕ → PlainPolicy → Trace → Trace
settled_to turns P T = extended T (settle_within turns P T)

-- Nothing if no accessing session fails; else the least that fails is revoked, its updates run, and what is left is settled. Each
-- turn leaves one accessing session fewer, so there are no more turns than accessing sessions.
abbrev pub settle : PlainPolicy → Trace → List Action
settle P T = settle_within (accessing T) P T

-- who is revoked among these actions, in their order
abbrev pub revoked_in : List Action → List Revoked
revoked_in [] = []
revoked_in (revoke n label ∷ actions) = record { session = n; label = label } ∷ revoked_in actions
revoked_in (a ∷ actions) = revoked_in actions
