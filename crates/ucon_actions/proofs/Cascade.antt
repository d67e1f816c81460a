-- The revocation of the least session that fails.
use Rattle.std.proofs.Common.{◌≡◌, ℕ}
use Rattle.std.specs.Prelude.{Some}
use Rattle.ucon_model.specs.declared.session.SessionState.TheVariants.{Accessing}
use Rattle.ucon_model.specs.Plain.{Bytes, PlainPolicy}
use Rattle.ucon_model.specs.Action.{Trace, revoke}
use Rattle.ucon_model.specs.Legal.{IsLegal}
use Rattle.ucon_model.specs.Settle.{least_failing}
use Rattle.ucon_model.specs.Sound.{IsNumbered}
use Rattle.ucon_state.specs.Shown.{Shown}
use Rattle.ucon_state.specs.Following.{Follows}
use Rattle.ucon_actions.specs.Sessions.{IsIn}
use Rattle.ucon_actions.proofs.Deciding.{in_tables}
use Rattle.ucon_engine.specs.ReadOff.{TablesKeep}

-- the least session that fails may be revoked
abbrev pub LeastIsLegal : Type 0
LeastIsLegal = (P : PlainPolicy) (T : Trace) (n : ℕ) (label : Bytes) → IsNumbered T → least_failing P T ≡ Some (n, label) → IsLegal P T (revoke n label)

pub revoke_legal : LeastIsLegal → (s : Shown) (P : PlainPolicy) (T : Trace) → Follows s P T → (n : ℕ) (label : Bytes) → least_failing P T ≡ Some (n, label) → IsLegal P T (revoke n label)
revoke_legal chosen s P T h n label least = chosen P T n label h.sound.numbered least

pub is_accessing_there : TablesKeep → LeastIsLegal → (s : Shown) (P : PlainPolicy) (T : Trace) → Follows s P T → (n : ℕ) (label : Bytes) → least_failing P T ≡ Some (n, label) → IsIn s.tables n Accessing
is_accessing_there keep chosen s P T h n label least = in_tables keep s P T h n Accessing (revoke_legal chosen s P T h n label least).0
