-- Traces with more actions after them.
use Rattle.std.proofs.Common.{◌≡◌, ℕ, zero, suc, Bool, true, false, cond, List, [], ◌∷◌, ◌++◌, refl, ap, ◌∙◌}
use Rattle.std.specs.Prelude.{Option, Some, None}
use Rattle.std.specs.Option.{option_map_or}
use Rattle.ucon_model.specs.declared.policy.When.{When}
use Rattle.ucon_model.specs.declared.session.SessionRow.{SessionRow}
use Rattle.ucon_model.specs.Plain.{PlainPolicy, PlainUpdate}
use Rattle.ucon_model.specs.Action.{Action, Trace, extended, followed_by}
use Rattle.ucon_model.specs.Readings.{in_force, session, sessions, accessing_up_to, accessing}
use Rattle.ucon_model.specs.Updates.{same_when, write_of, writes, updates_of, session_writes}

pub extended-append : (T : Trace) (xs ys : List Action) → extended T (xs ++ ys) ≡ extended (extended T xs) ys
extended-append T [] ys = refl
extended-append T (x ∷ xs) ys = extended-append (x ∷ T) xs ys

-- ---- updates write alone

-- what the writes of an update and of those behind it leave, where those behind it leave it
abbrev Kept : {A : Type 0} → (Trace → A) → List PlainUpdate → PlainPolicy → SessionRow → When → Type 0
Kept read us P row when = (T : Trace) → read (extended T (writes P row when us T)) ≡ read T

session_one : (P : PlainPolicy) (row : SessionRow) (when : When) (u : PlainUpdate) (us : List PlainUpdate) (T : Trace) (n : ℕ) (b : Bool)
    → Kept (λ U. session U n) us P row when
    → session (extended T (cond b (followed_by (write_of P row u T ∷ []) (writes P row when us) T) (writes P row when us T))) n ≡ session T n
session_one P row when u us T n true rest = rest (write_of P row u T ∷ T)
session_one P row when u us T n false rest = rest T

pub session-writes : (P : PlainPolicy) (row : SessionRow) (when : When) (us : List PlainUpdate) (n : ℕ) → Kept (λ T. session T n) us P row when
session-writes P row when [] n T = refl
session-writes P row when (u ∷ us) n T = session_one P row when u us T n (same_when when u.when) (session-writes P row when us n)

sessions_one : (P : PlainPolicy) (row : SessionRow) (when : When) (u : PlainUpdate) (us : List PlainUpdate) (T : Trace) (b : Bool)
    → Kept sessions us P row when
    → sessions (extended T (cond b (followed_by (write_of P row u T ∷ []) (writes P row when us) T) (writes P row when us T))) ≡ sessions T
sessions_one P row when u us T true rest = rest (write_of P row u T ∷ T)
sessions_one P row when u us T false rest = rest T

pub sessions-writes : (P : PlainPolicy) (row : SessionRow) (when : When) (us : List PlainUpdate) → Kept sessions us P row when
sessions-writes P row when [] T = refl
sessions-writes P row when (u ∷ us) T = sessions_one P row when u us T (same_when when u.when) (sessions-writes P row when us)

of_row_session : (P Q : PlainPolicy) (when : When) (T : Trace) (n : ℕ) (o : Option SessionRow)
    → session (extended T (option_map_or (λ row. writes P row when (updates_of Q row) T) o [])) n ≡ session T n
of_row_session P Q when T n None = refl
of_row_session P Q when T n (Some row) = session-writes P row when (updates_of Q row) n T

-- a session's writes leave every session
pub session-session_writes : (P : PlainPolicy) (m : ℕ) (when : When) (T : Trace) (n : ℕ) → session (extended T (session_writes P m when T)) n ≡ session T n
session-session_writes P m when T n = of_row_session P (in_force P T) when T n (session T m)

of_row_sessions : (P Q : PlainPolicy) (when : When) (T : Trace) (o : Option SessionRow)
    → sessions (extended T (option_map_or (λ row. writes P row when (updates_of Q row) T) o [])) ≡ sessions T
of_row_sessions P Q when T None = refl
of_row_sessions P Q when T (Some row) = sessions-writes P row when (updates_of Q row) T

pub sessions-session_writes : (P : PlainPolicy) (m : ℕ) (when : When) (T : Trace) → sessions (extended T (session_writes P m when T)) ≡ sessions T
sessions-session_writes P m when T = of_row_sessions P (in_force P T) when T (session T m)

same_count : (T U : Trace) → ((n : ℕ) → session U n ≡ session T n) → (k : ℕ) → accessing_up_to U k ≡ accessing_up_to T k
same_count T U same zero = refl
same_count T U same (suc k) = rw (same_count T U same k, same (suc k)) refl

pub accessing-session_writes : (P : PlainPolicy) (m : ℕ) (when : When) (T : Trace) → accessing (extended T (session_writes P m when T)) ≡ accessing T
accessing-session_writes P m when T =
    ap (accessing_up_to (extended T (session_writes P m when T))) (sessions-session_writes P m when T)
    ∙ same_count T (extended T (session_writes P m when T)) (session-session_writes P m when T) (sessions T)
