-- Whom writes reach: who reads where they write.
use Rattle.std.proofs.Common.{◌≡◌, ℕ, Bool, true, false, List, [], ◌∷◌, refl, ap, ◌∙◌}
use Rattle.std.specs.Prelude.{◌||◌, nat_eq, map, filter, Option, Some, None}
use Rattle.std.specs.Option.{option_map_or}
use Rattle.std.specs.List.{list_any}
use Rattle.ucon_base.specs.declared.value.Side.{Side}
use Rattle.ucon_base.specs.declared.value.Side.TheVariants as sides
use Rattle.ucon_base.specs.declared.value.Value.{Value}
use Rattle.ucon_model.specs.declared.policy.When.{When}
use Rattle.ucon_model.specs.declared.policy.When.TheVariants.{AfterEnd, AfterRevoke}
use Rattle.ucon_model.specs.declared.session.SessionRow.{SessionRow}
use Rattle.ucon_model.specs.declared.session.SessionState.{SessionState}
use Rattle.ucon_model.specs.declared.session.SessionState.TheVariants.{Revoked, Ended}
use Rattle.ucon_model.specs.Plain.{Bytes, PlainUpdate, PlainPolicy}
use Rattle.ucon_model.specs.Action.{Action, Trace, write, env, ends, revoke}
use Rattle.ucon_model.specs.Readings.{in_force, session, changed_if}
use Rattle.ucon_model.specs.Updates.{same_when, entity_of, updates_of, session_writes}
use Rattle.ucon_model.specs.Settle.{revocation}
use Rattle.ucon_model.specs.Reach.{places_of, timed_of, Location, attribute_of, variable_of, reads_at, readers, target, targets, session_targets, reaches, permits}
use Rattle.ucon_model.specs.Work.{concerned}
use Rattle.ucon_model.proofs.Frames.{in_force-step}
use Rattle.ucon_model.proofs.TargetWrites.{WriteAt, none, one, session_writes_at}

-- ---- one write

-- what moves no timed part reaches a session by its places alone
pub by_places : {T : Type 0} (b : Bool) (xs : List T) → (b || list_any (λ x. false) xs) ≡ b
by_places true xs = refl
by_places false [] = refl
by_places false (x ∷ xs) = by_places false xs

-- what alters nothing and moves nothing reaches nobody
pub nowhere : (Q : PlainPolicy) (row : SessionRow) → (list_any (λ place. false) (places_of Q row) || list_any (λ part. false) (timed_of Q row)) ≡ false
nowhere Q row = by_places (list_any (λ place. false) (places_of Q row)) (timed_of Q row) ∙ by_places false (places_of Q row)

-- a write of an attribute or a variable reaches who reads it
pub reaches-write : (Q : PlainPolicy) (row : SessionRow) (side : Side) (name attr : Bytes) (v : Value)
    → reaches Q row (write side name attr v) ≡ reads_at Q row (attribute_of side name attr)
reaches-write Q row side name attr v = by_places (reads_at Q row (attribute_of side name attr)) (timed_of Q row)

pub reaches-env : (Q : PlainPolicy) (row : SessionRow) (name : Bytes) (v : Value) → reaches Q row (env name v) ≡ reads_at Q row (variable_of name)
reaches-env Q row name v = by_places (reads_at Q row (variable_of name)) (timed_of Q row)

-- ---- a session's writes

reaches-at : (Q : PlainPolicy) (other : SessionRow) (actions : List Action) (locations : List Location) → WriteAt actions locations
    → list_any (reaches Q other) actions ≡ list_any (reads_at Q other) locations
reaches-at Q other actions locations none = refl
reaches-at Q other actions locations (one {actions = more} {locations = others} side name attr v rest) =
    rw (reaches-write Q other side name attr v, reaches-at Q other more others rest) refl

-- session m's writes reach who reads one of its targets
pub reaches-session_writes : (P Q : PlainPolicy) (other : SessionRow) (m : ℕ) (when : When) (T : Trace)
    → list_any (reaches Q other) (session_writes P m when T) ≡ list_any (reads_at Q other) (session_targets P T m when)
reaches-session_writes P Q other m when T = reaches-at Q other _ _ (session_writes_at P m when T)

permits-at : (n : ℕ) (actions : List Action) (locations : List Location) → WriteAt actions locations → list_any (permits n) actions ≡ false
permits-at n actions locations none = refl
permits-at n actions locations (one {actions = more} {locations = others} side name attr v rest) = permits-at n more others rest

-- a session's writes permit nobody
pub permits-session_writes : (P : PlainPolicy) (n m : ℕ) (when : When) (T : Trace) → list_any (permits n) (session_writes P m when T) ≡ false
permits-session_writes P n m when T = permits-at n _ _ (session_writes_at P m when T)

-- ---- a revocation and an end

-- where a right writes doesn't depend on the session's state
entity_same : (row : SessionRow) (state : SessionState) (side : Side) → entity_of side (record row { state = state }) ≡ entity_of side row
entity_same row state sides.Subject = refl
entity_same row state sides.Object = refl

targets_same : (row : SessionRow) (state : SessionState) (us : List PlainUpdate) → map (target (record row { state = state })) us ≡ map (target row) us
targets_same row state [] = refl
targets_same row state (u ∷ us) = rw (entity_same row state u.side, targets_same row state us) refl

changed_targets : (Q : PlainPolicy) (when : When) (state : SessionState) (b : Bool) (o : Option SessionRow)
    → option_map_or (λ row. targets row when (updates_of Q row)) (changed_if b (λ row. record row { state = state }) o) []
    ≡ option_map_or (λ row. targets row when (updates_of Q row)) o []
changed_targets Q when state false o = refl
changed_targets Q when state true None = refl
changed_targets Q when state true (Some row) = targets_same row state (filter (λ u. same_when when u.when) (updates_of Q row))

pub session_targets-revoke : (P : PlainPolicy) (T : Trace) (n m : ℕ) (label : Bytes) (when : When)
    → session_targets P (revoke n label ∷ T) m when ≡ session_targets P T m when
session_targets-revoke P T n m label when =
    let V : Trace = revoke n label ∷ T in
    ap (λ (Q : PlainPolicy). option_map_or (λ row. targets row when (updates_of Q row)) (session V m) []) (in_force-step P T (revoke n label) refl)
    ∙ changed_targets (in_force P T) when Revoked (nat_eq m n) (session T m)

pub session_targets-end : (P : PlainPolicy) (T : Trace) (m : ℕ) → session_targets P (ends m ∷ T) m AfterEnd ≡ session_targets P T m AfterEnd
session_targets-end P T m =
    let V : Trace = ends m ∷ T in
    ap (λ (Q : PlainPolicy). option_map_or (λ row. targets row AfterEnd (updates_of Q row)) (session V m) []) (in_force-step P T (ends m) refl)
    ∙ changed_targets (in_force P T) AfterEnd Ended (nat_eq m m) (session T m)

-- a revocation reaches who reads what its updates write
revocation_reaches : (P Q : PlainPolicy) (T : Trace) (f : ℕ × Bytes) (other : SessionRow)
    → list_any (reaches Q other) (revocation P T f) ≡ list_any (reads_at Q other) (session_targets P T f.0 AfterRevoke)
revocation_reaches P Q T f other =
    let V : Trace = revoke f.0 f.1 ∷ T in
    ap (λ (b : Bool). b || list_any (reaches Q other) (session_writes P f.0 AfterRevoke V)) (nowhere Q other)
    ∙ reaches-session_writes P Q other f.0 AfterRevoke V
    ∙ ap (λ (locations : List Location). list_any (reads_at Q other) locations) (session_targets-revoke P T f.0 f.0 f.1 AfterRevoke)

pub reached_by : (Q : PlainPolicy) (actions : List Action) (locations : List Location)
    → ((other : SessionRow) → list_any (reaches Q other) actions ≡ list_any (reads_at Q other) locations) → (o : Option SessionRow)
    → option_map_or (λ row. list_any (reaches Q row) actions) o false ≡ option_map_or (λ row. list_any (reads_at Q row) locations) o false
reached_by Q actions locations same None = refl
reached_by Q actions locations same (Some row) = same row

-- whom a revocation concerns: who reads what its updates write
pub concerned-revocation : (P : PlainPolicy) (T : Trace) (f : ℕ × Bytes) (n : ℕ)
    → concerned P T (revocation P T f) n ≡ readers P T (session_targets P T f.0 AfterRevoke) n
concerned-revocation P T f n =
    let locations : List Location = session_targets P T f.0 AfterRevoke in
    rw (permits-session_writes P n f.0 AfterRevoke (revoke f.0 f.1 ∷ T))
    (reached_by (in_force P T) (revocation P T f) locations (revocation_reaches P (in_force P T) T f) (session T n))
