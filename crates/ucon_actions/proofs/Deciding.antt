-- Sessions that are decided on, permitted, denied and ended.
use Rattle.std.proofs.Common.{◌≡◌, ◌∙◌, sym, ap, subst, ℕ, ◌+◌, ◌<◌, Bool, true, cond, ◌∷◌, length, refl, arith}
use Rattle.std.specs.Prelude.{Result, Ok, Err, IfOk, Option, Some, None, is_some, not, IsSome, IsSomeAnd, IsTrue, if◌then◌else◌}
use Rattle.std.proofs.lemmas.Bool.{eq-eqb}
use Rattle.ucon_base.specs.declared.no_memory.NoMemory.{NoMemory}
use Rattle.ucon_base.specs.declared.value.Side.TheVariants.{Subject, Object}
use Rattle.ucon_model.specs.declared.command.Caller.{Caller}
use Rattle.ucon_model.specs.declared.policy.When.{When}
use Rattle.ucon_model.specs.declared.reply.Head.{Head}
use Rattle.ucon_model.specs.declared.reply.Refusal.TheVariants.{NotAccessing}
use Rattle.ucon_model.specs.declared.session.SessionRow.{SessionRow}
use Rattle.ucon_model.specs.declared.session.SessionState.{SessionState}
use Rattle.ucon_model.specs.declared.session.SessionState.TheVariants.{Requesting}
use Rattle.ucon_model.specs.declared.session.Verdict.{Verdict}
use Rattle.ucon_model.specs.declared.session.Verdict.TheVariants.{Wait}
use Rattle.ucon_model.specs.Plain.{Bytes, PlainPolicy}
use Rattle.ucon_model.specs.Action.{Action, Trace, tries, wait, extended}
use Rattle.ucon_model.specs.Readings.{in_force, session, sessions, accessing, is_accessing, is_accessing_state}
use Rattle.ucon_model.specs.Truth.{Readings, readings}
use Rattle.ucon_model.specs.Decision.{right_named, verdict}
use Rattle.ucon_model.specs.Updates.{session_writes}
use Rattle.ucon_model.specs.OwnActions.{Own, refuse, tell, make, after_action, by_verdict, decide, with_own, with_usage}
use Rattle.ucon_model.specs.Legal.{IsLegal}
use Rattle.ucon_state.specs.Tables.{Tables, entity_number, session_in, readings_in, accessing_among}
use Rattle.ucon_state.specs.Applied.{may_become}
use Rattle.ucon_state.specs.Shown.{Shown}
use Rattle.ucon_state.specs.Following.{Follows}
use Rattle.ucon_actions.specs.Gives.{Makes}
use Rattle.ucon_actions.specs.Sessions.{IsIn, requested}
use Rattle.ucon_engine.specs.ReadOff.{TablesKeep, entity_there, readings_same, session_same, sessions_same, accessing_same}
use Rattle.ucon_actions.proofs.Stepping.{ActionsAreFollowed}

-- ---- the state of a session

abbrev Has : Option SessionRow → SessionState → Type 0
Has o state = IsSomeAnd o (λ row. row.state ≡ state)

move_by : (o : Option SessionRow) (before after : SessionState) → may_become before after ≡ true → Has o before → IsSomeAnd o (λ row. IsTrue (may_become row.state after))
move_by None before after may h = h
move_by (Some row) before after may h = ap (λ (state : SessionState). may_become state after) h ∙ may

pub may_move : (t : Tables) (n : ℕ) (before after : SessionState) → may_become before after ≡ true → IsIn t n before → IsSomeAnd (session_in t n) (λ row. IsTrue (may_become row.state after))
may_move t n before after may h = move_by (session_in t n) before after may h

row_there : (o : Option SessionRow) (state : SessionState) → Has o state → IsSome o
row_there None state is = absurd is
row_there (Some row) state is = refl

-- the session is there
pub session_there : (t : Tables) (n : ℕ) (state : SessionState) → IsIn t n state → IsSome (session_in t n)
session_there t n state is = row_there (session_in t n) state is

-- a session's updates leave every session
abbrev pub UpdatesLeaveSessions : Type 0
UpdatesLeaveSessions = (P : PlainPolicy) (m : ℕ) (when : When) (T : Trace) (n : ℕ) → session (extended T (session_writes P m when T)) n ≡ session T n

-- and how many are accessing
abbrev pub UpdatesLeaveAccessing : Type 0
UpdatesLeaveAccessing = (P : PlainPolicy) (m : ℕ) (when : When) (T : Trace) → accessing (extended T (session_writes P m when T)) ≡ accessing T

-- ---- what is made

-- what a verdict makes
pub makes_by_verdict : (head : Head) (s' : Shown) (P : PlainPolicy) (T : Trace) (n : ℕ) (v : Verdict) → verdict (in_force P T) (readings P T) n ≡ v → Makes head s' P T (by_verdict P T n v)
    → Makes head s' P T (decide P T n)
makes_by_verdict head s' P T n v is h = subst (λ (v : Verdict). Makes head s' P T (by_verdict P T n v)) (sym is) h

makes_before : (head : Head) (a : Action) (s' : Shown) (P : PlainPolicy) (T : Trace) (d : Own) → Makes head s' P (a ∷ T) d → Makes head s' P T (after_action a d)
makes_before head a s' P T (make h actions) m = m
makes_before head a s' P T (refuse r) m = m
makes_before head a s' P T (tell reply) m = m

-- ---- what may be asked of a session that is in the tables

module _ (keep : TablesKeep) (s : Shown) (P : PlainPolicy) (T : Trace) (h : Follows s P T) where
  -- its state is the same in the tables and after the trace
  pub in_after : (n : ℕ) (state : SessionState) → IsIn s.tables n state → Has (session T n) state
  in_after n state is = subst (λ (o : Option SessionRow). Has o state) (sym (session_same keep s P T h n)) is

  pub in_tables : (n : ℕ) (state : SessionState) → Has (session T n) state → IsIn s.tables n state
  in_tables n state is = subst (λ (o : Option SessionRow). Has o state) (session_same keep s P T h n) is

  pub verdict_same : (n : ℕ) → verdict s.policy (readings_in s.policy s.tables) n ≡ verdict (in_force P T) (readings P T) n
  verdict_same n = ap (λ (R : Readings). verdict s.policy R n) (readings_same keep s P T h) ∙ ap (λ (Q : PlainPolicy). verdict Q (readings P T) n) h.policy

  -- a wait changes no table
  pub waits : ActionsAreFollowed → (n : ℕ) (label : Bytes) → IsIn s.tables n Requesting → verdict (in_force P T) (readings P T) n ≡ Wait label → Follows s P (wait n label ∷ T)
  waits followed n label requesting is = followed s P T (wait n label) h (in_after n Requesting requesting, is)

  pub tries_legal : (caller : Caller) (r u o : Bytes) → IsSome (right_named s.policy.rights r)
      → is_some (entity_number s.tables Subject u) ≡ true → is_some (entity_number s.tables Object o) ≡ true → length s.tables.sessions < 1048576
      → IsLegal P T (tries (length s.tables.sessions + 1) caller u r o)
  tries_legal caller r u o right subject object few = (
    ap (λ (k : ℕ). k + 1) (sym (sessions_same keep s P T h)),
    omega (arith, few),
    subst (λ (Q : PlainPolicy). IsSome (right_named Q.rights r)) h.policy right,
    entity_there keep s P T h Subject u ∙ subject,
    entity_there keep s P T h Object o ∙ object,
  )

-- ---- one state after another

module _ (keep : TablesKeep) where
  -- a session's updates leave the state of every session
  pub in_after_writes : UpdatesLeaveSessions → (s s' : Shown) (P : PlainPolicy) (T : Trace) (n m : ℕ) (when : When) (state : SessionState) → Follows s P T → Follows s' P (extended T (session_writes P m when T))
      → IsIn s.tables n state → IsIn s'.tables n state
  in_after_writes leave s s' P T n m when state h h' is =
      in_tables keep s' P (extended T (session_writes P m when T)) h' n state
      (subst (λ (o : Option SessionRow). Has o state) (sym (leave P m when T n)) (in_after keep s P T h n state is))

  -- and how many are accessing in the tables
  pub accessing_after_writes : UpdatesLeaveAccessing → (s s' : Shown) (P : PlainPolicy) (T : Trace) (m : ℕ) (when : When) → Follows s P T → Follows s' P (extended T (session_writes P m when T))
      → accessing_among s'.tables.sessions ≡ accessing_among s.tables.sessions
  accessing_after_writes leave s s' P T m when h h' =
      sym (accessing_same keep s' P (extended T (session_writes P m when T)) h') ∙ leave P m when T ∙ accessing_same keep s P T h

  -- a new session is requesting
  pub requests : (s : Shown) (P : PlainPolicy) (T : Trace) (n : ℕ) (caller : Caller) (r u o : Bytes) → Follows s P (tries n caller u r o ∷ T) → IsIn s.tables n Requesting
  requests s P T n caller r u o h = in_tables keep s P (tries n caller u r o ∷ T) h n Requesting (rw (eq-eqb n n refl) refl)

  -- the request and the decision on it
  pub request_made : (r : Result Head NoMemory) (s s1 s2 : Shown) (n : ℕ) (caller : Caller) (right u o : Bytes) → n ≡ length s.tables.sessions + 1
      → ((P : PlainPolicy) (T : Trace) → Follows s P T → Follows s1 P (tries (length s.tables.sessions + 1) caller u right o ∷ T))
      → IfOk r (λ head. (P : PlainPolicy) (U : Trace) → Follows s1 P U → Makes head s2 P U (decide P U n))
      → IfOk r (λ head. (P : PlainPolicy) (T : Trace) → Follows s P T → Makes head s2 P T (requested P T caller u right o))
  request_made (Err e) s s1 s2 n caller right u o number led made = made
  request_made (Ok head) s s1 s2 n caller right u o number led made = λ P T h.
      let k : length s.tables.sessions ≡ sessions T = sym (sessions_same keep s P T h) in
      let m : n ≡ sessions T + 1 = number ∙ ap (λ (k : ℕ). k + 1) k in
      let follows : Follows s1 P (tries (sessions T + 1) caller u right o ∷ T) = subst (λ (k : ℕ). Follows s1 P (tries (k + 1) caller u right o ∷ T)) k (led P T h) in
      makes_before head (tries (sessions T + 1) caller u right o) s2 P T (decide P (tries (sessions T + 1) caller u right o ∷ T) (sessions T + 1))
      (subst (λ (m : ℕ). Makes head s2 P (tries (sessions T + 1) caller u right o ∷ T) (decide P (tries (sessions T + 1) caller u right o ∷ T) m)) m
      (made P (tries (sessions T + 1) caller u right o ∷ T) follows))

-- ---- usages of a caller's own

usage_by : (T : Trace) (n : ℕ) (row : SessionRow) (done : Own) (b : Bool) → session T n ≡ Some row → is_accessing_state row.state ≡ b
    → cond (not (is_accessing (session T n))) (refuse NotAccessing) done ≡ cond (not b) (refuse NotAccessing) done
usage_by T n row done b is state = rw (is, state) refl

pub usage_told : (T : Trace) (caller : Caller) (n : ℕ) (row : SessionRow) (done : Own) (b : Bool) → ((f : SessionRow → Own) → with_own T caller n f ≡ f row)
    → session T n ≡ Some row → is_accessing_state row.state ≡ b → with_usage T caller n done ≡ cond (not b) (refuse NotAccessing) done
usage_told T caller n row done b own is state =
    own (λ row. if not (is_accessing (session T n)) then refuse NotAccessing else done) ∙ usage_by T n row done b is state
