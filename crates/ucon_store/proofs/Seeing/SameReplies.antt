-- Traces that give the same to read give the same replies, for ever.
use Rattle.std.proofs.Common.{◌≡◌, ◌∙◌, ℕ, zero, suc, ◌+◌, Bool, true, false, cond, not, List, [], ◌∷◌, ◌++◌, refl, ap}
use Rattle.std.specs.Prelude.{int_lt, ◌&&◌, nat_le, nat_eq, Option, Some, None, is_none, is_some}
use Rattle.std.specs.Option.{option_map_or}
use Rattle.ucon_base.specs.Admits.{admits}
use Rattle.ucon_base.specs.declared.value.Side.{Side}
use Rattle.ucon_base.specs.declared.value.Side.TheVariants as sides
use Rattle.ucon_model.specs.declared.command.Caller.{Caller}
use Rattle.ucon_model.specs.declared.command.Command.{Command}
use Rattle.ucon_model.specs.declared.command.Command.TheVariants.{Subject, Object, Set, Env, Tick, Act, Try, Again, Beat, End, Look, Value as Value', Amend}
use Rattle.ucon_model.specs.declared.policy.When.{When}
use Rattle.ucon_model.specs.declared.policy.When.TheVariants.{Before, During, AfterEnd, AfterRevoke}
use Rattle.ucon_model.specs.declared.reply.Head.TheVariants as heads
use Rattle.ucon_model.specs.declared.reply.Refusal.TheVariants.{NotAdmin, NoRight, NoSubject, NoObject, NoAttribute, NoVariable, NoAct, NoSession, NotYours, NotAccessing, NotRequesting, AlreadyThere, BadValue, TickBack, KindChanged, FullActs, FullSessions, FullAccessing}
use Rattle.ucon_model.specs.declared.session.SessionRow.{SessionRow}
use Rattle.ucon_model.specs.declared.session.Verdict.{Verdict}
use Rattle.ucon_model.specs.declared.session.Verdict.TheVariants.{Permit, Deny, Wait}
use Rattle.ucon_model.specs.Plain.{Bytes, PlainPolicy, PlainUpdate, made, value_is, status}
use Rattle.ucon_model.specs.Action.{Action, Trace, write, env, tick, act, tries, permit, ends, revoke, amend, extended}
use Rattle.ucon_model.specs.Block.{after, block, own_block, own_reply, reply}
use Rattle.ucon_model.specs.Decision.{failing, right_named, verdict}
use Rattle.ucon_model.specs.History.{History, trace_from}
use Rattle.ucon_model.specs.MayFollow.{changed_kind}
use Rattle.ucon_model.specs.OwnActions.{Own, refuse, tell, make, after_action, by_verdict, decide, is_admin, no_entity, full_entities, new_entity, names_act, is_requesting, own, with_usage, add_entity, end_usage}
use Rattle.ucon_model.specs.Readings.{in_force, session, sessions, is_accessing, accessing, declared_attr, declared_env}
use Rattle.ucon_model.specs.Settle.{fails_at, least_from, least_failing, revocation, settle, settle_within, revoked_in}
use Rattle.ucon_model.specs.Truth.{readings, value_of}
use Rattle.ucon_model.specs.Updates.{fitted_to, entity_of, same_when, result, write_of, writes, updates_of, session_writes}
use Rattle.ucon_store.proofs.Seeing.SameReadings.{ReadTheSame, accessing_same, readings_same, same_after, same_behind, same_step}

-- ---- updates

result_same : (P : PlainPolicy) (T : Trace) (Q : PlainPolicy) (U : Trace) → ReadTheSame P T Q U → (row : SessionRow) (u : PlainUpdate) → result P T row u ≡ result Q U row u
result_same P T Q U h row u = λ t. fitted_to (declared_attr (h.policy t).attrs u.side u.attr) (value_of ((readings_same P T Q U h t).at row) u.value)

write_same : (P : PlainPolicy) (T : Trace) (Q : PlainPolicy) (U : Trace) → ReadTheSame P T Q U → (row : SessionRow) (u : PlainUpdate) → write_of P row u T ≡ write_of Q row u U
write_same P T Q U h row u = ap (write u.side (entity_of u.side row) u.attr) (result_same P T Q U h row u)

writes_same : (P Q : PlainPolicy) (row : SessionRow) (when : When) (us : List PlainUpdate) (T U : Trace) → ReadTheSame P T Q U → writes P row when us T ≡ writes Q row when us U
writes_same P Q row when [] T U h = refl
writes_same P Q row when (u ∷ us) T U h =
    let here = write_same P T Q U h row u in
    by (same_when when u.when) (writes_same P Q row when us (write_of P row u T ∷ T) (write_of Q row u U ∷ U) (same_after P T Q U h (write_of P row u T) (write_of Q row u U) here))
    (writes_same P Q row when us T U h) here
  where
    by : (b : Bool) → writes P row when us (write_of P row u T ∷ T) ≡ writes Q row when us (write_of Q row u U ∷ U) → writes P row when us T ≡ writes Q row when us U
        → write_of P row u T ≡ write_of Q row u U
        → cond b (write_of P row u T ∷ writes P row when us (write_of P row u T ∷ T)) (writes P row when us T)
        ≡ cond b (write_of Q row u U ∷ writes Q row when us (write_of Q row u U ∷ U)) (writes Q row when us U)
    by true more rest here = λ t. here t ∷ more t
    by false more rest here = rest

session_writes_same : (P : PlainPolicy) (T : Trace) (Q : PlainPolicy) (U : Trace) → ReadTheSame P T Q U → (n : ℕ) (when : When)
    → session_writes P n when T ≡ session_writes Q n when U
session_writes_same P T Q U h n when = by (session T n) ∙ ap (λ (o : Option SessionRow). option_map_or (λ row. writes Q row when (updates_of (in_force Q U) row) U) o []) (h.one n)
  where
    by : (o : Option SessionRow) → option_map_or (λ row. writes P row when (updates_of (in_force P T) row) T) o [] ≡ option_map_or (λ row. writes Q row when (updates_of (in_force Q U) row) U) o []
    by None = refl
    by (Some row) = ap (λ (R : PlainPolicy). writes P row when (updates_of R row) T) h.policy ∙ writes_same P Q row when (updates_of (in_force Q U) row) T U h

-- ---- settling

fails_same : (P : PlainPolicy) (T : Trace) (Q : PlainPolicy) (U : Trace) → ReadTheSame P T Q U → (n : ℕ) → fails_at P T n ≡ fails_at Q U n
fails_same P T Q U h n = λ t. cond (is_accessing (h.one n t)) (failing (h.policy t) (readings_same P T Q U h t) n) None

least_same : (P : PlainPolicy) (T : Trace) (Q : PlainPolicy) (U : Trace) → ReadTheSame P T Q U → (n left : ℕ) → least_from P T n left ≡ least_from Q U n left
least_same P T Q U h n zero = refl
least_same P T Q U h n (suc left) = λ t. option_map_or (λ label. Some (n, label)) (fails_same P T Q U h n t) (least_same P T Q U h (n + 1) left t)

pub least_failing_same : (P : PlainPolicy) (T : Trace) (Q : PlainPolicy) (U : Trace) → ReadTheSame P T Q U → least_failing P T ≡ least_failing Q U
least_failing_same P T Q U h = ap (least_from P T 1) h.sessions_count ∙ least_same P T Q U h 1 (sessions U)

revocation_same : (P : PlainPolicy) (T : Trace) (Q : PlainPolicy) (U : Trace) → ReadTheSame P T Q U → (f : ℕ × Bytes) → revocation P T f ≡ revocation Q U f
revocation_same P T Q U h f =
    ap (λ (l : List Action). revoke f.0 f.1 ∷ l)
    (session_writes_same P (revoke f.0 f.1 ∷ T) Q (revoke f.0 f.1 ∷ U) (same_step P T Q U h (revoke f.0 f.1)) f.0 AfterRevoke)

settle_same_within : (turns : ℕ) (P : PlainPolicy) (T : Trace) (Q : PlainPolicy) (U : Trace) → ReadTheSame P T Q U → settle_within turns P T ≡ settle_within turns Q U
settle_same_within zero P T Q U h = refl
settle_same_within (suc turns) P T Q U h =
    by (least_failing P T) (λ V W. settle_same_within turns P V Q W)
    ∙ ap (λ (o : Option (ℕ × Bytes)). option_map_or (λ f. revocation Q U f ++ settle_within turns Q (extended U (revocation Q U f))) o []) (least_failing_same P T Q U h)
  where
    by : (o : Option (ℕ × Bytes)) → ((V W : Trace) → ReadTheSame P V Q W → settle_within turns P V ≡ settle_within turns Q W)
        → option_map_or (λ f. revocation P T f ++ settle_within turns P (extended T (revocation P T f))) o []
        ≡ option_map_or (λ f. revocation Q U f ++ settle_within turns Q (extended U (revocation Q U f))) o []
    by None rest = refl
    by (Some f) rest =
        let here = revocation_same P T Q U h f in
        let more = rest (extended T (revocation P T f)) (extended U (revocation Q U f)) (same_behind P T Q U h (revocation P T f) (revocation Q U f) here) in
        λ t. here t ++ more t

settle_same : (P : PlainPolicy) (T : Trace) (Q : PlainPolicy) (U : Trace) → ReadTheSame P T Q U → settle P T ≡ settle Q U
settle_same P T Q U h = ap (λ (n : ℕ). settle_within n P T) (accessing_same P T Q U h) ∙ settle_same_within (accessing U) P T Q U h

-- ---- own actions

decide_same : (P : PlainPolicy) (T : Trace) (Q : PlainPolicy) (U : Trace) → ReadTheSame P T Q U → (n : ℕ) → decide P T n ≡ decide Q U n
decide_same P T Q U h n = by (verdict (in_force P T) (readings P T) n) ∙ (λ t. by_verdict Q U n (verdict (h.policy t) (readings_same P T Q U h t) n))
  where
    by : (v : Verdict) → by_verdict P T n v ≡ by_verdict Q U n v
    by Permit = ap (λ (l : List Action). make (heads.Permitted n) (l ++ permit n ∷ [])) (session_writes_same P T Q U h n Before)
    by (Deny label) = refl
    by (Wait label) = refl

module _ (P : PlainPolicy) (T : Trace) (Q : PlainPolicy) (U : Trace) (h : ReadTheSame P T Q U) (caller : Caller) where
  -- what is done with a session, where the same is done with each row
  row_same : (f g : SessionRow → Own) → ((row : SessionRow) → f row ≡ g row) → (n : ℕ) → (otherwise : Own)
      → option_map_or f (session T n) otherwise ≡ option_map_or g (session U n) otherwise
  row_same f g each n otherwise = λ t. option_map_or (λ row. each row t) (h.one n t) otherwise

  usage_same : (n : ℕ) (one other : Own) → one ≡ other
      → with_usage T caller n one ≡ with_usage U caller n other
  usage_same n one other is =
      λ t. option_map_or (λ row. cond (nat_eq row.caller.0 caller.0) (cond (not (is_accessing (h.one n t))) (refuse NotAccessing) (is t)) (refuse NotYours)) (h.one n t) (refuse NoSession)

  again_same : (n : ℕ) → own P T caller (Again n) ≡ own Q U caller (Again n)
  again_same n = λ t.
      cond (option_map_or (λ row. is_none (right_named (h.policy t).rights row.right)) (h.one n t) false) (refuse NoRight)
      (option_map_or (λ row. cond (nat_eq row.caller.0 caller.0) (cond (not (is_requesting row.state)) (refuse NotRequesting)
      (cond (nat_le 65536 (accessing_same P T Q U h t)) (refuse FullAccessing) (decide_same P T Q U h n t))) (refuse NotYours)) (h.one n t) (refuse NoSession))

  tried_same : (s r o : Bytes) (k l : ℕ) → k ≡ l → after_action (tries k caller s r o) (decide P (tries k caller s r o ∷ T) k) ≡ after_action (tries l caller s r o) (decide Q (tries l caller s r o ∷ U) l)
  tried_same s r o k l is =
      ap (after_action (tries k caller s r o)) (decide_same P (tries k caller s r o ∷ T) Q (tries k caller s r o ∷ U) (same_step P T Q U h (tries k caller s r o)) k)
      ∙ ap (λ (n : ℕ). after_action (tries n caller s r o) (decide Q (tries n caller s r o ∷ U) n)) is

  try_same : (s r o : Bytes) → own P T caller (Try s r o) ≡ own Q U caller (Try s r o)
  try_same s r o = λ t.
      cond (is_none (right_named (h.policy t).rights r)) (refuse NoRight)
      (cond (not (h.there sides.Subject s t)) (refuse NoSubject)
      (cond (not (h.there sides.Object o t)) (refuse NoObject)
      (cond (nat_le 1048576 (h.sessions_count t)) (refuse FullSessions)
      (cond (nat_le 65536 (accessing_same P T Q U h t)) (refuse FullAccessing)
      (tried_same s r o (sessions T + 1) (sessions U + 1) (ap (λ (n : ℕ). n + 1) h.sessions_count) t)))))

  entity_same : (side : Side) (name : Bytes) → add_entity T caller side name ≡ add_entity U caller side name
  entity_same side name = λ t.
      cond (not (is_admin caller)) (refuse NotAdmin)
      (cond (h.there side name t) (refuse AlreadyThere)
      (cond (nat_le 16384 (h.count side t)) (refuse (full_entities side)) (make heads.Ok (new_entity side name ∷ []))))

  ended_same : (n : ℕ) → end_usage P T n ≡ end_usage Q U n
  ended_same n = ap (λ (l : List Action). make (heads.Ended n) (ends n ∷ l)) (session_writes_same P (ends n ∷ T) Q (ends n ∷ U) (same_step P T Q U h (ends n)) n AfterEnd)

  own_same : (c : Command) → own P T caller c ≡ own Q U caller c
  own_same (Subject name) = entity_same sides.Subject name
  own_same (Object name) = entity_same sides.Object name
  own_same (Set side name attr v) = λ t.
      cond (not (is_admin caller)) (refuse NotAdmin)
      (cond (not (h.there side name t)) (refuse (no_entity side))
      (option_map_or (λ d. cond (admits d.kind v) (make heads.Ok (write side name attr v ∷ [])) (refuse BadValue)) (declared_attr (h.policy t).attrs side attr) (refuse NoAttribute)))
  own_same (Env name v) = λ t.
      cond (not (is_admin caller)) (refuse NotAdmin)
      (option_map_or (λ d. cond (admits d.kind v) (make heads.Ok (env name v ∷ [])) (refuse BadValue)) (declared_env (h.policy t).envs name) (refuse NoVariable))
  own_same (Tick now) = λ t. cond (not (is_admin caller)) (refuse NotAdmin) (cond (int_lt now (h.now t)) (refuse TickBack) (make heads.Ok (tick now ∷ [])))
  own_same (Act s a o) = λ t.
      cond (not (h.there sides.Subject s t)) (refuse NoSubject)
      (cond (not (h.there sides.Object o t)) (refuse NoObject)
      (cond (not (names_act (h.policy t).rights a)) (refuse NoAct)
      (cond (is_none (h.moments s a o t) && nat_le 1048576 (h.acts_count t)) (refuse FullActs) (make heads.Ok (act s a o ∷ [])))))
  own_same (Try s r o) = try_same s r o
  own_same (Again n) = again_same n
  own_same (Beat n) = usage_same n _ _ (ap (make heads.Ok) (session_writes_same P T Q U h n During))
  own_same (End n) = usage_same n _ _ (ended_same n)
  own_same (Look n) = λ t. option_map_or (λ row. tell (status n row.state)) (h.one n t) (refuse NoSession)
  own_same (Value' side name attr) = λ t.
      cond (not (h.there side name t)) (refuse (no_entity side)) (option_map_or (λ v. tell (value_is v)) (h.values side name attr t) (refuse NoAttribute))
  own_same (Amend a) = λ t.
      cond (not (is_admin caller)) (refuse NotAdmin) (cond (is_some (changed_kind (h.policy t) a.policy)) (refuse KindChanged) (make heads.Ok (amend a.text a.policy ∷ [])))

  reply_by : (x : Own) → own_reply P T x ≡ own_reply Q U x
  reply_by (refuse r) = refl
  reply_by (tell r) = refl
  reply_by (make head actions) = ap (λ (l : List Action). made head (revoked_in l)) (settle_same P (extended T actions) Q (extended U actions) (same_behind P T Q U h actions actions refl))

  block_by : (x : Own) → own_block P T x ≡ own_block Q U x
  block_by (refuse r) = refl
  block_by (tell r) = refl
  block_by (make head actions) = ap (λ (l : List Action). actions ++ l) (settle_same P (extended T actions) Q (extended U actions) (same_behind P T Q U h actions actions refl))

  pub reply_same : (c : Command) → reply P T caller c ≡ reply Q U caller c
  reply_same c = reply_by (own P T caller c) ∙ ap (own_reply Q U) (own_same c)

  block_same : (c : Command) → block P T caller c ≡ block Q U caller c
  block_same c = block_by (own P T caller c) ∙ ap (own_block Q U) (own_same c)

  after_same : (c : Command) → ReadTheSame P (after P T caller c) Q (after Q U caller c)
  after_same c = same_behind P T Q U h (block P T caller c) (block Q U caller c) (block_same c)

-- and they go on to give the same to read
pub same_from : (P : PlainPolicy) (T : Trace) (Q : PlainPolicy) (U : Trace) → ReadTheSame P T Q U → (H : History) → ReadTheSame P (trace_from P T H) Q (trace_from Q U H)
same_from P T Q U h [] = h
same_from P T Q U h (e ∷ H) = same_from P (after P T e.caller e.command) Q (after Q U e.caller e.command) (after_same P T Q U h e.caller e.command) H
