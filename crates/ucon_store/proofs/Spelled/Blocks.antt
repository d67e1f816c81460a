-- The block of a command of names and values, after a trace of such, is of such.
use Rattle.std.proofs.Common.{ℕ, zero, suc, ◌+◌, ◌<◌, Bool, true, false, cond, not, List, [], ◌∷◌, ◌++◌}
use Rattle.std.specs.Prelude.{int_lt, ◌&&◌, nat_le, nat_eq, is_none, is_some, Option, Some, None, IfSome, IsTrue, ⊤}
use Rattle.std.specs.Option.{option_map_or}
use Rattle.std.specs.Str.{bytes_eq}
use Rattle.ucon_base.specs.Admits.{admits}
use Rattle.ucon_base.specs.Elements.{Each, each_append}
use Rattle.ucon_base.specs.NameBytes.{is_name}
use Rattle.ucon_base.specs.Spelling.{IsValue}
use Rattle.ucon_base.specs.declared.value.Side.{Side}
use Rattle.ucon_base.specs.declared.value.Side.TheVariants as sides
use Rattle.ucon_model.specs.declared.command.Caller.{Caller}
use Rattle.ucon_model.specs.declared.command.Command.{Command}
use Rattle.ucon_model.specs.declared.command.Command.TheVariants.{Subject, Object, Set, Env, Tick, Act, Try, Again, Beat, End, Look, Value as Value', Amend}
use Rattle.ucon_model.specs.declared.policy.When.{When}
use Rattle.ucon_model.specs.declared.policy.When.TheVariants.{Before, During, AfterEnd, AfterRevoke}
use Rattle.ucon_model.specs.declared.session.SessionRow.{SessionRow}
use Rattle.ucon_model.specs.declared.session.Verdict.{Verdict}
use Rattle.ucon_model.specs.declared.session.Verdict.TheVariants.{Permit, Deny, Wait}
use Rattle.ucon_model.specs.Plain.{Bytes, PlainUpdate, PlainRight, PlainPolicy}
use Rattle.ucon_model.specs.Action.{Action, Trace, tries, permit, ends, revoke, extended}
use Rattle.ucon_model.specs.Block.{after, block, own_block}
use Rattle.ucon_model.specs.CommandLine.{IsCommand}
use Rattle.ucon_model.specs.Decision.{right_named}
use Rattle.ucon_model.specs.History.{History, trace_from}
use Rattle.ucon_model.specs.MayFollow.{changed_kind}
use Rattle.ucon_model.specs.OwnActions.{Own, refuse, tell, make, after_action, by_verdict, decide, is_admin, new_entity, is_requesting, lacks_right, own, add_entity, with_usage, names_act}
use Rattle.ucon_model.specs.Readings.{in_force, tick_of, has_entity, entities, declared_attr, declared_env, moment, acts, session, sessions, is_accessing, accessing, attribute}
use Rattle.ucon_model.specs.Settle.{settle, settle_within, least_failing, revocation}
use Rattle.ucon_model.specs.Truth.{readings, value_of}
use Rattle.ucon_model.specs.Updates.{same_when, result, write_of, writes, updates_of, session_writes}
use Rattle.ucon_store.proofs.Spelled.Policies.{HasValues, IsOfNames, IsOfValues, spelled_names}
use Rattle.ucon_store.proofs.Spelled.Traces.{AreSpelled, IsSpelled, attr_declared, force_spelled, found_each, more_spelled, place_spelled}
use Rattle.ucon_store.proofs.Spelled.Values.{expr_value, kept_value}

-- ---- updates

abbrev AreOfValues : List PlainUpdate → Type 0
AreOfValues us = Each (λ u. IsOfValues u.value) us

updates_in : (o : Option PlainRight) → IfSome o HasValues → AreOfValues (option_map_or (λ right. right.updates) o [])
updates_in None h = tt
updates_in (Some r) h = h

updates_of_values : (Q : PlainPolicy) (row : SessionRow) → IsOfNames Q → AreOfValues (updates_of Q row)
updates_of_values Q row h = updates_in (right_named Q.rights row.right) (found_each HasValues (λ r. bytes_eq row.right r.name) Q.rights h.rights)

module _ (P : PlainPolicy) (policy : IsOfNames P) where
  result_value : (T : Trace) → AreSpelled T → (row : SessionRow) (u : PlainUpdate) → IsOfValues u.value → IsValue (result P T row u)
  result_value T h row u is =
      kept_value (declared_attr (in_force P T).attrs u.side u.attr) (value_of ((readings P T).at row) u.value)
      (attr_declared (in_force P T) u.side u.attr (force_spelled P T policy h)) (expr_value ((readings P T).at row) (place_spelled P policy T h row) u.value is)

  writes_spelled : (row : SessionRow) (when : When) (us : List PlainUpdate) → AreOfValues us → (T : Trace) → AreSpelled T → AreSpelled (writes P row when us T)
  writes_spelled row when [] values T h = tt
  writes_spelled row when (u ∷ us) values T h =
      let v = result_value T h row u values.0 in
      by (same_when when u.when) (v, writes_spelled row when us values.1 (write_of P row u T ∷ T) (v, h)) (writes_spelled row when us values.1 T h)
    where
      by : (b : Bool) → AreSpelled (write_of P row u T ∷ writes P row when us (write_of P row u T ∷ T)) → AreSpelled (writes P row when us T)
          → AreSpelled (cond b (write_of P row u T ∷ writes P row when us (write_of P row u T ∷ T)) (writes P row when us T))
      by true here rest = here
      by false here rest = rest

  session_writes_spelled : (n : ℕ) (when : When) (T : Trace) → AreSpelled T → AreSpelled (session_writes P n when T)
  session_writes_spelled n when T h = by (session T n)
    where
      by : (o : Option SessionRow) → AreSpelled (option_map_or (λ row. writes P row when (updates_of (in_force P T) row) T) o [])
      by None = tt
      by (Some row) = writes_spelled row when (updates_of (in_force P T) row) (updates_of_values (in_force P T) row (force_spelled P T policy h)) T h

  -- ---- settling

  settle_spelled : (turns : ℕ) (T : Trace) → AreSpelled T → AreSpelled (settle_within turns P T)
  settle_spelled zero T h = tt
  settle_spelled (suc turns) T h = by (least_failing P T) (settle_spelled turns)
    where
      by : (o : Option (ℕ × Bytes)) → ((U : Trace) → AreSpelled U → AreSpelled (settle_within turns P U))
          → AreSpelled (option_map_or (λ f. revocation P T f ++ settle_within turns P (extended T (revocation P T f))) o [])
      by None rest = tt
      by (Some f) rest =
          let here : AreSpelled (revocation P T f) = (tt, session_writes_spelled f.0 AfterRevoke (revoke f.0 f.1 ∷ T) (tt, h)) in
          each_append IsSpelled (revocation P T f) (settle_within turns P (extended T (revocation P T f))) here
          (rest (extended T (revocation P T f)) (more_spelled T (revocation P T f) h here))

  -- ---- own actions

  abbrev IsOwnSpelled : Own → Type 0
  IsOwnSpelled (refuse r) = ⊤
  IsOwnSpelled (tell reply) = ⊤
  IsOwnSpelled (make head actions) = AreSpelled actions

  own_by : (b : Bool) (x y : Own) → IsOwnSpelled x → IsOwnSpelled y → IsOwnSpelled (cond b x y)
  own_by true x y p q = p
  own_by false x y p q = q

  own_if : {X : Type 0} (o : Option X) (f : X → Own) (y : Own) → ((x : X) → IsOwnSpelled (f x)) → IsOwnSpelled y → IsOwnSpelled (option_map_or f o y)
  own_if None f y p q = q
  own_if (Some x) f y p q = p x

  first_spelled : (a : Action) (x : Own) → IsSpelled a → IsOwnSpelled x → IsOwnSpelled (after_action a x)
  first_spelled a (refuse r) h k = tt
  first_spelled a (tell reply) h k = tt
  first_spelled a (make head actions) h k = (h, k)

  verdict_spelled : (T : Trace) → AreSpelled T → (n : ℕ) (v : Verdict) → IsOwnSpelled (by_verdict P T n v)
  verdict_spelled T h n Permit = each_append IsSpelled (session_writes P n Before T) (permit n ∷ []) (session_writes_spelled n Before T h) (tt, tt)
  verdict_spelled T h n (Deny label) = (tt, tt)
  verdict_spelled T h n (Wait label) = (tt, tt)

  entity_spelled : (side : Side) (name : Bytes) → IsTrue (is_name name) → AreSpelled (new_entity side name ∷ [])
  entity_spelled sides.Subject name h = (h, tt)
  entity_spelled sides.Object name h = (h, tt)

  module _ (T : Trace) (h : AreSpelled T) (caller : Caller) (client : caller.0 < 64) where
    add_spelled : (side : Side) (name : Bytes) → IsTrue (is_name name) → IsOwnSpelled (add_entity T caller side name)
    add_spelled side name is =
        own_by (not (is_admin caller)) _ _ tt
        (own_by (has_entity side name T) _ _ tt
        (own_by (nat_le 16384 (entities side T)) _ _ tt (entity_spelled side name is)))

    usage_spelled : (n : ℕ) (done : Own) → IsOwnSpelled done → IsOwnSpelled (with_usage T caller n done)
    usage_spelled n done is =
        own_if (session T n) _ _ (λ row. own_by (nat_eq row.caller.0 caller.0) _ _ (own_by (not (is_accessing (session T n))) _ _ tt is) tt) tt

    own_spelled : (c : Command) → IsCommand c → IsOwnSpelled (own P T caller c)
    own_spelled (Subject name) is = add_spelled sides.Subject name is
    own_spelled (Object name) is = add_spelled sides.Object name is
    own_spelled (Set side name attr v) is =
        own_by (not (is_admin caller)) _ _ tt
        (own_by (not (has_entity side name T)) _ _ tt
        (own_if (declared_attr (in_force P T).attrs side attr) _ _ (λ d. own_by (admits d.kind v) _ _ (is.2, tt) tt) tt))
    own_spelled (Env name v) is =
        own_by (not (is_admin caller)) _ _ tt
        (own_if (declared_env (in_force P T).envs name) _ _ (λ d. own_by (admits d.kind v) _ _ (is.1, tt) tt) tt)
    own_spelled (Tick t) is = own_by (not (is_admin caller)) _ _ tt (own_by (int_lt t (tick_of T)) _ _ tt (is, tt))
    own_spelled (Act s a o) is =
        own_by (not (has_entity sides.Subject s T)) _ _ tt
        (own_by (not (has_entity sides.Object o T)) _ _ tt
        (own_by (not (names_act (in_force P T).rights a)) _ _ tt
        (own_by (is_none (moment s a o T) && nat_le 1048576 (acts T)) _ _ tt (is, tt))))
    own_spelled (Try s r o) is =
        let started : IsSpelled (tries (sessions T + 1) caller s r o) = (client, (is.1, is.0, is.2)) in
        own_by (is_none (right_named (in_force P T).rights r)) _ _ tt
        (own_by (not (has_entity sides.Subject s T)) _ _ tt
        (own_by (not (has_entity sides.Object o T)) _ _ tt
        (own_by (nat_le 1048576 (sessions T)) _ _ tt
        (own_by (nat_le 65536 (accessing T)) _ _ tt
        (first_spelled (tries (sessions T + 1) caller s r o) (decide P (tries (sessions T + 1) caller s r o ∷ T) (sessions T + 1)) started
        (verdict_spelled (tries (sessions T + 1) caller s r o ∷ T) (started, h) (sessions T + 1) _))))))
    own_spelled (Again n) is =
        own_by (lacks_right P T n) _ _ tt
        (own_if (session T n) _ _ (λ row. own_by (nat_eq row.caller.0 caller.0) _ _
        (own_by (not (is_requesting row.state)) _ _ tt (own_by (nat_le 65536 (accessing T)) _ _ tt (verdict_spelled T h n _))) tt) tt)
    own_spelled (Beat n) is = usage_spelled n _ (session_writes_spelled n During T h)
    own_spelled (End n) is = usage_spelled n _ (tt, session_writes_spelled n AfterEnd (ends n ∷ T) (tt, h))
    own_spelled (Look n) is = own_if (session T n) _ _ (λ row. tt) tt
    own_spelled (Value' side name attr) is =
        own_by (not (has_entity side name T)) _ _ tt (own_if (attribute P T side name attr) _ _ (λ v. tt) tt)
    own_spelled (Amend a) is =
        own_by (not (is_admin caller)) _ _ tt
        (own_by (is_some (changed_kind (in_force P T) a.policy)) _ _ tt (spelled_names a.text a.policy is.spells, tt))

    whole_spelled : (x : Own) → IsOwnSpelled x → AreSpelled (own_block P T x)
    whole_spelled (refuse r) k = tt
    whole_spelled (tell reply) k = tt
    whole_spelled (make head actions) k =
        each_append IsSpelled actions (settle P (extended T actions)) k (settle_spelled (accessing (extended T actions)) (extended T actions) (more_spelled T actions h k))

    after_spelled : (c : Command) → IsCommand c → AreSpelled (after P T caller c)
    after_spelled c is = more_spelled T (block P T caller c) h (whole_spelled (own P T caller c) (own_spelled c is))

  -- so is the trace of a history of commands of the clients
  pub trace_spelled : (T : Trace) → AreSpelled T → (H : History) → Each (λ e. (e.caller.0 < 64) × IsCommand e.command) H → AreSpelled (trace_from P T H)
  trace_spelled T h [] all = h
  trace_spelled T h (e ∷ H) all = trace_spelled (after P T e.caller e.command) (after_spelled T h e.caller all.0.0 e.command all.0.1) H all.1
