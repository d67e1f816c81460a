-- Which policy is in force after a history: that of the last amendment.
use Rattle.std.proofs.Common.{◌≡◌, ◌∙◌, ℕ, zero, suc, ◌+◌, Bool, true, false, cond, not, List, [], ◌∷◌, ◌++◌, refl, sym}
use Rattle.std.specs.Prelude.{int_lt, ◌&&◌, nat_le, nat_eq, is_none, is_some, Option, Some, None, ⊤}
use Rattle.std.specs.Option.{option_map_or}
use Rattle.std.proofs.lemmas.Bool.{false≢true}
use Rattle.ucon_base.specs.Admits.{admits}
use Rattle.ucon_base.specs.Elements.{Each, each_append}
use Rattle.ucon_base.specs.declared.value.Side.{Side}
use Rattle.ucon_base.specs.declared.value.Side.TheVariants as sides
use Rattle.ucon_model.specs.declared.command.Caller.{Caller}
use Rattle.ucon_model.specs.declared.command.Command.{Command}
use Rattle.ucon_model.specs.declared.command.Command.TheVariants.{Subject, Object, Set, Env, Tick, Act, Try, Again, Beat, End, Look, Value as Value', Amend}
use Rattle.ucon_model.specs.declared.policy.When.{When}
use Rattle.ucon_model.specs.declared.policy.When.TheVariants.{Before, During, AfterEnd, AfterRevoke}
use Rattle.ucon_model.specs.declared.reply.Head.TheVariants as heads
use Rattle.ucon_model.specs.declared.session.SessionRow.{SessionRow}
use Rattle.ucon_model.specs.declared.session.Verdict.{Verdict}
use Rattle.ucon_model.specs.declared.session.Verdict.TheVariants.{Permit, Deny, Wait}
use Rattle.ucon_model.specs.Plain.{Bytes, Amendment, PlainUpdate, PlainPolicy}
use Rattle.ucon_model.specs.Action.{Action, Trace, tries, permit, ends, revoke, amend, extended}
use Rattle.ucon_model.specs.Block.{after, block, own_block, own_reply, reply}
use Rattle.ucon_model.specs.Decision.{right_named}
use Rattle.ucon_model.specs.History.{changes}
use Rattle.ucon_model.specs.MayFollow.{changed_kind}
use Rattle.ucon_model.specs.OwnActions.{Own, refuse, tell, make, after_action, add_entity, by_verdict, decide, end_usage, is_admin, new_entity, names_act, is_requesting, lacks_right, with_usage, own}
use Rattle.ucon_model.specs.Reach.{replaces}
use Rattle.ucon_model.specs.Readings.{in_force, tick_of, has_entity, entities, attribute, declared_attr, declared_env, moment, acts, session, sessions, is_accessing, accessing}
use Rattle.ucon_model.specs.Settle.{settle, settle_within, least_failing, revocation}
use Rattle.ucon_model.specs.Updates.{same_when, write_of, writes, updates_of, session_writes}
use Rattle.ucon_model.specs.declared.reply.Refusal.TheVariants.{KindChanged, NotAdmin}

-- ---- actions that leave the policy

abbrev Leave : List Action → Type 0
Leave actions = Each (λ a. replaces a ≡ false) actions

left_one : (P : PlainPolicy) (T : Trace) (a : Action) → replaces a ≡ false → in_force P (a ∷ T) ≡ in_force P T
left_one P T (amend text Q) h = absurd (false≢true (sym h))
left_one P T a h = refl

left : (P : PlainPolicy) (T : Trace) (actions : List Action) → Leave actions → in_force P (extended T actions) ≡ in_force P T
left P T [] h = refl
left P T (a ∷ actions) h = left P (a ∷ T) actions h.1 ∙ left_one P T a h.0

writes_leave : (P : PlainPolicy) (row : SessionRow) (when : When) (us : List PlainUpdate) (T : Trace) → Leave (writes P row when us T)
writes_leave P row when [] T = tt
writes_leave P row when (u ∷ us) T = by (same_when when u.when) (writes_leave P row when us (write_of P row u T ∷ T)) (writes_leave P row when us T)
  where
    by : (b : Bool) → Leave (writes P row when us (write_of P row u T ∷ T)) → Leave (writes P row when us T)
        → Leave (cond b (write_of P row u T ∷ writes P row when us (write_of P row u T ∷ T)) (writes P row when us T))
    by true more rest = (refl, more)
    by false more rest = rest

session_writes_leave : (P : PlainPolicy) (n : ℕ) (when : When) (T : Trace) → Leave (session_writes P n when T)
session_writes_leave P n when T = by (session T n)
  where
    by : (o : Option SessionRow) → Leave (option_map_or (λ row. writes P row when (updates_of (in_force P T) row) T) o [])
    by None = tt
    by (Some row) = writes_leave P row when (updates_of (in_force P T) row) T

settle_leaves : (turns : ℕ) (P : PlainPolicy) (T : Trace) → Leave (settle_within turns P T)
settle_leaves zero P T = tt
settle_leaves (suc turns) P T = by (least_failing P T) (settle_leaves turns P)
  where
    by : (o : Option (ℕ × Bytes)) → ((U : Trace) → Leave (settle_within turns P U))
        → Leave (option_map_or (λ f. revocation P T f ++ settle_within turns P (extended T (revocation P T f))) o [])
    by None rest = tt
    by (Some f) rest =
        each_append (λ a. replaces a ≡ false) (revocation P T f) (settle_within turns P (extended T (revocation P T f)))
        (refl, session_writes_leave P f.0 AfterRevoke (revoke f.0 f.1 ∷ T)) (rest (extended T (revocation P T f)))

-- ---- own actions

abbrev Leaves : Own → Type 0
Leaves (refuse r) = ⊤
Leaves (tell reply) = ⊤
Leaves (make head actions) = Leave actions

either : (b : Bool) (x y : Own) → Leaves x → Leaves y → Leaves (cond b x y)
either true x y p q = p
either false x y p q = q

each_if : {X : Type 0} (o : Option X) (f : X → Own) (y : Own) → ((x : X) → Leaves (f x)) → Leaves y → Leaves (option_map_or f o y)
each_if None f y p q = q
each_if (Some x) f y p q = p x

first_leaves : (a : Action) (x : Own) → replaces a ≡ false → Leaves x → Leaves (after_action a x)
first_leaves a (refuse r) h k = tt
first_leaves a (tell reply) h k = tt
first_leaves a (make head actions) h k = (h, k)

verdict_leaves : (P : PlainPolicy) (T : Trace) (n : ℕ) (v : Verdict) → Leaves (by_verdict P T n v)
verdict_leaves P T n Permit = each_append (λ a. replaces a ≡ false) (session_writes P n Before T) (permit n ∷ []) (session_writes_leave P n Before T) (refl, tt)
verdict_leaves P T n (Deny label) = (refl, tt)
verdict_leaves P T n (Wait label) = (refl, tt)

-- what an amendment makes, by whether it isn't client 0's, and whether it changes a kind
abbrev replaced : Amendment → Bool → Bool → Own
replaced a one other = cond one (refuse NotAdmin) (cond other (refuse KindChanged) (make heads.Ok (amend a.text a.policy ∷ [])))

module _ (P : PlainPolicy) (T : Trace) (caller : Caller) where
  entity_leaves : (side : Side) (name : Bytes) → Leaves (add_entity T caller side name)
  entity_leaves side name =
      either (not (is_admin caller)) _ _ tt
      (either (has_entity side name T) _ _ tt (either (nat_le 16384 (entities side T)) _ _ tt (new side)))
    where
      new : (s : Side) → Leave (new_entity s name ∷ [])
      new sides.Subject = (refl, tt)
      new sides.Object = (refl, tt)

  usage_leaves : (n : ℕ) (done : Own) → Leaves done → Leaves (with_usage T caller n done)
  usage_leaves n done is = each_if (session T n) _ _ (λ row. either (nat_eq row.caller.0 caller.0) _ _ (either (not (is_accessing (session T n))) _ _ tt is) tt) tt

  -- no other command replaces it
  own_leaves : (c : Command) → ((a : Amendment) → c ≡ Amend a → ⊥) → Leaves (own P T caller c)
  own_leaves (Subject name) other = entity_leaves sides.Subject name
  own_leaves (Object name) other = entity_leaves sides.Object name
  own_leaves (Set side name attr v) other =
      either (not (is_admin caller)) _ _ tt
      (either (not (has_entity side name T)) _ _ tt
      (each_if (declared_attr (in_force P T).attrs side attr) _ _ (λ d. either (admits d.kind v) _ _ (refl, tt) tt) tt))
  own_leaves (Env name v) other =
      either (not (is_admin caller)) _ _ tt (each_if (declared_env (in_force P T).envs name) _ _ (λ d. either (admits d.kind v) _ _ (refl, tt) tt) tt)
  own_leaves (Tick t) other = either (not (is_admin caller)) _ _ tt (either (int_lt t (tick_of T)) _ _ tt (refl, tt))
  own_leaves (Act s a o) other =
      either (not (has_entity sides.Subject s T)) _ _ tt
      (either (not (has_entity sides.Object o T)) _ _ tt
      (either (not (names_act (in_force P T).rights a)) _ _ tt (either (is_none (moment s a o T) && nat_le 1048576 (acts T)) _ _ tt (refl, tt))))
  own_leaves (Try s r o) other =
      let n : ℕ = sessions T + 1 in
      either (is_none (right_named (in_force P T).rights r)) _ _ tt
      (either (not (has_entity sides.Subject s T)) _ _ tt
      (either (not (has_entity sides.Object o T)) _ _ tt
      (either (nat_le 1048576 (sessions T)) _ _ tt
      (either (nat_le 65536 (accessing T)) _ _ tt
      (first_leaves (tries n caller s r o) (decide P (tries n caller s r o ∷ T) n) refl (verdict_leaves P (tries n caller s r o ∷ T) n _))))))
  own_leaves (Again n) other =
      either (lacks_right P T n) _ _ tt
      (each_if (session T n) _ _ (λ row. either (nat_eq row.caller.0 caller.0) _ _
      (either (not (is_requesting row.state)) _ _ tt (either (nat_le 65536 (accessing T)) _ _ tt (verdict_leaves P T n _))) tt) tt)
  own_leaves (Beat n) other = usage_leaves n _ (session_writes_leave P n During T)
  own_leaves (End n) other = usage_leaves n (end_usage P T n) (refl, session_writes_leave P n AfterEnd (ends n ∷ T))
  own_leaves (Look n) other = each_if (session T n) _ _ (λ row. tt) tt
  own_leaves (Value' side name attr) other = either (not (has_entity side name T)) _ _ tt (each_if (attribute P T side name attr) _ _ (λ v. tt) tt)
  own_leaves (Amend a) other = absurd (other a refl)

  whole_leaves : (x : Own) → Leaves x → Leave (own_block P T x)
  whole_leaves (refuse r) h = tt
  whole_leaves (tell reply) h = tt
  whole_leaves (make head actions) h =
      each_append (λ a. replaces a ≡ false) actions (settle P (extended T actions)) h (settle_leaves (accessing (extended T actions)) P (extended T actions))

  pub left_after : (c : Command) → ((a : Amendment) → c ≡ Amend a → ⊥) → in_force P (after P T caller c) ≡ in_force P T
  left_after c other = left P T (block P T caller c) (whole_leaves (own P T caller c) (own_leaves c other))

  -- an amendment that is made brings its policy
  pub amended_after : (a : Amendment) → changes (reply P T caller (Amend a)) ≡ true → in_force P (after P T caller (Amend a)) ≡ a.policy
  amended_after a made = by (not (is_admin caller)) (is_some (changed_kind (in_force P T) a.policy)) made
    where
      by : (one other : Bool) → changes (own_reply P T (replaced a one other)) ≡ true → in_force P (extended T (own_block P T (replaced a one other))) ≡ a.policy
      by true other h = absurd (false≢true h)
      by false true h = absurd (false≢true h)
      by false false h = left P (amend a.text a.policy ∷ T) (settle P (amend a.text a.policy ∷ T)) (settle_leaves (accessing (amend a.text a.policy ∷ T)) P (amend a.text a.policy ∷ T))
