-- Own actions take no time: the policy in force, the tick and the acts are those before, but after an amendment, a tick or an act.
use Rattle.std.proofs.Common.{◌≡◌, ◌⊎◌, inl, inr, ℕ, Bool, true, false, cond, List, [], ◌∷◌, ◌++◌, refl, subst}
use Rattle.std.specs.Prelude.{not, nat_eq, nat_le, ◌+◌, ◌&&◌, Option, Some, None, is_none, ⊤}
use Rattle.std.specs.Option.{option_map_or}
use Rattle.ucon_base.specs.declared.value.Side.TheVariants as sides
use Rattle.ucon_base.specs.Admits.{admits}
use Rattle.ucon_actions.specs.Gives.{is_amendment}
use Rattle.ucon_model.specs.declared.command.Caller.{Caller}
use Rattle.ucon_model.specs.declared.command.Command.{Command}
use Rattle.ucon_model.specs.declared.command.Command.TheVariants.{Subject, Object, Set, Env, Tick, Act, Try, Again, Beat, End, Look, Value as Value', Amend}
use Rattle.ucon_model.specs.declared.policy.When.TheVariants.{Before, During, AfterEnd}
use Rattle.ucon_model.specs.declared.reply.Head.{Head}
use Rattle.ucon_model.specs.declared.reply.Head.TheVariants as heads
use Rattle.ucon_model.specs.declared.reply.Refusal.{Refusal}
use Rattle.ucon_model.specs.declared.session.Verdict.{Verdict}
use Rattle.ucon_model.specs.declared.session.Verdict.TheVariants.{Permit, Deny, Wait}
use Rattle.ucon_model.specs.Action.{Action, Trace, act, ends, extended, permit, tries}
use Rattle.ucon_model.specs.Decision.{right_named, verdict}
use Rattle.ucon_model.specs.OwnActions.{Own, after_action, by_verdict, decide, is_admin, is_requesting, lacks_right, make, names_act, own, refuse, tell, with_usage}
use Rattle.ucon_model.specs.Plain.{Bytes, PlainPolicy}
use Rattle.ucon_model.specs.Readings.{accessing, acts, attribute, declared_attr, declared_env, entities, has_entity, in_force, is_accessing, moment, session, sessions}
use Rattle.ucon_model.specs.Truth.{readings}
use Rattle.ucon_model.specs.Updates.{session_writes}
use Rattle.ucon_cascade.specs.Passing.{is_tick}
use Rattle.ucon_cascade.proofs.Timing.{SameTime, time_on, updates_take_no_time}

-- ---- what is made, case by case

-- this holds of the actions, where some are made
abbrev pub Makes : (Head → List Action → Type 0) → Own → Type 0
Makes Q (refuse r) = ⊤
Makes Q (tell reply) = ⊤
Makes Q (make head actions) = Q head actions

pub unless : (Q : Head → List Action → Type 0) (b : Bool) (r : Refusal) (o : Own) → Makes Q o → Makes Q (cond b (refuse r) o)
unless Q true r o h = tt
unless Q false r o h = h

pub given : (Q : Head → List Action → Type 0) (b : Bool) (o : Own) (r : Refusal) → Makes Q o → Makes Q (cond b o (refuse r))
given Q true o r h = h
given Q false o r h = tt

pub found : {A : Type 0} (Q : Head → List Action → Type 0) (f : A → Own) (o : Option A) (r : Refusal) → ((x : A) → Makes Q (f x)) → Makes Q (option_map_or f o (refuse r))
found Q f None r h = tt
found Q f (Some x) r h = h x

pub behind : (Q R : Head → List Action → Type 0) (a : Action) (o : Own) → ((head : Head) (actions : List Action) → R head actions → Q head (a ∷ actions)) → Makes R o → Makes Q (after_action a o)
behind Q R a (refuse r) each h = tt
behind Q R a (tell reply) each h = tt
behind Q R a (make head actions) each h = each head actions h

pub usage : (Q : Head → List Action → Type 0) (T : Trace) (caller : Caller) (n : ℕ) (o : Own) → Makes Q o → Makes Q (with_usage T caller n o)
usage Q T caller n o h =
    found Q _ (session T n) _ (λ row. given Q (nat_eq row.caller.0 caller.0) _ _ (unless Q (not (is_accessing (session T n))) _ _ h))

pub made_so : (Q : Head → List Action → Type 0) (o : Own) (head : Head) (actions : List Action) → o ≡ make head actions → Makes Q o → Q head actions
made_so Q o head actions is h = subst (Makes Q) is h

-- ---- what takes no time

abbrev TakesNoTime : PlainPolicy → Trace → Head → List Action → Type 0
TakesNoTime P T head actions = SameTime P T (extended T actions)

pub one_more : (T : Trace) (ws : List Action) (a : Action) → a ∷ extended T ws ≡ extended T (ws ++ a ∷ [])
one_more T [] a = refl
one_more T (w ∷ ws) a = one_more (w ∷ T) ws a

permits_take_no_time : (P : PlainPolicy) (T : Trace) (n : ℕ) → SameTime P T (extended T (session_writes P n Before T ++ permit n ∷ []))
permits_take_no_time P T n =
    let U = extended T (session_writes P n Before T) in
    subst (SameTime P T) (one_more T (session_writes P n Before T) (permit n))
    (time_on P T U (permit n ∷ U) (updates_take_no_time P n Before T) (record { policy = refl; tick = refl; last = λ s a o. refl; all = λ s a o. refl }))

decisions_take_no_time : (P : PlainPolicy) (T : Trace) (n : ℕ) (v : Verdict) → Makes (TakesNoTime P T) (by_verdict P T n v)
decisions_take_no_time P T n Permit = permits_take_no_time P T n
decisions_take_no_time P T n (Deny label) = record { policy = refl; tick = refl; last = λ s a o. refl; all = λ s a o. refl }
decisions_take_no_time P T n (Wait label) = record { policy = refl; tick = refl; last = λ s a o. refl; all = λ s a o. refl }

-- whether a command does an act
abbrev pub is_act : Command → Bool
is_act (Act s a o) = true
is_act c = false

by_command : (P : PlainPolicy) (T : Trace) (caller : Caller) (c : Command) → is_amendment c ≡ false → is_tick c ≡ false → is_act c ≡ false → Makes (TakesNoTime P T) (own P T caller c)
by_command P T caller (Subject name) no_amend no_tick no_act =
    unless (TakesNoTime P T) (not (is_admin caller)) _ _ (unless (TakesNoTime P T) (has_entity sides.Subject name T) _ _ (unless (TakesNoTime P T) (nat_le 16384 (entities sides.Subject T)) _ _
    (record { policy = refl; tick = refl; last = λ s a o. refl; all = λ s a o. refl })))
by_command P T caller (Object name) no_amend no_tick no_act =
    unless (TakesNoTime P T) (not (is_admin caller)) _ _ (unless (TakesNoTime P T) (has_entity sides.Object name T) _ _ (unless (TakesNoTime P T) (nat_le 16384 (entities sides.Object T)) _ _
    (record { policy = refl; tick = refl; last = λ s a o. refl; all = λ s a o. refl })))
by_command P T caller (Set side name attr v) no_amend no_tick no_act =
    unless (TakesNoTime P T) (not (is_admin caller)) _ _ (unless (TakesNoTime P T) (not (has_entity side name T)) _ _
    (found (TakesNoTime P T) _ (declared_attr (in_force P T).attrs side attr) _ (λ d. given (TakesNoTime P T) (admits d.kind v) _ _
    (record { policy = refl; tick = refl; last = λ s a o. refl; all = λ s a o. refl }))))
by_command P T caller (Env name v) no_amend no_tick no_act =
    unless (TakesNoTime P T) (not (is_admin caller)) _ _
    (found (TakesNoTime P T) _ (declared_env (in_force P T).envs name) _ (λ d. given (TakesNoTime P T) (admits d.kind v) _ _
    (record { policy = refl; tick = refl; last = λ s a o. refl; all = λ s a o. refl })))
by_command P T caller (Tick t) no_amend no_tick no_act = absurd cc
by_command P T caller (Act s a o) no_amend no_tick no_act = absurd cc
by_command P T caller (Try s r o) no_amend no_tick no_act =
    let n = sessions T + 1 in
    let V : Trace = tries n caller s r o ∷ T in
    unless (TakesNoTime P T) (is_none (right_named (in_force P T).rights r)) _ _ (unless (TakesNoTime P T) (not (has_entity sides.Subject s T)) _ _
    (unless (TakesNoTime P T) (not (has_entity sides.Object o T)) _ _ (unless (TakesNoTime P T) (nat_le 1048576 (sessions T)) _ _ (unless (TakesNoTime P T) (nat_le 65536 (accessing T)) _ _
    (behind (TakesNoTime P T) (TakesNoTime P V) (tries n caller s r o) (decide P V n)
    (λ head actions time. time_on P T V (extended V actions) (record { policy = refl; tick = refl; last = λ s a o. refl; all = λ s a o. refl }) time)
    (decisions_take_no_time P V n (verdict (in_force P V) (readings P V) n)))))))
by_command P T caller (Again n) no_amend no_tick no_act =
    unless (TakesNoTime P T) (lacks_right P T n) _ _ (found (TakesNoTime P T) _ (session T n) _ (λ row. given (TakesNoTime P T) (nat_eq row.caller.0 caller.0) _ _
    (unless (TakesNoTime P T) (not (is_requesting row.state)) _ _ (unless (TakesNoTime P T) (nat_le 65536 (accessing T)) _ _
    (decisions_take_no_time P T n (verdict (in_force P T) (readings P T) n))))))
by_command P T caller (Beat n) no_amend no_tick no_act = usage (TakesNoTime P T) T caller n (make heads.Ok (session_writes P n During T)) (updates_take_no_time P n During T)
by_command P T caller (End n) no_amend no_tick no_act =
    let V : Trace = ends n ∷ T in
    usage (TakesNoTime P T) T caller n (make (heads.Ended n) (ends n ∷ session_writes P n AfterEnd V))
    (time_on P T V _ (record { policy = refl; tick = refl; last = λ s a o. refl; all = λ s a o. refl }) (updates_take_no_time P n AfterEnd V))
by_command P T caller (Look n) no_amend no_tick no_act = found (TakesNoTime P T) _ (session T n) _ (λ row. tt)
by_command P T caller (Value' side name attr) no_amend no_tick no_act =
    unless (TakesNoTime P T) (not (has_entity side name T)) _ _ (found (TakesNoTime P T) _ (attribute P T side name attr) _ (λ v. tt))
by_command P T caller (Amend a) no_amend no_tick no_act = absurd cc

pub own_actions_take_no_time : (P : PlainPolicy) (T : Trace) (caller : Caller) (c : Command) (head : Head) (actions : List Action) → is_amendment c ≡ false → is_tick c ≡ false
    → is_act c ≡ false → own P T caller c ≡ make head actions → SameTime P T (extended T actions)
own_actions_take_no_time P T caller c head actions no_amend no_tick no_act is =
    made_so (TakesNoTime P T) (own P T caller c) head actions is (by_command P T caller c no_amend no_tick no_act)

-- ---- acts

-- a command that does an act makes it alone, and no usage begins or ends
pub acts_are_done : (P : PlainPolicy) (T : Trace) (caller : Caller) (s a o : Bytes) (head : Head) (actions : List Action) → own P T caller (Act s a o) ≡ make head actions
    → (head ≡ heads.Ok) × (actions ≡ act s a o ∷ [])
acts_are_done P T caller s a o head actions is =
    let Q : Head → List Action → Type 0 = λ head actions. (head ≡ heads.Ok) × (actions ≡ act s a o ∷ []) in
    made_so Q (own P T caller (Act s a o)) head actions is
    (unless Q (not (has_entity sides.Subject s T)) _ _ (unless Q (not (has_entity sides.Object o T)) _ _ (unless Q (not (names_act (in_force P T).rights a)) _ _
    (unless Q (is_none (moment s a o T) && nat_le 1048576 (acts T)) _ _ (refl, refl)))))

pub act_or_not : (c : Command) → ((s : Bytes) × (a : Bytes) × (o : Bytes) × (c ≡ Act s a o)) ⊎ (is_act c ≡ false)
act_or_not (Subject name) = inr refl
act_or_not (Object name) = inr refl
act_or_not (Set side name attr v) = inr refl
act_or_not (Env name v) = inr refl
act_or_not (Tick t) = inr refl
act_or_not (Act s a o) = inl (s, a, o, refl)
act_or_not (Try s r o) = inr refl
act_or_not (Again n) = inr refl
act_or_not (Beat n) = inr refl
act_or_not (End n) = inr refl
act_or_not (Look n) = inr refl
act_or_not (Value' side name attr) = inr refl
act_or_not (Amend a) = inr refl
