-- A reply that changes something, under a well typed policy that a text spells, is of numbers of sessions and names.
use Rattle.std.proofs.Common.{◌≡◌, ℕ, ◌+◌, ◌<◌, ◌≤◌, Bool, true, false, cond, List, [], ◌∷◌, refl, sym, subst, ◌∙◌, arith}
use Rattle.std.specs.Prelude.{Option, Some, None, IfSome, IsTrue, IsSomeAnd, find, nat_lt, nat_le, nat_eq, int_lt, ◌^◌, ◌&&◌, not, is_none, is_some, ⊤}
use Rattle.std.specs.Option.{option_and_then, option_map_or}
use Rattle.std.proofs.lemmas.Bool.Decides.{nat_tests}
use Rattle.ucon_base.specs.Elements.{Each}
use Rattle.ucon_base.specs.NameBytes.{is_name}
use Rattle.ucon_base.specs.Admits.{admits}
use Rattle.ucon_base.specs.declared.value.Side.{Side}
use Rattle.ucon_base.specs.declared.value.Side.TheVariants as sides
use Rattle.ucon_model.specs.declared.command.Caller.{Caller}
use Rattle.ucon_model.specs.declared.command.Command.{Command}
use Rattle.ucon_model.specs.declared.command.Command.TheVariants.{Subject, Object, Set, Env, Tick, Act, Try, Again, Beat, End, Look, Value as Value', Amend}
use Rattle.ucon_model.specs.declared.reply.Head.{Head}
use Rattle.ucon_model.specs.declared.reply.Head.TheVariants as heads
use Rattle.ucon_model.specs.declared.reply.Refusal.{Refusal}
use Rattle.ucon_model.specs.declared.session.SessionRow.{SessionRow}
use Rattle.ucon_model.specs.declared.session.Verdict.{Verdict}
use Rattle.ucon_model.specs.declared.session.Verdict.TheVariants.{Permit, Deny, Wait}
use Rattle.ucon_model.specs.Plain.{Bytes, PlainPredicate, PlainRight, PlainPolicy, PlainReply}
use Rattle.ucon_model.specs.Action.{Action, Trace, tries, revoke, amend, extended}
use Rattle.ucon_model.specs.Readings.{in_force, tick_of, has_entity, entities, attribute, declared_attr, declared_env, moment, session, sessions, is_accessing, accessing, acts}
use Rattle.ucon_model.specs.Truth.{Readings, readings}
use Rattle.ucon_model.specs.Decision.{first_false, first_false_of, right_named, failing, failing_of, verdict, denied_else, waiting_else, pre_check, pre_duty, ongoing, no_right}
use Rattle.ucon_model.specs.CommandLine.{IsCommand}
use Rattle.ucon_model.specs.OwnActions.{Own, refuse, tell, make, after_action, by_verdict, decide, is_admin, add_entity, names_act, lacks_right, is_requesting, with_usage, end_usage, own}
use Rattle.ucon_model.specs.MayFollow.{changed_kind}
use Rattle.ucon_model.specs.Updates.{session_writes}
use Rattle.ucon_model.specs.declared.policy.When.TheVariants.{During}
use Rattle.ucon_model.specs.Settle.{revoked_in, settle}
use Rattle.ucon_model.specs.Block.{own_reply, block, after}
use Rattle.ucon_model.specs.History.{History, AreCommands, trace_from, trace, said, changes}
use Rattle.ucon_model.specs.Legal.{IsLegal, IsAccessing}
use Rattle.ucon_model.specs.ReplyText.{IsHead, IsLabelled, IsReply}
use Rattle.ucon_model.specs.Spells.{Spells}
use Rattle.ucon_model.specs.Sound.{IsNumbered}
use Rattle.ucon_model.specs.Typing.{IsTyped}
use Rattle.ucon_model.proofs.Allowed.{AreAllowed, IsAllowed, IsSoundIf, legal_action, sound-empty, sound-step, sound-extended}
use Rattle.ucon_model.proofs.AllowedOwn.{allowed-own}
use Rattle.ucon_model.proofs.Histories.{allowed-block, allowed-settle, sound_after}
use Rattle.ucon_model.proofs.OwnCases.{OwnHas, makes}
use Rattle.ucon_model.proofs.SpelledLabels.{HasLabel, HasLabels, spelled_labels}

-- ---- labels

abbrev IsLabel : Bytes → Type 0
IsLabel label = IsTrue (is_name label)

false_labelled : (R : Readings) (row : SessionRow) (sort : PlainPredicate → Bool) (ps : List PlainPredicate) → Each HasLabel ps → IfSome (first_false R row sort ps) IsLabel
false_labelled R row sort [] h = tt
false_labelled R row sort (p ∷ ps) h = first _ (false_labelled R row sort ps h.1)
  where
    first : (b : Bool) → IfSome (first_false R row sort ps) IsLabel → IfSome (cond b (Some p.label) (first_false R row sort ps)) IsLabel
    first true rest = h.0
    first false rest = rest

found_has : {A : Type 0} (Q : A → Type 0) (p : A → Bool) (xs : List A) → Each Q xs → IfSome (find p xs) Q
found_has Q p [] h = tt
found_has Q p (x ∷ xs) h = first (p x) (found_has Q p xs h.1)
  where
    first : (b : Bool) → IfSome (find p xs) Q → IfSome (cond b (Some x) (find p xs)) Q
    first true rest = h.0
    first false rest = rest

then_has : {A B : Type 0} (Q : B → Type 0) (f : A → Option B) (o : Option A) → ((x : A) → o ≡ Some x → IfSome (f x) Q) → IfSome (option_and_then f o) Q
then_has Q f None each = tt
then_has Q f (Some x) each = each x refl

or_has : {A B : Type 0} (Q : B → Type 0) (f : A → Option B) (o : Option A) (other : Option B) → ((x : A) → o ≡ Some x → IfSome (f x) Q) → IfSome other Q
    → IfSome (option_map_or f o other) Q
or_has Q f None other each rest = rest
or_has Q f (Some x) other each rest = each x refl

its_labels : (P : PlainPolicy) → HasLabels P → (name : Bytes) (r : PlainRight) → right_named P.rights name ≡ Some r → Each HasLabel r.preds
its_labels P labels name r is = subst (λ (o : Option PlainRight). IfSome o (λ r. Each HasLabel r.preds)) is (found_has (λ (r : PlainRight). Each HasLabel r.preds) _ P.rights labels)

of_right : (P : PlainPolicy) (R : Readings) (sort : PlainPredicate → Bool) → HasLabels P → (row : SessionRow) → IfSome (first_false_of P R sort row) IsLabel
of_right P R sort labels row = then_has IsLabel _ (right_named P.rights row.right) (λ r is. false_labelled R row sort r.preds (its_labels P labels row.right r is))

failing_labelled : (P : PlainPolicy) (R : Readings) (n : ℕ) → HasLabels P → IfSome (failing P R n) IsLabel
failing_labelled P R n labels = then_has IsLabel (failing_of P R) (R.row n) (λ row there.
    or_has IsLabel _ (right_named P.rights row.right) (Some no_right) (λ r is. false_labelled R row ongoing r.preds (its_labels P labels row.right r is)) refl)

abbrev IsVerdict : Verdict → Type 0
IsVerdict Permit = ⊤
IsVerdict (Deny label) = IsLabel label
IsVerdict (Wait label) = IsLabel label

denied_labelled : (o : Option Bytes) (v : Verdict) → IfSome o IsLabel → IsVerdict v → IsVerdict (denied_else o v)
denied_labelled None v label rest = rest
denied_labelled (Some l) v label rest = label

waiting_labelled : (o : Option Bytes) (v : Verdict) → IfSome o IsLabel → IsVerdict v → IsVerdict (waiting_else o v)
waiting_labelled None v label rest = rest
waiting_labelled (Some l) v label rest = label

verdict_labelled : (P : PlainPolicy) (R : Readings) (n : ℕ) → HasLabels P → IsVerdict (verdict P R n)
verdict_labelled P R n labels =
    denied_labelled _ _ (then_has IsLabel (first_false_of P R pre_check) (R.row n) (λ row there. of_right P R pre_check labels row))
    (waiting_labelled _ Permit (then_has IsLabel (first_false_of P R pre_duty) (R.row n) (λ row there. of_right P R pre_duty labels row)) tt)

-- ---- traces

-- at most 1,048,576 sessions, and the labels of the policy in force are names
record IsTold (P : PlainPolicy) (T : Trace) : Type 0 where
  few : sessions T ≤ 1048576
  labels : HasLabels (in_force P T)

told_step : (P : PlainPolicy) (T : Trace) (a : Action) → IsLegal P T a → IsTold P T → IsTold P (a ∷ T)
told_step P T (tries n caller s r o) legal h = record { few = omega (arith, legal.0, legal.1); labels = h.labels }
told_step P T (amend text Q) legal h = record { few = h.few; labels = spelled_labels text Q legal.0 }
told_step P T a legal h = record { few = h.few; labels = h.labels }

told_extended : (P : PlainPolicy) (T : Trace) (actions : List Action) → AreAllowed ⊤ P T actions → IsTold P T → IsTold P (extended T actions)
told_extended P T [] allowed h = h
told_extended P T (a ∷ actions) allowed h = told_extended P (a ∷ T) actions allowed.1 (told_step P T a (legal_action ⊤ P T a tt allowed.0) h)

told_from : (P : PlainPolicy) (T : Trace) (H : History) → AreCommands H → IsSoundIf ⊤ P T → IsTold P T → IsTold P (trace_from P T H)
told_from P T [] commands sound h = h
told_from P T (e ∷ H) commands sound h =
    let actions : List Action = block P T e.caller e.command in
    let allowed : AreAllowed ⊤ P T actions = allowed-block ⊤ P T e.caller e.command (λ sure. commands.0) sound in
    told_from P (after P T e.caller e.command) H commands.1 (sound-extended ⊤ P T actions sound allowed) (told_extended P T actions allowed h)

told_after : (text : Bytes) (P : PlainPolicy) → Spells text P → IsTyped P → (H : History) → AreCommands H → IsTold P (trace P H)
told_after text P spells typed H commands =
    told_from P [] H commands (sound-empty ⊤ P (λ sure. typed)) (record { few = omega arith; labels = spelled_labels text P spells })

-- ---- who is revoked

there_below : (T : Trace) (n : ℕ) → IsNumbered T → IsAccessing T n → n ≤ sessions T
there_below T n numbered there = by_order (nat_lt (sessions T) n) refl
  where
    by_order : (b : Bool) → nat_lt (sessions T) n ≡ b → n ≤ sessions T
    by_order true is =
        let less : sessions T < n = grind (arith, nat_tests) in
        absurd (subst (λ (o : Option SessionRow). IsSomeAnd o (λ row. row.state ≡ Rattle.ucon_model.specs.declared.session.SessionState.TheVariants.Accessing)) (numbered.beyond n less) there)
    by_order false is = grind (arith, nat_tests)

labelled_by : (o : Option Bytes) (label : Bytes) → o ≡ Some label → IfSome o IsLabel → IsLabel label
labelled_by o label is h = subst (λ (o : Option Bytes). IfSome o IsLabel) is h

revoked_labelled : (P : PlainPolicy) (T : Trace) (actions : List Action) → IsSoundIf ⊤ P T → AreAllowed ⊤ P T actions → IsTold P T
    → Each (λ r. IsLabelled r.session r.label) (revoked_in actions)
revoked_labelled P T [] sound allowed h = tt
revoked_labelled P T (a ∷ actions) sound allowed h =
    first a allowed.0 (revoked_labelled P (a ∷ T) actions (sound-step ⊤ P T a sound allowed.0) allowed.1 (told_step P T a (legal_action ⊤ P T a tt allowed.0) h))
  where
    first : (a : Action) → IsAllowed ⊤ P T a → Each (λ r. IsLabelled r.session r.label) (revoked_in actions) → Each (λ r. IsLabelled r.session r.label) (revoked_in (a ∷ actions))
    first (revoke n label) legal rest =
        let below : n ≤ sessions T = there_below T n sound.numbered legal.0 in
        ((omega (arith, below, h.few), labelled_by (failing (in_force P T) (readings P T) n) label legal.1 (failing_labelled (in_force P T) (readings P T) n h.labels)), rest)
    first a legal rest = rest

-- ---- heads

-- a head that can be spelled, where some is made; and what is told changes nothing
data HasHead : Own → Type 0 where
  refuses : {r : Refusal} → HasHead (refuse r)
  tells : {reply : PlainReply} → changes reply ≡ false → HasHead (tell reply)
  heads_it : {head : Head} {actions : List Action} → IsHead head → HasHead (make head actions)

unless : (b : Bool) (r : Refusal) (o : Own) → (b ≡ false → HasHead o) → HasHead (cond b (refuse r) o)
unless true r o h = refuses
unless false r o h = h refl

given : (b : Bool) (o : Own) (r : Refusal) → HasHead o → HasHead (cond b o (refuse r))
given true o r h = h
given false o r h = refuses

found : {A : Type 0} (f : A → Own) (o : Option A) (r : Refusal) → ((x : A) → HasHead (f x)) → HasHead (option_map_or f o (refuse r))
found f None r h = refuses
found f (Some x) r h = h x

behind : (a : Action) (o : Own) → HasHead o → HasHead (after_action a o)
behind a (refuse r) h = refuses
behind a (tell reply) (tells h) = tells h
behind a (make head actions) (heads_it h) = heads_it h

by_verdict_head : (P : PlainPolicy) (T : Trace) (n : ℕ) (v : Verdict) → n < 2 ^ 32 → IsVerdict v → HasHead (by_verdict P T n v)
by_verdict_head P T n Permit few label = heads_it few
by_verdict_head P T n (Deny l) few label = heads_it (few, label)
by_verdict_head P T n (Wait l) few label = heads_it (few, label)

decide_head : (P : PlainPolicy) (T : Trace) (n : ℕ) → n < 2 ^ 32 → HasLabels (in_force P T) → HasHead (decide P T n)
decide_head P T n few labels = by_verdict_head P T n (verdict (in_force P T) (readings P T) n) few (verdict_labelled (in_force P T) (readings P T) n labels)

add_head : (T : Trace) (caller : Caller) (side : Side) (name : Bytes) → HasHead (add_entity T caller side name)
add_head T caller side name =
    unless (not (is_admin caller)) _ _ (λ admin. unless (has_entity side name T) _ _ (λ new. unless (nat_le 16384 (entities side T)) _ _ (λ room. heads_it tt)))

-- what is done with an accessing session of the caller's own
usage_head : (T : Trace) (caller : Caller) (n : ℕ) (done : Own) → HasHead done → HasHead (with_usage T caller n done)
usage_head T caller n done h =
    found _ (session T n) _ (λ row. given (nat_eq row.caller.0 caller.0) _ _ (unless (not (is_accessing (session T n))) _ _ (λ accessing. h)))

own_head : (P : PlainPolicy) (T : Trace) (caller : Caller) (c : Command) → IsCommand c → IsTold P T → HasHead (own P T caller c)
own_head P T caller (Subject name) command h = add_head T caller sides.Subject name
own_head P T caller (Object name) command h = add_head T caller sides.Object name
own_head P T caller (Set side name attr v) command h =
    unless (not (is_admin caller)) _ _ (λ admin. unless (not (has_entity side name T)) _ _ (λ there.
    found _ (declared_attr (in_force P T).attrs side attr) _ (λ d. given (admits d.kind v) _ _ (heads_it tt))))
own_head P T caller (Env name v) command h =
    unless (not (is_admin caller)) _ _ (λ admin. found _ (declared_env (in_force P T).envs name) _ (λ d. given (admits d.kind v) _ _ (heads_it tt)))
own_head P T caller (Tick t) command h = unless (not (is_admin caller)) _ _ (λ admin. unless (int_lt t (tick_of T)) _ _ (λ on. heads_it tt))
own_head P T caller (Act s a o) command h =
    unless (not (has_entity sides.Subject s T)) _ _ (λ subject. unless (not (has_entity sides.Object o T)) _ _ (λ object.
    unless (not (names_act (in_force P T).rights a)) _ _ (λ named. unless (is_none (moment s a o T) && nat_le 1048576 (acts T)) _ _ (λ room. heads_it tt))))
own_head P T caller (Try s r o) command h =
    let a : Action = tries (sessions T + 1) caller s r o in
    unless (is_none (right_named (in_force P T).rights r)) _ _ (λ right. unless (not (has_entity sides.Subject s T)) _ _ (λ subject.
    unless (not (has_entity sides.Object o T)) _ _ (λ object. unless (nat_le 1048576 (sessions T)) _ _ (λ room. unless (nat_le 65536 (accessing T)) _ _ (λ seats.
    behind a (decide P (a ∷ T) (sessions T + 1)) (decide_head P (a ∷ T) (sessions T + 1) (omega (arith, h.few)) h.labels))))))
own_head P T caller (Again n) command h =
    unless (lacks_right P T n) _ _ (λ kept. found _ (session T n) _ (λ row. given (nat_eq row.caller.0 caller.0) _ _ (unless (not (is_requesting row.state)) _ _ (λ requesting.
    unless (nat_le 65536 (accessing T)) _ _ (λ seats. decide_head P T n command h.labels)))))
own_head P T caller (Beat n) command h = usage_head T caller n (make heads.Ok (session_writes P n During T)) (heads_it tt)
own_head P T caller (End n) command h = usage_head T caller n (end_usage P T n) (heads_it command)
own_head P T caller (Look n) command h = found _ (session T n) _ (λ row. tells refl)
own_head P T caller (Value' side name attr) command h =
    unless (not (has_entity side name T)) _ _ (λ there. found _ (attribute P T side name attr) _ (λ v. tells refl))
own_head P T caller (Amend a) command h =
    unless (not (is_admin caller)) _ _ (λ admin. unless (is_some (changed_kind (in_force P T) a.policy)) _ _ (λ same. heads_it tt))

-- ---- the law

reply_of_own : (P : PlainPolicy) (T : Trace) (o : Own) → IsSoundIf ⊤ P T → OwnHas (AreAllowed ⊤ P T) o → HasHead o → IsTold P T
    → IsTrue (changes (own_reply P T o)) → IsReply (own_reply P T o)
reply_of_own P T (refuse r) sound allowed head h changing = tt
reply_of_own P T (tell reply) sound allowed (tells none) h changing = absurd (let no : false ≡ true = sym none ∙ changing in (cc no))
reply_of_own P T (make head actions) sound (makes allowed) (heads_it spelled) h changing =
    let U : Trace = extended T actions in
    let after : IsSoundIf ⊤ P U = sound-extended ⊤ P T actions sound allowed in
    (spelled, revoked_labelled P U (settle P U) after (allowed-settle ⊤ P U after) (told_extended P T actions allowed h))

pub spelled_reply : (text : Bytes) (P : PlainPolicy) → Spells text P → IsTyped P → (H : History) → AreCommands H → (caller : Caller) (c : Command) → IsCommand c
    → IsTrue (changes (said P H caller c)) → IsReply (said P H caller c)
spelled_reply text P spells typed H commands caller c command changing =
    let T : Trace = trace P H in
    let sound : IsSoundIf ⊤ P T = sound_after ⊤ P H (λ sure. typed) (λ sure. commands) in
    let told = told_after text P spells typed H commands in
    reply_of_own P T (own P T caller c) sound (allowed-own ⊤ P T caller c (λ sure. command) sound) (own_head P T caller c command told) told changing
