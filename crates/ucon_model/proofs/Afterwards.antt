-- The work that a command's own actions begin, read off the trace after them.
use Rattle.std.proofs.Common.{◌≡◌, ◌∙◌, ◌⊎◌, inl, inr, ℕ, ◌+◌, Bool, true, false, cond, List, [], ◌∷◌, refl, sym, ap, subst}
use Rattle.std.specs.Prelude.{◌≢◌, ◌||◌, not, nat_eq, nat_le, int_lt, map, filter, ℤ, Option, Some, None, is_none}
use Rattle.std.specs.List.{list_any}
use Rattle.std.specs.Option.{option_map_or}
use Rattle.std.proofs.lemmas.Bool.Decides.{eqb_tells}
use Rattle.std.proofs.lemmas.List.Folds.{list_any-append}
use Rattle.ucon_base.specs.declared.value.Side.{Side}
use Rattle.ucon_base.specs.declared.value.Side.TheVariants as sides
use Rattle.ucon_base.specs.declared.value.Value.{Value}
use Rattle.ucon_base.specs.Admits.{admits}
use Rattle.ucon_model.specs.declared.command.Caller.{Caller}
use Rattle.ucon_model.specs.declared.command.Command.{Command}
use Rattle.ucon_model.specs.declared.command.Command.TheVariants.{Subject, Object, Set, Env, Tick, Act, Try, Again, Beat, End, Look, Value as Value', Amend}
use Rattle.ucon_model.specs.declared.formula.Form.{Form}
use Rattle.ucon_model.specs.declared.formula.Form.TheVariants.{Done, Within, Every}
use Rattle.ucon_model.specs.declared.policy.When.{When}
use Rattle.ucon_model.specs.declared.policy.When.TheVariants.{Before, During, AfterEnd, AfterRevoke}
use Rattle.ucon_model.specs.declared.reply.Head.{Head}
use Rattle.ucon_model.specs.declared.reply.Head.TheVariants as heads
use Rattle.ucon_model.specs.declared.session.SessionRow.{SessionRow}
use Rattle.ucon_model.specs.declared.session.Verdict.{Verdict}
use Rattle.ucon_model.specs.declared.session.Verdict.TheVariants.{Permit, Deny, Wait}
use Rattle.ucon_model.specs.Plain.{Bytes, PlainPolicy, PlainUpdate}
use Rattle.ucon_model.specs.Action.{Action, Trace, subject, object, write, env, tick, act, tries, wait, permit, deny, ends, revoke, amend, extended}
use Rattle.ucon_model.specs.Readings.{in_force, declared_attr, declared_env, tick_of, session, sessions, accessing, has_entity, is_accessing, is_accessing_state, changed_if}
use Rattle.ucon_model.specs.Truth.{Readings, readings}
use Rattle.ucon_model.specs.Decision.{right_named, verdict}
use Rattle.ucon_model.specs.Updates.{session_writes, updates_of, same_when, entity_of}
use Rattle.ucon_model.specs.OwnActions.{Own, is_admin, make, by_verdict, decide, end_usage, is_requesting, lacks_right, own}
use Rattle.ucon_model.specs.Settle.{fails_at, revocation}
use Rattle.ucon_model.specs.Sound.{IsGrounded, IsNumbered, IsTimely}
use Rattle.ucon_model.specs.Reach.{Location, Timed, attribute_of, variable_of, lasting, owed, is_by_tick, is_ticking, readers, replaces, session_targets, target, targets, timed_of}
use Rattle.ucon_model.specs.Deadlines.{form_limit, is_due, limit_of, passes}
use Rattle.ucon_model.specs.Work.{Work, Covers, joined, only, own_work, work_after}
use Rattle.ucon_model.specs.Usages.{IsUsageTold, going_on}
use Rattle.ucon_model.specs.Afterwards.{command_locations, concerned_by, is_timed, permit_locations, permitted_by, work_afterwards}
use Rattle.ucon_model.proofs.Frames.{in_force-step}
use Rattle.ucon_model.proofs.OwnCovers.{covers-own}
use Rattle.ucon_model.proofs.OwnMakes.{Makes, unless, given, found, behind, usage}
use Rattle.ucon_model.proofs.TargetWrites.{WriteAt, none, one, session_writes_at}
use Rattle.ucon_model.proofs.OwnUsages.{others_stay, usage_told}
use Rattle.ucon_model.proofs.Revoking.{in_force-revocation}
use Rattle.ucon_model.proofs.Touches.{reads_same}
use Rattle.ucon_model.proofs.Working.{covers-fails, covers-wider}

-- ---- the row of a session that goes on

row_by : (b : Bool) (row other : SessionRow) → Some row ≡ cond b (Some other) None → Some other ≡ Some row
row_by true row other is = sym is
row_by false row other is = absurd cc

row_same : (old new : Option SessionRow) → is_accessing new ≡ true → going_on new ≡ going_on old → old ≡ new
row_same old None on is = absurd cc
row_same None (Some row) on is = absurd (let no : Some row ≡ None = rw on at is in cc)
row_same (Some other) (Some row) on is =
    let told : Some row ≡ cond (is_accessing_state other.state) (Some other) None = rw on at is in
    row_by (is_accessing_state other.state) row other told

over_not : (new : Option SessionRow) → is_accessing new ≡ true → going_on new ≡ None → ⊥
over_not None on is = cc
over_not (Some row) on is = let no : Some row ≡ None = rw on at is in cc

-- an accessing session is permitted, as the head tells, or was there before
permitted_or_same : (head : Head) (n : ℕ) (old new : Option SessionRow) → IsUsageTold head n old new → is_accessing new ≡ true → (permitted_by head n ≡ true) ⊎ (old ≡ new)
permitted_or_same heads.Ok n old new t on = inr (row_same old new on (t.same (λ h. cc) (λ h. cc)))
permitted_or_same (heads.Permitted m) n old new t on = by (eqb_tells n m)
  where
    by : ((nat_eq n m ≡ true) × (n ≡ m)) ⊎ ((nat_eq n m ≡ false) × (n ≢ m)) → (nat_eq n m ≡ true) ⊎ (old ≡ new)
    by (inl here) = inl here.0
    by (inr other) = inr (row_same old new on (t.same (λ h. (let back : n ≡ m = cc in other.1 back)) (λ h. cc)))
permitted_or_same (heads.Ended m) n old new t on = by (eqb_tells n m)
  where
    by : ((nat_eq n m ≡ true) × (n ≡ m)) ⊎ ((nat_eq n m ≡ false) × (n ≢ m)) → (false ≡ true) ⊎ (old ≡ new)
    by (inl here) = absurd (over_not new on (t.over (ap heads.Ended (sym here.1))))
    by (inr other) = inr (row_same old new on (t.same (λ h. cc) (λ h. (let back : n ≡ m = cc in other.1 back))))
permitted_or_same (heads.Denied m label) n old new t on = inr (row_same old new on (t.same (λ h. cc) (λ h. cc)))
permitted_or_same (heads.Waiting m label) n old new t on = inr (row_same old new on (t.same (λ h. cc) (λ h. cc)))

-- ---- where a session's right writes stays

-- whether an action may change where a session's right writes: it makes a session, or replaces the policy in force
abbrev retargets : Action → Bool
retargets (tries n caller s r o) = true
retargets a = replaces a

entity_alike : (row other : SessionRow) → other.subject ≡ row.subject → other.object ≡ row.object → (side : Side) → entity_of side other ≡ entity_of side row
entity_alike row other su ob sides.Subject = su
entity_alike row other su ob sides.Object = ob

targets_alike : (row other : SessionRow) → other.subject ≡ row.subject → other.object ≡ row.object → (us : List PlainUpdate) → map (target other) us ≡ map (target row) us
targets_alike row other su ob [] = refl
targets_alike row other su ob (u ∷ us) = rw (entity_alike row other su ob u.side, targets_alike row other su ob us) refl

changed_targets : (Q : PlainPolicy) (when : When) (f : SessionRow → SessionRow) (b : Bool) (o : Option SessionRow) → ((row : SessionRow) → (f row).right ≡ row.right)
    → ((row : SessionRow) → (f row).subject ≡ row.subject) → ((row : SessionRow) → (f row).object ≡ row.object)
    → option_map_or (λ row. targets row when (updates_of Q row)) (changed_if b f o) [] ≡ option_map_or (λ row. targets row when (updates_of Q row)) o []
changed_targets Q when f false o ri su ob = refl
changed_targets Q when f true None ri su ob = refl
changed_targets Q when f true (Some row) ri su ob =
    ap (λ (right : Bytes). map (target (f row)) (filter (λ u. same_when when u.when) (option_map_or (λ right. right.updates) (right_named Q.rights right) []))) (ri row)
    ∙ targets_alike row (f row) (su row) (ob row) (filter (λ u. same_when when u.when) (updates_of Q row))

step_targets : (P : PlainPolicy) (T : Trace) (a : Action) (m : ℕ) (when : When) → retargets a ≡ false → session_targets P (a ∷ T) m when ≡ session_targets P T m when
step_targets P T (subject name) m when off = refl
step_targets P T (object name) m when off = refl
step_targets P T (write side name attr v) m when off = refl
step_targets P T (env name v) m when off = refl
step_targets P T (tick t) m when off = refl
step_targets P T (act s a o) m when off = refl
step_targets P T (tries n caller s r o) m when off = absurd cc
step_targets P T (wait n label) m when off = refl
step_targets P T (permit n) m when off = changed_targets (in_force P T) when _ (nat_eq m n) (session T m) (λ row. refl) (λ row. refl) (λ row. refl)
step_targets P T (deny n label) m when off = changed_targets (in_force P T) when _ (nat_eq m n) (session T m) (λ row. refl) (λ row. refl) (λ row. refl)
step_targets P T (ends n) m when off = changed_targets (in_force P T) when _ (nat_eq m n) (session T m) (λ row. refl) (λ row. refl) (λ row. refl)
step_targets P T (revoke n label) m when off = changed_targets (in_force P T) when _ (nat_eq m n) (session T m) (λ row. refl) (λ row. refl) (λ row. refl)
step_targets P T (amend text Q) m when off = absurd cc

neither : (a b : Bool) → (a || b) ≡ false → (a ≡ false) × (b ≡ false)
neither false b off = (refl, off)
neither true b off = absurd cc

more_targets : (P : PlainPolicy) (actions : List Action) (T : Trace) (m : ℕ) (when : When) → list_any retargets actions ≡ false
    → session_targets P (extended T actions) m when ≡ session_targets P T m when
more_targets P [] T m when off = refl
more_targets P (a ∷ actions) T m when off =
    let both = neither (retargets a) (list_any retargets actions) off in
    more_targets P actions (a ∷ T) m when both.1 ∙ step_targets P T a m when both.0

replaces_nothing : (a : Action) → retargets a ≡ false → replaces a ≡ false
replaces_nothing (tries n caller s r o) off = refl
replaces_nothing a off = off

stays_in_force : (P : PlainPolicy) (actions : List Action) (T : Trace) → list_any retargets actions ≡ false → in_force P (extended T actions) ≡ in_force P T
stays_in_force P [] T off = refl
stays_in_force P (a ∷ actions) T off =
    let both = neither (retargets a) (list_any retargets actions) off in
    stays_in_force P actions (a ∷ T) both.1 ∙ in_force-step P T a (replaces_nothing a both.0)

-- ---- which commands leave where sessions' rights write

retargets-at : (actions : List Action) (locations : List Location) → WriteAt actions locations → list_any retargets actions ≡ false
retargets-at actions locations none = refl
retargets-at actions locations (one {actions = more} {locations = others} side name attr v rest) = retargets-at more others rest

writes_retarget_nobody : (P : PlainPolicy) (m : ℕ) (when : When) (T : Trace) → list_any retargets (session_writes P m when T) ≡ false
writes_retarget_nobody P m when T = retargets-at _ _ (session_writes_at P m when T)

decision_retargets_nobody : (P : PlainPolicy) (T : Trace) (n : ℕ) (v : Verdict) → Makes (λ head actions. list_any retargets actions ≡ false) (by_verdict P T n v)
decision_retargets_nobody P T n Permit = list_any-append retargets (session_writes P n Before T) (permit n ∷ []) ∙ rw (writes_retarget_nobody P n Before T) refl
decision_retargets_nobody P T n (Deny label) = refl
decision_retargets_nobody P T n (Wait label) = refl

-- where the one who is permitted writes
decision_permits : (P : PlainPolicy) (T : Trace) (n : ℕ) (v : Verdict)
    → Makes (λ head actions. (m : ℕ) → head ≡ heads.Permitted m → (m ≡ n) × (list_any retargets actions ≡ false)) (by_verdict P T n v)
decision_permits P T n Permit = λ m h. ((let back : n ≡ m = cc in sym back), decision_retargets_nobody P T n Permit)
decision_permits P T n (Deny label) = λ m h. absurd (let no : ⊥ = cc in no)
decision_permits P T n (Wait label) = λ m h. absurd (let no : ⊥ = cc in no)

beat_retargets_nobody : (P : PlainPolicy) (T : Trace) (caller : Caller) (n : ℕ) → Makes (λ head actions. list_any retargets actions ≡ false) (own P T caller (Beat n))
beat_retargets_nobody P T caller n = usage (λ head actions. list_any retargets actions ≡ false) T caller n (make heads.Ok (session_writes P n During T)) (writes_retarget_nobody P n During T)

end_retargets_nobody : (P : PlainPolicy) (T : Trace) (caller : Caller) (n : ℕ) → Makes (λ head actions. list_any retargets actions ≡ false) (own P T caller (End n))
end_retargets_nobody P T caller n = usage (λ head actions. list_any retargets actions ≡ false) T caller n (end_usage P T n) (writes_retarget_nobody P n AfterEnd (ends n ∷ T))

again_retargets_nobody : (P : PlainPolicy) (T : Trace) (caller : Caller) (n : ℕ) → Makes (λ head actions. list_any retargets actions ≡ false) (own P T caller (Again n))
again_retargets_nobody P T caller n =
    let Q : Head → List Action → Type 0 = λ head actions. list_any retargets actions ≡ false in
    unless Q (lacks_right P T n) _ _ (λ granted. found Q _ (session T n) _ (λ row. given Q (nat_eq row.caller.0 caller.0) _ _
    (unless Q (not (is_requesting row.state)) _ _ (λ requesting. unless Q (nat_le 65536 (accessing T)) _ _ (λ seats.
    decision_retargets_nobody P T n (verdict (in_force P T) (readings P T) n))))))

set_retargets_nobody : (P : PlainPolicy) (T : Trace) (caller : Caller) (side : Side) (name attr : Bytes) (v : Value)
    → Makes (λ head actions. list_any retargets actions ≡ false) (own P T caller (Set side name attr v))
set_retargets_nobody P T caller side name attr v =
    let Q : Head → List Action → Type 0 = λ head actions. list_any retargets actions ≡ false in
    unless Q (not (is_admin caller)) _ _ (λ a. unless Q (not (has_entity side name T)) _ _ (λ b.
    found Q _ (declared_attr (in_force P T).attrs side attr) _ (λ d. given Q (admits d.kind v) _ _ refl)))

env_retargets_nobody : (P : PlainPolicy) (T : Trace) (caller : Caller) (name : Bytes) (v : Value)
    → Makes (λ head actions. list_any retargets actions ≡ false) (own P T caller (Env name v))
env_retargets_nobody P T caller name v =
    let Q : Head → List Action → Type 0 = λ head actions. list_any retargets actions ≡ false in
    unless Q (not (is_admin caller)) _ _ (λ a. found Q _ (declared_env (in_force P T).envs name) _ (λ d. given Q (admits d.kind v) _ _ refl))

tick_retargets_nobody : (P : PlainPolicy) (T : Trace) (caller : Caller) (t : ℤ) → Makes (λ head actions. list_any retargets actions ≡ false) (own P T caller (Tick t))
tick_retargets_nobody P T caller t =
    let Q : Head → List Action → Type 0 = λ head actions. list_any retargets actions ≡ false in
    unless Q (not (is_admin caller)) _ _ (λ a. unless Q (int_lt t (tick_of T)) _ _ (λ b. refl))

-- a try's new session, as it is tried, writes where it writes after the own actions
TriedTargets : PlainPolicy → Trace → Caller → Bytes → Bytes → Bytes → Head → List Action → Type 0
TriedTargets P T caller s r o head actions =
    (m : ℕ) → head ≡ heads.Permitted m
    → (session_targets P (extended T actions) m Before ≡ session_targets P (tries m caller s r o ∷ T) m Before) × (in_force P (extended T actions) ≡ in_force P T)

try_targets : (P : PlainPolicy) (T : Trace) (caller : Caller) (s r o : Bytes) → Makes (TriedTargets P T caller s r o) (own P T caller (Try s r o))
unfolding TriedTargets
try_targets P T caller s r o =
    let Q : Head → List Action → Type 0 = TriedTargets P T caller s r o in
    let n : ℕ = sessions T + 1 in
    let a : Action = tries n caller s r o in
    let R : Head → List Action → Type 0 = λ head actions. (m : ℕ) → head ≡ heads.Permitted m → (m ≡ n) × (list_any retargets actions ≡ false) in
    unless Q (is_none (right_named (in_force P T).rights r)) _ _ (λ right. unless Q (not (has_entity sides.Subject s T)) _ _ (λ su.
    unless Q (not (has_entity sides.Object o T)) _ _ (λ ob. unless Q (nat_le 1048576 (sessions T)) _ _ (λ room.
    unless Q (nat_le 65536 (accessing T)) _ _ (λ seats.
    behind Q R a (decide P (a ∷ T) n)
    (λ head actions h m is. (
      more_targets P actions (a ∷ T) m Before (h m is).1 ∙ ap (λ (k : ℕ). session_targets P (tries k caller s r o ∷ T) m Before) (sym (h m is).0),
      stays_in_force P actions (a ∷ T) (h m is).1,
    ))
    (decision_permits P (a ∷ T) n (verdict (in_force P (a ∷ T)) (readings P (a ∷ T)) n)))))))

tried_writes : (P : PlainPolicy) (T : Trace) (caller : Caller) (s r o : Bytes) (m : ℕ) (actions : List Action) → TriedTargets P T caller s r o (heads.Permitted m) actions
    → (session_targets P (extended T actions) m Before ≡ session_targets P (tries m caller s r o ∷ T) m Before) × (in_force P (extended T actions) ≡ in_force P T)
unfolding TriedTargets
tried_writes P T caller s r o m actions told = told m refl

-- ---- who reads there

or_left : (a b : Bool) → a ≡ true → (a || b) ≡ true
or_left true b h = refl
or_left false b h = absurd cc

or_right : (a b : Bool) → b ≡ true → (a || b) ≡ true
or_right true b h = refl
or_right false b h = h

or_cases : (a b : Bool) → (a || b) ≡ true → (a ≡ true) ⊎ (b ≡ true)
or_cases true b h = inl refl
or_cases false b h = inr h

-- whoever reads there as it was does as it is
still_reads : (P : PlainPolicy) (T U : Trace) (locations others : List Location) (n : ℕ) → session T n ≡ session U n → in_force P U ≡ in_force P T → others ≡ locations
    → readers P T locations n ≡ true → readers P U others n ≡ true
still_reads P T U locations others n same stays same_locations reads =
    ap (λ (ls : List Location). readers P U ls n) same_locations ∙ reads_same P T U locations n stays (sym same) ∙ reads

-- ---- whom the tick concerns

passed_is_ticking : (now next start : ℤ) (form : Form) (last : Option ℤ) → passes now next (form_limit start form last) ≡ true → is_ticking form ≡ true
passed_is_ticking now next start Done last h = absurd cc
passed_is_ticking now next start (Within n) last h = refl
passed_is_ticking now next start (Every n) last h = refl

passed_is_by_tick : (now next : ℤ) (R : Readings) (row : SessionRow) (part : Timed) → passes now next (limit_of R row part) ≡ true → is_by_tick part ≡ true
passed_is_by_tick now next R row (lasting n) h = refl
passed_is_by_tick now next R row (owed o) h = passed_is_ticking now next row.start o.form _ h

any_within : {A : Type 0} (p q : A → Bool) (xs : List A) → ((x : A) → p x ≡ true → q x ≡ true) → list_any p xs ≡ true → list_any q xs ≡ true
any_within p q [] each h = absurd cc
any_within p q (x ∷ xs) each h = elim (or_cases (p x) (list_any p xs) h) [
  | inl here ↦ or_left (q x) (list_any q xs) (each x here)
  | inr rest ↦ or_right (q x) (list_any q xs) (any_within p q xs each rest)
]

due_is_timed : (P : PlainPolicy) (T U : Trace) (t : ℤ) (n : ℕ) → session T n ≡ session U n → in_force P U ≡ in_force P T → is_due P T t n ≡ true → is_timed P U n ≡ true
due_is_timed P T U t n same stays due =
    ap (λ (Q : PlainPolicy). option_map_or (λ row. list_any is_by_tick (timed_of Q row)) (session U n) false) stays
    ∙ ap (λ (o : Option SessionRow). option_map_or (λ row. list_any is_by_tick (timed_of (in_force P T) row)) o false) (sym same) ∙ by (session T n) due
  where
    by : (o : Option SessionRow)
        → option_map_or (λ row. list_any (λ part. passes (tick_of T) t (limit_of (readings P T) row part)) (timed_of (in_force P T) row)) o false ≡ true
        → option_map_or (λ row. list_any is_by_tick (timed_of (in_force P T) row)) o false ≡ true
    by None h = absurd cc
    by (Some row) h =
        any_within _ is_by_tick (timed_of (in_force P T) row) (λ part passed. passed_is_by_tick (tick_of T) t (readings P T) row part passed) h

-- ---- each command

made : (Q : Head → List Action → Type 0) (d : Own) (head : Head) (actions : List Action) → d ≡ make head actions → Makes Q d → Q head actions
made Q d head actions is h = subst (Makes Q) is h

-- they leave where sessions' rights write, and the policy in force
abbrev RetargetNobody : Head → List Action → Type 0
RetargetNobody head actions = list_any retargets actions ≡ false

-- the parts of the work afterwards
in_permit : (P : PlainPolicy) (T : Trace) (c : Command) (head : Head) (n : ℕ) → readers P T (permit_locations P T head) n ≡ true → work_afterwards P T c head n ≡ true
in_permit P T c head n h = or_right (permitted_by head n) _ (or_left (readers P T (permit_locations P T head) n) _ h)

in_written : (P : PlainPolicy) (T : Trace) (c : Command) (head : Head) (n : ℕ) → readers P T (command_locations P T c) n ≡ true → work_afterwards P T c head n ≡ true
in_written P T c head n h = or_right (permitted_by head n) _ (or_right (readers P T (permit_locations P T head) n) _ (or_left (readers P T (command_locations P T c) n) _ h))

in_concerned : (P : PlainPolicy) (T : Trace) (c : Command) (head : Head) (n : ℕ) → concerned_by P T c n ≡ true → work_afterwards P T c head n ≡ true
in_concerned P T c head n h =
    or_right (permitted_by head n) _ (or_right (readers P T (permit_locations P T head) n) _ (or_right (readers P T (command_locations P T c) n) _ h))

-- where a try or a renewed one permits
in_permitted : (P : PlainPolicy) (T U : Trace) (c : Command) (m n : ℕ) (locations : List Location) → session T n ≡ session U n → in_force P U ≡ in_force P T
    → session_targets P U m Before ≡ locations → joined (only m) (readers P T locations) n ≡ true → work_afterwards P U c (heads.Permitted m) n ≡ true
in_permitted P T U c m n locations same stays there h = elim (or_cases (nat_eq n m) (readers P T locations n) h) [
  | inl here ↦ or_left (nat_eq n m) _ here
  | inr reads ↦ in_permit P U c (heads.Permitted m) n (still_reads P T U locations (session_targets P U m Before) n same stays there reads)
]

afterwards : (P : PlainPolicy) (T : Trace) (caller : Caller) (c : Command) (head : Head) (actions : List Action) (n : ℕ) → own P T caller c ≡ make head actions
    → session T n ≡ session (extended T actions) n → own_work P T caller c head n ≡ true → work_afterwards P (extended T actions) c head n ≡ true
afterwards P T caller (Subject name) head actions n is same h = absurd cc
afterwards P T caller (Object name) head actions n is same h = absurd cc
afterwards P T caller (Set side name attr v) head actions n is same h = in_written P (extended T actions) (Set side name attr v) head n
    (still_reads P T (extended T actions) (attribute_of side name attr ∷ []) (attribute_of side name attr ∷ []) n same
    (stays_in_force P actions T (made RetargetNobody _ head actions is (set_retargets_nobody P T caller side name attr v))) refl h)
afterwards P T caller (Env name v) head actions n is same h = in_written P (extended T actions) (Env name v) head n
    (still_reads P T (extended T actions) (variable_of name ∷ []) (variable_of name ∷ []) n same
    (stays_in_force P actions T (made RetargetNobody _ head actions is (env_retargets_nobody P T caller name v))) refl h)
afterwards P T caller (Tick t) head actions n is same h = in_concerned P (extended T actions) (Tick t) head n
    (due_is_timed P T (extended T actions) t n same (stays_in_force P actions T (made RetargetNobody _ head actions is (tick_retargets_nobody P T caller t))) h)
afterwards P T caller (Act s a o) head actions n is same h = absurd cc
afterwards P T caller (Try s r o) heads.Ok actions n is same h = absurd cc
afterwards P T caller (Try s r o) (heads.Permitted m) actions n is same h =
    let tried = tried_writes P T caller s r o m actions (made (TriedTargets P T caller s r o) _ (heads.Permitted m) actions is (try_targets P T caller s r o)) in
    in_permitted P T (extended T actions) (Try s r o) m n (session_targets P (tries m caller s r o ∷ T) m Before) same tried.1 tried.0 h
afterwards P T caller (Try s r o) (heads.Denied m label) actions n is same h = absurd cc
afterwards P T caller (Try s r o) (heads.Waiting m label) actions n is same h = absurd cc
afterwards P T caller (Try s r o) (heads.Ended m) actions n is same h = absurd cc
afterwards P T caller (Again k) heads.Ok actions n is same h = absurd cc
afterwards P T caller (Again k) (heads.Permitted m) actions n is same h =
    let quiet : list_any retargets actions ≡ false = made RetargetNobody _ (heads.Permitted m) actions is (again_retargets_nobody P T caller k) in
    in_permitted P T (extended T actions) (Again k) m n (session_targets P T m Before) same (stays_in_force P actions T quiet) (more_targets P actions T m Before quiet) h
afterwards P T caller (Again k) (heads.Denied m label) actions n is same h = absurd cc
afterwards P T caller (Again k) (heads.Waiting m label) actions n is same h = absurd cc
afterwards P T caller (Again k) (heads.Ended m) actions n is same h = absurd cc
afterwards P T caller (Beat k) head actions n is same h =
    let quiet : list_any retargets actions ≡ false = made RetargetNobody _ head actions is (beat_retargets_nobody P T caller k) in
    in_written P (extended T actions) (Beat k) head n (still_reads P T (extended T actions) (session_targets P T k During) (session_targets P (extended T actions) k During) n same
    (stays_in_force P actions T quiet) (more_targets P actions T k During quiet) h)
afterwards P T caller (End k) head actions n is same h =
    let quiet : list_any retargets actions ≡ false = made RetargetNobody _ head actions is (end_retargets_nobody P T caller k) in
    in_written P (extended T actions) (End k) head n (still_reads P T (extended T actions) (session_targets P T k AfterEnd) (session_targets P (extended T actions) k AfterEnd) n same
    (stays_in_force P actions T quiet) (more_targets P actions T k AfterEnd quiet) h)
afterwards P T caller (Look k) head actions n is same h = absurd cc
afterwards P T caller (Value' side name attr) head actions n is same h = absurd cc
afterwards P T caller (Amend a) head actions n is same h = in_concerned P (extended T actions) (Amend a) head n refl

-- where nobody failed, the work that is read off afterwards covers
pub covers-afterwards : (P : PlainPolicy) (T : Trace) (caller : Caller) (c : Command) (head : Head) (actions : List Action) → IsNumbered T
    → ((n : ℕ) → IsGrounded T (session T n)) → IsTimely T → ((n : ℕ) → fails_at P T n ≡ None) → own P T caller c ≡ make head actions
    → Covers P (extended T actions) (work_afterwards P (extended T actions) c head)
covers-afterwards P T caller c head actions numbered grounded timely nobody_fails is =
    let U : Trace = extended T actions in
    covers-wider P U (own_work P T caller c head) (work_afterwards P U c head) (covers-own P T caller c head actions grounded timely nobody_fails is)
    (λ n on h. elim (permitted_or_same head n (session T n) (session U n) (usage_told P T caller c head actions n numbered is) on) [
      | inl permitted ↦ or_left (permitted_by head n) _ permitted
      | inr same ↦ afterwards P T caller c head actions n is same h
    ])

-- ---- after a revocation

revocation_targets : (P : PlainPolicy) (T : Trace) (f : ℕ × Bytes)
    → session_targets P (extended T (revocation P T f)) f.0 AfterRevoke ≡ session_targets P T f.0 AfterRevoke
revocation_targets P T f = more_targets P (revocation P T f) T f.0 AfterRevoke (writes_retarget_nobody P f.0 AfterRevoke (revoke f.0 f.1 ∷ T))

-- who was in the work beside the one who is revoked is in it still, or reads there
left_in : (P : PlainPolicy) (T : Trace) (work : Work) (f : ℕ × Bytes) (n : ℕ) → ((nat_eq n f.0 ≡ true) × (n ≡ f.0)) ⊎ ((nat_eq n f.0 ≡ false) × (n ≢ f.0))
    → work_after P T (joined (only f.0) work) f.0 n ≡ true
    → joined work (readers P (extended T (revocation P T f)) (session_targets P (extended T (revocation P T f)) f.0 AfterRevoke)) n ≡ true
left_in P T work f n (inl here) h = absurd (let no : false ≡ true = rw here.0 at h in cc)
left_in P T work f n (inr other) h =
    let U : Trace = extended T (revocation P T f) in
    let in_one : (work n || readers P T (session_targets P T f.0 AfterRevoke) n) ≡ true = rw other.0 at h in
    elim (or_cases (work n) (readers P T (session_targets P T f.0 AfterRevoke) n) in_one) [
      | inl was ↦ or_left (work n) _ was
      | inr reads ↦ or_right (work n) _
          (still_reads P T U (session_targets P T f.0 AfterRevoke) (session_targets P U f.0 AfterRevoke) n (sym (others_stay P T f n other.1)) (in_force-revocation P T f)
          (revocation_targets P T f) reads)
    ]

pub covers-revocation : (P : PlainPolicy) (T : Trace) (work : Work) (f : ℕ × Bytes) → Covers P T (joined (only f.0) work)
    → Covers P (extended T (revocation P T f)) (joined work (readers P (extended T (revocation P T f)) (session_targets P (extended T (revocation P T f)) f.0 AfterRevoke)))
covers-revocation P T work f covers =
    let U : Trace = extended T (revocation P T f) in
    covers-wider P U (work_after P T (joined (only f.0) work) f.0) (joined work (readers P U (session_targets P U f.0 AfterRevoke)))
    (covers-fails P T (joined (only f.0) work) f covers) (λ n on h. left_in P T work f n (eqb_tells n f.0) h)
