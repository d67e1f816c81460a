-- Whose usage a command's own actions begin or end.
use Rattle.std.proofs.Common.{◌≡◌, ◌∙◌, ◌⊎◌, inl, inr, ℕ, ◌+◌, Bool, true, false, cond, List, [], ◌∷◌, refl, sym, ap, subst, arith}
use Rattle.std.specs.Prelude.{◌≢◌, ◌&&◌, not, nat_eq, nat_le, int_lt, pos, Option, Some, None, is_none, is_some, IsSome, ⊤}
use Rattle.std.specs.Option.{option_map_or}
use Rattle.std.proofs.lemmas.Bool.{eq-eqb}
use Rattle.std.proofs.lemmas.Bool.Decides.{eqb_tells}
use Rattle.ucon_base.specs.declared.value.Side.{Side}
use Rattle.ucon_base.specs.declared.value.Side.TheVariants as sides
use Rattle.ucon_base.specs.Admits.{admits}
use Rattle.ucon_model.specs.declared.command.Caller.{Caller}
use Rattle.ucon_model.specs.declared.command.Command.{Command}
use Rattle.ucon_model.specs.declared.command.Command.TheVariants.{Subject, Object, Set, Env, Tick, Act, Try, Again, Beat, End, Look, Value as Value', Amend}
use Rattle.ucon_model.specs.declared.policy.When.TheVariants.{Before, During, AfterEnd, AfterRevoke}
use Rattle.ucon_model.specs.declared.reply.Head.{Head}
use Rattle.ucon_model.specs.declared.reply.Head.TheVariants as heads
use Rattle.ucon_model.specs.declared.reply.Refusal.{Refusal}
use Rattle.ucon_model.specs.declared.session.SessionRow.{SessionRow}
use Rattle.ucon_model.specs.declared.session.SessionState.{SessionState}
use Rattle.ucon_model.specs.declared.session.SessionState.TheVariants.{Requesting, Denied, Accessing, Revoked, Ended}
use Rattle.ucon_model.specs.declared.session.Verdict.{Verdict}
use Rattle.ucon_model.specs.declared.session.Verdict.TheVariants.{Permit, Deny, Wait}
use Rattle.ucon_model.specs.Plain.{Bytes, PlainPolicy}
use Rattle.ucon_model.specs.Action.{Action, Trace, write, env, tick, act, tries, wait, permit, deny, ends, revoke, amend, extended}
use Rattle.ucon_model.specs.Readings.{in_force, session, sessions, has_entity, entities, attribute, declared_attr, declared_env, moment, acts, accessing, tick_of, is_accessing, is_accessing_state, changed_if}
use Rattle.ucon_model.specs.Decision.{right_named}
use Rattle.ucon_model.specs.Updates.{session_writes}
use Rattle.ucon_model.specs.OwnActions.{Own, refuse, tell, make, after_action, by_verdict, decide, is_admin, new_entity, add_entity, names_act, with_own, is_requesting, lacks_right, with_usage, end_usage, own}
use Rattle.ucon_model.specs.Settle.{revocation}
use Rattle.ucon_model.specs.Sound.{IsNumbered}
use Rattle.ucon_model.specs.Usages.{IsUsageTold, going_on}
use Rattle.ucon_model.specs.MayFollow.{changed_kind}
use Rattle.ucon_model.proofs.Extending.{extended-append, session-session_writes}

-- ---- one session under one action

-- another session
left : (b : Bool) (f : SessionRow → SessionRow) (o : Option SessionRow) → b ≡ false → changed_if b f o ≡ o
left true f o h = absurd cc
left false f o h = refl

-- a usage that is over
off_by : (f : SessionRow → SessionRow) (o : Option SessionRow) (b : Bool) → ((row : SessionRow) → is_accessing_state (f row).state ≡ false) → b ≡ true
    → going_on (changed_if b f o) ≡ None
off_by f None b off is = rw is refl
off_by f (Some row) b off is = rw (is, off row) refl

-- a usage that begins
on_by : (f : SessionRow → SessionRow) (o : Option SessionRow) (row : SessionRow) (b : Bool) → ((row : SessionRow) → is_accessing_state (f row).state ≡ true) → b ≡ true → o ≡ Some row
    → IsSome (going_on (changed_if b f o))
on_by f o row b on is there = rw (is, there, on row) refl

-- no usage before, and none after
never_by : (f : SessionRow → SessionRow) (o : Option SessionRow) (b : Bool) → ((row : SessionRow) → is_accessing_state (f row).state ≡ false) → (b ≡ true → going_on o ≡ None)
    → going_on (changed_if b f o) ≡ going_on o
never_by f o true off none = off_by f o true off refl ∙ sym (none refl)
never_by f o false off none = refl

tried_by : (b : Bool) (row : SessionRow) (o : Option SessionRow) → is_accessing_state row.state ≡ false → (b ≡ true → o ≡ None) → going_on (cond b (Some row) o) ≡ going_on o
tried_by true row o off new = rw (off, new refl) refl
tried_by false row o off new = refl

-- a session that isn't accessing
record IsOff (T : Trace) (n : ℕ) : Type 0 where
  row : SessionRow
  is : session T n ≡ Some row
  off : is_accessing_state row.state ≡ false

no_usage : (T : Trace) (n m : ℕ) → IsOff T n → m ≡ n → going_on (session T m) ≡ None
no_usage T n m w same = ap (λ (k : ℕ). going_on (session T k)) same ∙ ap going_on w.is ∙ alone w.row w.off
  where
    alone : (row : SessionRow) → is_accessing_state row.state ≡ false → going_on (Some row) ≡ None
    alone row off = rw off refl

-- ---- what the head tells

-- a head that permits and ends nobody
unmoved : (head : Head) (n : ℕ) (old new : Option SessionRow) → head ≢ heads.Permitted n → head ≢ heads.Ended n → going_on new ≡ going_on old → IsUsageTold head n old new
unmoved head n old new no_permit no_end is = record { begun = λ h. absurd (no_permit h); over = λ h. absurd (no_end h); same = λ x y. is }

quiet : (n : ℕ) (old new : Option SessionRow) → going_on new ≡ going_on old → IsUsageTold heads.Ok n old new
quiet n old new is = unmoved heads.Ok n old new (λ h. cc) (λ h. cc) is

-- what went before an action that moves no usage
from : (head : Head) (n : ℕ) (old mid new : Option SessionRow) → IsUsageTold head n mid new → going_on mid ≡ going_on old → IsUsageTold head n old new
from head n old mid new t is = record {
  begun = λ h. (sym is ∙ (t.begun h).0, (t.begun h).1);
  over = t.over;
  same = λ x y. t.same x y ∙ is;
}

permitted : (T V : Trace) (n m : ℕ) → IsOff T n → ((k : ℕ) → session V k ≡ session T k) → ((nat_eq m n ≡ true) × (m ≡ n)) ⊎ ((nat_eq m n ≡ false) × (m ≢ n))
    → IsUsageTold (heads.Permitted n) m (session T m) (session (permit n ∷ V) m)
permitted T V n m w kept (inl here) = record {
  begun = λ h. (no_usage T n m w here.1, on_by _ (session V m) w.row (nat_eq m n) (λ row. refl) here.0 (kept m ∙ ap (session T) here.1 ∙ w.is));
  over = λ h. absurd (let no : ⊥ = cc in no);
  same = λ x y. absurd (x (ap heads.Permitted (sym here.1)));
}
permitted T V n m w kept (inr other) = record {
  begun = λ h. absurd (let back : n ≡ m = cc in other.1 (sym back));
  over = λ h. absurd (let no : ⊥ = cc in no);
  same = λ x y. ap going_on (left (nat_eq m n) _ (session V m) other.0 ∙ kept m);
}

ended : (T V : Trace) (n m : ℕ) → ((k : ℕ) → session V k ≡ session (ends n ∷ T) k) → ((nat_eq m n ≡ true) × (m ≡ n)) ⊎ ((nat_eq m n ≡ false) × (m ≢ n))
    → IsUsageTold (heads.Ended n) m (session T m) (session V m)
ended T V n m kept (inl here) = record {
  begun = λ h. absurd (let no : ⊥ = cc in no);
  over = λ h. ap going_on (kept m) ∙ off_by _ (session T m) (nat_eq m n) (λ row. refl) here.0;
  same = λ x y. absurd (y (ap heads.Ended (sym here.1)));
}
ended T V n m kept (inr other) = record {
  begun = λ h. absurd (let no : ⊥ = cc in no);
  over = λ h. absurd (let back : n ≡ m = cc in other.1 (sym back));
  same = λ x y. ap going_on (kept m ∙ left (nat_eq m n) _ (session T m) other.0);
}

denied : (T : Trace) (n m : ℕ) (label : Bytes) → IsOff T n → ((nat_eq m n ≡ true) × (m ≡ n)) ⊎ ((nat_eq m n ≡ false) × (m ≢ n))
    → going_on (session (deny n label ∷ T) m) ≡ going_on (session T m)
denied T n m label w (inl here) = never_by _ (session T m) (nat_eq m n) (λ row. refl) (λ b. no_usage T n m w here.1)
denied T n m label w (inr other) = ap going_on (left (nat_eq m n) _ (session T m) other.0)

-- ---- all own actions

Told : Trace → Own → Type 0
Told T (refuse r) = ⊤
Told T (tell reply) = ⊤
Told T (make head actions) = (n : ℕ) → IsUsageTold head n (session T n) (session (extended T actions) n)

unless : (T : Trace) (b : Bool) (r : Refusal) (o : Own) → (b ≡ false → Told T o) → Told T (cond b (refuse r) o)
unfolding Told
unless T true r o h = tt
unless T false r o h = h refl

given : (T : Trace) (b : Bool) (o : Own) (r : Refusal) → Told T o → Told T (cond b o (refuse r))
unfolding Told
given T true o r h = h
given T false o r h = tt

found : {A : Type 0} (T : Trace) (f : A → Own) (o : Option A) (r : Refusal) → ((x : A) → o ≡ Some x → Told T (f x)) → Told T (option_map_or f o (refuse r))
unfolding Told
found T f None r h = tt
found T f (Some x) r h = h x refl

lone : (T : Trace) (a : Action) → ((n : ℕ) → session (a ∷ T) n ≡ session T n) → Told T (make heads.Ok (a ∷ []))
unfolding Told
lone T a same = λ n. quiet n (session T n) (session (a ∷ T) n) (ap going_on (same n))

behind : (T : Trace) (a : Action) (o : Own) → ((n : ℕ) → going_on (session (a ∷ T) n) ≡ going_on (session T n)) → Told (a ∷ T) o → Told T (after_action a o)
unfolding Told
behind T a (refuse r) same h = tt
behind T a (tell reply) same h = tt
behind T a (make head actions) same h = λ n. from head n (session T n) (session (a ∷ T) n) (session (extended (a ∷ T) actions) n) (h n) (same n)

decided : (P : PlainPolicy) (T : Trace) (n : ℕ) (v : Verdict) → IsOff T n → Told T (by_verdict P T n v)
unfolding Told
decided P T n Permit w = λ m.
    subst (λ (U : Trace). IsUsageTold (heads.Permitted n) m (session T m) (session U m)) (sym (extended-append T (session_writes P n Before T) (permit n ∷ [])))
    (permitted T (extended T (session_writes P n Before T)) n m w (session-session_writes P n Before T) (eqb_tells m n))
decided P T n (Deny label) w = λ m.
    unmoved (heads.Denied n label) m (session T m) (session (deny n label ∷ T) m) (λ h. cc) (λ h. cc) (denied T n m label w (eqb_tells m n))
decided P T n (Wait label) w = λ m. unmoved (heads.Waiting n label) m (session T m) (session (wait n label ∷ T) m) (λ h. cc) (λ h. cc) refl

new_stays : (T : Trace) (side : Side) (name : Bytes) (n : ℕ) → session (new_entity side name ∷ T) n ≡ session T n
new_stays T sides.Subject name n = refl
new_stays T sides.Object name n = refl

added : (T : Trace) (caller : Caller) (side : Side) (name : Bytes) → Told T (add_entity T caller side name)
added T caller side name =
    unless T (not (is_admin caller)) _ _ (λ a. unless T (has_entity side name T) _ _ (λ b. unless T (nat_le 16384 (entities side T)) _ _ (λ d. lone T (new_entity side name) (new_stays T side name))))

owned : (T : Trace) (caller : Caller) (n : ℕ) (f : SessionRow → Own) → ((row : SessionRow) → session T n ≡ Some row → Told T (f row)) → Told T (with_own T caller n f)
owned T caller n f h = found T _ (session T n) _ (λ row is. given T (nat_eq row.caller.0 caller.0) (f row) _ (h row is))

used : (T : Trace) (caller : Caller) (n : ℕ) (o : Own) → Told T o → Told T (with_usage T caller n o)
used T caller n o h = owned T caller n _ (λ row is. unless T (not (is_accessing (session T n))) _ o (λ b. h))

beaten : (P : PlainPolicy) (T : Trace) (m : ℕ) → Told T (make heads.Ok (session_writes P m During T))
unfolding Told
beaten P T m = λ n. quiet n (session T n) (session (extended T (session_writes P m During T)) n) (ap going_on (session-session_writes P m During T n))

ended_told : (P : PlainPolicy) (T : Trace) (n : ℕ) → Told T (end_usage P T n)
unfolding Told
ended_told P T n = λ m. ended T (extended (ends n ∷ T) (session_writes P n AfterEnd (ends n ∷ T))) n m (session-session_writes P n AfterEnd (ends n ∷ T)) (eqb_tells m n)

-- ---- requests

new_there : (T : Trace) (n k : ℕ) → IsNumbered T → k ≡ sessions T + 1 → ((nat_eq n k ≡ true) × (n ≡ k)) ⊎ ((nat_eq n k ≡ false) × (n ≢ k)) → nat_eq n k ≡ true → session T n ≡ None
new_there T n k numbered next (inl here) b = numbered.beyond n (omega (arith, next, here.1))
new_there T n k numbered next (inr other) b = absurd (let no : true ≡ false = sym b ∙ other.0 in cc)

requested : (T : Trace) (caller : Caller) (s r o : Bytes) (k : ℕ) → IsOff (tries k caller s r o ∷ T) k
requested T caller s r o k = record {
  row = record { caller = caller; right = r; subject = s; object = o; state = Requesting; start = pos 0 };
  is = rw (eq-eqb k k refl) refl;
  off = refl;
}

requesting_off : (state : SessionState) → not (is_requesting state) ≡ false → is_accessing_state state ≡ false
requesting_off Requesting h = refl
requesting_off Denied h = refl
requesting_off Accessing h = absurd cc
requesting_off Revoked h = refl
requesting_off Ended h = refl

tried : (P : PlainPolicy) (T : Trace) (caller : Caller) (s r o : Bytes) → IsNumbered T
    → Told T (after_action (tries (sessions T + 1) caller s r o) (decide P (tries (sessions T + 1) caller s r o ∷ T) (sessions T + 1)))
tried P T caller s r o numbered =
    let k = sessions T + 1 in
    behind T (tries k caller s r o) _
    (λ n. tried_by (nat_eq n k) _ (session T n) refl (new_there T n k numbered refl (eqb_tells n k)))
    (decided P (tries k caller s r o ∷ T) k _ (requested T caller s r o k))

told : (P : PlainPolicy) (T : Trace) (caller : Caller) (c : Command) → IsNumbered T → Told T (own P T caller c)
unfolding Told
told P T caller (Subject name) numbered = added T caller sides.Subject name
told P T caller (Object name) numbered = added T caller sides.Object name
told P T caller (Set side name attr v) numbered =
    unless T (not (is_admin caller)) _ _ (λ a. unless T (not (has_entity side name T)) _ _ (λ b.
    found T _ (declared_attr (in_force P T).attrs side attr) _ (λ d is. given T (admits d.kind v) _ _ (lone T (write side name attr v) (λ n. refl)))))
told P T caller (Env name v) numbered =
    unless T (not (is_admin caller)) _ _ (λ a. found T _ (declared_env (in_force P T).envs name) _ (λ d is. given T (admits d.kind v) _ _ (lone T (env name v) (λ n. refl))))
told P T caller (Tick t) numbered = unless T (not (is_admin caller)) _ _ (λ a. unless T (int_lt t (tick_of T)) _ _ (λ b. lone T (tick t) (λ n. refl)))
told P T caller (Act s a o) numbered =
    unless T (not (has_entity sides.Subject s T)) _ _ (λ u. unless T (not (has_entity sides.Object o T)) _ _ (λ v. unless T (not (names_act (in_force P T).rights a)) _ _ (λ w.
    unless T (is_none (moment s a o T) && nat_le 1048576 (acts T)) _ _ (λ x. lone T (act s a o) (λ n. refl)))))
told P T caller (Try s r o) numbered =
    unless T (is_none (right_named (in_force P T).rights r)) _ _ (λ u. unless T (not (has_entity sides.Subject s T)) _ _ (λ v. unless T (not (has_entity sides.Object o T)) _ _ (λ w.
    unless T (nat_le 1048576 (sessions T)) _ _ (λ x. unless T (nat_le 65536 (accessing T)) _ _ (λ y. tried P T caller s r o numbered)))))
told P T caller (Again n) numbered =
    unless T (lacks_right P T n) _ _ (λ granted. owned T caller n _ (λ row is.
    unless T (not (is_requesting row.state)) _ _ (λ requesting. unless T (nat_le 65536 (accessing T)) _ _ (λ few.
    decided P T n _ (record { row = row; is = is; off = requesting_off row.state requesting })))))
told P T caller (Beat n) numbered = used T caller n _ (beaten P T n)
told P T caller (End n) numbered = used T caller n _ (ended_told P T n)
told P T caller (Look n) numbered = found T _ (session T n) _ (λ row is. tt)
told P T caller (Value' side name attr) numbered = unless T (not (has_entity side name T)) _ _ (λ u. found T _ (attribute P T side name attr) _ (λ v is. tt))
told P T caller (Amend a) numbered =
    unless T (not (is_admin caller)) _ _ (λ u. unless T (is_some (changed_kind (in_force P T) a.policy)) _ _ (λ v. lone T (amend a.text a.policy) (λ n. refl)))

pub usage_told : (P : PlainPolicy) (T : Trace) (caller : Caller) (c : Command) (head : Head) (actions : List Action) (n : ℕ) → IsNumbered T → own P T caller c ≡ make head actions
    → IsUsageTold head n (session T n) (session (extended T actions) n)
unfolding Told
usage_told P T caller c head actions n numbered is = (subst (Told T) is (told P T caller c numbered)) n

-- ---- a revocation

pub revoked_is_over : (P : PlainPolicy) (T : Trace) (f : ℕ × Bytes) → going_on (session (extended T (revocation P T f)) f.0) ≡ None
revoked_is_over P T f =
    ap going_on (session-session_writes P f.0 AfterRevoke (revoke f.0 f.1 ∷ T) f.0) ∙ off_by _ (session T f.0) (nat_eq f.0 f.0) (λ row. refl) (eq-eqb f.0 f.0 refl)

pub others_stay : (P : PlainPolicy) (T : Trace) (f : ℕ × Bytes) (n : ℕ) → n ≢ f.0 → session (extended T (revocation P T f)) n ≡ session T n
others_stay P T f n other = session-session_writes P f.0 AfterRevoke (revoke f.0 f.1 ∷ T) n ∙ by (eqb_tells n f.0)
  where
    by : ((nat_eq n f.0 ≡ true) × (n ≡ f.0)) ⊎ ((nat_eq n f.0 ≡ false) × (n ≢ f.0)) → session (revoke f.0 f.1 ∷ T) n ≡ session T n
    by (inl here) = absurd (other here.1)
    by (inr apart) = left (nat_eq n f.0) _ (session T n) apart.0
