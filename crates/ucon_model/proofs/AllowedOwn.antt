-- A command's own actions are allowed, each after those before it.
use Rattle.std.proofs.Common.{◌≡◌, ◌⊎◌, inl, inr, ℕ, zero, suc, ◌+◌, ◌<◌, ◌≤◌, true, false, [], ◌∷◌, refl, sym, ap, subst, ◌∙◌, arith}
use Rattle.std.specs.Prelude.{ℤ, ◌≤ℤ◌, int_lt, ◌&&◌, not, nat_le, nat_eq, Option, Some, None, is_none, is_some, IsSome, IsSomeAnd, IsTrue}
use Rattle.std.proofs.lemmas.Int.{ints}
use Rattle.std.proofs.lemmas.Bool.{not-false, leb-false, eq-eqb, ne_eqb}
use Rattle.ucon_base.specs.declared.value.Side.{Side}
use Rattle.ucon_base.specs.declared.value.Side.TheVariants as sides
use Rattle.ucon_base.specs.Admits.{admits}
use Rattle.ucon_model.specs.declared.command.Caller.{Caller}
use Rattle.ucon_model.specs.declared.command.Command.{Command}
use Rattle.ucon_model.specs.declared.command.Command.TheVariants.{Subject, Object, Set, Env, Tick, Act, Try, Again, Beat, End, Look, Value as Value', Amend}
use Rattle.ucon_model.specs.declared.policy.When.TheVariants.{Before, During, AfterEnd}
use Rattle.ucon_model.specs.declared.reply.Head.TheVariants as heads
use Rattle.ucon_model.specs.declared.session.SessionState.{SessionState}
use Rattle.ucon_model.specs.declared.session.SessionState.TheVariants as states
use Rattle.ucon_model.specs.declared.session.Verdict.{Verdict}
use Rattle.ucon_model.specs.declared.session.Verdict.TheVariants.{Permit, Deny, Wait}
use Rattle.ucon_model.specs.Plain.{Bytes, PlainPolicy}
use Rattle.ucon_model.specs.Action.{Trace, permit, ends, tries, extended}
use Rattle.ucon_model.specs.Readings.{in_force, tick_of, has_entity, entities, attribute, declared_attr, declared_env, moment, session, sessions, is_accessing, accessing_up_to, accessing, acts}
use Rattle.ucon_model.specs.Truth.{readings}
use Rattle.ucon_model.specs.Decision.{right_named, verdict}
use Rattle.ucon_model.specs.CommandLine.{IsCommand}
use Rattle.ucon_model.specs.MayFollow.{changed_kind}
use Rattle.ucon_model.specs.Updates.{session_writes}
use Rattle.ucon_model.specs.OwnActions.{Own, make, after_action, by_verdict, decide, is_admin, new_entity, add_entity, names_act, lacks_right, is_requesting, with_usage, end_usage, own}
use Rattle.ucon_model.specs.Legal.{IsRequesting, IsAccessing}
use Rattle.ucon_model.proofs.Extending.{session-session_writes, accessing-session_writes}
use Rattle.ucon_model.proofs.OwnCases.{OwnHas, tells, makes, unless, given, found, behind}
use Rattle.ucon_model.proofs.Allowed.{IsAllowed, AreAllowed, allowed-append, IsSoundIf, sound-step}
use Rattle.ucon_model.proofs.AllowedWrites.{allowed-session_writes}
use Rattle.ucon_model.proofs.LeastFailing.{accessing_row}

abbrev OwnIsAllowed : Type 0 → PlainPolicy → Trace → Own → Type 0
OwnIsAllowed S P T o = OwnHas (AreAllowed S P T) o

-- ---- what tests say

some_with : {A : Type 0} (Q : A → Type 0) (o : Option A) (x : A) → o ≡ Some x → Q x → IsSomeAnd o Q
some_with Q o x e h = rw e h

is_there : {A : Type 0} (o : Option A) → is_none o ≡ false → is_some o ≡ true
is_there None h = absurd cc
is_there (Some x) h = refl

none_changed : {A : Type 0} (o : Option A) → is_some o ≡ false → o ≡ None
none_changed None h = refl
none_changed (Some x) h = absurd cc

there_or_room : {A : Type 0} (o : Option A) (limit k : ℕ) → (is_none o && nat_le limit k) ≡ false → IsSome o ⊎ (k < limit)
there_or_room None limit k h = inr (leb-false limit k h)
there_or_room (Some x) limit k h = inl refl

pub not_back : (t now : ℤ) → int_lt t now ≡ false → now ≤ℤ t
not_back t now e = omega (arith, ints)

requesting_state : (s : SessionState) → is_requesting s ≡ true → s ≡ states.Requesting
requesting_state states.Requesting h = refl
requesting_state states.Accessing h = absurd cc
requesting_state states.Denied h = absurd cc
requesting_state states.Revoked h = absurd cc
requesting_state states.Ended h = absurd cc

-- ---- a try leaves the number of accessing sessions

pub same_below : (T U : Trace) (k : ℕ) → ((n : ℕ) → n ≤ k → session U n ≡ session T n) → accessing_up_to U k ≡ accessing_up_to T k
same_below T U zero same = refl
same_below T U (suc k) same = rw (same_below T U k (λ n le. same n (omega (arith, le))), same (suc k) (omega arith)) refl

lower_session : (T : Trace) (m n : ℕ) (caller : Caller) (s r o : Bytes) → m < n → session (tries n caller s r o ∷ T) m ≡ session T m
lower_session T m n caller s r o lt = rw (ne_eqb m n (λ e. omega (arith, e, lt))) refl

count_below_new : (T : Trace) (n k : ℕ) (caller : Caller) (s r o : Bytes) → n ≡ suc k
    → accessing_up_to (tries n caller s r o ∷ T) (suc k) ≡ accessing_up_to T k
count_below_new T n k caller s r o e =
    let lower : accessing_up_to (tries n caller s r o ∷ T) k ≡ accessing_up_to T k =
    same_below T (tries n caller s r o ∷ T) k (λ m le. lower_session T m n caller s r o (omega (arith, e, le))) in
    let new : is_accessing (session (tries n caller s r o ∷ T) (suc k)) ≡ false = rw (eq-eqb (suc k) n (sym e)) refl in
    rw (lower, new) (omega arith)

pub accessing-tries : (T : Trace) (caller : Caller) (s r o : Bytes) → accessing (tries (sessions T + 1) caller s r o ∷ T) ≡ accessing T
accessing-tries T caller s r o =
    let e : sessions T + 1 ≡ suc (sessions T) = omega arith in
    ap (accessing_up_to (tries (sessions T + 1) caller s r o ∷ T)) e ∙ count_below_new T (sessions T + 1) (sessions T) caller s r o e

-- ---- the decision on a session

-- what a decision on a session asks of a trace
record IsDecidable (S : Type 0) (P : PlainPolicy) (T : Trace) (n : ℕ) : Type 0 where
  sound : IsSoundIf S P T
  requesting : IsRequesting T n
  room : accessing T < 65536

allowed_permit : (S : Type 0) (P : PlainPolicy) (T : Trace) (n : ℕ) → IsDecidable S P T n → IsAllowed S P (extended T (session_writes P n Before T)) (permit n)
allowed_permit S P T n h = (
  subst (λ o. IsSomeAnd o (λ row. row.state ≡ states.Requesting)) (sym (session-session_writes P n Before T n)) h.requesting,
  omega (arith, accessing-session_writes P n Before T, h.room),
)

by_verdict_allowed : (S : Type 0) (P : PlainPolicy) (T : Trace) (n : ℕ) (v : Verdict) → verdict (in_force P T) (readings P T) n ≡ v → IsDecidable S P T n
    → OwnIsAllowed S P T (by_verdict P T n v)
by_verdict_allowed S P T n Permit is h =
    makes (allowed-append S P T (session_writes P n Before T) (permit n ∷ []) (allowed-session_writes S P n Before T h.sound) (allowed_permit S P T n h, tt))
by_verdict_allowed S P T n (Deny label) is h = makes ((h.requesting, is), tt)
by_verdict_allowed S P T n (Wait label) is h = makes ((h.requesting, is), tt)

decide_allowed : (S : Type 0) (P : PlainPolicy) (T : Trace) (n : ℕ) → IsDecidable S P T n → OwnIsAllowed S P T (decide P T n)
decide_allowed S P T n h = by_verdict_allowed S P T n (verdict (in_force P T) (readings P T) n) refl h

-- ---- each command

entity_allowed : (S : Type 0) (P : PlainPolicy) (T : Trace) (side : Side) (name : Bytes) → has_entity side name T ≡ false → entities side T < 16384
    → AreAllowed S P T (new_entity side name ∷ [])
entity_allowed S P T sides.Subject name new room = ((new, room), tt)
entity_allowed S P T sides.Object name new room = ((new, room), tt)

add_entity_allowed : (S : Type 0) (P : PlainPolicy) (T : Trace) (caller : Caller) (side : Side) (name : Bytes) → OwnIsAllowed S P T (add_entity T caller side name)
add_entity_allowed S P T caller side name =
    let Q = AreAllowed S P T in
    unless Q (not (is_admin caller)) _ _ (λ admin. unless Q (has_entity side name T) _ _ (λ new. unless Q (nat_le 16384 (entities side T)) _ _ (λ room.
    makes (entity_allowed S P T side name new (leb-false 16384 (entities side T) room)))))

try_allowed : (S : Type 0) (P : PlainPolicy) (T : Trace) (caller : Caller) (s r o : Bytes) → IsSoundIf S P T
    → IsAllowed S P T (tries (sessions T + 1) caller s r o) → accessing T < 65536
    → OwnIsAllowed S P T (after_action (tries (sessions T + 1) caller s r o) (decide P (tries (sessions T + 1) caller s r o ∷ T) (sessions T + 1)))
try_allowed S P T caller s r o h allowed room =
    let n : ℕ = sessions T + 1 in
    let a = tries n caller s r o in
    let requesting : IsRequesting (a ∷ T) n = rw (eq-eqb n n refl) refl in
    behind (AreAllowed S P T) (AreAllowed S P (a ∷ T)) a (decide P (a ∷ T) n) (λ actions rest. (allowed, rest))
    (decide_allowed S P (a ∷ T) n (record {
      sound = sound-step S P T a h allowed;
      requesting = requesting;
      room = omega (arith, accessing-tries T caller s r o, room);
    }))

with_usage_allowed : (S : Type 0) (P : PlainPolicy) (T : Trace) (caller : Caller) (n : ℕ) (o : Own) → (IsAccessing T n → OwnIsAllowed S P T o) → OwnIsAllowed S P T (with_usage T caller n o)
with_usage_allowed S P T caller n o h =
    let Q = AreAllowed S P T in
    found Q _ (session T n) _ (λ row there. given Q (nat_eq row.caller.0 caller.0) _ _ (λ mine. unless Q (not (is_accessing (session T n))) _ _ (λ accessing.
    h (accessing_row (session T n) (not-false (is_accessing (session T n)) accessing)))))

end_allowed : (S : Type 0) (P : PlainPolicy) (T : Trace) (n : ℕ) → IsSoundIf S P T → IsAccessing T n → OwnIsAllowed S P T (end_usage P T n)
end_allowed S P T n h accessing = makes (accessing, allowed-session_writes S P n AfterEnd (ends n ∷ T) (sound-step S P T (ends n) h accessing))

pub allowed-own : (S : Type 0) (P : PlainPolicy) (T : Trace) (caller : Caller) (c : Command) → (S → IsCommand c) → IsSoundIf S P T → OwnIsAllowed S P T (own P T caller c)
allowed-own S P T caller (Subject name) command h = add_entity_allowed S P T caller sides.Subject name
allowed-own S P T caller (Object name) command h = add_entity_allowed S P T caller sides.Object name
allowed-own S P T caller (Set side name attr v) command h =
    let Q = AreAllowed S P T in
    unless Q (not (is_admin caller)) _ _ (λ admin. unless Q (not (has_entity side name T)) _ _ (λ there.
    found Q _ (declared_attr (in_force P T).attrs side attr) _ (λ d declared. given Q (admits d.kind v) _ _ (λ admitted.
    makes ((not-false (has_entity side name T) there, λ sure. some_with (λ d. IsTrue (admits d.kind v)) (declared_attr (in_force P T).attrs side attr) d declared admitted), tt)))))
allowed-own S P T caller (Env name v) command h =
    let Q = AreAllowed S P T in
    unless Q (not (is_admin caller)) _ _ (λ admin.
    found Q _ (declared_env (in_force P T).envs name) _ (λ d declared. given Q (admits d.kind v) _ _ (λ admitted.
    makes (some_with (λ d. IsTrue (admits d.kind v)) (declared_env (in_force P T).envs name) d declared admitted, tt))))
allowed-own S P T caller (Tick t) command h =
    let Q = AreAllowed S P T in
    unless Q (not (is_admin caller)) _ _ (λ admin. unless Q (int_lt t (tick_of T)) _ _ (λ on. makes (not_back t (tick_of T) on, tt)))
allowed-own S P T caller (Act s a o) command h =
    let Q = AreAllowed S P T in
    unless Q (not (has_entity sides.Subject s T)) _ _ (λ subject. unless Q (not (has_entity sides.Object o T)) _ _ (λ object.
    unless Q (not (names_act (in_force P T).rights a)) _ _ (λ named. unless Q (is_none (moment s a o T) && nat_le 1048576 (acts T)) _ _ (λ room.
    makes (
      (
        not-false (has_entity sides.Subject s T) subject,
        not-false (has_entity sides.Object o T) object,
        not-false (names_act (in_force P T).rights a) named,
        there_or_room (moment s a o T) 1048576 (acts T) room,
      ),
      tt,
    )))))
allowed-own S P T caller (Try s r o) command h =
    let Q = AreAllowed S P T in
    unless Q (is_none (right_named (in_force P T).rights r)) _ _ (λ right. unless Q (not (has_entity sides.Subject s T)) _ _ (λ subject.
    unless Q (not (has_entity sides.Object o T)) _ _ (λ object. unless Q (nat_le 1048576 (sessions T)) _ _ (λ room.
    unless Q (nat_le 65536 (accessing T)) _ _ (λ seats.
    try_allowed S P T caller s r o h (
      refl,
      omega (arith, leb-false 1048576 (sessions T) room),
      is_there (right_named (in_force P T).rights r) right,
      not-false (has_entity sides.Subject s T) subject,
      not-false (has_entity sides.Object o T) object,
    )
    (leb-false 65536 (accessing T) seats))))))
allowed-own S P T caller (Again n) command h =
    let Q = AreAllowed S P T in
    unless Q (lacks_right P T n) _ _ (λ kept.
    found Q _ (session T n) _ (λ row there. given Q (nat_eq row.caller.0 caller.0) _ _ (λ mine.
    unless Q (not (is_requesting row.state)) _ _ (λ requesting. unless Q (nat_le 65536 (accessing T)) _ _ (λ seats.
    decide_allowed S P T n (record {
      sound = h;
      requesting = some_with (λ row. row.state ≡ states.Requesting) (session T n) row there (requesting_state row.state (not-false (is_requesting row.state) requesting));
      room = leb-false 65536 (accessing T) seats;
    }))))))
allowed-own S P T caller (Beat n) command h =
    with_usage_allowed S P T caller n (make heads.Ok (session_writes P n During T)) (λ accessing. makes (allowed-session_writes S P n During T h))
allowed-own S P T caller (End n) command h = with_usage_allowed S P T caller n (end_usage P T n) (λ accessing. end_allowed S P T n h accessing)
allowed-own S P T caller (Look n) command h = found (AreAllowed S P T) _ (session T n) _ (λ row there. tells refl)
allowed-own S P T caller (Value' side name attr) command h =
    let Q = AreAllowed S P T in
    unless Q (not (has_entity side name T)) _ _ (λ there. found Q _ (attribute P T side name attr) _ (λ v told. tells refl))
allowed-own S P T caller (Amend a) command h =
    let Q = AreAllowed S P T in
    unless Q (not (is_admin caller)) _ _ (λ admin. unless Q (is_some (changed_kind (in_force P T) a.policy)) _ _ (λ same.
    makes (λ sure. let is = command sure in (is.spells, is.typed, none_changed (changed_kind (in_force P T) a.policy) same), tt)))
