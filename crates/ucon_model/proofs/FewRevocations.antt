-- At most 65,536 sessions are accessing after a history and a command's own actions, and a reply revokes each of them at most once.
use Rattle.std.proofs.Common.{◌≡◌, ◌⊎◌, inl, inr, ℕ, zero, suc, ◌+◌, ◌≤◌, Bool, true, false, cond, List, [], ◌∷◌, ◌++◌, length, refl, sym, ap, subst, arith}
use Rattle.std.specs.Prelude.{◌≢◌, Option, Some, None, nat_eq}
use Rattle.std.specs.Option.{option_map_or}
use Rattle.std.proofs.lemmas.Bool.{ne_eqb}
use Rattle.std.proofs.lemmas.Bool.Decides.{eqb_tells}
use Rattle.ucon_model.specs.declared.command.Caller.{Caller}
use Rattle.ucon_model.specs.declared.command.Command.{Command}
use Rattle.ucon_model.specs.declared.policy.When.{When}
use Rattle.ucon_model.specs.declared.policy.When.TheVariants.{AfterRevoke}
use Rattle.ucon_model.specs.declared.session.SessionRow.{SessionRow}
use Rattle.ucon_model.specs.Plain.{Bytes, PlainPolicy, PlainUpdate}
use Rattle.ucon_model.specs.Action.{Action, Trace, tries, permit, deny, ends, revoke, extended, followed_by}
use Rattle.ucon_model.specs.Readings.{in_force, session, sessions, changed_if, is_accessing_state, is_accessing, accessing_up_to, accessing}
use Rattle.ucon_model.specs.Updates.{same_when, write_of, writes, updates_of}
use Rattle.ucon_model.specs.OwnActions.{Own, refuse, tell, make, own}
use Rattle.ucon_model.specs.Settle.{least_failing, revocation, settle_within, revoked_in}
use Rattle.ucon_model.specs.Block.{own_reply, reply, after, block}
use Rattle.ucon_model.specs.History.{History, trace_from, trace, said}
use Rattle.ucon_model.specs.Payload.{revocations_in}
use Rattle.ucon_model.specs.Sound.{IsSound}
use Rattle.ucon_model.proofs.OwnCases.{OwnHas, tells, makes}
use Rattle.ucon_model.proofs.Allowed.{IsAllowed, AreAllowed, IsSoundIf, sound-empty, sound-extended}
use Rattle.ucon_model.proofs.AllowedOwn.{same_below, accessing-tries, allowed-own}
use Rattle.ucon_model.proofs.Histories.{allowed-block}

-- ---- settling revokes no more than are accessing

write_first : (P : PlainPolicy) (row : SessionRow) (when : When) (u : PlainUpdate) (us : List PlainUpdate) (T : Trace) (later : List Action) (b : Bool)
    → ((T : Trace) → revoked_in (writes P row when us T ++ later) ≡ revoked_in later)
    → revoked_in (cond b (followed_by (write_of P row u T ∷ []) (writes P row when us) T) (writes P row when us T) ++ later) ≡ revoked_in later
write_first P row when u us T later true rest = rest (write_of P row u T ∷ T)
write_first P row when u us T later false rest = rest T

revoked_in-writes : (P : PlainPolicy) (row : SessionRow) (when : When) (us : List PlainUpdate) (later : List Action) (T : Trace)
    → revoked_in (writes P row when us T ++ later) ≡ revoked_in later
revoked_in-writes P row when [] later T = refl
revoked_in-writes P row when (u ∷ us) later T =
    write_first P row when u us T later (same_when when u.when) (revoked_in-writes P row when us later)

revoked_in-writes_of : (P Q : PlainPolicy) (when : When) (T : Trace) (later : List Action) (o : Option SessionRow)
    → revoked_in (option_map_or (λ row. writes P row when (updates_of Q row) T) o [] ++ later) ≡ revoked_in later
revoked_in-writes_of P Q when T later None = refl
revoked_in-writes_of P Q when T later (Some row) = revoked_in-writes P row when (updates_of Q row) later T

-- a revocation's updates revoke nobody
revoked_in-revocation : (P : PlainPolicy) (T : Trace) (f : ℕ × Bytes) (later : List Action)
    → length (revoked_in (revocation P T f ++ later)) ≡ suc (length (revoked_in later))
revoked_in-revocation P T f later =
    let U : Trace = revoke f.0 f.1 ∷ T in
    ap (λ revoked. suc (length revoked)) (revoked_in-writes_of P (in_force P U) AfterRevoke U later (session U f.0))

in_turn : (P : PlainPolicy) (T : Trace) (k : ℕ) (o : Option (ℕ × Bytes)) → ((U : Trace) → length (revoked_in (settle_within k P U)) ≤ k)
    → length (revoked_in (option_map_or (λ f. followed_by (revocation P T f) (settle_within k P) T) o [])) ≤ suc k
in_turn P T k None rest = omega arith
in_turn P T k (Some f) rest =
    let U : Trace = extended T (revocation P T f) in
    omega (arith, revoked_in-revocation P T f (settle_within k P U), rest U)

pub one_a_turn : (k : ℕ) (P : PlainPolicy) (T : Trace) → length (revoked_in (settle_within k P T)) ≤ k
one_a_turn zero P T = omega arith
one_a_turn (suc k) P T = in_turn P T k (least_failing P T) (one_a_turn k P)

-- ---- a permission is legal below 65,536 accessing sessions, and nothing else adds one

abbrev counted : Option SessionRow → ℕ
counted row = cond (is_accessing row) 1 0

count_falls : (T U : Trace) → ((n : ℕ) → counted (session U n) ≤ counted (session T n)) → (k : ℕ) → accessing_up_to U k ≤ accessing_up_to T k
count_falls T U each zero = omega arith
count_falls T U each (suc k) = omega (arith, count_falls T U each k, each (suc k))

switched_off : (same : Bool) (change : SessionRow → SessionRow) (row : Option SessionRow)
    → ((r : SessionRow) → is_accessing_state (change r).state ≡ false) → counted (changed_if same change row) ≤ counted row
switched_off true change None off = omega arith
switched_off true change (Some r) off = rw (off r) (omega arith)
switched_off false change row off = omega arith

at_most_one : (b : Bool) → cond b 1 0 ≤ 1
at_most_one true = omega arith
at_most_one false = omega arith

other_session : (T : Trace) (m n : ℕ) → (m ≡ n → ⊥) → session (permit n ∷ T) m ≡ session T m
other_session T m n other = rw (ne_eqb m n other) refl

one_more_at : (T : Trace) (n k : ℕ) → ((nat_eq (suc k) n ≡ true) × (suc k ≡ n)) ⊎ ((nat_eq (suc k) n ≡ false) × (suc k ≢ n))
    → accessing_up_to (permit n ∷ T) k ≤ accessing_up_to T k + 1 → accessing_up_to (permit n ∷ T) (suc k) ≤ accessing_up_to T (suc k) + 1
one_more_at T n k (inl same) rest =
    let below : accessing_up_to (permit n ∷ T) k ≡ accessing_up_to T k =
    same_below T (permit n ∷ T) k (λ m le. other_session T m n (λ e. omega (arith, e, le, same.1))) in
    omega (arith, below, at_most_one (is_accessing (session (permit n ∷ T) (suc k))))
one_more_at T n k (inr other) rest =
    let here : session (permit n ∷ T) (suc k) ≡ session T (suc k) = other_session T (suc k) n other.1 in
    rw here (omega (arith, rest))

one_more : (T : Trace) (n k : ℕ) → accessing_up_to (permit n ∷ T) k ≤ accessing_up_to T k + 1
one_more T n zero = omega arith
one_more T n (suc k) = one_more_at T n k (eqb_tells (suc k) n) (one_more T n k)

few-step : (S : Type 0) (P : PlainPolicy) (T : Trace) (a : Action) → IsAllowed S P T a → accessing T ≤ 65536 → accessing (a ∷ T) ≤ 65536
few-step S P T (tries m c s r o) allowed few =
    subst (λ (n : ℕ). accessing (tries n c s r o ∷ T) ≤ 65536) (sym allowed.0) (omega (arith, accessing-tries T c s r o, few))
few-step S P T (permit m) allowed few = omega (arith, one_more T m (sessions T), allowed.1)
few-step S P T (deny m l) allowed few = omega (arith, count_falls T (deny m l ∷ T) (λ n. switched_off (nat_eq n m) _ (session T n) (λ row. refl)) (sessions T), few)
few-step S P T (ends m) allowed few = omega (arith, count_falls T (ends m ∷ T) (λ n. switched_off (nat_eq n m) _ (session T n) (λ row. refl)) (sessions T), few)
few-step S P T (revoke m l) allowed few = omega (arith, count_falls T (revoke m l ∷ T) (λ n. switched_off (nat_eq n m) _ (session T n) (λ row. refl)) (sessions T), few)
few-step S P T a allowed few = omega (arith, count_falls T (a ∷ T) (λ n. omega arith) (sessions T), few)

few-extended : (S : Type 0) (P : PlainPolicy) (T : Trace) (actions : List Action) → AreAllowed S P T actions → accessing T ≤ 65536 → accessing (extended T actions) ≤ 65536
few-extended S P T [] allowed few = few
few-extended S P T (a ∷ actions) allowed few = few-extended S P (a ∷ T) actions allowed.1 (few-step S P T a allowed.0 few)

-- ---- histories

few_from : (P : PlainPolicy) (T : Trace) (H : History) → IsSoundIf ⊥ P T → accessing T ≤ 65536 → accessing (trace_from P T H) ≤ 65536
few_from P T [] sound few = few
few_from P T (e ∷ H) sound few =
    let actions : List Action = block P T e.caller e.command in
    let allowed : AreAllowed ⊥ P T actions = allowed-block ⊥ P T e.caller e.command (λ no. absurd no) sound in
    few_from P (after P T e.caller e.command) H (sound-extended ⊥ P T actions sound allowed) (few-extended ⊥ P T actions allowed few)

sound_from : (P : PlainPolicy) (T : Trace) (H : History) → IsSoundIf ⊥ P T → IsSoundIf ⊥ P (trace_from P T H)
sound_from P T [] sound = sound
sound_from P T (e ∷ H) sound =
    let actions : List Action = block P T e.caller e.command in
    sound_from P (after P T e.caller e.command) H (sound-extended ⊥ P T actions sound (allowed-block ⊥ P T e.caller e.command (λ no. absurd no) sound))

few_revoked : (S : Type 0) (P : PlainPolicy) (T : Trace) (o : Own) → OwnHas (AreAllowed S P T) o → accessing T ≤ 65536 → length (revocations_in (own_reply P T o)) ≤ 65536
few_revoked S P T (refuse r) allowed few = omega arith
few_revoked S P T (tell reply) (tells none) few = rw none (omega arith)
few_revoked S P T (make head actions) (makes allowed) few =
    let U : Trace = extended T actions in
    omega (arith, one_a_turn (accessing U) P U, few-extended S P T actions allowed few)

few_revoked_from : (P : PlainPolicy) (T : Trace) (H : History) (caller : Caller) (c : Command) → IsSoundIf ⊥ P T → accessing T ≤ 65536
    → length (revocations_in (reply P (trace_from P T H) caller c)) ≤ 65536
few_revoked_from P T H caller c sound few =
    let U : Trace = trace_from P T H in
    few_revoked ⊥ P U (own P U caller c) (allowed-own ⊥ P U caller c (λ no. absurd no) (sound_from P T H sound)) (few_from P T H sound few)

-- ---- behind a sound trace

sound_if_sound : (P : PlainPolicy) (T : Trace) → IsSound P T → IsSoundIf ⊥ P T
sound_if_sound P T sound = record { numbered = sound.numbered; grounded = sound.grounded; timely = sound.timely; typed = λ no. absurd no; fit = λ no. absurd no }

pub few_accessing_behind : (P : PlainPolicy) (T : Trace) → IsSound P T → accessing T ≤ 65536 → (H : History) → accessing (trace_from P T H) ≤ 65536
few_accessing_behind P T sound few H = few_from P T H (sound_if_sound P T sound) few

pub few_revocations_behind : (P : PlainPolicy) (T : Trace) → IsSound P T → accessing T ≤ 65536 → (H : History) (caller : Caller) (c : Command)
    → length (revocations_in (reply P (trace_from P T H) caller c)) ≤ 65536
few_revocations_behind P T sound few H caller c = few_revoked_from P T H caller c (sound_if_sound P T sound) few

-- ---- from the beginning

sound_at_first : (P : PlainPolicy) → IsSoundIf ⊥ P []
sound_at_first P = sound-empty ⊥ P (λ no. absurd no)

pub few_accessing : (P : PlainPolicy) (H : History) → accessing (trace P H) ≤ 65536
few_accessing P H = few_from P [] H (sound_at_first P) (omega arith)

pub few_revocations : (P : PlainPolicy) (H : History) (caller : Caller) (c : Command) → length (revocations_in (said P H caller c)) ≤ 65536
few_revocations P H caller c = few_revoked_from P [] H caller c (sound_at_first P) (omega arith)
