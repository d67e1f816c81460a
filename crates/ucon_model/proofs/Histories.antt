-- What holds after every history: each action of a block is allowed, and no accessing session fails.
use Rattle.std.proofs.Common.{◌≡◌, ℕ, zero, suc, [], ◌∷◌, refl, sym, subst}
use Rattle.std.specs.Prelude.{Option, Some, None, ⊤}
use Rattle.std.specs.Option.{option_map_or}
use Rattle.ucon_model.specs.declared.command.Caller.{Caller}
use Rattle.ucon_model.specs.declared.command.Command.{Command}
use Rattle.ucon_model.specs.declared.policy.When.TheVariants.{AfterRevoke}
use Rattle.ucon_model.specs.Plain.{Bytes, PlainPolicy}
use Rattle.ucon_model.specs.Action.{Trace, revoke, extended, followed_by}
use Rattle.ucon_model.specs.Readings.{in_force, accessing}
use Rattle.ucon_model.specs.OwnActions.{Own, refuse, tell, make, own}
use Rattle.ucon_model.specs.Settle.{fails_at, least_failing, revocation, settle_within, settle}
use Rattle.ucon_model.specs.Legal.{IsLegal, AreLegal, RevocationsAreLegal}
use Rattle.ucon_model.specs.Fitting.{ValuesFit}
use Rattle.ucon_model.specs.CommandLine.{IsCommand}
use Rattle.ucon_model.specs.Typing.{IsTyped}
use Rattle.ucon_model.specs.Block.{own_block, block, after}
use Rattle.ucon_model.specs.History.{History, AreCommands, trace_from, trace}
use Rattle.ucon_model.proofs.Extending.{extended-append}
use Rattle.ucon_model.proofs.Settling.{least_failing-settle}
use Rattle.ucon_model.proofs.Allowed.{AreAllowed, allowed-append, legal-allowed, revocations-allowed, IsSoundIf, sound-empty, sound-step, sound-extended}
use Rattle.ucon_model.proofs.AllowedWrites.{allowed-session_writes}
use Rattle.ucon_model.proofs.AllowedOwn.{allowed-own}
use Rattle.ucon_model.proofs.LeastFailing.{chosen_is_legal, nobody_fails}
use Rattle.ucon_model.proofs.OwnCases.{OwnHas, makes}

-- ---- settling

pub allowed_revocation : (S : Type 0) (P : PlainPolicy) (T : Trace) (f : ℕ × Bytes) → IsSoundIf S P T → least_failing P T ≡ Some f → AreAllowed S P T (revocation P T f)
allowed_revocation S P T f h e =
    let legal : IsLegal P T (revoke f.0 f.1) = chosen_is_legal P T f h.numbered e in
    (legal, allowed-session_writes S P f.0 AfterRevoke (revoke f.0 f.1 ∷ T) (sound-step S P T (revoke f.0 f.1) h legal))

by_turn : (S : Type 0) (P : PlainPolicy) (T : Trace) (k : ℕ) (o : Option (ℕ × Bytes)) → least_failing P T ≡ o → IsSoundIf S P T
    → ((U : Trace) → IsSoundIf S P U → AreAllowed S P U (settle_within k P U))
    → AreAllowed S P T (option_map_or (λ f. followed_by (revocation P T f) (settle_within k P) T) o [])
by_turn S P T k None is h rest = tt
by_turn S P T k (Some f) is h rest =
    let first : AreAllowed S P T (revocation P T f) = allowed_revocation S P T f h is in
    let U : Trace = extended T (revocation P T f) in
    allowed-append S P T (revocation P T f) (settle_within k P U) first (rest U (sound-extended S P T (revocation P T f) h first))

allowed_within : (S : Type 0) (k : ℕ) (P : PlainPolicy) (T : Trace) → IsSoundIf S P T → AreAllowed S P T (settle_within k P T)
allowed_within S zero P T h = tt
allowed_within S (suc k) P T h = by_turn S P T k (least_failing P T) refl h (allowed_within S k P)

pub allowed-settle : (S : Type 0) (P : PlainPolicy) (T : Trace) → IsSoundIf S P T → AreAllowed S P T (settle P T)
allowed-settle S P T h = allowed_within S (accessing T) P T h

-- ---- blocks

allowed_own_block : (S : Type 0) (P : PlainPolicy) (T : Trace) (o : Own) → IsSoundIf S P T → OwnHas (AreAllowed S P T) o → AreAllowed S P T (own_block P T o)
allowed_own_block S P T (refuse r) h allowed = tt
allowed_own_block S P T (tell reply) h allowed = tt
allowed_own_block S P T (make head actions) h (makes allowed) =
    let U : Trace = extended T actions in
    allowed-append S P T actions (settle P U) allowed (allowed-settle S P U (sound-extended S P T actions h allowed))

pub allowed-block : (S : Type 0) (P : PlainPolicy) (T : Trace) (caller : Caller) (c : Command) → (S → IsCommand c) → IsSoundIf S P T → AreAllowed S P T (block P T caller c)
allowed-block S P T caller c command h = allowed_own_block S P T (own P T caller c) h (allowed-own S P T caller c command h)

-- ---- histories

-- a sound trace after which nobody fails
record IsSettled (S : Type 0) (P : PlainPolicy) (T : Trace) : Type 0 where
  sound : IsSoundIf S P T
  nobody : (n : ℕ) → fails_at P T n ≡ None

nobody_after : (S : Type 0) (P : PlainPolicy) (T : Trace) (o : Own) → IsSettled S P T → OwnHas (AreAllowed S P T) o → (n : ℕ) → fails_at P (extended T (own_block P T o)) n ≡ None
nobody_after S P T (refuse r) h allowed = h.nobody
nobody_after S P T (tell reply) h allowed = h.nobody
nobody_after S P T (make head actions) h (makes allowed) =
    let U : Trace = extended T actions in
    let sound : IsSoundIf S P U = sound-extended S P T actions h.sound allowed in
    let after : IsSoundIf S P (extended U (settle P U)) = sound-extended S P U (settle P U) sound (allowed-settle S P U sound) in
    subst (λ (V : Trace). (n : ℕ) → fails_at P V n ≡ None) (sym (extended-append T actions (settle P U)))
    (nobody_fails P (extended U (settle P U)) after.numbered (least_failing-settle P U))

settled_from : (S : Type 0) (P : PlainPolicy) (T : Trace) (H : History) → (S → AreCommands H) → IsSettled S P T → IsSettled S P (trace_from P T H)
settled_from S P T [] commands h = h
settled_from S P T (e ∷ H) commands h = settled_from S P (after P T e.caller e.command) H (λ sure. (commands sure).1) (record {
  sound = sound-extended S P T (block P T e.caller e.command) h.sound (allowed-block S P T e.caller e.command (λ sure. (commands sure).0) h.sound);
  nobody = nobody_after S P T (own P T e.caller e.command) h (allowed-own S P T e.caller e.command (λ sure. (commands sure).0) h.sound);
})

settled : (S : Type 0) (P : PlainPolicy) (H : History) → (S → IsTyped P) → (S → AreCommands H) → IsSettled S P (trace P H)
settled S P H typed commands = settled_from S P [] H commands (record { sound = sound-empty S P typed; nobody = λ n. refl })

pub sound_after : (S : Type 0) (P : PlainPolicy) (H : History) → (S → IsTyped P) → (S → AreCommands H) → IsSoundIf S P (trace P H)
sound_after S P H typed commands = (settled S P H typed commands).sound

-- as far as neither types nor commands are asked for
pub sound_anyway : (P : PlainPolicy) (H : History) → IsSoundIf ⊥ P (trace P H)
sound_anyway P H = sound_after ⊥ P H (λ no. absurd no) (λ no. absurd no)

-- ---- the laws

pub nobody_fails_after : (P : PlainPolicy) (H : History) (n : ℕ) → fails_at P (trace P H) n ≡ None
nobody_fails_after P H = (settled ⊥ P H (λ no. absurd no) (λ no. absurd no)).nobody

pub legal_revocations_after : (P : PlainPolicy) (H : History) (caller : Caller) (c : Command) → RevocationsAreLegal P (trace P H) (block P (trace P H) caller c)
legal_revocations_after P H caller c =
    revocations-allowed ⊥ P (trace P H) (block P (trace P H) caller c) (allowed-block ⊥ P (trace P H) caller c (λ no. absurd no) (sound_anyway P H))

pub legal_actions_after : (P : PlainPolicy) → IsTyped P → (H : History) → AreCommands H → (caller : Caller) (c : Command) → IsCommand c
    → AreLegal P (trace P H) (block P (trace P H) caller c)
legal_actions_after P typed H commands caller c command =
    legal-allowed ⊤ P (trace P H) (block P (trace P H) caller c) tt
    (allowed-block ⊤ P (trace P H) caller c (λ sure. command) (sound_after ⊤ P H (λ sure. typed) (λ sure. commands)))

pub typed_after : (P : PlainPolicy) → IsTyped P → (H : History) → AreCommands H → IsTyped (in_force P (trace P H))
typed_after P typed H commands = (sound_after ⊤ P H (λ sure. typed) (λ sure. commands)).typed tt

pub values_fit_after : (P : PlainPolicy) → IsTyped P → (H : History) → AreCommands H → ValuesFit P (trace P H)
values_fit_after P typed H commands = (sound_after ⊤ P H (λ sure. typed) (λ sure. commands)).fit tt
