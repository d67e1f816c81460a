-- What every trace of a history is, and what the next action may be.
use Rattle.std.proofs.Common.{◌≡◌, ℕ, Bool, true, false, cond, List, [], ◌∷◌, ◌++◌, refl, ap, subst, arith}
use Rattle.std.specs.Prelude.{Option, Some, None, option_map, nat_eq, IsTrue, ⊤}
use Rattle.std.specs.Str.{bytes_eq}
use Rattle.std.proofs.lemmas.Bool.{or_right, ne_eqb}
use Rattle.ucon_base.specs.declared.value.Side.{Side}
use Rattle.ucon_base.specs.declared.value.Side.TheVariants.{Subject, Object}
use Rattle.ucon_base.specs.declared.value.Value.{Value}
use Rattle.ucon_model.specs.declared.session.SessionRow.{SessionRow}
use Rattle.ucon_model.specs.Plain.{Bytes, PlainPolicy}
use Rattle.ucon_model.specs.Action.{Action, Trace, subject, object, write, env, tries, permit, deny, ends, revoke, amend, extended}
use Rattle.ucon_model.specs.Readings.{in_force, has_entity, attribute, session, changed_if}
use Rattle.ucon_model.specs.Legal.{IsLegal, AreLegal, RevocationsAreLegal}
use Rattle.ucon_model.specs.Fitting.{AttributeAdmits, ValuesFit}
use Rattle.ucon_model.specs.Sound.{IsNumbered, IsGrounded, IsTimely, IsSound}
use Rattle.ucon_model.specs.Typing.{IsTyped}
use Rattle.ucon_model.proofs.Timely.{timely-step}
use Rattle.ucon_model.proofs.ValuesStayFit.{fit-write, fit-subject, fit-object, fit-env, fit-amend, fit-empty}

-- ---- the next action

-- it is legal, but that under a premise alone the value of a write fits and an amendment is legal
abbrev pub IsAllowed : Type 0 → PlainPolicy → Trace → Action → Type 0
IsAllowed S P T (write side name attr v) =
    IsTrue (has_entity side name T) × (S → AttributeAdmits (in_force P T) side attr v)
IsAllowed S P T (amend text Q) = S → IsLegal P T (amend text Q)
IsAllowed S P T a = IsLegal P T a

abbrev pub AreAllowed : Type 0 → PlainPolicy → Trace → List Action → Type 0
AreAllowed S P T [] = ⊤
AreAllowed S P T (a ∷ actions) = IsAllowed S P T a × AreAllowed S P (a ∷ T) actions

pub allowed-append : (S : Type 0) (P : PlainPolicy) (T : Trace) (xs ys : List Action) → AreAllowed S P T xs → AreAllowed S P (extended T xs) ys → AreAllowed S P T (xs ++ ys)
allowed-append S P T [] ys h k = k
allowed-append S P T (x ∷ xs) ys h k = (h.0, allowed-append S P (x ∷ T) xs ys h.1 k)

pub legal_action : (S : Type 0) (P : PlainPolicy) (T : Trace) (a : Action) → S → IsAllowed S P T a → IsLegal P T a
legal_action S P T (write side name attr v) sure h = (h.0, h.1 sure)
legal_action S P T (amend text Q) sure h = h sure
legal_action S P T a sure h = h

pub legal-allowed : (S : Type 0) (P : PlainPolicy) (T : Trace) (actions : List Action) → S → AreAllowed S P T actions → AreLegal P T actions
legal-allowed S P T [] sure h = tt
legal-allowed S P T (a ∷ actions) sure h = (legal_action S P T a sure h.0, legal-allowed S P (a ∷ T) actions sure h.1)

pub revocations-allowed : (S : Type 0) (P : PlainPolicy) (T : Trace) (actions : List Action) → AreAllowed S P T actions → RevocationsAreLegal P T actions
revocations-allowed S P T [] h = tt
revocations-allowed S P T (revoke n label ∷ actions) h = (h.0, revocations-allowed S P (revoke n label ∷ T) actions h.1)
revocations-allowed S P T (a ∷ actions) h = revocations-allowed S P (a ∷ T) actions h.1

-- ---- sessions are numbered from 1

pub still_none : (same : Bool) (change : SessionRow → SessionRow) (o : Option SessionRow) → o ≡ None → changed_if same change o ≡ None
still_none true change o e = ap (option_map change) e
still_none false change o e = e

not_that_one : (same : Bool) (row : SessionRow) (o : Option SessionRow) → same ≡ false → o ≡ None → cond same (Some row) o ≡ None
not_that_one true row o off e = absurd cc
not_that_one false row o off e = e

numbered-step : (S : Type 0) (P : PlainPolicy) (T : Trace) (a : Action) → IsNumbered T → IsAllowed S P T a → IsNumbered (a ∷ T)
numbered-step S P T (tries m c s r o) h next = record {
  zeroth = not_that_one (nat_eq 0 m) _ (session T 0) (ne_eqb 0 m (λ e. omega (arith, e, next.0))) h.zeroth;
  beyond = λ n le. not_that_one (nat_eq n m) _ (session T n) (ne_eqb n m (λ e. omega (arith, e, next.0, le))) (h.beyond n (omega (arith, le)));
}
numbered-step S P T (permit m) h next = record { zeroth = still_none (nat_eq 0 m) _ (session T 0) h.zeroth; beyond = λ n le. still_none (nat_eq n m) _ (session T n) (h.beyond n le) }
numbered-step S P T (deny m l) h next = record { zeroth = still_none (nat_eq 0 m) _ (session T 0) h.zeroth; beyond = λ n le. still_none (nat_eq n m) _ (session T n) (h.beyond n le) }
numbered-step S P T (ends m) h next = record { zeroth = still_none (nat_eq 0 m) _ (session T 0) h.zeroth; beyond = λ n le. still_none (nat_eq n m) _ (session T n) (h.beyond n le) }
numbered-step S P T (revoke m l) h next = record { zeroth = still_none (nat_eq 0 m) _ (session T 0) h.zeroth; beyond = λ n le. still_none (nat_eq n m) _ (session T n) (h.beyond n le) }
numbered-step S P T a h next = record { zeroth = h.zeroth; beyond = h.beyond }

-- ---- the entities of sessions are there

entity_stays : (a : Action) (T : Trace) (side : Side) (e : Bytes) → has_entity side e T ≡ true → has_entity side e (a ∷ T) ≡ true
entity_stays (subject name) T Subject e h = or_right (bytes_eq e name) (has_entity Subject e T) h
entity_stays (object name) T Object e h = or_right (bytes_eq e name) (has_entity Object e T) h
entity_stays a T Subject e h = h
entity_stays a T Object e h = h

grounded_stays : (a : Action) (T : Trace) (o : Option SessionRow) → IsGrounded T o → IsGrounded (a ∷ T) o
grounded_stays a T None h = tt
grounded_stays a T (Some row) h = (entity_stays a T Subject row.subject h.0, entity_stays a T Object row.object h.1)

grounded_if_new : (T : Trace) (same : Bool) (row : SessionRow) (o : Option SessionRow) → IsGrounded T (Some row) → IsGrounded T o
    → IsGrounded T (cond same (Some row) o)
grounded_if_new T true row o new old = new
grounded_if_new T false row o new old = old

grounded_if_changed : (T : Trace) (same : Bool) (change : SessionRow → SessionRow) (o : Option SessionRow)
    → ((row : SessionRow) → IsGrounded T (Some row) → IsGrounded T (Some (change row))) → IsGrounded T o → IsGrounded T (changed_if same change o)
grounded_if_changed T true change None each h = tt
grounded_if_changed T true change (Some row) each h = each row h
grounded_if_changed T false change o each h = h

grounded-step : (S : Type 0) (P : PlainPolicy) (T : Trace) (a : Action) → IsAllowed S P T a → (n : ℕ) → IsGrounded T (session T n) → IsGrounded (a ∷ T) (session (a ∷ T) n)
grounded-step S P T (tries m c s r o) allowed n h = grounded_if_new T (nat_eq n m) _ (session T n) (allowed.3, allowed.4) h
grounded-step S P T (permit m) allowed n h = grounded_if_changed T (nat_eq n m) _ (session T n) (λ row h. h) h
grounded-step S P T (deny m l) allowed n h = grounded_if_changed T (nat_eq n m) _ (session T n) (λ row h. h) h
grounded-step S P T (ends m) allowed n h = grounded_if_changed T (nat_eq n m) _ (session T n) (λ row h. h) h
grounded-step S P T (revoke m l) allowed n h = grounded_if_changed T (nat_eq n m) _ (session T n) (λ row h. h) h
grounded-step S P T a allowed n h = grounded_stays a T (session T n) h

-- ---- under a premise the policy in force is well typed, and values fit

typed_step : (S : Type 0) (P : PlainPolicy) (T : Trace) (a : Action) → S → IsAllowed S P T a → IsTyped (in_force P T) → IsTyped (in_force P (a ∷ T))
typed_step S P T (amend text Q) sure allowed typed = (allowed sure).1
typed_step S P T a sure allowed typed = typed

fit-step : (S : Type 0) (P : PlainPolicy) (T : Trace) (a : Action) → S → IsAllowed S P T a → IsTyped (in_force P T) → ValuesFit P T → ValuesFit P (a ∷ T)
fit-step S P T (write side name attr v) sure allowed typed h = fit-write P T side name attr v (allowed.1 sure) h
fit-step S P T (env name v) sure allowed typed h = fit-env P T name v allowed h
fit-step S P T (subject name) sure allowed typed h = fit-subject P T name typed h
fit-step S P T (object name) sure allowed typed h = fit-object P T name typed h
fit-step S P T (amend text Q) sure allowed typed h = let legal = allowed sure in fit-amend P T text Q legal.1 legal.2 h
fit-step S P T a sure allowed typed h = record { attributes = attributes; variables = h.variables }
  where
    attributes : (side : Side) (e attr : Bytes) (v : Value) → attribute P (a ∷ T) side e attr ≡ Some v → AttributeAdmits (in_force P T) side attr v
    attributes Subject e attr v is = h.attributes Subject e attr v is
    attributes Object e attr v is = h.attributes Object e attr v is

-- ---- all of it

-- sound, and under a premise the policy in force is well typed and values fit
pub record IsSoundIf (S : Type 0) (P : PlainPolicy) (T : Trace) : Type 0 where
  pub numbered : IsNumbered T
  pub grounded : (n : ℕ) → IsGrounded T (session T n)
  pub timely : IsTimely T
  pub typed : S → IsTyped (in_force P T)
  pub fit : S → ValuesFit P T

pub sound-empty : (S : Type 0) (P : PlainPolicy) → (S → IsTyped P) → IsSoundIf S P []
sound-empty S P typed = record {
  numbered = record { zeroth = refl; beyond = λ n lt. refl };
  grounded = λ n. tt;
  timely = λ s a o m e. absurd cc;
  typed = typed;
  fit = λ sure. fit-empty P (typed sure);
}

pub sound-step : (S : Type 0) (P : PlainPolicy) (T : Trace) (a : Action) → IsSoundIf S P T → IsAllowed S P T a → IsSoundIf S P (a ∷ T)
sound-step S P T a h allowed = record {
  numbered = numbered-step S P T a h.numbered allowed;
  grounded = λ n. grounded-step S P T a allowed n (h.grounded n);
  timely = timely-step T a h.timely (λ t is. subst (IsAllowed S P T) is allowed);
  typed = λ sure. typed_step S P T a sure allowed (h.typed sure);
  fit = λ sure. fit-step S P T a sure allowed (h.typed sure) (h.fit sure);
}

pub sound-extended : (S : Type 0) (P : PlainPolicy) (T : Trace) (actions : List Action) → IsSoundIf S P T → AreAllowed S P T actions → IsSoundIf S P (extended T actions)
sound-extended S P T [] h allowed = h
sound-extended S P T (a ∷ actions) h allowed = sound-extended S P (a ∷ T) actions (sound-step S P T a h allowed.0) allowed.1

allowed_if_legal : (S : Type 0) (P : PlainPolicy) (T : Trace) (a : Action) → IsLegal P T a → IsAllowed S P T a
allowed_if_legal S P T (write side name attr v) h = (h.0, λ sure. h.1)
allowed_if_legal S P T (amend text Q) h = λ sure. h
allowed_if_legal S P T a h = h

-- ---- under a well typed policy

pub sound_before : (P : PlainPolicy) → IsTyped P → IsSound P []
sound_before P typed = let h = sound-empty ⊤ P (λ (sure : ⊤). typed) in record { numbered = h.numbered; grounded = h.grounded; timely = h.timely; fit = h.fit tt }

pub sound_after_action : (P : PlainPolicy) (T : Trace) (a : Action) → IsTyped (in_force P T) → IsSound P T → IsLegal P T a → IsSound P (a ∷ T)
sound_after_action P T a typed h legal =
    let before : IsSoundIf ⊤ P T = record { numbered = h.numbered; grounded = h.grounded; timely = h.timely; typed = λ sure. typed; fit = λ sure. h.fit } in
    let next = sound-step ⊤ P T a before (allowed_if_legal ⊤ P T a legal) in
    record { numbered = next.numbered; grounded = next.grounded; timely = next.timely; fit = next.fit tt }

pub typed_after_action : (P : PlainPolicy) (T : Trace) (a : Action) → IsTyped (in_force P T) → IsLegal P T a → IsTyped (in_force P (a ∷ T))
typed_after_action P T a typed legal = typed_step ⊤ P T a tt (allowed_if_legal ⊤ P T a legal) typed
