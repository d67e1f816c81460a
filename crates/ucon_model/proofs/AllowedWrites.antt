-- The writes of a session's updates are allowed.
use Rattle.std.proofs.Common.{◌≡◌, refl, sym, subst, ℕ, Bool, true, false, cond, List, [], ◌∷◌}
use Rattle.std.specs.Prelude.{Option, Some, None, IsTrue}
use Rattle.std.specs.Option.{option_map_or}
use Rattle.ucon_base.specs.declared.value.Side.{Side}
use Rattle.ucon_base.specs.declared.value.Side.TheVariants.{Subject, Object}
use Rattle.ucon_model.specs.declared.policy.When.{When}
use Rattle.ucon_model.specs.declared.session.SessionRow.{SessionRow}
use Rattle.ucon_model.specs.Plain.{PlainPolicy, PlainUpdate}
use Rattle.ucon_model.specs.Action.{Trace, followed_by}
use Rattle.ucon_model.specs.Readings.{in_force, has_entity, session}
use Rattle.ucon_model.specs.Updates.{same_when, entity_of, result, write_of, writes, updates_of, session_writes}
use Rattle.ucon_base.specs.Elements.{Each}
use Rattle.ucon_model.specs.Fitting.{ValuesFit, ResultFits}
use Rattle.ucon_model.specs.Sound.{IsGrounded}
use Rattle.ucon_model.specs.Typing.{IsTyped}
use Rattle.ucon_model.proofs.Allowed.{IsAllowed, AreAllowed, IsSoundIf}
use Rattle.ucon_model.proofs.SortsOfValues.{typed_updates_fit}
use Rattle.ucon_model.proofs.ValuesStayFit.{fit-write}

-- under the premise the results of these updates fit while this policy is in force
abbrev TheseFit : Type 0 → PlainPolicy → PlainPolicy → SessionRow → List PlainUpdate → Type 0
TheseFit S P Q row us = S → (T : Trace) → in_force P T ≡ Q → ValuesFit P T → IsGrounded T (Some row) → Each (ResultFits P T row) us

-- what these writes ask of a trace
record IsReady (S : Type 0) (P Q : PlainPolicy) (row : SessionRow) (T : Trace) : Type 0 where
  now : in_force P T ≡ Q
  fit : S → ValuesFit P T
  grounded : IsGrounded T (Some row)

entity_there : (side : Side) (row : SessionRow) (T : Trace) → IsGrounded T (Some row) → IsTrue (has_entity side (entity_of side row) T)
entity_there Subject row T h = h.0
entity_there Object row T h = h.1

allowed_write : (S : Type 0) (P Q : PlainPolicy) (row : SessionRow) (u : PlainUpdate) (us : List PlainUpdate) (T : Trace) → IsReady S P Q row T → TheseFit S P Q row (u ∷ us)
    → IsAllowed S P T (write_of P row u T)
allowed_write S P Q row u us T h fits = (entity_there u.side row T h.grounded, λ sure. (fits sure T h.now (h.fit sure) h.grounded).0)

one_write : (S : Type 0) (P Q : PlainPolicy) (row : SessionRow) (when : When) (u : PlainUpdate) (us : List PlainUpdate) (T : Trace) (b : Bool) → IsReady S P Q row T
    → TheseFit S P Q row (u ∷ us) → ((U : Trace) → IsReady S P Q row U → AreAllowed S P U (writes P row when us U))
    → AreAllowed S P T (cond b (followed_by (write_of P row u T ∷ []) (writes P row when us) T) (writes P row when us T))
one_write S P Q row when u us T true h fits rest =
    let allowed = allowed_write S P Q row u us T h fits in (
      allowed,
      rest (write_of P row u T ∷ T) (record {
        now = h.now;
        fit = λ sure. fit-write P T u.side (entity_of u.side row) u.attr (result P T row u) (allowed.1 sure) (h.fit sure);
        grounded = h.grounded;
      }),
    )
one_write S P Q row when u us T false h fits rest = rest T h

allowed_writes : (S : Type 0) (P Q : PlainPolicy) (row : SessionRow) (when : When) (us : List PlainUpdate) → TheseFit S P Q row us → (T : Trace) → IsReady S P Q row T
    → AreAllowed S P T (writes P row when us T)
allowed_writes S P Q row when [] fits T h = tt
allowed_writes S P Q row when (u ∷ us) fits T h =
    one_write S P Q row when u us T (same_when when u.when) h fits
    (allowed_writes S P Q row when us (λ sure U now fit grounded. (fits sure U now fit grounded).1))

these_fit : (P Q : PlainPolicy) (row : SessionRow) → IsTyped Q → (U : Trace) → in_force P U ≡ Q → ValuesFit P U → IsGrounded U (Some row)
    → Each (ResultFits P U row) (updates_of Q row)
these_fit P Q row typed U now fit grounded =
    subst (λ (R : PlainPolicy). Each (ResultFits P U row) (updates_of R row)) now
    (typed_updates_fit P U (subst IsTyped (sym now) typed) row fit grounded.0 grounded.1)

of_row : (S : Type 0) (P Q : PlainPolicy) (when : When) (T : Trace) (o : Option SessionRow) → in_force P T ≡ Q → (S → IsTyped Q) → (S → ValuesFit P T) → IsGrounded T o
    → AreAllowed S P T (option_map_or (λ row. writes P row when (updates_of Q row) T) o [])
of_row S P Q when T None now typed fit grounded = tt
of_row S P Q when T (Some row) now typed fit grounded =
    allowed_writes S P Q row when (updates_of Q row) (λ sure. these_fit P Q row (typed sure)) T (record { now = now; fit = fit; grounded = grounded })

pub allowed-session_writes : (S : Type 0) (P : PlainPolicy) (n : ℕ) (when : When) (T : Trace) → IsSoundIf S P T → AreAllowed S P T (session_writes P n when T)
allowed-session_writes S P n when T h = of_row S P (in_force P T) when T (session T n) refl h.typed h.fit (h.grounded n)
