-- The updates of a session write at their targets, one after the other, and do nothing else.
use Rattle.std.proofs.Common.{◌≡◌, ℕ, Bool, true, false, cond, List, [], ◌∷◌, refl, ap, ◌∙◌}
use Rattle.std.specs.Prelude.{◌||◌, filter, map, Option, Some, None}
use Rattle.std.specs.Option.{option_map_or}
use Rattle.std.specs.List.{list_any}
use Rattle.std.proofs.lemmas.Bool.{or_parts}
use Rattle.ucon_base.specs.declared.value.Side.{Side}
use Rattle.ucon_base.specs.declared.value.Value.{Value}
use Rattle.ucon_model.specs.declared.policy.When.{When}
use Rattle.ucon_model.specs.declared.session.SessionRow.{SessionRow}
use Rattle.ucon_model.specs.Plain.{Bytes, PlainUpdate, PlainPolicy}
use Rattle.ucon_model.specs.Action.{Action, Trace, write, extended, followed_by}
use Rattle.ucon_model.specs.Readings.{in_force, session}
use Rattle.ucon_model.specs.Updates.{same_when, entity_of, write_of, writes, updates_of, session_writes}
use Rattle.ucon_model.specs.Reach.{Location, attribute_of, kept_at, same_location, target, targets, session_targets, alters}
use Rattle.ucon_model.proofs.Frames.{in_force-step, kept-step}

-- each of these actions writes at the location that stands at its position
pub data WriteAt : List Action → List Location → Type 0 where
  none : WriteAt [] []
  one : {actions : List Action} {locations : List Location} (side : Side) (name attr : Bytes) (v : Value) → WriteAt actions locations
      → WriteAt (write side name attr v ∷ actions) (attribute_of side name attr ∷ locations)

first_write : (P : PlainPolicy) (row : SessionRow) (when : When) (u : PlainUpdate) (us : List PlainUpdate) (T : Trace) (b : Bool)
    → ((U : Trace) → WriteAt (writes P row when us U) (targets row when us))
    → WriteAt (cond b (followed_by (write_of P row u T ∷ []) (writes P row when us) T) (writes P row when us T))
    (map (target row) (cond b (u ∷ filter (λ u. same_when when u.when) us) (filter (λ u. same_when when u.when) us)))
first_write P row when u us T true rest = one u.side (entity_of u.side row) u.attr _ (rest (write_of P row u T ∷ T))
first_write P row when u us T false rest = rest T

writes_at : (P : PlainPolicy) (row : SessionRow) (when : When) (us : List PlainUpdate) (T : Trace) → WriteAt (writes P row when us T) (targets row when us)
writes_at P row when [] T = none
writes_at P row when (u ∷ us) T = first_write P row when u us T (same_when when u.when) (writes_at P row when us)

of_row : (P : PlainPolicy) (when : When) (T : Trace) (o : Option SessionRow)
    → WriteAt (option_map_or (λ row. writes P row when (updates_of (in_force P T) row) T) o [])
    (option_map_or (λ row. targets row when (updates_of (in_force P T) row)) o [])
of_row P when T None = none
of_row P when T (Some row) = writes_at P row when (updates_of (in_force P T) row) T

pub session_writes_at : (P : PlainPolicy) (m : ℕ) (when : When) (T : Trace) → WriteAt (session_writes P m when T) (session_targets P T m when)
session_writes_at P m when T = of_row P when T (session T m)

-- ---- what writes leave

-- what no write changes is as before
pub left_by_writes : {A : Type 0} (read : Trace → A) → ((T : Trace) (side : Side) (name attr : Bytes) (v : Value) → read (write side name attr v ∷ T) ≡ read T)
    → (T : Trace) (actions : List Action) (locations : List Location) → WriteAt actions locations → read (extended T actions) ≡ read T
left_by_writes read leave T actions locations none = refl
left_by_writes read leave T actions locations (one {actions = more} {locations = others} side name attr v rest) =
    left_by_writes read leave (write side name attr v ∷ T) more others rest ∙ leave T side name attr v

-- a session's updates leave the policy in force
pub in_force-session_writes : (P : PlainPolicy) (m : ℕ) (when : When) (T : Trace) → in_force P (extended T (session_writes P m when T)) ≡ in_force P T
in_force-session_writes P m when T =
    left_by_writes (in_force P) (λ U side name attr v. in_force-step P U (write side name attr v) refl) T _ _ (session_writes_at P m when T)

kept_by : (P : PlainPolicy) (T : Trace) (actions : List Action) (location : Location) → list_any (λ a. alters a location) actions ≡ false
    → kept_at P (extended T actions) location ≡ kept_at P T location
kept_by P T [] location h = refl
kept_by P T (a ∷ actions) location h =
    let parts = or_parts (alters a location) (list_any (λ a. alters a location) actions) h in
    kept_by P (a ∷ T) actions location parts.1 ∙ kept-step P T a location parts.0

alters-at : (location : Location) (actions : List Action) (locations : List Location) → WriteAt actions locations
    → list_any (λ a. alters a location) actions ≡ list_any (same_location location) locations
alters-at location actions locations none = refl
alters-at location actions locations (one {actions = more} {locations = others} side name attr v rest) =
    ap (λ (b : Bool). same_location location (attribute_of side name attr) || b) (alters-at location more others rest)

-- a session's updates leave what is kept elsewhere
pub kept-session_writes : (P : PlainPolicy) (m : ℕ) (when : When) (T : Trace) (location : Location) → list_any (same_location location) (session_targets P T m when) ≡ false
    → kept_at P (extended T (session_writes P m when T)) location ≡ kept_at P T location
kept-session_writes P m when T location h =
    kept_by P T (session_writes P m when T) location (alters-at location _ _ (session_writes_at P m when T) ∙ h)
